-- A peer's sessions change in small steps: what each step keeps, the calls keep.
use Rattle.proof_prelude.proofs.{◌≡◌, ◌⊎◌, ℕ, zero, suc, ◌≤◌, ◌==◌, nat_lt, List, [], ◌∷◌, Bool, true, false, cond, ◌&&◌, ◌||◌, Option, Some, None, is_some, Result, Ok, Err, take, length, refl, sym, ap, ◌∙◌, subst, inl, inr, list_all, option_map, and_parts, cond_both, cond-true, eqb-true, eq-eqb, ltb-false}
use Rattle.rev_tree.specs.{Contradiction, SessionId}
use Rattle.doc_json.specs.Document.{Document}
use Rattle.couch_base.specs.{Among, none_some, DatabaseValue, WindowValue, ParcelValue, put_answer, after_put, all_member, found_member}
use Rattle.range_front.specs.{is_done, end_of, low_water}
use Rattle.repl_peer.specs.{Reason, Settled, TargetFault, PeerValue, SessionValue, is_of, session_in, with_session, contradiction_of, refusal_of, rightly_refused, covers, knows_row, covers_window, CoversWindow, on_found, on_session, found_answer, next_in, append_in, with_window, after_append, recorded_at, after_record, after_conclude, Settling, fed, with_refused, with_arrival, is_full, settle_as, settle_one, settle_docs, settled_before, has_row, window_in, settle_at, settle_check, with_settling, settling_of, after_documents, with_done, marked, after_all, after_front, after_stop, settled_at, after_settle, SettlesAt, Settles, SettleGives}
use Rattle.repl_peer.specs.declared.fault.Reason.TheVariants as reasons
use Rattle.repl_peer.specs.declared.fault.TargetFault.TheVariants as faults
use Rattle.repl_peer.proofs.lemmas.peer.LaterPeers.{session_found, with_session_holds}
use Rattle.repl_peer.proofs.lemmas.session.SettlingChecks.{passed}

-- ---- changes

-- a change of a session: none, one more window, a document that is refused or arrives, a marked window, or a record
pub data Change : Type 0 where
  Kept : Change
  Stored : (window : WindowValue) → Change
  Refused : (doc : Document) (reason : Reason) → Change
  Arrived : (window : WindowValue) (doc : Document) → Change
  Marked : (window : WindowValue) (parcel : ParcelValue) → Change
  Recorded : (at : ℕ) → Change

abbrev pub changed : SessionValue → Change → SessionValue
changed s Kept = s
changed s (Stored window) = with_window window s (Ok tt)
changed s (Refused doc reason) = with_refused doc reason s
changed s (Arrived window doc) = with_arrival doc s
changed s (Marked window parcel) = with_done window parcel s
changed s (Recorded at) = recorded_at at s

abbrev pub written : DatabaseValue → SessionValue → Change → DatabaseValue
written db s (Arrived window doc) = after_put db doc (fed window s.id doc)
written db s change = db

abbrev pub after_change : PeerValue → SessionValue → Change → PeerValue
after_change p s c = with_settling p (record { db = written p.db s c; session = changed s c })

-- what is known about the arguments of a call: a settled document, and an appended window
pub record Source : Type 1 where
  pub doc : Document → Type 0
  pub window : SessionValue → WindowValue → Type 0

-- a window follows the stored ones and is at or below the goal
pub record Follows (Of : Source) (s : SessionValue) (w : WindowValue) : Type 0 where
  pub from : Of.window s w
  pub at : w.lo ≡ end_of s.front
  pub within : w.hi ≤ s.goal
  pub life : w.life ≡ s.life

-- a document arrives: it has a row in a stored window, contradicts nothing, and gets a sequence
pub record Arrives (Of : Source) (p : PeerValue) (s : SessionValue) (w : WindowValue) (d : Document) : Type 0 where
  pub from : Of.doc d
  pub stored : Among w s.windows
  pub row : has_row w d ≡ true
  pub clear : contradiction_of p.db d ≡ None
  pub room : is_full (put_answer p.db d) ≡ false

-- when a change of a session may happen
abbrev pub May : (Document → Bool) → Source → PeerValue → SessionValue → Change → Type 0
May refuses Of p s (Stored window) = Follows Of s window
May refuses Of p s (Refused doc reason) = rightly_refused refuses p.db doc ≡ true
May refuses Of p s (Arrived window doc) = Arrives Of p s window doc
May refuses Of p s (Marked window parcel) = Among window s.windows × CoversWindow p window
May refuses Of p s change = Unit {0}

-- a property of a peer and one of its sessions that each change keeps
abbrev pub KeptByChanges : (Document → Bool) → Source → (PeerValue → SessionValue → Type 0) → Type 0
KeptByChanges refuses Of P =
    (p : PeerValue) (s : SessionValue) (c : Change) → Among s p.sessions → May refuses Of p s c → P p s → P (after_change p s c) (changed s c)

-- ---- errors

-- a refused document is rightly refused
refused_rightly : (refuses : Document → Bool) (db : DatabaseValue) (d : Document) (reason : Reason) → refusal_of refuses db d ≡ Some reason → rightly_refused refuses db d ≡ true
refused_rightly refuses db d reason h = go (refuses d) (contradiction_of db d) h
  where
    go : (b : Bool) (c : Option Contradiction) → cond b (Some reasons.Filtered) (option_map (λ (k : Contradiction). reasons.Contradicting k.child k.known k.given) c) ≡ Some reason → (b || is_some c) ≡ true
    go true c h = refl
    go false (Some c) h = refl
    go false None h = absurd (none_some reason h)

-- a document that is not refused contradicts nothing
pub none_refused : (refuses : Document → Bool) (db : DatabaseValue) (d : Document) → refusal_of refuses db d ≡ None → contradiction_of db d ≡ None
none_refused refuses db d h = go (refuses d) (contradiction_of db d) h
  where
    go : (b : Bool) (c : Option Contradiction) → cond b (Some reasons.Filtered) (option_map (λ (k : Contradiction). reasons.Contradicting k.child k.known k.given) c) ≡ None → c ≡ None
    go true c h = absurd (none_some reasons.Filtered (sym h))
    go false (Some c) h = absurd (none_some (reasons.Contradicting c.child c.known c.given) (sym h))
    go false None h = refl

window_covered : (p : PeerValue) (w : WindowValue) → covers_window p w ≡ true → CoversWindow p w
window_covered p w h row m leaf n = all_member (covers p row.id) leaf row.leaves (all_member (knows_row (covers p)) row w.rows h m) n

-- ---- accepting a window

takes : (w : WindowValue) (s : SessionValue) (done : Unit {0}) → append_in w s ≡ Ok done → (w.lo ≡ end_of s.front) × (w.hi ≤ s.goal) × (w.life ≡ s.life)
takes w s done h =
    cond_both (w.life == s.life) (next_in w s) (Err (faults.OtherLife s.life)) (λ (r : Result (Unit {0}) TargetFault). r ≡ Ok done → (w.lo ≡ end_of s.front) × (w.hi ≤ s.goal) × (w.life ≡ s.life))
    (λ e k. let t = next_takes k in (t.0, t.1, eqb-true _ _ e))
    (λ _ k. cc k)
    h
  where
    next_takes : next_in w s ≡ Ok done → (w.lo ≡ end_of s.front) × (w.hi ≤ s.goal)
    next_takes h =
        cond_both (w.lo == end_of s.front) (cond (nat_lt s.goal w.hi) (Err faults.PastGoal) (Ok tt)) (Err (faults.Gap (end_of s.front))) (λ (r : Result (Unit {0}) TargetFault). r ≡ Ok done → (w.lo ≡ end_of s.front) × (w.hi ≤ s.goal))
        (λ e k. (eqb-true _ _ e, cond_both (nat_lt s.goal w.hi) (Err faults.PastGoal) (Ok tt) (λ (r : Result (Unit {0}) TargetFault). r ≡ Ok done → w.hi ≤ s.goal) (λ _ j. cc j) (λ f _. ltb-false s.goal w.hi f) k))
        (λ _ k. cc k)
        h

-- ---- two changes of one session

-- the later change remains
pub with_session-twice : (sessions : List SessionValue) (s t : SessionValue) → t.id ≡ s.id → with_session (with_session sessions s) t ≡ with_session sessions t
with_session-twice [] s t e = refl
with_session-twice (x ∷ sessions) s t e =
    cond_both (is_of s.id x) s x (λ y. cond (is_of t.id y) t y ∷ with_session (with_session sessions s) t ≡ with_session (x ∷ sessions) t)
    (λ same.
    let of_s : is_of t.id s ≡ true = eq-eqb _ _ (ap (λ (i : SessionId). i.0) (sym e)) in
    let of_x : is_of t.id x ≡ true = eq-eqb _ _ (eqb-true _ _ same ∙ ap (λ (i : SessionId). i.0) (sym e)) in
    ap (λ y. y ∷ with_session (with_session sessions s) t) (cond-true (is_of t.id s) t s of_s ∙ sym (cond-true (is_of t.id x) t x of_x)) ∙ ap (λ ys. cond (is_of t.id x) t x ∷ ys) (with_session-twice sessions s t e))
    (λ _. ap (λ ys. cond (is_of t.id x) t x ∷ ys) (with_session-twice sessions s t e))

with_settling-twice : (p : PeerValue) (y z : Settling) → z.session.id ≡ y.session.id → with_settling (with_settling p y) z ≡ with_settling p z
with_settling-twice p y z e = ap (λ ss. record p { db = z.db; sessions = ss }) (with_session-twice p.sessions y.session z.session e)

-- ---- the checks before the documents

-- the peer has the session and the parcel's window, in which each document has a row
pub record Settleable (p : PeerValue) (id : SessionId) (parcel : ParcelValue) (at : SessionValue × WindowValue) : Type 0 where
  pub held : Among at.0 p.sessions
  pub number : at.0.id.0 ≡ id.0
  pub stored : Among at.1 at.0.windows
  pub lo : at.1.lo ≡ parcel.asked.lo
  pub hi : at.1.hi ≡ parcel.asked.hi
  pub rows : list_all (has_row at.1) parcel.docs ≡ true
  pub undone : is_done at.0.front at.1.lo at.1.hi ≡ false

pub settle_told : (p : PeerValue) (id : SessionId) (parcel : ParcelValue) (at : SessionValue × WindowValue) → settle_check p id parcel ≡ Ok at → Settleable p id parcel at
settle_told p id parcel at h = in_peer (session_in p.sessions id) refl h
  where
    in_window : (s : SessionValue) → Among s p.sessions → s.id.0 ≡ id.0 → settle_at s parcel (window_in s parcel.asked.lo parcel.asked.hi) ≡ Ok at → Settleable p id parcel at
    in_window s m number h =
        let k = passed s parcel (window_in s parcel.asked.lo parcel.asked.hi) at h in
        let found = found_member (λ (v : WindowValue). (v.lo == parcel.asked.lo) && (v.hi == parcel.asked.hi)) s.windows k.0 k.1 in
        let both = and_parts _ _ found.1 in
        subst (Settleable p id parcel) (sym k.2)
        (record { held = m; number = number; stored = found.0; lo = eqb-true _ _ both.0; hi = eqb-true _ _ both.1; rows = k.3.rows; undone = k.3.remains })

    in_peer : (o : Option SessionValue) → session_in p.sessions id ≡ o → found_answer (λ s. settle_at s parcel (window_in s parcel.asked.lo parcel.asked.hi)) o ≡ Ok at → Settleable p id parcel at
    in_peer None e h = cc h
    in_peer (Some s) e h = let held = session_found p.sessions id s e in in_window s held.0 held.1 h

-- ---- the end of settling

-- settling leaves the peer unchanged, or ends after all documents or after the first n
abbrev pub LeavesAfter : (Document → Bool) → PeerValue → SessionId → ParcelValue → PeerValue → Type 0
LeavesAfter refuses p id parcel q =
    (q ≡ p) ⊎ ((at : SessionValue × WindowValue) × Settleable p id parcel at × ((q ≡ after_all refuses p at.0 at.1 parcel) ⊎ ((n : ℕ) × (q ≡ after_documents refuses p at.0 at.1 (take n parcel.docs)))))

pub settle_ends : (refuses : Document → Bool) (p : PeerValue) (id : SessionId) (parcel : ParcelValue) (result : Result Settled TargetFault) (q : PeerValue) → SettleGives refuses p id parcel result q → LeavesAfter refuses p id parcel q
settle_ends refuses p id parcel result q gives = go (settle_check p id parcel) refl gives
  where
    at_window : (s : SessionValue) (w : WindowValue) (r : Result Settled TargetFault) → SettlesAt refuses p parcel s w r q → (q ≡ after_all refuses p s w parcel) ⊎ ((n : ℕ) × (q ≡ after_documents refuses p s w (take n parcel.docs)))
    at_window s w (Ok settled) h = inl h.0.peer
    at_window s w (Err (faults.Uncovered seq uncovered rev)) h = inl h.0.peer
    at_window s w (Err (faults.Stopped n rest cause)) h = inr (n, h.0.peer)
    at_window s w (Err fault) h = absurd h

    go : (r : Result (SessionValue × WindowValue) TargetFault) → settle_check p id parcel ≡ r → Settles refuses p parcel r result q → LeavesAfter refuses p id parcel q
    go (Err fault) e h = inl h.1
    go (Ok at) e h = inr (at, settle_told p id parcel at e, at_window at.0 at.1 result h)

-- settling without a failed allocation
pub after_settle_ends : (refuses : Document → Bool) (p : PeerValue) (id : SessionId) (parcel : ParcelValue) → LeavesAfter refuses p id parcel (after_settle refuses p id parcel)
after_settle_ends refuses p id parcel = go (settle_check p id parcel) refl
  where
    go : (r : Result (SessionValue × WindowValue) TargetFault) → settle_check p id parcel ≡ r → LeavesAfter refuses p id parcel (settled_at refuses p parcel r)
    go (Err fault) e = inl refl
    go (Ok at) e =
        let n = settled_before refuses at.1 (settling_of p at.0) parcel.docs in
        let all = after_all refuses p at.0 at.1 parcel in
        let some = after_documents refuses p at.0 at.1 (take n parcel.docs) in
        inr (at, settle_told p id parcel at e, cond_both (n == length parcel.docs) all some (λ x. (x ≡ all) ⊎ ((k : ℕ) × (x ≡ after_documents refuses p at.0 at.1 (take k parcel.docs)))) (λ _. inl refl) (λ _. inr (n, refl)))

-- settling that stops
pub after_stop_ends : (refuses : Document → Bool) (p : PeerValue) (id : SessionId) (parcel : ParcelValue) (n : ℕ) → LeavesAfter refuses p id parcel (after_stop refuses p id parcel n)
after_stop_ends refuses p id parcel n = go (settle_check p id parcel) refl
  where
    go : (r : Result (SessionValue × WindowValue) TargetFault) → settle_check p id parcel ≡ r → LeavesAfter refuses p id parcel (after_front refuses p parcel n r)
    go (Err fault) e = inl refl
    go (Ok at) e = inr (at, settle_told p id parcel at e, inr (n, refl))

-- ---- settling is changes of one session

among_take : {X : Type 0} (x : X) (n : ℕ) (xs : List X) → Among x (take n xs) → Among x xs
among_take x zero xs m = absurd m
among_take x (suc n) [] m = absurd m
among_take x (suc n) (y ∷ xs) (inl e) = inl e
among_take x (suc n) (y ∷ xs) (inr m) = inr (among_take x n xs m)

-- the effect of documents on a session
pub record Walked (P : PeerValue → SessionValue → Type 0) (p : PeerValue) (s : SessionValue) (z : Settling) : Type 0 where
  pub kept : P (with_settling p z) z.session
  pub held : Among z.session (with_session p.sessions z.session)
  pub id : z.session.id ≡ s.id
  pub windows : z.session.windows ≡ s.windows

module _ (refuses : Document → Bool) (Of : Source) (P : PeerValue → SessionValue → Type 0) (keeps : KeptByChanges refuses Of P) where
  -- the documents have rows in a stored window
  abbrev Fit : WindowValue → List Document → Type 0
  Fit w docs = (d : Document) → Among d docs → (has_row w d ≡ true) × Of.doc d

  one : (p : PeerValue) (s : SessionValue) (c : Change) → Among s p.sessions → May refuses Of p s c → (changed s c).id ≡ s.id → (changed s c).windows ≡ s.windows → P p s
      → Walked P p s (record { db = written p.db s c; session = changed s c })
  one p s c m may id windows h =
      record { kept = keeps p s c m may h; held = with_session_holds p.sessions s (changed s c) m id; id = id; windows = windows }

  document : (p : PeerValue) (s : SessionValue) (w : WindowValue) (d : Document) → Among s p.sessions → Among w s.windows → (has_row w d ≡ true) × Of.doc d → P p s → Walked P p s (settle_one refuses w (settling_of p s) d)
  document p s w d m n fit h = go (refusal_of refuses p.db d) refl
    where
      go : (o : Option Reason) → refusal_of refuses p.db d ≡ o → Walked P p s (settle_as w (settling_of p s) d o)
      go (Some reason) e = one p s (Refused d reason) m (refused_rightly refuses p.db d reason e) refl refl h
      go None e =
          cond_both (is_full (put_answer p.db d)) (settling_of p s) (record { db = after_put p.db d (fed w s.id d); session = with_arrival d s }) (Walked P p s)
          (λ _. one p s Kept m tt refl refl h)
          (λ room. one p s (Arrived w d) m (record { from = fit.1; stored = n; row = fit.0; clear = none_refused refuses p.db d e; room = room }) refl refl h)

  pub documents : (p : PeerValue) (s : SessionValue) (w : WindowValue) (docs : List Document) → Among s p.sessions → Among w s.windows → Fit w docs → P p s → Walked P p s (settle_docs refuses w (settling_of p s) docs)
  documents p s w [] m n fit h = one p s Kept m tt refl refl h
  documents p s w (d ∷ docs) m n fit h =
      let y = settle_one refuses w (settling_of p s) d in
      let z = settle_docs refuses w y docs in
      let a = document p s w d m n (fit d (inl refl)) h in
      let b = documents (with_settling p y) y.session w docs a.held (subst (Among w) (sym a.windows) n) (λ x i. fit x (inr i)) a.kept in
      record {
        kept = subst (λ q. P q z.session) (with_settling-twice p y z b.id) b.kept;
        held = subst (Among z.session) (with_session-twice p.sessions y.session z.session b.id) b.held;
        id = b.id ∙ a.id;
        windows = b.windows ∙ a.windows;
      }

  pub mark : (p : PeerValue) (s : SessionValue) (w : WindowValue) (parcel : ParcelValue) → Among s p.sessions → Among w s.windows → P p s → (t : SessionValue) × P (marked p s w parcel) t
  mark p s w parcel m n h =
      cond_both (covers_window p w) (record p { sessions = with_session p.sessions (with_done w parcel s) }) p (λ q. (t : SessionValue) × P q t)
      (λ covered. (with_done w parcel s, keeps p s (Marked w parcel) m (n, window_covered p w covered) h))
      (λ _. (s, h))

  -- at each possible end of settling
  pub ends_walked : (p : PeerValue) (id : SessionId) (parcel : ParcelValue) (q : PeerValue) → LeavesAfter refuses p id parcel q → ((d : Document) → Among d parcel.docs → Of.doc d) → ((at : SessionValue × WindowValue) → Settleable p id parcel at → P p at.0)
      → (q ≡ p) ⊎ ((at : SessionValue × WindowValue) × Settleable p id parcel at × ((t : SessionValue) × P q t))
  ends_walked p id parcel q (inl same) of h = inl same
  ends_walked p id parcel q (inr e) of h =
      let s = e.0.0 in
      let w = e.0.1 in
      let k = e.1 in
      let fit : Fit w parcel.docs = λ d i. (all_member (has_row w) d parcel.docs k.rows i, of d i) in
      inr (
        e.0,
        k,
        elim e.2 [
          | inl all ↦
              let a = documents p s w parcel.docs k.held k.stored fit (h e.0 k) in
              let z = settle_docs refuses w (settling_of p s) parcel.docs in
              subst (λ x. (t : SessionValue) × P x t) (sym all) (mark (with_settling p z) z.session w parcel a.held (subst (Among w) (sym a.windows) k.stored) a.kept)
          | inr some ↦
              let a = documents p s w (take some.0 parcel.docs) k.held k.stored (λ d i. fit d (among_take d some.0 parcel.docs i)) (h e.0 k) in
              subst (λ x. (t : SessionValue) × P x t) (sym some.1) ((settle_docs refuses w (settling_of p s) (take some.0 parcel.docs)).session, a.kept)
        ],
      )

-- ---- what the calls keep of a peer

module _ (refuses : Document → Bool) (Of : Source) (P : PeerValue → Type 0) (keeps : KeptByChanges refuses Of (λ p _. P p)) where
  pub ends_keep : (p : PeerValue) (id : SessionId) (parcel : ParcelValue) (q : PeerValue) → LeavesAfter refuses p id parcel q → ((d : Document) → Among d parcel.docs → Of.doc d) → P p → P q
  ends_keep p id parcel q ends of h =
      elim (ends_walked refuses Of (λ p _. P p) keeps p id parcel q ends of (λ _ _. h)) [ inl same ↦ subst P (sym same) h | inr k ↦ k.2.1 ]

  found_keep : (p : PeerValue) (id : SessionId) (change : SessionValue → SessionValue) → ((s : SessionValue) → Among s p.sessions → s.id ≡ id → P (with_settling p (record { db = p.db; session = change s }))) → P p → P (on_session p id change)
  found_keep p id change each h = go (session_in p.sessions id) refl
    where
      go : (o : Option SessionValue) → session_in p.sessions id ≡ o → P (on_found p change o)
      go None e = h
      go (Some s) e = let k = session_found p.sessions id s e in each s k.0 (λ i. record { 0 = k.1 i })

  pub append_keep : (p : PeerValue) (id : SessionId) (w : WindowValue) → ((s : SessionValue) → Among s p.sessions → s.id ≡ id → Of.window s w) → P p → P (after_append p id w)
  append_keep p id w of h = found_keep p id (λ s. with_window w s (append_in w s)) (λ s m own. go s m own (append_in w s) refl) h
    where
      go : (s : SessionValue) → Among s p.sessions → s.id ≡ id → (r : Result (Unit {0}) TargetFault) → append_in w s ≡ r → P (with_settling p (record { db = p.db; session = with_window w s r }))
      go s m own (Ok done) e = let t = takes w s done e in keeps p s (Stored w) m (record { from = of s m own; at = t.0; within = t.1; life = t.2 }) h
      go s m own (Err fault) e = keeps p s Kept m tt h

  pub record_keep : (p : PeerValue) (id : SessionId) (at : ℕ) → P p → P (after_record p id at)
  record_keep p id at h = found_keep p id (recorded_at at) (λ s m own. keeps p s (Recorded at) m tt h) h

  pub conclude_keep : (p : PeerValue) (id : SessionId) (at : ℕ) → P p → P (after_conclude p id at)
  conclude_keep p id at h =
      found_keep p id (λ s. cond (low_water s.front == s.goal) (recorded_at at s) s)
      (λ s m own. cond_both (low_water s.front == s.goal) (recorded_at at s) s (λ t. P (with_settling p (record { db = p.db; session = t }))) (λ _. keeps p s (Recorded at) m tt h) (λ _. keeps p s Kept m tt h))
      h
