-- Settling on the parts of a peer is settling the peer.
use Rattle.proof_prelude.proofs.{◌≡◌, Bool, true, false, not, is_some, if◌then◌else◌, ◌||◌, List, [], ◌∷◌, Option, Some, None, Result, Ok, Err, refl, sym, ap, ◌∙◌, subst, inl, inr, list_all, cond_both, cond-true, cond-false, or_cases, or_left, or_right}
use Rattle.rev_core.specs.{RevId}
use Rattle.rev_tree.specs.{has, SessionId, same_tests}
use Rattle.doc_json.specs.Document.{Document}
use Rattle.couch_base.specs.{Id, tree_of, WindowValue, Among, ParcelValue, Among-map, Among-mapped, any_member, any_from}
use Rattle.repl_peer.specs.{PeerValue, SessionValue, is_of, session_in, with_session, in_ledger, covers, knows_row, covers_window, first_unknown, found_answer, Settling, settle_docs, settle_at, window_in, settle_check, with_settling, settling_of, with_done, after_all, SettlesAt, Settles, SettleGives, with_mark, PartsSettled, PartsSettle, PartsGive, in_ledgers, is_ledgered, Indexes, LedgerIndex, Settled, TargetFault}
use Rattle.repl_peer.proofs.lemmas.session.AddedToLedgerIndex.{or_held}
use Rattle.repl_peer.specs.declared.fault.TargetFault.TheVariants as faults
use Rattle.repl_peer.proofs.lemmas.peer.LaterPeers.{with_session_holds}
use Rattle.repl_peer.proofs.lemmas.session.Changes.{with_session-twice}
use Rattle.repl_peer.proofs.lemmas.session.FirstUnknownLeaf.{rows_known}
use Rattle.repl_peer.proofs.lemmas.session.SettlingChecks.{passed}

-- ---- replacing one session

-- sessions with equal ids and ledgers cover the same
pub same_ledgers : (sessions : List SessionValue) (s t : SessionValue) (id : Id) (r : RevId) → t.id ≡ s.id → t.ledger ≡ s.ledger → in_ledgers (with_session sessions t) id r ≡ in_ledgers (with_session sessions s) id r
same_ledgers [] s t id r same ledger = refl
same_ledgers (x ∷ sessions) s t id r same ledger =
    (λ i. (ap (λ (j : SessionId). in_ledger (if is_of j x then t else x).ledger id r) same ∙ here) i || same_ledgers sessions s t id r same ledger i)
  where
    here : in_ledger (if is_of s.id x then t else x).ledger id r ≡ in_ledger (if is_of s.id x then s else x).ledger id r
    here = elim (is_of s.id x) as (λ b. in_ledger (if b then t else x).ledger id r ≡ in_ledger (if b then s else x).ledger id r) [
      | true ↦ ap (λ l. in_ledger l id r) ledger
      | false ↦ refl
    ]

-- ---- the peer

pub record Agrees (known : Id → RevId → Bool) (q : PeerValue) : Type 0 where
  pub at : (id : Id) (r : RevId) → known id r ≡ covers q id r

agreed : (known : Id → RevId → Bool) (q : PeerValue) → Agrees known q → known ≡ covers q
agreed known q a = λ i id r. a.at id r i

module _ (refuses : Document → Bool) (known : Id → RevId → Bool) (p : PeerValue) (parcel : ParcelValue) (s : SessionValue) (w : WindowValue) where
  settles_at : (result : Result Settled TargetFault) (after : Settling) → Agrees known (with_settling p after) → PartsSettled refuses known w (settling_of p s) parcel result after → SettlesAt refuses p parcel s w result (with_settling p after)
  settles_at (Ok settled) after agrees h =
      let z = settle_docs refuses w (settling_of p s) parcel.docs in
      let t = with_done w parcel z.session in
      let documents : PeerValue = with_settling p z in
      let q : with_settling p after ≡ with_settling p (with_mark w parcel z) = ap (with_settling p) h.settling in
      let covered : known ≡ covers documents =
      agreed known (with_settling p after) agrees ∙ ap covers q
      ∙ (λ i id r. has (tree_of z.db.docs id) r || same_ledgers p.sessions z.session t id r refl refl i) in
      let known_all : covers_window documents w ≡ true = ap (λ k. list_all (knows_row k) w.rows) (sym covered) ∙ sym (rows_known known w.rows) ∙ ap (λ o. not (is_some o)) h.covered in
      let whole : with_settling p (with_mark w parcel z) ≡ after_all refuses p s w parcel =
      (λ i. record documents { sessions = sym (with_session-twice p.sessions z.session t refl) i })
      ∙ sym (cond-true (covers_window documents w) (record documents { sessions = with_session documents.sessions t }) documents known_all) in
      (record { all = h.all; peer = q ∙ whole }, ap (λ k. first_unknown k w.rows) (sym covered) ∙ h.covered, h.counts)
  settles_at (Err (faults.Uncovered seq id rev)) after agrees h =
      let z = settle_docs refuses w (settling_of p s) parcel.docs in
      let documents : PeerValue = with_settling p z in
      let q : with_settling p after ≡ documents = ap (with_settling p) h.0.settling in
      let covered : known ≡ covers documents = agreed known (with_settling p after) agrees ∙ ap covers q in
      let missing : covers_window documents w ≡ false = ap (λ k. list_all (knows_row k) w.rows) (sym covered) ∙ sym (rows_known known w.rows) ∙ ap (λ o. not (is_some o)) h.1 in
      let whole : documents ≡ after_all refuses p s w parcel =
      sym (cond-false (covers_window documents w) (record documents { sessions = with_session documents.sessions (with_done w parcel z.session) }) documents missing) in
      (record { all = h.0.all; peer = q ∙ whole }, ap (λ k. first_unknown k w.rows) (sym (agreed known (with_settling p after) agrees)) ∙ h.1)
  settles_at (Err (faults.Stopped n rest cause)) after agrees h = (record { within = h.0.within; rest = h.0.rest; peer = ap (with_settling p) h.0.settling }, h.1)
  settles_at (Err fault) after agrees h = absurd h

-- the session of the check is the requested one
own_session : (s : SessionValue) (parcel : ParcelValue) (o : Option WindowValue) (at : SessionValue × WindowValue) → settle_at s parcel o ≡ Ok at → at.0 ≡ s
own_session s parcel o at h = ap (λ (x : SessionValue × WindowValue). x.0) (passed s parcel o at h).2

-- if the peer has the session, settling on its parts is settling the peer
pub settle_gives : (refuses : Document → Bool) (known : Id → RevId → Bool) (p : PeerValue) (id : SessionId) (s : SessionValue) (parcel : ParcelValue) (result : Result Settled TargetFault) (after : Settling)
    → session_in p.sessions id ≡ Some s → with_session p.sessions s ≡ p.sessions → Agrees known (with_settling p after)
    → PartsGive refuses known (settling_of p s) parcel result after → SettleGives refuses p id parcel result (with_settling p after)
settle_gives refuses known p id s parcel result after is same agrees h =
    let check : settle_check p id parcel ≡ settle_at s parcel (window_in s parcel.asked.lo parcel.asked.hi) =
    ap (found_answer (λ (s : SessionValue). settle_at s parcel (window_in s parcel.asked.lo parcel.asked.hi))) is in
    subst (λ (r : Result (SessionValue × WindowValue) TargetFault). Settles refuses p parcel r result (with_settling p after)) (sym check)
    (go (settle_at s parcel (window_in s parcel.asked.lo parcel.asked.hi)) refl h)
  where
    go : (r : Result (SessionValue × WindowValue) TargetFault) → settle_at s parcel (window_in s parcel.asked.lo parcel.asked.hi) ≡ r → PartsSettle refuses known (settling_of p s) parcel r result after → Settles refuses p parcel r result (with_settling p after)
    go (Ok at) e k =
        let own = own_session s parcel (window_in s parcel.asked.lo parcel.asked.hi) at e in
        subst (λ (t : SessionValue). SettlesAt refuses p parcel t at.1 result (with_settling p after)) (sym own) (settles_at refuses known p parcel s at.1 result after agrees k)
    go (Err fault) e k = (k.0, ap (with_settling p) k.1 ∙ (λ i. record p { sessions = same i }))

-- ---- the index

abbrev refused : Id → RevId → SessionValue → Bool
refused id r x = in_ledger x.ledger id r

abbrev put_in : SessionValue → SessionValue → SessionValue
put_in t x = if is_of t.id x then t else x

-- the ledgers after a session has refused more
pub ledgers_after : (sessions : List SessionValue) (s t : SessionValue) (id : Id) (r : RevId) → with_session sessions s ≡ sessions → Among s sessions → t.id ≡ s.id
    → (in_ledger s.ledger id r ≡ true → in_ledger t.ledger id r ≡ true) → in_ledgers (with_session sessions t) id r ≡ (in_ledgers sessions id r || in_ledger t.ledger id r)
ledgers_after sessions s t id r stands held same more = same_tests _ _ forth back
  where
    forth : in_ledgers (with_session sessions t) id r ≡ true → (in_ledgers sessions id r || in_ledger t.ledger id r) ≡ true
    forth h =
        let m = any_member (refused id r) (with_session sessions t) h in
        let from = Among-map (put_in t) m.0 sessions m.1 in
        cond_both (is_of t.id from.0) t from.0 (λ x. m.0 ≡ x → (in_ledgers sessions id r || in_ledger t.ledger id r) ≡ true)
        (λ _ e. or_right (in_ledgers sessions id r) (in_ledger t.ledger id r) (ap (refused id r) (sym e) ∙ m.2))
        (λ _ e. or_left (in_ledgers sessions id r) (in_ledger t.ledger id r) (any_from (refused id r) from.0 sessions from.1 (ap (refused id r) (sym e) ∙ m.2))) from.2

    kept : (x : SessionValue) → refused id r (put_in s x) ≡ true → refused id r (put_in t x) ≡ true
    kept x h =
        cond_both (is_of t.id x) t x (λ y. refused id r y ≡ true)
        (λ here. more (ap (refused id r) (sym (cond-true (is_of s.id x) s x (ap (λ (j : SessionId). is_of j x) (sym same) ∙ here))) ∙ h))
        (λ past. ap (refused id r) (sym (cond-false (is_of s.id x) s x (ap (λ (j : SessionId). is_of j x) (sym same) ∙ past))) ∙ h)

    back : (in_ledgers sessions id r || in_ledger t.ledger id r) ≡ true → in_ledgers (with_session sessions t) id r ≡ true
    back h =
        elim (or_cases (in_ledgers sessions id r) (in_ledger t.ledger id r) h) [
          | inl old ↦
              let m = any_member (refused id r) (with_session sessions s) (ap (λ l. in_ledgers l id r) stands ∙ old) in
              let from = Among-map (put_in s) m.0 sessions m.1 in
              any_from (refused id r) (put_in t from.0) (with_session sessions t) (Among-mapped (put_in t) from.0 sessions from.1) (kept from.0 (ap (refused id r) (sym from.2) ∙ m.2))
          | inr new ↦ any_from (refused id r) t (with_session sessions t) (with_session_holds sessions s t held same) new
        ]

-- if the peer does not have the session, nothing changes
pub settle_absent : (refuses : Document → Bool) (p q : PeerValue) (id : SessionId) (parcel : ParcelValue) → session_in p.sessions id ≡ None → q ≡ p → SettleGives refuses p id parcel (Err faults.NoSuchSession) q
settle_absent refuses p q id parcel none same =
    subst (λ (r : Result (SessionValue × WindowValue) TargetFault). Settles refuses p parcel r (Err faults.NoSuchSession) q)
    (sym (ap (found_answer (λ (s : SessionValue). settle_at s parcel (window_in s parcel.asked.lo parcel.asked.hi))) none)) (refl, same)

-- an index of all ledgers includes each of them
pub indexed_own : (sessions : List SessionValue) (ledgered : LedgerIndex) (s : SessionValue) → Indexes ledgered sessions → Among s sessions → (id : Id) (r : RevId) → is_ledgered ledgered id r ≡ (is_ledgered ledgered id r || in_ledger s.ledger id r)
indexed_own sessions ledgered s index held id r =
    sym (or_held (in_ledger s.ledger id r) (is_ledgered ledgered id r) (λ h. index id r ∙ any_from (λ (x : SessionValue). in_ledger x.ledger id r) s sessions held h))

-- the index after a session has refused more is that of the ledgers
pub index_after : (sessions : List SessionValue) (old new : LedgerIndex) (s t : SessionValue) → Indexes old sessions → with_session sessions s ≡ sessions → Among s sessions → t.id ≡ s.id
    → ((id : Id) (r : RevId) → in_ledger s.ledger id r ≡ true → in_ledger t.ledger id r ≡ true)
    → (((id : Id) (r : RevId) → is_ledgered old id r ≡ (is_ledgered old id r || in_ledger s.ledger id r)) → (id : Id) (r : RevId) → is_ledgered new id r ≡ (is_ledgered old id r || in_ledger t.ledger id r))
    → Indexes new (with_session sessions t)
index_after sessions old new s t index stands held same more indexed id r =
    indexed (indexed_own sessions old s index held) id r
    ∙ ap (λ b. b || in_ledger t.ledger id r) (index id r)
    ∙ sym (ledgers_after sessions s t id r stands held same (more id r))
