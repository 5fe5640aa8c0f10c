-- What calls keep: the invariant, coverage, and the stored windows.
use Rattle.proof_prelude.proofs.{◌≡◌, ℕ, ◌<◌, ◌^◌, Bool, cond, List, Result, Ok, Err, refl, sym, ap, ◌∙◌, subst, inl, inr, arith, cond_both}
use Rattle.rev_tree.specs.{SessionId}
use Rattle.doc_json.specs.Document.{Document}
use Rattle.doc_json.specs.{Choice}
use Rattle.couch_base.specs.{Among, DatabaseValue, LawfulDatabase, ParcelValue, WindowValue, page, IsWindow, IsWindow-page, Among-map, Among-push}
use Rattle.repl_log.specs.declared.replication.RepId.{RepId}
use Rattle.repl_peer.specs.{Settled, TargetFault, PeerValue, SessionValue, SettleGives, is_of, with_session, begin_answer, new_session, begun, with_window, after_settle, LawfulSessions}
use Rattle.repl_peer.proofs.{edit_by_load, Change, Stored, changed, Source, May, KeptByChanges, ends_keep, append_keep, record_keep, conclude_keep, after_settle_ends, after_stop_ends, settle_ends, AreWindows, StaysLawful, stays_same, law_kept}
use Rattle.repl_target.proofs.lemmas.replication.FetchedDocuments.{of_run, run_keeps}
use Rattle.repl_target.specs.{IsTiedWindow, Call, Load, Edit, Begin, Append, Settle, Stop, Record, Conclude, after_call, after_some, IsPageOf, IsGrown, EachStored}
use Rattle.repl_target.proofs.lemmas.ties.TiedPages.{page_within, IsTiedWindow-page}

-- ---- pages

pub page_window : (db : DatabaseValue) (c : Choice) (w : WindowValue) → LawfulDatabase db → IsPageOf db c w → IsWindow w × (w.hi < 2 ^ 64) × IsTiedWindow db c w
page_window db c w law p =
    let below = page_within db p.since p.goal p.limit c (omega (arith, p.above)) in
    let end : w.hi ≡ (page db p.since p.goal p.limit c).hi = ap (λ (x : WindowValue). x.hi) p.is in (
      subst IsWindow (sym p.is) (IsWindow-page db p.since p.goal p.limit c law p.above p.some),
      omega (arith, below, end, p.within, law.within),
      subst (IsTiedWindow db c) (sym p.is) (IsTiedWindow-page db p.since p.goal p.limit c law (omega (arith, p.above)) p.within),
    )

-- ---- the invariant

-- the effect of calls on a lawful peer
pub run_windows : (source : DatabaseValue) (chosen : Choice) (run : SessionId) → LawfulDatabase source → AreWindows (of_run source chosen run)
run_windows source chosen run law s w from = let k = page_window source chosen w law from.1 in (k.0, k.1)

pub grown_law : (refuses : Document → Bool) (source : DatabaseValue) (chosen : Choice) (run : SessionId) (given now : PeerValue) → LawfulDatabase source → IsGrown refuses source chosen run given now → LawfulSessions refuses given → StaysLawful refuses given now
grown_law refuses source chosen run given now law grown l =
    run_keeps refuses source chosen run (StaysLawful refuses given) (law_kept refuses (of_run source chosen run) (run_windows source chosen run law) given) given now grown (stays_same refuses given l)

-- ---- properties of each session

-- a session with the same windows and scope
pub record Stays (s t : SessionValue) : Type 0 where
  pub id : t.id ≡ s.id
  pub rep : t.rep ≡ s.rep
  pub life : t.life ≡ s.life
  pub start : t.front.start ≡ s.front.start
  pub windows : t.windows ≡ s.windows

-- a property of a session that depends on its scope and its windows
module _ (S : SessionValue → Type 0) (stays : (s t : SessionValue) → Stays s t → S s → S t) where
  -- a window that a call stores, or a session that it begins, satisfies the property
  abbrev pub Brings : PeerValue → Call → Type 0
  Brings p (Append session window) = (s : SessionValue) → Among s p.sessions → s.id ≡ session → window.life ≡ s.life → S s → S (with_window window s (Ok tt))
  Brings p (Begin session beginning at) = begin_answer p session beginning ≡ Ok tt → S (new_session session beginning at)
  Brings p c = Unit {0}

  abbrev pub Each : List SessionValue → Type 0
  Each sessions = (s : SessionValue) → Among s sessions → S s

  pub each-with : (sessions : List SessionValue) (t : SessionValue) → S t → Each sessions → Each (with_session sessions t)
  each-with sessions t here h s m =
      let k = Among-map (λ (x : SessionValue). cond (is_of t.id x) t x) s sessions m in
      let at : S (cond (is_of t.id k.0) t k.0) = cond_both (is_of t.id k.0) t k.0 S (λ _. here) (λ _. h k.0 k.1) in
      subst S (sym k.2) at

  -- the effect of a change on its session
  pub each-changed : (refuses : Document → Bool) (Of : Source) (p : PeerValue) (s : SessionValue) (c : Change) → May refuses Of p s c → ((w : WindowValue) → Of.window s w → w.life ≡ s.life → S s → S (with_window w s (Ok tt))) → S s → S (changed s c)
  each-changed refuses Of p s (Stored window) may more h = more window may.from may.life h
  each-changed refuses Of p s change may more h = stays s (changed s change) (record { id = refl; rep = refl; life = refl; start = refl; windows = refl }) h

  pub each-kept : (refuses : Document → Bool) (Of : Source) → ((s : SessionValue) (w : WindowValue) → Of.window s w → w.life ≡ s.life → S s → S (with_window w s (Ok tt))) → KeptByChanges refuses Of (λ p _. Each p.sessions)
  each-kept refuses Of more p s c m may h = each-with p.sessions (changed s c) (each-changed refuses Of p s c may (more s) (h s m)) h

  each-begun : (p : PeerValue) (s : SessionValue) (r : Result (Unit {0}) TargetFault) → (r ≡ Ok tt → S s) → Each p.sessions → Each (begun p s r).sessions
  each-begun p s (Err fault) new h = h
  each-begun p s (Ok done) new h = λ t m. elim m [ inl e ↦ subst S (sym e) (new refl) | inr o ↦ h t o ]

  -- windows that keep the property
  abbrev growing : Source
  growing = record { doc = λ _. Unit {0}; window = λ s w. w.life ≡ s.life → S s → S (with_window w s (Ok tt)) }

  -- settling keeps the property, however it ends
  pub settling_keeps : (refuses : Document → Bool) (p : PeerValue) (id : SessionId) (parcel : ParcelValue) (result : Result Settled TargetFault) (q : PeerValue) → SettleGives refuses p id parcel result q → Each p.sessions → Each q.sessions
  settling_keeps refuses p id parcel result q gives h = ends_keep refuses growing (λ q. Each q.sessions) (each-kept refuses growing (λ _ _ k. k)) p id parcel q (settle_ends refuses p id parcel result q gives) (λ _ _. tt) h

  pub call_keeps : (refuses : Document → Bool) (p : PeerValue) (c : Call) → Brings p c → Each p.sessions → Each (after_call refuses p c).sessions
  call_keeps refuses p (Load doc) b h = h
  call_keeps refuses p (Edit id parent deleted body) b h = edit_by_load (λ q. Each q.sessions) p (λ _. h) h id parent deleted body
  call_keeps refuses p (Begin session beginning at) b h = each-begun p (new_session session beginning at) (begin_answer p session beginning) b h
  call_keeps refuses p (Append session window) b h = append_keep refuses growing (λ q. Each q.sessions) (each-kept refuses growing (λ _ _ k. k)) p session window b h
  call_keeps refuses p (Settle session parcel) b h = ends_keep refuses growing (λ q. Each q.sessions) (each-kept refuses growing (λ _ _ k. k)) p session parcel (after_settle refuses p session parcel) (after_settle_ends refuses p session parcel) (λ _ _. tt) h
  call_keeps refuses p (Stop session parcel settled) b h = ends_keep refuses growing (λ q. Each q.sessions) (each-kept refuses growing (λ _ _ k. k)) p session parcel (after_some refuses p session parcel settled) (after_stop_ends refuses p session parcel _) (λ _ _. tt) h
  call_keeps refuses p (Record session at) b h = record_keep refuses growing (λ q. Each q.sessions) (each-kept refuses growing (λ _ _ k. k)) p session at h
  call_keeps refuses p (Conclude session at) b h = conclude_keep refuses growing (λ q. Each q.sessions) (each-kept refuses growing (λ _ _ k. k)) p session at h

-- ---- the stored windows

-- the windows of the sessions for which Q holds
abbrev Stores : (SessionId → RepId → Type 0) → (WindowValue → Type 0) → SessionValue → Type 0
Stores Q P s = Q s.id s.rep → (w : WindowValue) → Among w s.windows → P w

stores-stays : (Q : SessionId → RepId → Type 0) (P : WindowValue → Type 0) (s t : SessionValue) → Stays s t → Stores Q P s → Stores Q P t
stores-stays Q P s t k h = λ q w m. h (subst (λ (i : SessionId). Q i s.rep) k.id (subst (Q t.id) k.rep q)) w (subst (Among w) k.windows m)

-- one more window with the property
stores-more : (Q : SessionId → RepId → Type 0) (P : WindowValue → Type 0) (w : WindowValue) (s : SessionValue) → P w → Stores Q P s → Stores Q P (with_window w s (Ok tt))
stores-more Q P w s is h = λ q v n. elim (Among-push v s.windows w n) [ inl old ↦ h q v old | inr e ↦ subst P (sym e) is ]

pub grown_stores : (Q : SessionId → RepId → Type 0) (refuses : Document → Bool) (source : DatabaseValue) (chosen : Choice) (run : SessionId) (given now : PeerValue) → LawfulDatabase source → IsGrown refuses source chosen run given now → EachStored Q (IsTiedWindow source chosen) given.sessions
    → EachStored Q (IsTiedWindow source chosen) now.sessions
grown_stores Q refuses source chosen run given now law grown h =
    let P = IsTiedWindow source chosen in
    run_keeps refuses source chosen run (λ (q : PeerValue). EachStored Q P q.sessions)
    (each-kept (Stores Q P) (stores-stays Q P) refuses (of_run source chosen run) (λ s w from _ k. stores-more Q P w s (page_window source chosen w law from.1).2 k)) given now grown h

-- ---- the session of the run

-- the run's session is of a replication from a database, for a selection
abbrev pub IsRunOf : SessionId → ℕ → Choice → SessionValue → Type 0
IsRunOf run source chosen s = s.id ≡ run → (s.rep.source ≡ source) × (s.rep.chosen ≡ chosen)

pub run-stays : (run : SessionId) (source : ℕ) (chosen : Choice) (s t : SessionValue) → Stays s t → IsRunOf run source chosen s → IsRunOf run source chosen t
run-stays run source chosen s t k h own =
    let was = h (sym k.id ∙ own) in
    (ap (λ (r : RepId). r.source) k.rep ∙ was.0, ap (λ (r : RepId). r.chosen) k.rep ∙ was.1)
