-- What tied peers cover.
use Rattle.proof_prelude.proofs.{◌≡◌, ℕ, ◌<◌, ◌≤◌, ◌^◌, min, Bool, true, List, Option, Some, None, refl, sym, ap, ◌∙◌, subst, inl, inr, arith, cases_lt, eqb-true}
use Rattle.rev_core.specs.{RevId}
use Rattle.rev_tree.specs.{leaves, SessionId}
use Rattle.doc_json.specs.Document.{Document}
use Rattle.doc_json.specs.{Choice, is_chosen}
use Rattle.couch_base.specs.{Among, DocumentValue, DatabaseValue, RowValue, WindowValue, row_of, chosen_feed, Among-map, found_member}
use Rattle.range_front.specs.{is_done, low_water, reached, is_window-is_done, low_water-is_end, low_water-le-end_of}
use Rattle.repl_log.specs.declared.replication.RepId.{RepId}
use Rattle.repl_log.specs.{EntryValue, is_of, common, common-IsCommon, common-le, same_rep, same_rep-is}
use Rattle.repl_peer.specs.{PeerValue, SessionValue, entry_of, covers, LawfulSession, LawfulSessions, source_log, target_log, rep_between}
use Rattle.repl_target.specs.{hole_at, hole_of, audit_answer, CoversFeedOf, IsAudited, start_at, checkpoint_of, start_between, IsTiedWindow, IsReached, IsTiedSession, IsTiedEntry, AreTiedEntries, IsTiedPair, LogsAreHonest}
use Rattle.repl_target.specs.declared.auditing.found.Audit.{Audit}
use Rattle.repl_target.specs.declared.auditing.found.Audit.TheVariants.{Clean, Hole}
use Rattle.repl_peer.proofs.{window-stored, Among-filter, one_session}
use Rattle.repl_target.proofs.lemmas.ties.TiedPages.{chosen_member, in_chosen}
use Rattle.repl_target.proofs.lemmas.ties.SettlingTakes.{all_known}

-- each leaf of the document is covered
abbrev pub IsCovered : PeerValue → DocumentValue → Type 0
IsCovered p d = (l : RevId) → Among l (leaves d.tree) → covers p d.id l ≡ true

-- what a session has recorded, if its windows are tied to the database
pub windows_cover : (refuses : Document → Bool) (db : DatabaseValue) (c : Choice) (p : PeerValue) (s : SessionValue) → LawfulSession refuses p s → ((w : WindowValue) → Among w s.windows → IsTiedWindow db c w) → (d : DocumentValue) → Among d db.docs → is_chosen c d.id ≡ true → s.front.start < d.seq → d.seq ≤ s.recorded → IsCovered p d
windows_cover refuses db c p s law tied d n chosen above below =
    let f = reached s.front d.seq law.front above (omega (arith, below, law.recorded)) in
    let w = window-stored s.front s.windows f.0 f.1 law.bounds (is_window-is_done s.front f.0 f.1 f.4) in
    let lo : w.0.lo < d.seq = omega (arith, w.2, f.2) in
    let hi : d.seq ≤ w.0.hi = omega (arith, w.3, f.3) in
    let done : is_done s.front w.0.lo w.0.hi ≡ true = subst (λ a. is_done s.front a w.0.hi ≡ true) (sym w.2) (subst (λ b. is_done s.front f.0 b ≡ true) (sym w.3) f.4) in
    λ l k. law.done w.0 w.1 done (row_of d) ((tied w.0 w.1).rows d n chosen lo hi) l k

-- ---- the sequences that a database has reached

pub covers_lower : (c : Choice) (db : DatabaseValue) (p : PeerValue) (n m : ℕ) → n ≤ m → CoversFeedOf c db p m → CoversFeedOf c db p n
covers_lower c db p n m less h row rm leaf k =
    let d = chosen_member c db 0 n row rm in
    h row (subst (λ (x : RowValue). Among x (chosen_feed c db 0 m)) (sym d.2) (in_chosen c db 0 m d.0 d.1 d.5 d.3 (omega (arith, d.4, less)))) leaf k

pub reached-lower : (c : Choice) (db : DatabaseValue) (p : PeerValue) (n m : ℕ) → n ≤ m → IsReached c db p m → IsReached c db p n
reached-lower c db p n m less h = record { within = omega (arith, less, h.within); covered = covers_lower c db p n m less h.covered }

-- sequence 0 is always reached
pub reached-none : (c : Choice) (db : DatabaseValue) (p : PeerValue) → IsReached c db p 0
reached-none c db p = record { within = omega arith; covered = λ row m leaf k. (let d = chosen_member c db 0 0 row m in absurd (omega (arith, d.3, d.4))) }

-- the recorded sequence of a session of the database's life
recorded_within : (refuses : Document → Bool) (c : Choice) (db : DatabaseValue) (p : PeerValue) (s : SessionValue) → LawfulSession refuses p s → ((w : WindowValue) → Among w s.windows → IsTiedWindow db c w) → s.front.start ≤ db.update_seq → s.recorded ≤ db.update_seq
recorded_within refuses c db p s law tied start =
    elim (low_water-is_end s.front) [
      | inl at ↦ (let low : low_water s.front ≡ s.front.start = at in omega (arith, law.recorded, low, start))
      | inr done ↦
          let w = window-stored s.front s.windows done.0 (low_water s.front) law.bounds (is_window-is_done s.front done.0 (low_water s.front) done.1) in
          let end : w.0.hi ≡ low_water s.front = w.3 in
          let under : w.0.hi ≤ db.update_seq = (tied w.0 w.1).reached in
          omega (arith, law.recorded, end, under)
    ]

pub session_reached : (refuses : Document → Bool) (c : Choice) (db : DatabaseValue) (p : PeerValue) → LawfulSessions refuses p → (s : SessionValue) → Among s p.sessions → IsTiedSession c db p s → s.life ≡ db.life → (n : ℕ) → n ≤ s.recorded → IsReached c db p n
session_reached refuses c db p law s m tied life n less =
    let own = law.sessions s m in
    let start = tied.start life in
    let within = recorded_within refuses c db p s own (tied.windows life) start.within in
    record {
      within = omega (arith, less, within);
      covered = λ row rm leaf k.
          (let d = chosen_member c db 0 n row rm in
          elim (cases_lt s.front.start d.0.seq) [
            | inl above ↦
                ap (λ (x : RowValue). covers p x.id leaf) d.2
                ∙ windows_cover refuses db c p s own (tied.windows life) d.0 d.1 d.5 above (omega (arith, d.4, less)) leaf (subst (λ (x : RowValue). Among leaf x.leaves) d.2 k)
            | inr under ↦ start.covered row (subst (λ (x : RowValue). Among x (chosen_feed c db 0 s.front.start)) (sym d.2) (in_chosen c db 0 s.front.start d.0 d.1 d.5 d.3 (omega (arith, under)))) leaf k
          ]);
    }

-- ---- entries of both logs

pub entry_session : (target : PeerValue) (rep : RepId) (t : EntryValue) → Among t (target_log target rep) → (s : SessionValue) × Among s target.sessions × (s.rep ≡ rep) × (t ≡ entry_of s)
entry_session target rep t m =
    let g = Among-map entry_of t _ m in
    let f = Among-filter (λ (s : SessionValue). same_rep s.rep rep) g.0 target.sessions g.1 in
    (g.0, f.0, same_rep-is g.0.rep rep f.1, g.2)

-- an entry for a session of the target's log
pub entry_reached : (refuses : Document → Bool) (db : DatabaseValue) (target : PeerValue) (rep : RepId) (e t : EntryValue) → LawfulSessions refuses target → IsTiedEntry db target rep e → Among t (target_log target rep) → t.session.0 ≡ e.session.0 → IsReached rep.chosen db target e.recorded
entry_reached refuses db target rep e t law h tm same =
    let s = entry_session target rep t tm in
    let own : h.session.id.0 ≡ s.0.id.0 = ap (λ (i : SessionId). i.0) h.named ∙ sym same ∙ ap (λ (y : EntryValue). y.session.0) s.3 in
    let one : h.session ≡ s.0 = one_session target.sessions h.session s.0 law.distinct h.held s.1 own in
    h.reached (ap (λ (y : SessionValue). y.rep) one ∙ s.2)

pub honest_is : (refuses : Document → Bool) (source target : PeerValue) (chosen : Choice) → LawfulSessions refuses target → IsTiedPair source target chosen → LogsAreHonest source target chosen
honest_is refuses source target chosen law tied e em t tm same =
    let r = entry_reached refuses source.db target (rep_between source target chosen) e t law (tied.log e em) tm (ap (λ (i : SessionId). i.0) same) in
    covers_lower chosen source.db target (min e.recorded t.recorded) e.recorded (omega arith) r.covered

-- if the entries of a log are tied to the database, it has reached the common checkpoint of that log and the target's
pub agreed_reached : (refuses : Document → Bool) (db : DatabaseValue) (target : PeerValue) (rep : RepId) (log : List EntryValue) → LawfulSessions refuses target → AreTiedEntries db target rep log → (session : SessionId) (n : ℕ) → common log (target_log target rep) ≡ Some (session, n) → IsReached rep.chosen db target n
agreed_reached refuses db target rep log law tied session n e =
    let c = common-IsCommon log (target_log target rep) (session, n) e in
    let f = found_member (is_of session) (target_log target rep) c.at_target c.target_has in
    let g = found_member (is_of session) log c.at_source c.source_has in
    let le = common-le log (target_log target rep) session n c in
    reached-lower rep.chosen db target n c.at_source.recorded le.0
    (entry_reached refuses db target rep c.at_source c.at_target law (tied c.at_source g.0) f.0 (eqb-true _ _ f.1 ∙ sym (eqb-true _ _ g.1)))

-- so a session may start there
pub common_reached : (refuses : Document → Bool) (db : DatabaseValue) (target : PeerValue) (rep : RepId) (log : List EntryValue) → LawfulSessions refuses target → AreTiedEntries db target rep log → IsReached rep.chosen db target (start_at (common log (target_log target rep)))
common_reached refuses db target rep log law tied = go (common log (target_log target rep)) refl
  where
    go : (o : Option (SessionId × ℕ)) → common log (target_log target rep) ≡ o → IsReached rep.chosen db target (start_at o)
    go None e = reached-none rep.chosen db target
    go (Some c) e = agreed_reached refuses db target rep log law tied c.0 c.1 e

-- and an audit finds no uncovered leaf
pub audited_is : (refuses : Document → Bool) (source target : PeerValue) (chosen : Choice) → LawfulSessions refuses target → IsTiedPair source target chosen → IsAudited source target chosen
audited_is refuses source target chosen law tied session n e =
    (agreed_reached refuses source.db target (rep_between source target chosen) (source_log source (rep_between source target chosen)) law tied.log session n e).covered

pub start_reached : (refuses : Document → Bool) (source target : PeerValue) (chosen : Choice) → LawfulSessions refuses target → IsTiedPair source target chosen → IsReached chosen source.db target (start_between source target chosen)
start_reached refuses source target chosen law tied =
    common_reached refuses source.db target (rep_between source target chosen) (source_log source (rep_between source target chosen)) law tied.log

-- no leaf of the source's feed up to the common checkpoint is uncovered
pub tied_none : (refuses : Document → Bool) (source target : PeerValue) (chosen : Choice) → LawfulSessions refuses target → IsTiedPair source target chosen → audit_answer source target chosen ≡ None
tied_none refuses source target chosen law tied = go (checkpoint_of source target chosen) refl
  where
    go : (o : Option (SessionId × ℕ)) → checkpoint_of source target chosen ≡ o → hole_at source target chosen o ≡ None
    go None e = refl
    go (Some c) e = all_known (covers target) (chosen_feed chosen source.db 0 c.1) (audited_is refuses source target chosen law tied c.0 c.1 e)

pub clean_from : (a : Audit) → hole_of a ≡ None → a ≡ Clean
clean_from Clean e = refl
clean_from (Hole seq id rev) e = cc

-- ---- the start of a replication

-- a start is a recorded sequence, so it does not exceed the end of a front
pub start_small : (refuses : Document → Bool) (source target : PeerValue) (chosen : Choice) → LawfulSessions refuses target → start_between source target chosen < 2 ^ 64
start_small refuses source target chosen law = go (checkpoint_of source target chosen) refl
  where
    go : (o : Option (SessionId × ℕ)) → checkpoint_of source target chosen ≡ o → start_at o < 2 ^ 64
    go None e = omega arith
    go (Some c) e =
        let k = common-IsCommon _ (target_log target (rep_between source target chosen)) c e in
        let f = found_member (is_of c.0) (target_log target (rep_between source target chosen)) k.at_target k.target_has in
        let s = entry_session target (rep_between source target chosen) k.at_target f.0 in
        let own = law.sessions s.0 s.1 in
        let low = low_water-le-end_of s.0.front own.front in
        let le = common-le _ _ c.0 c.1 k in
        let rec : k.at_target.recorded ≡ s.0.recorded = ap (λ (y : EntryValue). y.recorded) s.3 in
        omega (arith, le.1, rec, own.recorded, low, own.front.in_range)
