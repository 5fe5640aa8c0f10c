-- The number of documents that a session has read, after each call.
use Rattle.proof_prelude.proofs.{◌≡◌, ℕ, ◌+◌, ◌≤◌, ◌==◌, Bool, true, false, cond, List, [], ◌∷◌, Option, Some, None, Result, Ok, Err, take, length, refl, sym, ap, ◌∙◌, arith, cond_both, cond-true, cond-false, take-length, find, eq-eqb}
use Rattle.rev_tree.specs.{SessionId}
use Rattle.doc_json.specs.Document.{Document}
use Rattle.couch_base.specs.{WindowValue, ParcelValue}
use Rattle.repl_peer.specs.{Settled, TargetFault, PeerValue, SessionValue, is_of, session_in, with_session, covers_window, on_found, on_session, append_in, with_window, after_append, recorded_at, after_record, new_session, begun, settle_docs, settled_before, settle_check, settling_of, with_settling, with_done, after_documents, after_all, SettlesAt, Settles, SettleGives, LawfulSessions, read_of, read_in, taken}
use Rattle.repl_peer.specs.declared.fault.TargetFault.TheVariants as faults
use Rattle.repl_target.specs.{Plan, begins_answer, after_begins, beginning_between}
use Rattle.repl_peer.proofs.{session_found, settle_told, grows, check_refused}
use Rattle.repl_target.proofs.lemmas.replication.RunsConcluded.{found-is}
use Rattle.repl_target.proofs.lemmas.ties.SettlingTakes.{read-docs}

-- ---- replacing one session

swapped : SessionValue → Option SessionValue → Option SessionValue
swapped t None = None
swapped t (Some s) = Some t

swap : (id : SessionId) (t : SessionValue) → t.id.0 ≡ id.0 → (xs : List SessionValue) → session_in (with_session xs t) id ≡ swapped t (session_in xs id)
unfolding swapped
swap id t e [] = refl
swap id t e (x ∷ xs) = here (swap id t e xs) (is_of id x) refl
  where
    rest : Option SessionValue
    rest = session_in (with_session xs t) id

    same : is_of t.id x ≡ is_of id x
    same = ap (λ n. x.id.0 == n) e

    here : rest ≡ swapped t (session_in xs id) → (b : Bool) → is_of id x ≡ b → session_in (with_session (x ∷ xs) t) id ≡ swapped t (session_in (x ∷ xs) id)
    here more true h =
        ap (λ y. cond (is_of id y) (Some y) rest) (cond-true (is_of t.id x) t x (same ∙ h)) ∙ cond-true (is_of id t) (Some t) rest (eq-eqb t.id.0 id.0 e)
        ∙ sym (ap (swapped t) (cond-true (is_of id x) (Some x) (session_in xs id) h))
    here more false h =
        ap (λ y. cond (is_of id y) (Some y) rest) (cond-false (is_of t.id x) t x (same ∙ h)) ∙ cond-false (is_of id x) (Some x) rest h ∙ more
        ∙ sym (ap (swapped t) (cond-false (is_of id x) (Some x) (session_in xs id) h))

pub swap_some : (id : SessionId) (s t : SessionValue) (xs : List SessionValue) → t.id.0 ≡ id.0 → session_in xs id ≡ Some s → session_in (with_session xs t) id ≡ Some t
unfolding swapped
swap_some id s t xs e is = swap id t e xs ∙ ap (swapped t) is

-- a change that keeps id and count
changed_reads : (p : PeerValue) (id : SessionId) (change : SessionValue → SessionValue) → ((s : SessionValue) → ((change s).id ≡ s.id) × ((change s).counts.read ≡ s.counts.read)) → read_in (on_session p id change).sessions id ≡ read_in p.sessions id
changed_reads p id change keeps = go (session_in p.sessions id) refl
  where
    go : (o : Option SessionValue) → session_in p.sessions id ≡ o → read_in (on_found p change o).sessions id ≡ read_in p.sessions id
    go None e = refl
    go (Some s) e =
        let held = session_found p.sessions id s e in
        let k = keeps s in
        ap read_of (swap_some id s (change s) p.sessions (ap (λ (i : SessionId). i.0) k.0 ∙ held.1) e) ∙ k.1 ∙ sym (ap read_of e)

-- ---- the calls

pub append_reads : (p : PeerValue) (id : SessionId) (w : WindowValue) → read_in (after_append p id w).sessions id ≡ read_in p.sessions id
append_reads p id w = changed_reads p id (λ s. with_window w s (append_in w s)) (λ s. stays s (append_in w s))
  where
    stays : (s : SessionValue) (r : Result (Unit {0}) TargetFault) → ((with_window w s r).id ≡ s.id) × ((with_window w s r).counts.read ≡ s.counts.read)
    stays s (Ok done) = (refl, refl)
    stays s (Err fault) = (refl, refl)

pub record_reads : (p : PeerValue) (id : SessionId) (at : ℕ) → read_in (after_record p id at).sessions id ≡ read_in p.sessions id
record_reads p id at = changed_reads p id (recorded_at at) (λ s. (refl, refl))

-- a session that has begun has read nothing
pub begun_reads : (source target : PeerValue) (plan : Plan) → begins_answer source target plan ≡ Ok tt → read_in (after_begins source target plan).sessions plan.session ≡ 0
begun_reads source target plan ok =
    let new = new_session plan.session (beginning_between source target plan.chosen) plan.at in
    ap (λ (q : PeerValue). read_in q.sessions plan.session) (ap (begun target new) ok) ∙ ap read_of (cond-true (is_of plan.session new) (Some new) (session_in target.sessions plan.session) (eq-eqb plan.session.0 plan.session.0 refl))

-- ---- settling

-- an error before the documents adds nothing
refused_none : (p : PeerValue) (id : SessionId) (parcel : ParcelValue) (fault : TargetFault) (n : ℕ) → settle_check p id parcel ≡ Err fault → taken (Err fault) n ≡ 0
refused_none p id parcel fault n h = check_refused (λ why. taken (Err why) n ≡ 0) p id parcel fault refl refl refl refl h

module _ (refuses : Document → Bool) (p : PeerValue) (id : SessionId) (l : LawfulSessions refuses p) where
  -- the first n documents
  some_read : (s : SessionValue) (w : WindowValue) (docs : List Document) (n : ℕ) → session_in p.sessions id ≡ Some s → n ≤ settled_before refuses w (settling_of p s) docs
      → (q : PeerValue) → q ≡ after_documents refuses p s w (take n docs) → read_in q.sessions id ≡ read_in p.sessions id + n
  some_read s w docs n is within q e =
      let held = session_found p.sessions id s is in
      let z = settle_docs refuses w (settling_of p s) (take n docs) in
      let h = grows refuses w (settling_of p s) (take n docs) in
      let now : read_in (with_settling p z).sessions id ≡ z.session.counts.read = ap read_of (swap_some id s z.session p.sessions (ap (λ (i : SessionId). i.0) h.id ∙ held.1) is) in
      let read = read-docs refuses w n (settling_of p s) docs within in
      let was : read_in p.sessions id ≡ s.counts.read = ap read_of is in
      let at : read_in q.sessions id ≡ read_in (with_settling p z).sessions id = ap (λ (x : PeerValue). read_in x.sessions id) e in
      omega (arith, now, read, was, at)

  -- all documents, and the mark
  all_read : (s : SessionValue) (w : WindowValue) (parcel : ParcelValue) → session_in p.sessions id ≡ Some s → settled_before refuses w (settling_of p s) parcel.docs ≡ length parcel.docs
      → (q : PeerValue) → q ≡ after_all refuses p s w parcel → read_in q.sessions id ≡ read_in p.sessions id + length parcel.docs
  all_read s w parcel is all q e =
      let held = session_found p.sessions id s is in
      let z = settle_docs refuses w (settling_of p s) parcel.docs in
      let h = grows refuses w (settling_of p s) parcel.docs in
      let number : z.session.id.0 ≡ id.0 = ap (λ (i : SessionId). i.0) h.id ∙ held.1 in
      let there : session_in (with_settling p z).sessions id ≡ Some z.session = swap_some id s z.session p.sessions number is in
      let read : z.session.counts.read ≡ s.counts.read + length parcel.docs =
      ap (λ ds. (settle_docs refuses w (settling_of p s) ds).session.counts.read) (sym (take-length parcel.docs)) ∙ read-docs refuses w (length parcel.docs) (settling_of p s) parcel.docs (omega (arith, all)) in
      let done = with_done w parcel z.session in
      let now : read_in (after_all refuses p s w parcel).sessions id ≡ z.session.counts.read =
      cond_both (covers_window (with_settling p z) w) (record (with_settling p z) { sessions = with_session (with_settling p z).sessions done }) (with_settling p z) (λ (x : PeerValue). read_in x.sessions id ≡ z.session.counts.read)
      (λ _. ap read_of (swap_some id z.session done (with_settling p z).sessions number there))
      (λ _. ap read_of there) in
      let was : read_in p.sessions id ≡ s.counts.read = ap read_of is in
      let at : read_in q.sessions id ≡ read_in (after_all refuses p s w parcel).sessions id = ap (λ (x : PeerValue). read_in x.sessions id) e in
      omega (arith, now, read, was, at)

  at_read : (s : SessionValue) (w : WindowValue) (parcel : ParcelValue) → session_in p.sessions id ≡ Some s → (result : Result Settled TargetFault) (q : PeerValue) → SettlesAt refuses p parcel s w result q
      → read_in q.sessions id ≡ read_in p.sessions id + taken result (length parcel.docs)
  at_read s w parcel is (Ok settled) q h = all_read s w parcel is h.0.all q h.0.peer
  at_read s w parcel is (Err (faults.Uncovered seq uncovered rev)) q h = all_read s w parcel is h.0.all q h.0.peer
  at_read s w parcel is (Err (faults.Stopped n rest cause)) q h = some_read s w parcel.docs n is h.0.within q h.0.peer
  at_read s w parcel is (Err fault) q h = absurd h

  pub settle_reads : (parcel : ParcelValue) (result : Result Settled TargetFault) (q : PeerValue) → SettleGives refuses p id parcel result q → read_in q.sessions id ≡ read_in p.sessions id + taken result (length parcel.docs)
  settle_reads parcel result q gives = go (settle_check p id parcel) refl gives
    where
      go : (r : Result (SessionValue × WindowValue) TargetFault) → settle_check p id parcel ≡ r → Settles refuses p parcel r result q → read_in q.sessions id ≡ read_in p.sessions id + taken result (length parcel.docs)
      go (Err fault) e h =
          let none : taken result (length parcel.docs) ≡ 0 = ap (λ r. taken r (length parcel.docs)) h.0 ∙ refused_none p id parcel fault (length parcel.docs) e in
          let same : read_in q.sessions id ≡ read_in p.sessions id = ap (λ (x : PeerValue). read_in x.sessions id) h.1 in
          omega (arith, none, same)
      go (Ok at) e h =
          let t = settle_told p id parcel at e in
          let is : session_in p.sessions id ≡ Some at.0 = ap (λ n. find (λ (s : SessionValue). s.id.0 == n) p.sessions) (sym t.number) ∙ found-is p.sessions at.0.id at.0 l.distinct t.held refl in
          at_read at.0 at.1 parcel is result q h
