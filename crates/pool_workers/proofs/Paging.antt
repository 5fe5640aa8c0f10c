-- The windows that a run's session stores are pages of the source.
use Rattle.proof_prelude.proofs.{◌≡◌, ℕ, ◌+◌, Bool, false, cond, List, [], ◌∷◌, ◌++◌, length, Option, Some, None, Result, Ok, is_ok, refl, sym, ap, ◌∙◌, subst, inl, inr, arith, length-append, and_parts, cond_both, false≢true, both_ways, eq-eqb, leb-true}
use Rattle.rev_tree.specs.{SessionId}
use Rattle.doc_json.specs.Document.{Document}
use Rattle.couch_base.specs.{Among, Among-map, Among-push, DatabaseValue, WindowValue, ParcelValue}
use Rattle.repl_peer.specs.{Settled, TargetFault, PeerValue, SessionValue, is_of, session_in, with_session, GivesUnlessMemory, found_answer, on_found, append_in, append_answer, with_window, after_append, after_record, after_conclude, SettleGives}
use Rattle.repl_peer.proofs.{session_found}
use Rattle.repl_target.specs.{Plan, Record, Conclude, IsPageOf}
use Rattle.repl_target.proofs.{Stays, call_keeps, settling_keeps}
use Rattle.pool_workers.specs.{IsNext, AllowsMore, IsOneLess, HasPages, KeepsPages, HasNoWindows}

-- ---- one window

pub next_page : (source : DatabaseValue) (plan : Plan) (w : WindowValue) → IsNext source plan w → IsPageOf source plan.chosen w
next_page source plan w n = record {
  since = w.lo;
  goal = source.update_seq;
  limit = plan.batch;
  some = leb-true 1 plan.batch (and_parts _ _ n.0).0;
  above = n.1;
  within = omega arith;
  is = n.2;
}

-- ---- the number of windows

allowed_none : (o : Option ℕ) → AllowsMore o 0 o
allowed_none None = refl
allowed_none (Some n) = omega arith

one_more : (o : Option ℕ) (n : ℕ) (more less : Option ℕ) → AllowsMore o n more → IsOneLess more less → AllowsMore o (n + 1) less
one_more None n None less h k = k
one_more None n (Some m) less h k = cc
one_more (Some stop_after) n None less h k = absurd h
one_more (Some stop_after) n (Some m) None h k = absurd k
one_more (Some stop_after) n (Some m) (Some l) h k = omega (arith, h, k)

-- ---- a session's windows

module _ (source : DatabaseValue) (plan : Plan) (run : SessionId) where
  abbrev Keeps : Option ℕ → SessionValue → Type 0
  Keeps more s = s.id ≡ run → HasPages source plan more s.windows

  keeps-stays : (more : Option ℕ) (s t : SessionValue) → Stays s t → Keeps more s → Keeps more t
  keeps-stays more s t k h = λ own. subst (HasPages source plan more) (sym k.windows) (h (sym k.id ∙ own))

  pub starts_pages : (sessions : List SessionValue) → HasNoWindows run sessions → KeepsPages source plan run plan.stop_after sessions
  starts_pages sessions fresh s m own = subst (HasPages source plan plan.stop_after) (sym (fresh s m own)) (λ w n. absurd n, allowed_none plan.stop_after)

  -- a call that stores no window
  pub pages_record : (more : Option ℕ) (p : PeerValue) (at : ℕ) (q : PeerValue) → q ≡ after_record p run at → KeepsPages source plan run more p.sessions → KeepsPages source plan run more q.sessions
  pages_record more p at q is h = subst (λ (x : PeerValue). KeepsPages source plan run more x.sessions) (sym is) (call_keeps (Keeps more) (keeps-stays more) (λ _. false) p (Record run at) tt h)

  pub pages_conclude : (more : Option ℕ) (p : PeerValue) (at : ℕ) (q : PeerValue) → q ≡ after_conclude p run at → KeepsPages source plan run more p.sessions → KeepsPages source plan run more q.sessions
  pages_conclude more p at q is h = subst (λ (x : PeerValue). KeepsPages source plan run more x.sessions) (sym is) (call_keeps (Keeps more) (keeps-stays more) (λ _. false) p (Conclude run at) tt h)

  pub pages_settle : (more : Option ℕ) (refuses : Document → Bool) (p : PeerValue) (parcel : ParcelValue) (result : Result Settled TargetFault) (q : PeerValue) → SettleGives refuses p run parcel result q → KeepsPages source plan run more p.sessions → KeepsPages source plan run more q.sessions
  pages_settle more refuses p = settling_keeps (Keeps more) (keeps-stays more) refuses p run

  -- the next window is stored
  with_next : (more less : Option ℕ) (w : WindowValue) (ws : List WindowValue) → IsNext source plan w → IsOneLess more less → HasPages source plan more ws → HasPages source plan less (ws ++ w ∷ [])
  with_next more less w ws next one h = (
    λ v m. elim (Among-push v ws w m) [ inl old ↦ h.0 v old | inr e ↦ subst (IsNext source plan) (sym e) next ],
    subst (λ n. AllowsMore plan.stop_after n less) (sym (length-append ws (w ∷ []))) (one_more plan.stop_after (length ws) more less h.1 one),
  )

  in_place : (more less : Option ℕ) (w : WindowValue) (sessions : List SessionValue) (s : SessionValue) → Among s sessions → s.id.0 ≡ run.0 → IsNext source plan w → IsOneLess more less → KeepsPages source plan run more sessions
      → KeepsPages source plan run less (with_session sessions (with_window w s (Ok tt)))
  in_place more less w sessions s held number next one h t m own =
      let now = with_window w s (Ok tt) in
      let k = Among-map (λ (x : SessionValue). cond (is_of s.id x) now x) t sessions m in
      let here : HasPages source plan less now.windows = with_next more less w s.windows next one (h s held (λ i. record { 0 = number i })) in
      let at : (cond (is_of s.id k.0) now k.0).id ≡ run → HasPages source plan less (cond (is_of s.id k.0) now k.0).windows =
      cond_both (is_of s.id k.0) now k.0 (λ (x : SessionValue). x.id ≡ run → HasPages source plan less x.windows)
      (λ _ _. here)
      (λ other same. absurd (both_ways _ other (eq-eqb k.0.id.0 s.id.0 (ap (λ (i : SessionId). i.0) same ∙ sym number)))) in
      subst (λ (x : SessionValue). x.id ≡ run → HasPages source plan less x.windows) (sym k.2) at own

  pub pages_append : (more less : Option ℕ) (p : PeerValue) (w : WindowValue) (q : PeerValue) (done : Unit {0}) → IsNext source plan w → IsOneLess more less → GivesUnlessMemory (Ok done) (append_answer p run w) → q ≡ after_append p run w
      → KeepsPages source plan run more p.sessions → KeepsPages source plan run less q.sessions
  pages_append more less p w q done next one gives is h = subst (λ (x : PeerValue). KeepsPages source plan run less x.sessions) (sym is) (go (session_in p.sessions run) refl gives)
    where
      change : SessionValue → SessionValue
      change s = with_window w s (append_in w s)

      go : (o : Option SessionValue) → session_in p.sessions run ≡ o → GivesUnlessMemory (Ok done) (found_answer (append_in w) o) → KeepsPages source plan run less (on_found p change o).sessions
      go None e g = absurd (false≢true (sym (ap is_ok g)))
      go (Some s) e g =
          let found = session_found p.sessions run s e in
          subst (λ r. KeepsPages source plan run less (with_session p.sessions (with_window w s r))) g (in_place more less w p.sessions s found.0 found.1 next one h)
