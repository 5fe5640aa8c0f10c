use Rattle.proof_prelude.proofs.{◌≡◌, ◌<◌, ◌≤◌, ◌==◌, ◌++◌, ◌∷◌, [], true, Ok, Err, if◌then◌else◌, nat_lt, refl, sym, ap, ◌∙◌, subst, rules, map_push, cond-true, eq-eqb, lt-ltb}
use Rattle.couch_base.specs.{WindowValue}
use Rattle.range_front.specs.{FrontValue, appended, end_of}
use Rattle.repl_peer.specs.{StoredWindowValue, append_in, next_in, session_value, windows_of, IsThinnedWhereDone}
use Rattle.repl_peer.specs.declared.fault.TargetFault.TheVariants as faults
use Rattle.repl_peer.proofs.{thinned_grown, bounds_grown}
use Rattle.repl_peer.proofs.session.Session.append.Goals as goal

pub invariant_of-self-2 : goal.invariant_of-self-2
invariant_of-self-2 c =
    let stored : StoredWindowValue = record { window = c.args.ready; whole = true } in
    let pushed : c.push.new.self.items ≡ c.self.inside.windows.items ++ stored ∷ [] = search rules in
    let windows : windows_of c.push.new.self.items ≡ windows_of c.self.inside.windows.items ++ c.args.ready ∷ [] = ap windows_of pushed ∙ map_push (λ (v : StoredWindowValue). v.window) c.self.inside.windows.items stored in
    let f = c.self.inside.front.front in
    let same = c.window-window.ensures in
    let at = sym (c.lo.ensures.value ∙ ap (λ (w : WindowValue). w.lo) same) ∙ c.if-lo-expected.false ∙ c.end-expected.ensures.value in
    let ends = c.hi-hi.ensures.value ∙ ap (λ (w : WindowValue). w.hi) same in
    record {
      front = c.append.ensures.front;
      bounds = bounds_grown f c.append.new.self.front (windows_of c.self.inside.windows.items) (windows_of c.self.inside.windows.items) (windows_of c.push.new.self.items) c.args.ready c.hi-hi.result c.self.invariant.bounds refl windows at ends c.in_ok-append.ensures.ok;
      start = subst (λ (g : FrontValue). g.start ≤ c.self.inside.recorded) (sym c.in_ok-append.ensures.ok) c.self.invariant.start;
      read = c.self.invariant.read;
      thinned = subst (λ (g : FrontValue). IsThinnedWhereDone g c.push.new.self.items) (sym c.in_ok-append.ensures.ok) (subst (IsThinnedWhereDone (appended f c.hi-hi.result)) (sym pushed) (thinned_grown f c.self.inside.windows.items c.args.ready c.hi-hi.result c.self.invariant.thinned));
    }

pub returns-then-hi-self-clause-answer : goal.returns-then-hi-self-clause-answer
returns-then-hi-self-clause-answer c =
    let w = c.args.ready in
    let s = session_value c.self.inside in
    let same = c.window-window.ensures in
    let life : w.life ≡ s.life = sym (c.life.ensures.value ∙ ap (λ (w : WindowValue). w.life) same) ∙ c.if-life-self.false in
    let lo : w.lo ≡ end_of s.front = sym (c.lo.ensures.value ∙ ap (λ (w : WindowValue). w.lo) same) ∙ c.if-lo-expected.false ∙ c.end-expected.ensures.value in
    let above : s.goal < w.hi = subst (λ n. s.goal < n) (c.hi-hi.ensures.value ∙ ap (λ (w : WindowValue). w.hi) same) c.if-hi-self.true in
    let told : append_in w s ≡ Err faults.PastGoal =
    cond-true (w.life == s.life) (next_in w s) (Err (faults.OtherLife s.life)) (eq-eqb w.life s.life life)
    ∙ cond-true (w.lo == end_of s.front) (if nat_lt s.goal w.hi then Err faults.PastGoal else Ok tt) (Err (faults.Gap (end_of s.front))) (eq-eqb w.lo (end_of s.front) lo)
    ∙ cond-true (nat_lt s.goal w.hi) (Err faults.PastGoal) (Ok tt) (lt-ltb s.goal w.hi above) in
    sym told ∙ ap (append_in w) c.self.view_is
