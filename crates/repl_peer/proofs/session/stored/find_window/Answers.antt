use Rattle.proof_prelude.proofs.{◌≡◌, ◌==◌, Some, slice_get, is_some, refl, sym, ap, ◌∙◌, arith, and_left, and_right, false≢true, slice_get_within, slice_get_read, same_Some, length-map, ne_eqb, ltb-true, lt-ltb}
use Rattle.couch_base.specs.{WindowValue}
use Rattle.repl_peer.specs.{StoredWindowValue, windows_of}
use Rattle.repl_peer.proofs.{window_at, no_window, window_at_place}
use Rattle.repl_peer.proofs.session.stored.find_window.Goals as goal
use Rattle.repl_peer.proofs.session.stored.find_window.Goals.{In-Some}

there : (c : In-Some) → slice_get (windows_of c.args.windows.now) c.place_from-place.result ≡ Some c.in-Some.window.now.window
there c =
    let look = c.in-Some.ensures.lookup in
    window_at_place c.args.windows.now c.place_from-place.result c.in-Some.window.now (slice_get_read c.args.windows.now _ c.place_from-place.result c.in-Some.window.now refl (ltb-true _ _ (sym look.0)) look.1)

pub returns-in-Some-clause-some : goal.returns-in-Some-clause-some
returns-in-Some-clause-some c =
    let at = there (goal.at.returns-in-Some-clause-some c).In-Some in
    window_at c.requires.0 (windows_of c.args.windows.now) c.args.lo c.args.hi c.place_from-place.result c.in-Some.window.now.window c.place_from-place.ensures at (sym c.lo.ensures.value ∙ c.if-lo.true) (sym c.hi.ensures.value ∙ c.if-hi.true)

pub returns-in_default-clause-none : goal.returns-in_default-clause-none
returns-in_default-clause-none c =
    let at = there (goal.at.returns-in_default-clause-none c).In-Some in
    no_window c.requires.0 (windows_of c.args.windows.now) c.args.lo c.args.hi c.place_from-place.result c.requires.1 c.place_from-place.ensures
    (λ u so. let same = same_Some c.in-Some.window.now.window u (sym at ∙ so) in
    and_right (u.lo == c.args.lo) (u.hi == c.args.hi) (ne_eqb u.hi c.args.hi (λ e. c.if-hi.false (c.hi.ensures.value ∙ ap (λ (y : WindowValue). y.hi) same ∙ e))))

pub returns-in_default-2-clause-none : goal.returns-in_default-2-clause-none
returns-in_default-2-clause-none c =
    let at = there (goal.at.returns-in_default-2-clause-none c).In-Some in
    no_window c.requires.0 (windows_of c.args.windows.now) c.args.lo c.args.hi c.place_from-place.result c.requires.1 c.place_from-place.ensures
    (λ u so. let same = same_Some c.in-Some.window.now.window u (sym at ∙ so) in
    and_left (u.lo == c.args.lo) (u.hi == c.args.hi) (ne_eqb u.lo c.args.lo (λ e. c.if-lo.false (c.lo.ensures.value ∙ ap (λ (y : WindowValue). y.lo) same ∙ e))))

pub returns-in_default-3-clause-none : goal.returns-in_default-3-clause-none
returns-in_default-3-clause-none c =
    no_window c.requires.0 (windows_of c.args.windows.now) c.args.lo c.args.hi c.place_from-place.result c.requires.1 c.place_from-place.ensures
    (λ u so. absurd (false≢true (ap is_some (sym c.in_default.is) ∙ c.get.ensures.lookup.0 ∙ lt-ltb _ _ (let there = slice_get_within (windows_of c.args.windows.now) c.place_from-place.result u so in omega (arith, there, length-map c.args.windows.now (λ (v : StoredWindowValue). v.window))))))
