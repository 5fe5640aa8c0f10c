use Rattle.proof_prelude.proofs.{◌≡◌, ◌≤◌, List, Some, Ok, is_some, slice_get, refl, sym, ap, ◌∙◌, subst, false≢true, option_map}
use Rattle.couch_base.specs.{RowValue, WindowValue}
use Rattle.range_front.specs.{FrontValue, is_done, finished, finish_answer}
use Rattle.repl_peer.specs.{window_bounds, SessionValue, first_unknown, with_checked, known_of, session_value, windows_of, IsThinnedWhereDone}
use Rattle.repl_peer.proofs.{stored_at, whole_at, remains_of, within_stored, thinned_marked, bounds_done}
use Rattle.repl_peer.proofs.session.settle.mark_window.Goals as goal

pub unreachable-requires : goal.unreachable-requires
unreachable-requires c =
    let s = session_value c.session.inside in
    let w = c.requires.stored.0 in
    let at : slice_get s.windows c.args.checked.place ≡ Some w = ap (λ (x : SessionValue). slice_get x.windows c.args.checked.place) c.session.view_is ∙ c.requires.stored.1 in
    let ok : finish_answer s.front w.lo w.hi ≡ Ok tt = ap (λ (x : SessionValue). finish_answer x.front w.lo w.hi) c.session.view_is ∙ c.requires.stored.2 in
    let whole = whole_at s.front c.session.inside.windows.items c.args.checked.place w c.index-window.result.now c.session.invariant.thinned at c.index-window.ensures (remains_of s.front w.lo w.hi (is_done s.front w.lo w.hi) refl ok) in
    false≢true (ap is_some (sym c.in_default.is) ∙ c.rows.ensures.whole ∙ whole)

pub let_leaves_go_at-requires : goal.let_leaves_go_at-requires
let_leaves_go_at-requires c =
    let w = c.requires.stored.0 in
    let at : slice_get (windows_of c.session.inside.windows.items) c.args.checked.place ≡ Some w = ap (λ (x : SessionValue). slice_get x.windows c.args.checked.place) c.session.view_is ∙ c.requires.stored.1 in
    record { within = within_stored c.session.inside.windows.items c.args.checked.place w at }

pub invariant_of-session-2 : goal.invariant_of-session-2
invariant_of-session-2 c =
    let s = session_value c.session.inside in
    let vs = c.session.inside.windows.items in
    let w = c.requires.stored.0 in
    let at : slice_get s.windows c.args.checked.place ≡ Some w = ap (λ (x : SessionValue). slice_get x.windows c.args.checked.place) c.session.view_is ∙ c.requires.stored.1 in
    let ok : finish_answer s.front w.lo w.hi ≡ Ok tt = ap (λ (x : SessionValue). finish_answer x.front w.lo w.hi) c.session.view_is ∙ c.requires.stored.2 in
    let same = (stored_at vs c.args.checked.place w c.index-window.result.now at c.index-window.ensures).window in
    let lo = c.lo-lo.ensures.value ∙ ap (λ (v : WindowValue). v.lo) same in
    let hi = c.hi-hi.ensures.value ∙ ap (λ (v : WindowValue). v.hi) same in
    let front = c.in_default-finish.ensures.ok ∙ (λ i. finished c.session.inside.front.front (lo i) (hi i)) in
    record {
      front = c.finish.ensures.front;
      bounds = ap window_bounds c.let_leaves_go_at.ensures.windows ∙ bounds_done c.session.inside.front.front c.finish.new.self.front (windows_of vs) c.lo-lo.result c.hi-hi.result c.session.invariant.bounds c.in_default-finish.ensures.ok;
      start = subst (λ (g : FrontValue). g.start ≤ c.session.inside.recorded) (sym c.in_default-finish.ensures.ok) c.session.invariant.start;
      read = c.session.invariant.read;
      thinned = subst (λ (g : FrontValue). IsThinnedWhereDone g c.let_leaves_go_at.new.windows.items) (sym front) (thinned_marked s.front vs c.let_leaves_go_at.new.windows.items c.args.checked.place w c.session.invariant.thinned at ok c.let_leaves_go_at.ensures.thinner);
    }

pub returns-clause-ends : goal.returns-clause-ends
returns-clause-ends c =
    rw (← c.session.view_is)
    (λ w at.
    let same = (stored_at c.session.inside.windows.items c.args.checked.place w c.index-window.result.now at c.index-window.ensures).window in
    let rows = c.in-Some.ensures.rows ∙ ap (λ (v : WindowValue). v.rows) same in
    let lo = c.lo-lo.ensures.value ∙ ap (λ (v : WindowValue). v.lo) same in
    let hi = c.hi-hi.ensures.value ∙ ap (λ (v : WindowValue). v.hi) same in
    let front = c.in_default-finish.ensures.ok ∙ (λ i. finished c.session.inside.front.front (lo i) (hi i)) in (
      ap (λ (l : List RowValue). first_unknown (known_of c.args.db.now c.args.ledgered.now) l) (sym rows) ∙ sym c.first_unknown.ensures ∙ ap (option_map _) c.in_default-first_unknown.is,
      λ i. record (session_value c.session.inside) { front = front i; windows = c.let_leaves_go_at.ensures.windows i; counts = with_checked c.session.inside.counts c.args.checked.leaves c.args.checked.asked },
    ))
