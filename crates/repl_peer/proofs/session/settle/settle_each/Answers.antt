use Rattle.proof_prelude.proofs.{◌≡◌, ◌≤◌, ℕ, Some, List, length, slice_get, slice_get-get_or, true, false, is_some, refl, sym, ap, ◌∙◌, subst, arith, list_any, bytes_eq, false≢true}
use Rattle.rev_tree.specs.{Origin}
use Rattle.rev_tree.specs.declared.origin.Origin.TheVariants.{Feed}
use Rattle.doc_json.specs.Document.{Document}
use Rattle.couch_base.specs.{DatabaseValue, WindowValue, RowValue, all_member}
use Rattle.range_front.specs.{FrontValue, is_done}
use Rattle.repl_peer.specs.{SessionValue, session_value, Settling, has_row, seq_in, settling_at, cause_at, stops_in}
use Rattle.repl_peer.proofs.{Among-at, reached_at, reached_end, reached_kept, reached_none, stored_at, whole_at}
use Rattle.repl_peer.proofs.session.settle.settle_each.Goals as goal

pub unreachable-requires : goal.unreachable-requires
unreachable-requires g c =
    let stored = c.requires.rows in
    let s = session_value c.session.inside in
    let at : slice_get s.windows c.args.place ≡ Some stored.0 = ap (λ (ws : List WindowValue). slice_get ws c.args.place) (ap (λ (s : SessionValue). s.windows) c.session.view_is ∙ c.loop-i.invariant.windows) ∙ stored.1 in
    let front : s.front ≡ c.args.session.now.front = ap (λ (s : SessionValue). s.front) c.session.view_is ∙ c.loop-i.invariant.front in
    let remains : is_done s.front stored.0.lo stored.0.hi ≡ false = ap (λ (f : FrontValue). is_done f stored.0.lo stored.0.hi) front ∙ c.requires.remains stored.0 stored.1 in
    let whole = whole_at s.front c.session.inside.windows.items c.args.place stored.0 c.index.result.now c.session.invariant.thinned at c.index.ensures remains in
    false≢true (ap is_some (sym c.in_default.is) ∙ c.rows.ensures.whole ∙ whole)

pub seq_from-found-requires-clause-there : goal.seq_from-found-requires-clause-there
seq_from-found-requires-clause-there g c =
    let stored = c.requires.rows in
    let docs = c.args.docs.now in
    let d = c.index-docs-i.result in
    let same = (stored_at c.session.inside.windows.items c.args.place stored.0 c.index.result.now (ap (λ (ws : List WindowValue). slice_get ws c.args.place) (ap (λ (s : SessionValue). s.windows) c.session.view_is ∙ c.loop-i.invariant.windows) ∙ stored.1) c.index.ensures).window in
    let at = slice_get-get_or docs c.loop-i.i d (omega (arith, c.loop-i-test.true)) ∙ ap (λ (x : Document). Some x) (sym c.index-docs-i.is) in
    let there : has_row stored.0 d ≡ true = all_member (has_row stored.0) d docs stored.2 (Among-at docs _ d at) in
    subst (λ (rows : List RowValue). list_any (λ row. bytes_eq row.id c.id.result.now) rows ≡ true) (ap (λ (w : WindowValue). w.rows) (sym same) ∙ sym c.in-Some.ensures.rows)
    (subst (λ (i : List ℕ). list_any (λ row. bytes_eq row.id i) stored.0.rows ≡ true) (sym c.id.ensures.part) there)

pub loop-i-preserved : goal.loop-i-preserved
loop-i-preserved g c =
    let before : Settling = settling_at c.args.db.now c.args.session.now in
    let mid : Settling = settling_at c.loop-i.db c.loop-i.session in
    let after : Settling = settling_at c.settle_one.new.db c.settle_one.new.session in
    let docs = c.args.docs.now in
    let i = c.loop-i.i in
    let d = c.index-docs-i.result in
    let inv = c.loop-i.invariant in
    let done = c.in_default-settle_one.ensures in
    let at = slice_get-get_or docs i d (omega (arith, c.loop-i-test.true)) ∙ ap (λ (x : Document). Some x) (sym c.index-docs-i.is) in
    let step = done.settled in
    let window = λ (w : WindowValue) (is : slice_get c.args.session.now.windows c.args.place ≡ Some w).
    (stored_at c.session.inside.windows.items c.args.place w c.index.result.now (ap (λ (ws : List WindowValue). slice_get ws c.args.place) (ap (λ (s : SessionValue). s.windows) c.session.view_is ∙ inv.windows) ∙ is) c.index.ensures).window in
    let rows = λ (w : WindowValue) (is : slice_get c.args.session.now.windows c.args.place ≡ Some w).
    c.in-Some.ensures.rows ∙ ap (λ (v : WindowValue). v.rows) (window w is) in
    record {
      reached = λ w is.
          let origin : c.seq_from-found.result.1 ≡ seq_in w.rows d.id = c.seq_from-found.ensures.seq ∙ (λ j. seq_in (rows w is j) (c.id.ensures.part j)) in
          reached_at (g.F.WriteFilter.refuses c.args.filter.now) w before mid after docs i d (inv.reached w is) at step.goes
          (step.step w (λ j. let o : Origin = Feed (ap (λ (s : SessionValue). s.id) c.session.view_is j) (origin j) in o));
      row = λ w is. let within = c.seq_from-found.ensures.within in subst (λ (l : List RowValue). c.seq_from-found.result.0 ≤ length l) (rows w is) within;
      made = c.take_tree-tree.ensures.made docs inv.made;
      room = omega (arith, inv.room, done.read);
      front = done.front ∙ inv.front;
      windows = done.windows ∙ inv.windows;
      indexed = λ base h. done.indexed base (inv.indexed base h);
    }

pub returns-in-Err-clause-reached : goal.returns-in-Err-clause-reached
returns-in-Err-clause-reached g c = λ w is.
    reached_kept (g.F.WriteFilter.refuses c.args.filter.now) w (settling_at c.args.db.now c.args.session.now) c.loop-i.db c.settle_one.new.db c.loop-i.session c.settle_one.new.session c.args.docs.now c.loop-i.i
    c.in-Err.ensures.db c.in-Err.ensures.session (c.loop-i.invariant.reached w is)

pub returns-in-Err-clause-why : goal.returns-in-Err-clause-why
returns-in-Err-clause-why g c =
    let docs = c.args.docs.now in
    let d = c.index-docs-i.result in
    let at = slice_get-get_or docs c.loop-i.i d (omega (arith, c.loop-i-test.true)) ∙ ap (λ (x : Document). Some x) (sym c.index-docs-i.is) in
    (d, at, c.in-Err.ensures.why ∙ ap (λ (db : DatabaseValue). cause_at (stops_in (g.F.WriteFilter.refuses c.args.filter.now) db d)) (sym c.in-Err.ensures.db))

pub returns-in-Err-clause-indexed : goal.returns-in-Err-clause-indexed
returns-in-Err-clause-indexed g c = λ base h. c.in-Err.ensures.indexed base (c.loop-i.invariant.indexed base h)

pub returns-clause-ok : goal.returns-clause-ok
returns-clause-ok g c = λ w is.
    reached_end (g.F.WriteFilter.refuses c.args.filter.now) w (settling_at c.args.db.now c.args.session.now) (settling_at c.loop-i.db c.loop-i.session) c.args.docs.now c.loop-i.i (c.loop-i.invariant.reached w is) (omega (arith, c.loop-i-test.false))

pub settle_one-requires-clause-tree : goal.settle_one-requires-clause-tree
settle_one-requires-clause-tree g c =
    let docs = c.args.docs.now in
    let d = c.index-docs-i.result in
    let at = slice_get-get_or docs c.loop-i.i d (omega (arith, c.loop-i-test.true)) ∙ ap (λ (x : Document). Some x) (sym c.index-docs-i.is) in
    c.take_tree-tree.ensures.tree docs d c.loop-i.invariant.made at

pub loop-i-init : goal.loop-i-init
loop-i-init g c = record {
  reached = λ w is. reached_none (g.F.WriteFilter.refuses c.args.filter.now) w (settling_at c.args.db.now c.args.session.now) c.args.docs.now;
  row = λ w is. omega arith;
  made = c.requires.made;
  room = omega (arith, c.requires.room);
  front = refl;
  windows = refl;
  indexed = λ base h. h;
}
