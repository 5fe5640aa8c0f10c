use Rattle.proof_prelude.proofs.{[], length, is_some, sym, ap, ◌∙◌, subst, arith, nat_eq, lookup}
use Rattle.rev_tree.specs.{falls, mark_of, noted_from, Distinct, place_of, revs_in}
use Rattle.rev_tree.proofs.{none_of, is_some-node_of, place_none, place_at, read_at, length-revs_in, index_empty, index_gone, index_held, index_many, unmarked, marks_within}
use Rattle.rev_tree.proofs.nodes.Nodes.place_in.Goals as goal

pub fallen_to-requires-clause-once : goal.fallen_to-requires-clause-once
fallen_to-requires-clause-once c = subst (λ l. Distinct (revs_in l)) (sym c.deref.ensures.value) c.self.invariant.linked.once

pub fallen_to-requires-clause-falls : goal.fallen_to-requires-clause-falls
fallen_to-requires-clause-falls c =
    let items = c.self.inside.list.items in
    let revs = revs_in items in
    let gone = index_gone revs c.self.inside.places.entries c.self.invariant.index (sym c.is_empty.ensures ∙ c.if-is_empty.true) in
    ap (λ l. falls (revs_in l)) c.deref.ensures.value
    ∙ index_empty revs (omega (arith, c.if-as_slice-gt-MOST_WALKED.true, c.as_slice.ensures.len, length-revs_in items)) (ap length gone)

pub returns-then-is_empty-clause-place : goal.returns-then-is_empty-clause-place
returns-then-is_empty-clause-place c =
    c.fallen_to.ensures ∙ ap (λ l. place_of l c.args.rev.now) c.deref.ensures.value ∙ ap (λ v. place_of v.items c.args.rev.now) c.self.view_is

pub returns-in_err-place-clause-place : goal.returns-in_err-place-clause-place
returns-in_err-place-clause-place c =
    let items = c.self.inside.list.items in
    let revs = revs_in items in
    let index = c.self.invariant.index ∙ index_many revs (omega (arith, c.if-as_slice-gt-MOST_WALKED.true, c.as_slice.ensures.len, length-revs_in items)) (index_held revs c.self.inside.places.entries c.self.invariant.index (sym c.is_empty.ensures ∙ c.if-is_empty.false)).1 in
    let none = sym (ap (λ m. lookup (nat_eq m) (noted_from [] 0 revs)) (c.mark_of.ensures ∙ (λ i. mark_of (record { generation = c.generation.ensures.part i; sig = c.sig_bytes.ensures i })))) ∙ ap (lookup (nat_eq c.mark_of.result)) (sym index) ∙ sym c.get.ensures ∙ c.in_err-place.was in
    c.from_residual.ensures
    ∙ sym (none_of _ (place_none items c.args.rev.now 0 ∙ is_some-node_of items c.args.rev.now ∙ unmarked [] 0 revs c.args.rev.now (ap is_some none)))
    ∙ ap (λ v. place_of v.items c.args.rev.now) c.self.view_is

pub index-requires : goal.index-requires
index-requires c =
    let items = c.self.inside.list.items in
    let revs = revs_in items in
    let index = c.self.invariant.index ∙ index_many revs (omega (arith, c.if-as_slice-gt-MOST_WALKED.true, c.as_slice.ensures.len, length-revs_in items)) (index_held revs c.self.inside.places.entries c.self.invariant.index (sym c.is_empty.ensures ∙ c.if-is_empty.false)).1 in
    let low = marks_within revs c.mark_of.result c.in_ok-place.place (ap (lookup (nat_eq c.mark_of.result)) (sym index) ∙ sym c.get.ensures ∙ c.in_ok-place.was) in
    omega (arith, low, length-revs_in items)

pub returns-then-is_of-clause-place : goal.returns-then-is_of-clause-place
returns-then-is_of-clause-place c =
    let items = c.self.inside.list.items in
    let revs = revs_in items in
    let index = c.self.invariant.index ∙ index_many revs (omega (arith, c.if-as_slice-gt-MOST_WALKED.true, c.as_slice.ensures.len, length-revs_in items)) (index_held revs c.self.inside.places.entries c.self.invariant.index (sym c.is_empty.ensures ∙ c.if-is_empty.false)).1 in
    let low = marks_within revs c.mark_of.result c.in_ok-place.place (ap (lookup (nat_eq c.mark_of.result)) (sym index) ∙ sym c.get.ensures ∙ c.in_ok-place.was) in
    sym (place_at items c.self.invariant.linked.once c.in_ok-place.place c.index.result.now c.args.rev.now (read_at items c.in_ok-place.place c.index.result.now (omega (arith, low, length-revs_in items)) c.index.ensures)
    (sym c.is_of.ensures ∙ c.if-is_of.true))
    ∙ ap (λ v. place_of v.items c.args.rev.now) c.self.view_is
