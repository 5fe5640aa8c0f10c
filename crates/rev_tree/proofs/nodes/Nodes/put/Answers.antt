use Rattle.proof_prelude.proofs.{◌≡◌, ◌<◌, length, sym, ap, ◌∙◌, subst, rules, slice_get, nil_from_length}
use Rattle.rev_tree.specs.{first_of, leaves, no_origin, revs_in, tree_of, AddsHead}
use Rattle.rev_tree.proofs.{standing, adds_head, first_put, led_winner, some_head, first_at}
use Rattle.rev_tree.proofs.nodes.Nodes.put.Goals as goal

pub winner_after-requires-clause-before : goal.winner_after-requires-clause-before
winner_after-requires-clause-before c =
    let some : 0 < length c.args.self.now.items = search rules in
    let w = led_winner c.args.self.now.items c.args.best c.all.ensures.linked c.requires.led some in
    standing c.put_among-head.new.self c.args.best w.0 (c.put_among-head.ensures.kept c.args.best w.0 (c.requires.led.first ∙ w.1))

pub winner_after-requires-clause-head : goal.winner_after-requires-clause-head
winner_after-requires-clause-head c =
    let h = some_head c.args.revs.now c.requires.ancestry.nonempty in
    standing c.put_among-head.new.self c.put_among-head.result h.0 (c.put_among-head.ensures.head ∙ first_at c.args.revs.now ∙ h.1)

pub returns-then-is_empty-clause-best : goal.returns-then-is_empty-clause-best
returns-then-is_empty-clause-best c =
    let empty : length c.all.result.now ≡ 0 = search rules in
    let none = nil_from_length c.args.self.now.items (ap length (sym c.all.ensures.items) ∙ empty) in
    first_put c.args.self.now.items c.put_first.new.self.items c.args.revs.now c.args.content no_origin none c.requires.led.tree c.requires.ancestry c.requires.none
    c.put_first.ensures.tree c.put_first.ensures.revs

pub returns-else-is_empty-clause-best : goal.returns-else-is_empty-clause-best
returns-else-is_empty-clause-best c =
    let t = tree_of c.args.self.now.items in
    let some : 0 < length c.args.self.now.items = search rules in
    let w = led_winner c.args.self.now.items c.args.best c.all.ensures.linked c.requires.led some in
    let h = some_head c.args.revs.now c.requires.ancestry.nonempty in
    subst (λ l. slice_get (revs_in l) c.winner_after.result ≡ first_of (leaves (tree_of l))) (sym c.winner_after.ensures.items) (c.winner_after.ensures.winner t w.0 h.0 w.1
    (c.put_among-head.ensures.kept c.args.best w.0 (c.requires.led.first ∙ w.1))
    (c.put_among-head.ensures.head ∙ first_at c.args.revs.now ∙ h.1)
    (subst (λ u. AddsHead t u h.0) (sym c.put_among-head.ensures.tree)
    (adds_head t c.args.revs.now c.args.content no_origin h.0 c.requires.led.tree c.requires.ancestry c.requires.none h.1)))
