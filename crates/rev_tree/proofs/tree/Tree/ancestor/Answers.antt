use Rattle.proof_prelude.proofs.{slice_get, sym, ap, ◌∙◌, false≢true}
use Rattle.rev_tree.proofs.{shows, place_unknown, has_is, place_is}
use Rattle.rev_tree.proofs.tree.Tree.ancestor.Goals as goal

pub unreachable-requires : goal.unreachable-requires
unreachable-requires c =
    let items = c.self.inside.stored.items in
    let none = place_unknown items c.args.rev (sym c.place_in.ensures.place ∙ c.in_default.is) in
    false≢true (sym (has_is items c.args.self.now c.args.rev _ c.place_in.ensures.linked (shows c.self.inside.stored.items c.self.inside.stored.origins c.args.self.now c.place_in.ensures.linked c.self.view_is) none) ∙ c.requires)

pub ancestor_at-requires-clause-within : goal.ancestor_at-requires-clause-within
ancestor_at-requires-clause-within c =
    (place_is c.self.inside.stored.items c.args.self.now c.args.rev c.in-Some.start c.place_in.ensures.linked (shows c.self.inside.stored.items c.self.inside.stored.origins c.args.self.now c.place_in.ensures.linked c.self.view_is) (sym c.place_in.ensures.place ∙ c.in-Some.is)).within

pub returns : goal.returns
returns c =
    let at = place_is c.self.inside.stored.items c.args.self.now c.args.rev c.in-Some.start c.place_in.ensures.linked (shows c.self.inside.stored.items c.self.inside.stored.origins c.args.self.now c.place_in.ensures.linked c.self.view_is) (sym c.place_in.ensures.place ∙ c.in-Some.is) in
    c.ancestor_at.ensures ∙ ap (λ l. slice_get l c.args.place) at.walk
