use Rattle.proof_prelude.proofs.{sym, ◌∙◌, subst, false≢true}
use Rattle.rev_core.specs.{IsAncestry}
use Rattle.rev_tree.specs.{IsAncestry-ancestors}
use Rattle.rev_tree.proofs.{has_is, place_is, place_unknown, shows, stored_tree}
use Rattle.rev_tree.proofs.tree.Tree.known_ancestry.Goals as goal

pub unreachable-requires : goal.unreachable-requires
unreachable-requires c =
    let items = c.self.inside.stored.items in
    let none = place_unknown items c.args.rev (sym c.place_in.ensures.place ∙ c.in_default.is) in
    false≢true (sym (has_is items c.args.self.now c.args.rev _ c.place_in.ensures.linked (shows c.self.inside.stored.items c.self.inside.stored.origins c.args.self.now c.place_in.ensures.linked c.self.view_is) none) ∙ c.requires)

pub walk-requires-clause-within : goal.walk-requires-clause-within
walk-requires-clause-within c =
    (place_is c.self.inside.stored.items c.args.self.now c.args.rev c.in-Some.place c.place_in.ensures.linked (shows c.self.inside.stored.items c.self.inside.stored.origins c.args.self.now c.place_in.ensures.linked c.self.view_is) (sym c.place_in.ensures.place ∙ c.in-Some.is)).within

pub from_revs-requires : goal.from_revs-requires
from_revs-requires c =
    let at = place_is c.self.inside.stored.items c.args.self.now c.args.rev c.in-Some.place c.place_in.ensures.linked (shows c.self.inside.stored.items c.self.inside.stored.origins c.args.self.now c.place_in.ensures.linked c.self.view_is) (sym c.place_in.ensures.place ∙ c.in-Some.is) in
    subst IsAncestry (sym (c.in_ok-revs.ensures ∙ at.walk))
    (IsAncestry-ancestors c.args.self.now (stored_tree c.self.inside.stored.items c.self.inside.stored.origins c.self.inside.stored.best c.args.self.now c.self.invariant c.self.view_is) c.args.rev at.known)

pub returns : goal.returns
returns c =
    let at = place_is c.self.inside.stored.items c.args.self.now c.args.rev c.in-Some.place c.place_in.ensures.linked (shows c.self.inside.stored.items c.self.inside.stored.origins c.args.self.now c.place_in.ensures.linked c.self.view_is) (sym c.place_in.ensures.place ∙ c.in-Some.is) in
    c.from_revs.ensures ∙ c.in_ok-revs.ensures ∙ at.walk
