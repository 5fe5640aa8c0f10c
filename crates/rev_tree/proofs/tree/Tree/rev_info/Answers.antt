use Rattle.proof_prelude.proofs.{Some, sym, ap, ◌∙◌, subst, same_Some}
use Rattle.rev_core.specs.{IsAncestry}
use Rattle.rev_tree.specs.{IsAncestry-ancestors, NodeValue}
use Rattle.rev_tree.proofs.{content_is, has_is, place_is, place_known, place_unknown, shows, stored_tree}
use Rattle.rev_tree.proofs.tree.Tree.rev_info.Goals as goal

pub walk-requires-clause-within : goal.walk-requires-clause-within
walk-requires-clause-within c =
    (place_is c.self.inside.stored.items c.args.self.now c.args.rev c.in-Some.place c.place_in.ensures.linked (shows c.self.inside.stored.items c.self.inside.stored.origins c.args.self.now c.place_in.ensures.linked c.self.view_is) (sym c.place_in.ensures.place ∙ c.in-Some.is)).within

pub from_revs-requires : goal.from_revs-requires
from_revs-requires c =
    let at = place_is c.self.inside.stored.items c.args.self.now c.args.rev c.in-Some.place c.place_in.ensures.linked (shows c.self.inside.stored.items c.self.inside.stored.origins c.args.self.now c.place_in.ensures.linked c.self.view_is) (sym c.place_in.ensures.place ∙ c.in-Some.is) in
    subst IsAncestry (sym (c.in_ok-revs.ensures ∙ at.walk))
    (IsAncestry-ancestors c.args.self.now (stored_tree c.self.inside.stored.items c.self.inside.stored.origins c.self.inside.stored.best c.args.self.now c.self.invariant c.self.view_is) c.args.rev at.known)

pub node_at-requires : goal.node_at-requires
node_at-requires c = (place_is c.self.inside.stored.items c.args.self.now c.args.rev c.in-Some.place c.place_in.ensures.linked (shows c.self.inside.stored.items c.self.inside.stored.origins c.args.self.now c.place_in.ensures.linked c.self.view_is) (sym c.place_in.ensures.place ∙ c.in-Some.is)).within

pub returns : goal.returns
returns c =
    let items = c.self.inside.stored.items in
    let linked = c.place_in.ensures.linked in
    let found = sym c.place_in.ensures.place ∙ c.in-Some.is in
    let at = place_is items c.args.self.now c.args.rev c.in-Some.place linked (shows c.self.inside.stored.items c.self.inside.stored.origins c.args.self.now linked c.self.view_is) found in
    let f = place_known items c.args.rev c.in-Some.place found in
    record {
      known = at.known;
      ancestry = c.from_revs.ensures ∙ c.in_ok-revs.ensures ∙ at.walk;
      content =
          c.content.ensures ∙ ap (λ (n : NodeValue). n.content) (same_Some c.node_at.result.now f.node (sym c.node_at.ensures.node ∙ f.at))
          ∙ sym (content_is items c.args.self.now c.args.rev (Some f.node) linked (shows c.self.inside.stored.items c.self.inside.stored.origins c.args.self.now linked c.self.view_is) f.found);
    }

pub returns-in_default : goal.returns-in_default
returns-in_default c = has_is c.self.inside.stored.items c.args.self.now c.args.rev _ c.place_in.ensures.linked (shows c.self.inside.stored.items c.self.inside.stored.origins c.args.self.now c.place_in.ensures.linked c.self.view_is) (place_unknown c.self.inside.stored.items c.args.rev (sym c.place_in.ensures.place ∙ c.in_default.is))
