use Rattle.proof_prelude.proofs.{◌≡◌, ◌-◌, ◌<◌, ◌≤◌, ◌+◌, ◌&&◌, drop, get_or, length, slice_get, Some, sym, ap, ◌∙◌, arith, and-true, get_or_default, slice_get-get_or, same_Some, list_all, get, eq_by_cmp, eq_by_cmp_equiv}
use Rattle.rev_core.specs.{RevId, rev_cmp, rev_cmp_total, rev_tie_is, rev_tie_self, edges_of, edges_end}
use Rattle.rev_tree.specs.{has_edge, first_contradiction, contradiction_at, rev_at, revs_in, place_of, tree_of}
use Rattle.rev_tree.proofs.{place_at, place_within, read_at, rev_at_place, edges_known, edges_missed, no_contradiction_at, contradiction_here, told_contradiction, told_none}
use Rattle.rev_tree.proofs.nodes.Nodes.knows_edges.Goals as goal
use Rattle.rev_tree.proofs.nodes.Nodes.knows_edges.Goals.{in-Some+else-not-is_of, in-None}

turned : (a b : RevId) → eq_by_cmp rev_cmp a b ≡ eq_by_cmp rev_cmp b a
turned = (eq_by_cmp_equiv rev_cmp_total).symm

pub parent_at-requires : goal.parent_at-requires
parent_at-requires c =
    let revs = c.args.revs.now in
    let low : c.loop-i.i - 1 < length revs = omega arith in
    let a = get_or revs (c.loop-i.i - 1) c.index-revs-i.result in
    record { within = place_within c.args.self.now.items a c.loop-i.place (c.loop-i.invariant.place a (slice_get-get_or revs (c.loop-i.i - 1) c.index-revs-i.result low)) }

pub returns-then-not-is_of-clause-contradiction : goal.returns-then-not-is_of-clause-contradiction
returns-then-not-is_of-clause-contradiction c =
    let nodes = c.args.self.now.items in
    let m = (tree_of nodes).parents in
    let revs = c.args.revs.now in
    let i = c.loop-i.i in
    let one : 1 ≤ i = omega arith in
    let low : i - 1 < length revs = omega arith in
    let a = c.index-revs-i-then-not-is_of.result in
    let is = c.index-revs-i-then-not-is_of.is in
    let known = c.parent_at.ensures.parent a (c.loop-i.invariant.place a (read_at revs (i - 1) a low is)) in
    let n = c.node_at-node.result.now in
    let told = sym known ∙ ap (rev_at (revs_in nodes)) c.in-Some.is ∙ rev_at_place nodes c.in-Some.parent n c.node_at-node.ensures.node in
    c.loop-i.invariant.none
    ∙ contradiction_here m revs i a c.index-revs-i.result _ one c.loop-i-test.true is c.index-revs-i.is
    (told_contradiction a c.index-revs-i.result (get m a) n.rev told (turned n.rev c.index-revs-i.result ∙ sym c.is_of.ensures ∙ c.if-not-is_of.true))
    ∙ ap Some (sym c.contradiction.ensures)

pub loop-i-preserved : goal.loop-i-preserved
loop-i-preserved c =
    let nodes = c.args.self.now.items in
    let t = tree_of nodes in
    let revs = c.args.revs.now in
    let i = c.loop-i.i in
    let b = c.index-revs-i.result in
    let one : 1 ≤ i = omega arith in
    let low : i - 1 < length revs = omega arith in
    let next : i ≡ i + 1 - 1 = omega arith in
    let a = get_or revs (i - 1) b in
    let is = get_or_default revs (i - 1) b a low in
    let known = c.parent_at.ensures.parent a (c.loop-i.invariant.place a (slice_get-get_or revs (i - 1) b low)) in
    let given : (r : RevId) → slice_get revs (i + 1 - 1) ≡ Some r → b ≡ r = λ r at. same_Some b r (sym (read_at revs i b c.loop-i-test.true c.index-revs-i.is) ∙ ap (slice_get revs) next ∙ at) in
    elim c.match-parent_at.branch [
      | in-Some+else-not-is_of w ↦
          let n = w.node_at-node.result.now in
          let told = sym known ∙ ap (rev_at (revs_in nodes)) w.in-Some.is ∙ rev_at_place nodes w.in-Some.parent n w.node_at-node.ensures.node in
          let same = turned n.rev b ∙ sym w.is_of.ensures ∙ w.if-not-is_of.false in
          record {
            edges = ap (λ x. x && list_all (has_edge t) (edges_of (drop (i + 1 - 1) revs))) w.all-is ∙ edges_known t revs i a n.rev c.loop-i.all one c.loop-i-test.true is told ∙ c.loop-i.invariant.edges;
            none = c.loop-i.invariant.none ∙ no_contradiction_at t.parents revs i a b one c.loop-i-test.true is c.index-revs-i.is (told_none a b (get t.parents a) n.rev told same);
            place = λ r at.
                w.place-is ∙ sym (place_at nodes c.place_in-place.ensures.linked.once w.in-Some.parent n r w.node_at-node.ensures.node
                (ap (λ q. eq_by_cmp rev_cmp q n.rev) (sym (rev_tie_is n.rev b same ∙ given r at)) ∙ rev_tie_self n.rev));
          }
      | in-None w ↦
          let told = sym known ∙ ap (rev_at (revs_in nodes)) w.in-None.is in
          record {
            edges = ap (λ x. x && list_all (has_edge t) (edges_of (drop (i + 1 - 1) revs))) w.all-is ∙ edges_missed t revs i a c.loop-i.all one c.loop-i-test.true is told ∙ c.loop-i.invariant.edges;
            none = c.loop-i.invariant.none ∙ no_contradiction_at t.parents revs i a b one c.loop-i-test.true is c.index-revs-i.is (ap (contradiction_at a b) told);
            place = λ r at. w.place-is ∙ w.place_near-place.ensures.place ∙ ap (place_of nodes) (given r at);
          }
    ]

pub returns-clause-edges : goal.returns-clause-edges
returns-clause-edges c =
    let t = tree_of c.args.self.now.items in
    sym (ap (λ es. c.loop-i.all && list_all (has_edge t) es) (edges_end c.args.revs.now (c.loop-i.i - 1) (omega arith)) ∙ and-true c.loop-i.all) ∙ c.loop-i.invariant.edges

pub returns-clause-none : goal.returns-clause-none
returns-clause-none c =
    let m = (tree_of c.args.self.now.items).parents in
    c.loop-i.invariant.none ∙ ap (first_contradiction m) (edges_end c.args.revs.now (c.loop-i.i - 1) (omega arith))
