use Rattle.proof_prelude.proofs.{sym, ap, ◌∙◌, rules}
use Rattle.std.specs.FinMap.{find}
use Rattle.rev_core.specs.{rev_cmp, edges_of, edges_end}
use Rattle.rev_core.proofs.{edge_found, edge_passed}
use Rattle.rev_core.proofs.ancestry.Ancestry.parent_of.Goals as goal

pub returns-then-eq : goal.returns-then-eq
returns-then-eq c =
    sym (ap (λ t. find rev_cmp c.args.rev (edges_of t)) (sym c.self.view_is) ∙ c.loop-i.invariant
    ∙ edge_found c.self.inside.revs.items c.loop-i.i c.index.result.now c.index-then-eq.result.now c.args.rev (search rules) (search rules) c.index.ensures c.index-then-eq.ensures (sym c.eq.ensures ∙ c.if-eq.true))

pub loop-i-preserved : goal.loop-i-preserved
loop-i-preserved c =
    c.loop-i.invariant ∙ edge_passed c.self.inside.revs.items c.loop-i.i c.index.result.now c.args.rev (search rules) (search rules) c.index.ensures (sym c.eq.ensures ∙ c.if-eq.false)

pub returns : goal.returns
returns c =
    sym (ap (λ t. find rev_cmp c.args.rev (edges_of t)) (sym c.self.view_is) ∙ c.loop-i.invariant
    ∙ ap (find rev_cmp c.args.rev) (edges_end c.self.inside.revs.items _ (search rules)))
