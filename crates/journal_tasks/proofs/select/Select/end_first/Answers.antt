use Rattle.proof_prelude.proofs.{arith, refl, ap, not, sym, ◌∙◌}
use Rattle.journal_tasks.proofs.{first_ends}
use Rattle.journal_tasks.proofs.select.Select.end_first.Goals as goal

pub returns : goal.returns
returns c = λ choice lines k f s.
    first_ends choice lines c.args.self.now _ c.take_hash.result c.is_intact.result k f s (omega (arith, c.if-self.false)) refl c.take_hash.ensures.hash c.take_hash.ensures.new refl refl refl (k.damaged_is ∙ ap not (sym c.if-not-is_intact.false)) c.is_intact.ensures (λ i. (c.in_ok-lacks.ensures.selected, c.in_ok-lacks.ensures.lacks))
