use Rattle.proof_prelude.proofs.{◌∙◌}
use Rattle.diagrams.proofs.PathLemmas.{newest_shared, none_shared}
use Rattle.diagrams.proofs.ancestries.Ancestries.last_shared.Goals as goal

pub returns-in-Some : goal.returns-in-Some
returns-in-Some c =
    c.generation.ensures.part ∙ newest_shared _ _ c.shared-count.result c.in-Some.rev.now c.shared-count.ensures c.if-count-eq0.false c.in-Some.ensures

pub returns-in-None : goal.returns-in-None
returns-in-None c = absurd (none_shared _ _ c.shared-count.result c.shared-count.ensures c.if-count-eq0.false c.in-None.ensures)
