use Rattle.proof_prelude.proofs.{arith, common_steps}
use Rattle.diagrams.specs.{mark}
use Rattle.diagrams.proofs.{drawn_by}
use Rattle.diagrams.proofs.sheet.mark.Goals as goal

pub returns-clause-draws : goal.returns-clause-draws
returns-clause-draws c =
    drawn_by c.extend_from_slice.result (mark c.args.markup) c.args.out.now.items c.extend_from_slice.new.self.items
    (grind (arith, common_steps))
