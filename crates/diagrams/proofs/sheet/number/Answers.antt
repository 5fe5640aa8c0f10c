use Rattle.proof_prelude.proofs.{arith, common_steps}
use Rattle.diagrams.specs.{number}
use Rattle.diagrams.proofs.{drawn_by}
use Rattle.diagrams.proofs.sheet.number.Goals as goal

pub returns-clause-draws : goal.returns-clause-draws
returns-clause-draws c =
    drawn_by c.put_number.result (number c.args.number) c.args.out.now.items c.put_number.new.out.items (grind (arith, common_steps))
