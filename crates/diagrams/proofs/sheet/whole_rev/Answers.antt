use Rattle.proof_prelude.proofs.{arith, common_steps}
use Rattle.diagrams.specs.{whole}
use Rattle.diagrams.proofs.{drawn_by}
use Rattle.diagrams.proofs.sheet.whole_rev.Goals as goal

pub returns-clause-draws : goal.returns-clause-draws
returns-clause-draws c =
    drawn_by c.push_rev.result (whole c.args.rev.now) c.args.out.now.items c.push_rev.new.out.items (grind (arith, common_steps))
