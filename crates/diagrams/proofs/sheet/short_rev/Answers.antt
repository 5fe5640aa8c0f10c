use Rattle.proof_prelude.proofs.{arith, common_steps}
use Rattle.diagrams.specs.{short}
use Rattle.diagrams.proofs.{drawn_by}
use Rattle.diagrams.proofs.sheet.short_rev.Goals as goal

pub returns-clause-draws : goal.returns-clause-draws
returns-clause-draws c =
    drawn_by c.push_short.result (short c.args.rev.now) c.args.out.now.items c.push_short.new.out.items (grind (arith, common_steps))
