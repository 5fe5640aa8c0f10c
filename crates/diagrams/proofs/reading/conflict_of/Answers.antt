use Rattle.proof_prelude.proofs.{ap}
use Rattle.diagrams.specs.Drawing.{with_all}
use Rattle.diagrams.proofs.reading.conflict_of.Goals as goal

pub loop-i-init : goal.loop-i-init
loop-i-init c =
    (ap (λ s. with_all s c.args.revs.now) c.new-document.ensures.holds.read, c.new-document.ensures.holds.named)
