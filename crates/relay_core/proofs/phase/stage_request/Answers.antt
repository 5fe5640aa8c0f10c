use Rattle.proof_prelude.proofs.{ap, ap₂, sym, ◌∙◌, Option, option_map}
use Rattle.relay_core.specs.declared.messages.Fault.{Fault}
use Rattle.relay_core.specs.declared.phase.Stage.{Stage}
use Rattle.relay_core.specs.Messages.{Text, FaultView, done}
use Rattle.relay_core.specs.Views.{fault_view}
use Rattle.relay_core.specs.Known.{asked_by}
use Rattle.relay_core.proofs.Lists.{fault_is}
use Rattle.relay_core.proofs.phase.stage_request.Goals as goal

pub returns-in-Done : goal.returns-in-Done
returns-in-Done c =
    ap₂ (λ (f : Option FaultView) (s : Text). done f c.args.run.now.counts s) (fault_is c.as_ref.result ∙ ap (λ (o : Option Fault). option_map fault_view o) c.as_ref.ensures.value) c.seq_of.ensures
    ∙ ap (λ (stage : Stage). asked_by c.args.run.now stage) (sym c.in-Done.is)
