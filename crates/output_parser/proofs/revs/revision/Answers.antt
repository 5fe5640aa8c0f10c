use Rattle.proof_prelude.proofs.{sym, ap, ◌∙◌}
use Rattle.rev_core.specs.{rev_read, rev_read-text}
use Rattle.output_parser.proofs.{clash}
use Rattle.output_parser.proofs.revs.revision.Goals as goal

pub returns-in-Err-clause-none : goal.returns-in-Err-clause-none
returns-in-Err-clause-none c =
    λ r h e. clash (rev_read c.args.text.now) r c.in-Err.field-0 (ap rev_read (sym e) ∙ rev_read-text r h)
    (sym c.parse.ensures.read ∙ c.in-Err.is)
