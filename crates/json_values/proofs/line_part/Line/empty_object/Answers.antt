use Rattle.proof_prelude.proofs.{◌≡◌, ap, ◌∙◌}
use Rattle.json_values.specs.{line_view}
use Rattle.json_values.proofs.{view-Object}
use Rattle.json_values.proofs.line_part.Line.empty_object.Goals as goal

pub returns : goal.returns
returns c = ap line_view c.new.ensures ∙ view-Object _
