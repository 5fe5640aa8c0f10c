use Rattle.proof_prelude.proofs.{◌≡◌, ap, ◌∙◌}
use Rattle.serde_json.specs.Data.{array}
use Rattle.json_values.specs.{line_items}
use Rattle.json_values.proofs.{view-Array}
use Rattle.json_values.proofs.arena.array.Goals as goal

pub returns : goal.returns
returns c = view-Array _ ∙ ap (λ vs. array (line_items vs)) c.in_ok-try_alloc_slice_copy.ensures
