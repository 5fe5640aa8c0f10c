use Rattle.proof_prelude.proofs.{ap, sym, ◌∙◌, Some, List, ℕ, Global, Bor, list_all}
use Rattle.json.specs.Value.{value_view}
use Rattle.json.specs.declared.value.Value.{Value}
use Rattle.json.proofs.Trees.{view-Object}
use Rattle.doc_envelope.specs.{is_envelope_value, may_stand}
use Rattle.doc_envelope.proofs.{all_view}
use Rattle.doc_envelope.proofs.values.is_envelope_value.Goals as goal

pub returns-in-Object : goal.returns-in-Object
returns-in-Object c =
    c.all_may_stand.ensures ∙ ap (λ (ms : List (Bor (List ℕ) × Value Global)). list_all (λ m. may_stand m.0.now (value_view m.1)) ms) c.as_slice.ensures.value
    ∙ all_view c.in-Object.members.items ∙ sym (ap (λ j. is_envelope_value (Some j)) (ap value_view c.in-Object.is ∙ view-Object c.in-Object.members))
