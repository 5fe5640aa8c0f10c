use Rattle.proof_prelude.proofs.{◌∙◌, ap, Err}
use Rattle.json.specs.Value.{value_view}
use Rattle.doc_envelope.proofs.{value_envelope, no_envelope}
use Rattle.doc_envelope.proofs.values.is_envelope.Goals as goal

pub returns-in-Ok : goal.returns-in-Ok
returns-in-Ok c = c.is_envelope_value.ensures ∙ value_envelope c.args.text.now (value_view c.in-Ok.value) c.in-Ok.ensures.ok.0 c.in-Ok.ensures.ok.1

pub returns-in-Err-Invalid : goal.returns-in-Err-Invalid
returns-in-Err-Invalid c = no_envelope c.args.text.now (c.from_slice.ensures.invalid (c.in-Err-Invalid.is ∙ ap Err c.in-Err-Invalid.field-0-is))

pub returns-in-Err-TooLong : goal.returns-in-Err-TooLong
returns-in-Err-TooLong c = absurd (c.from_slice.ensures.never_too_long (c.in-Err-TooLong.is ∙ ap Err c.in-Err-TooLong.field-0-is))

pub returns-in-Err-DuplicateKey : goal.returns-in-Err-DuplicateKey
returns-in-Err-DuplicateKey c = absurd (c.from_slice.ensures.never_duplicate (c.in-Err-DuplicateKey.is ∙ ap Err c.in-Err-DuplicateKey.field-0-is))
