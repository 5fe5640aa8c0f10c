use Rattle.proof_prelude.proofs.{◌++◌, ap, ◌∙◌}
use Rattle.serde_json.specs.Written.{compact_text}
use Rattle.doc_json.proofs.{written_text}
use Rattle.doc_json.proofs.compact.value_text.Goals as goal

pub returns : goal.returns
returns g c =
    let d = g.V.JsonValue.seen c.args.value.now in
    let w = c.in_ok-push.ensures in
    written_text d _ (c.trimmed.ensures ∙ w.text c.requires.plain ∙ ap (λ s. s ++ compact_text d) c.in_ok-out.ensures.items) w.numbers w.order c.requires.exact
