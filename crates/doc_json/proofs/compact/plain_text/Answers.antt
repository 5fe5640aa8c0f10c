use Rattle.proof_prelude.proofs.{◌++◌, ap, ◌∙◌}
use Rattle.serde_json.specs.Data.{object}
use Rattle.serde_json.specs.Written.{compact_text}
use Rattle.doc_json.specs.{plain_members}
use Rattle.doc_json.proofs.{written_text}
use Rattle.doc_json.proofs.compact.plain_text.Goals as goal

pub returns : goal.returns
returns g c =
    let d = object (plain_members (g.V.JsonValue.members_seen c.args.members.now)) in
    let w = c.in_ok-push_plain.ensures in
    written_text d _ (c.fitted.ensures ∙ c.trimmed.ensures ∙ w.text ∙ ap (λ s. s ++ compact_text d) c.in_ok-out.ensures.items) w.numbers w.order c.requires.exact
