use Rattle.proof_prelude.proofs.{ap, sym, subst, ◌∙◌, cond, Some, None, Err}
use Rattle.serde_json.specs.Read.{read as read_text}
use Rattle.json_values.specs.{line_view}
use Rattle.doc_envelope.specs.{made_of}
use Rattle.envelope_reads.specs.{IsSpared}
use Rattle.std.specs.Str.{IsUtf8}
use Rattle.envelope_reads.proofs.{made_envelope, nothing_read, read_spared}
use Rattle.envelope_reads.proofs.read.read_envelope.Goals as goal

pub read_spared-requires : goal.read_spared-requires
read_spared-requires c =
    let made = made_of c.put.new.self in
    let is = made_envelope c.args.document.now made (c.in_ok-put.ensures.text ∙ ap (λ b. cond b (Some made) None) c.if-not-branch.false) in
    subst (λ z. IsSpared (line_view z)) (sym c.part.ensures) (read_spared made (line_view c.in-Ok.line) is (ap read_text (sym c.text.ensures) ∙ c.in-Ok.ensures.ok.1))

pub returns-in-Err-NotJson-clause-ok : goal.returns-in-Err-NotJson-clause-ok
returns-in-Err-NotJson-clause-ok c =
    let made = made_of c.put.new.self in
    nothing_read c.args.document.now made (c.in_ok-put.ensures.text ∙ ap (λ b. cond b (Some made) None) c.if-not-branch.false)
    (λ utf8. ap read_text (sym c.text.ensures) ∙ c.in-Err-NotJson.ensures.refused (ap Err c.in-Err-NotJson.field-0-is) (subst IsUtf8 (sym c.text.ensures) utf8))
