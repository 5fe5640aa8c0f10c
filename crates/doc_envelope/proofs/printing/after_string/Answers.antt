use Rattle.proof_prelude.proofs.{◌+◌, ◌-◌, take, drop, sym, subst, arith}
use Rattle.doc_envelope.specs.Printed.{BeginsWithString}
use Rattle.doc_envelope.proofs.{ascii_of, begins_string, rest_all}
use Rattle.doc_envelope.proofs.printing.after_string.Goals as goal

pub returns : goal.returns
returns c =
    let text = c.args.text.now in
    let end = c.plain_end-end.result in
    subst (BeginsWithString text) (sym (rest_all (end + 1) text))
    (begins_string text end c.plain_end-end.ensures.value (omega arith) c.if-text-ne34.false c.if-text-end-ne34.false
    (ascii_of c.is_ascii.result (take (end - 1) (drop 1 text)) c.if-not-is_ascii.false c.is_ascii.ensures.cases))
