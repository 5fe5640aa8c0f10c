use Rattle.proof_prelude.proofs.{refl, arith}
use Rattle.response_parser.proofs.{ascii_of, plain_string}
use Rattle.response_parser.proofs.strings.is_plain_string.Goals as goal

pub returns-then-is_plain : goal.returns-then-is_plain
returns-then-is_plain c h =
    plain_string c.args.text.now (omega arith) c.if-text-ne34.false c.if-text-length-ne34.false (c.if-is_plain.ensures refl) (ascii_of c.is_ascii.result c.args.text.now h c.is_ascii.ensures.cases)
