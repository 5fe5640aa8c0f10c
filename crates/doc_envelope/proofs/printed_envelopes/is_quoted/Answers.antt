use Rattle.doc_envelope.proofs.PrintedEnvelopes.{printed_quoted}
use Rattle.doc_envelope.proofs.printed_envelopes.is_quoted.Goals as goal

pub returns-in-Ok : goal.returns-in-Ok
returns-in-Ok c = λ h. printed_quoted c.args.value.now c.in-Some.string.now c.in-Some.ensures c.in-Ok.ensures.1 (c.ends_printed.ensures h)
