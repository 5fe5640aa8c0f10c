use Rattle.proof_prelude.proofs.{get_or}
use Rattle.doc_envelope.proofs.Modes.{mode_escape, mode_outside, mode_run}
use Rattle.doc_envelope.proofs.Splits.{other_byte}
use Rattle.doc_envelope.proofs.streaming.past_byte.Goals as goal

pub returns-then-not-quoted-clause-same : goal.returns-then-not-quoted-clause-same
returns-then-not-quoted-clause-same c = mode_outside c.args.text.now c.args.at c.args.quoted c.if-not-quoted.true c.requires.within c.requires.other

pub returns-then-text-at-ne92-clause-same : goal.returns-then-text-at-ne92-clause-same
returns-then-text-at-ne92-clause-same c =
    mode_run c.args.text.now c.args.at c.plain_end.result c.args.quoted c.if-not-quoted.false c.requires.within c.requires.other
    (other_byte (get_or c.args.text.now c.args.at 0) 92 c.if-text-at-ne92.true) c.plain_end.ensures.value

pub returns-then-at-text-clause-same : goal.returns-then-at-text-clause-same
returns-then-at-text-clause-same c = mode_escape c.args.text.now c.args.at c.args.quoted c.if-not-quoted.false c.if-at-text.true c.if-text-at-ne92.false
