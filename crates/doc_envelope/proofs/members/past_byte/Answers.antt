use Rattle.proof_prelude.proofs.{◌==◌, get_or, ap}
use Rattle.doc_envelope.proofs.{other_byte, quoted_escape, quoted_last, quoted_other}
use Rattle.doc_envelope.proofs.members.past_byte.Goals as goal
use Rattle.doc_envelope.proofs.members.past_byte.Goals.{else-text-at-eq92-via-then-text-at-eq92+else-at-text, else-text-at-eq92-via-else-text-at-eq92}

pub returns-then-at-text-clause-value : goal.returns-then-at-text-clause-value
returns-then-at-text-clause-value c = λ n e. quoted_escape n c.args.text.now c.args.at c.if-at-text.true e (ap (λ z. z == 92) c.if-text-at-eq92.true)

pub returns-else-text-at-eq92-clause-value : goal.returns-else-text-at-eq92-clause-value
returns-else-text-at-eq92-clause-value c = λ n e. elim c.else-text-at-eq92.branch [
  | else-text-at-eq92-via-then-text-at-eq92+else-at-text w ↦ quoted_last n c.args.text.now c.args.at c.requires w.if-at-text.false e (ap (λ z. z == 92) w.if-text-at-eq92.true)
  | else-text-at-eq92-via-else-text-at-eq92 w ↦ quoted_other n c.args.text.now c.args.at c.requires e (other_byte (get_or c.args.text.now c.args.at 0) 92 w.if-text-at-eq92.false)
]
