use Rattle.proof_prelude.proofs.{string_bytes, arith, common_steps}
use Rattle.error_messages.proofs.{told_by}
use Rattle.error_messages.proofs.lines.explain.Goals as goal

pub returns : goal.returns
returns c = record {
  told = told_by c.push_str.result c.args.number c.args.name.now (string_bytes c.args.text.now) (string_bytes c.push_beginning.new.text)
      (string_bytes c.push_reason.new.text) (string_bytes c.push_str.new.self) c.in_ok-push_beginning.ensures c.in_ok-push_reason.ensures (grind (arith, common_steps));
}
