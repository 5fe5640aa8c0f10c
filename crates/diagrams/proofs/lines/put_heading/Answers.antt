use Rattle.proof_prelude.proofs.{refl, arith, common_steps}
use Rattle.diagrams.specs.{table_text, heading, shown_text}
use Rattle.diagrams.proofs.{sign_by}
use Rattle.diagrams.proofs.lines.put_heading.Goals as goal

pub returns : goal.returns
returns c =
    sign_by c.put_text.result (heading c.args.form c.args.table c.args.name.now) c.args.out.now.items c.extend_from_slice.new.self.items
    c.put_text.new.out.items (table_text c.args.table) (shown_text c.args.form c.args.name.now) refl (grind (arith, common_steps)) c.put_text.ensures.text
