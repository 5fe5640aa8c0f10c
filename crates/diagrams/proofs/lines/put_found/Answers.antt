use Rattle.proof_prelude.proofs.{refl, arith, common_steps}
use Rattle.output_parser.specs.{finding_text}
use Rattle.diagrams.specs.{found, shown_text}
use Rattle.diagrams.proofs.{sign_by}
use Rattle.diagrams.proofs.lines.put_found.Goals as goal

pub returns : goal.returns
returns c =
    sign_by c.put_text.result (found c.args.form c.args.finding c.args.id.now) c.args.out.now.items c.extend_from_slice.new.self.items
    c.put_text.new.out.items (finding_text c.args.finding) (shown_text c.args.form c.args.id.now) refl (grind (arith, common_steps)) c.put_text.ensures.text
