use Rattle.proof_prelude.proofs.{refl, arith, common_steps}
use Rattle.diagrams.specs.declared.form.Form.TheVariants.{Text}
use Rattle.diagrams.specs.{label_text, leaf, short_text}
use Rattle.diagrams.proofs.{sign_by}
use Rattle.diagrams.proofs.sheet.leaf_row.Goals as goal

pub returns : goal.returns
returns c =
    sign_by c.extend_from_slice.result (leaf Text c.args.rev.now c.args.wins c.args.live) c.args.out.now.items c.push_rev.new.out.items
    c.extend_from_slice.new.self.items (short_text c.args.rev.now) (label_text c.args.wins c.args.live) refl (grind (arith, common_steps)) (grind (arith, common_steps))
