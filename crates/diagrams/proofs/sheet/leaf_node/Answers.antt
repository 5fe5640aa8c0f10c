use Rattle.proof_prelude.proofs.{◌++◌, append_assoc, ◌∙◌, arith, common_steps}
use Rattle.rev_core.specs.{rev_text}
use Rattle.diagrams.specs.declared.form.Form.TheVariants.{Svg}
use Rattle.diagrams.specs.{leaf, node_label, shape_text, short_text}
use Rattle.diagrams.proofs.{sign_by, then_text}
use Rattle.diagrams.proofs.sheet.leaf_node.Goals as goal

pub returns : goal.returns
returns c =
    let r = c.args.rev.now in
    let shape = shape_text c.args.wins c.args.live in
    let label = node_label c.args.wins c.args.live in
    sign_by c.extend_from_slice-2.result (leaf Svg r c.args.wins c.args.live) c.args.out.now.items c.push_rev-2.new.out.items
    c.extend_from_slice-2.new.self.items ((rev_text r ++ shape) ++ short_text r) label
    (append_assoc (rev_text r ++ shape) (short_text r) label ∙ append_assoc (rev_text r) shape (short_text r ++ label))
    (then_text c.args.out.now.items c.extend_from_slice.new.self.items c.push_rev-2.new.out.items (rev_text r ++ shape) (short_text r)
    (then_text c.args.out.now.items c.push_rev.new.out.items c.extend_from_slice.new.self.items (rev_text r) shape (grind (arith, common_steps)) (grind (arith, common_steps)))
    (grind (arith, common_steps)))
    (grind (arith, common_steps))
