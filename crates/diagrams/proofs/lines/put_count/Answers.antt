use Rattle.proof_prelude.proofs.{◌++◌, refl, codes, decimal, arith, common_steps}
use Rattle.diagrams.specs.{caption, count}
use Rattle.diagrams.proofs.{sign_by, then_text}
use Rattle.diagrams.proofs.lines.put_count.Goals as goal

pub returns : goal.returns
returns c =
    let old = c.args.out.now.items in
    let name = caption c.args.column in
    let two = then_text old c.extend_from_slice.new.self.items c.extend_from_slice-2.new.self.items (codes "  ") name
    c.in_ok-extend_from_slice.ensures.items (grind (arith, common_steps)) in
    let three = then_text old c.extend_from_slice-2.new.self.items c.extend_from_slice-3.new.self.items (codes "  " ++ name) (codes " ")
    two c.in_ok-extend_from_slice-3.ensures.items in
    sign_by c.put_number.result (count c.args.column c.args.number) old c.extend_from_slice-3.new.self.items
    c.put_number.new.out.items ((codes "  " ++ name) ++ codes " ") (decimal c.args.number) refl three c.put_number.ensures
