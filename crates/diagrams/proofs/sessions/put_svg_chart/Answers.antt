use Rattle.proof_prelude.proofs.{◌≡◌, ◌++◌, refl, codes, decimal, subst, arith, common_steps}
use Rattle.diagrams.specs.declared.form.Form.TheVariants.{Svg}
use Rattle.diagrams.specs.{chart, share}
use Rattle.diagrams.proofs.{sign_by, then_text}
use Rattle.diagrams.proofs.sessions.put_svg_chart.Goals as goal

pub returns : goal.returns
returns c =
    let old = c.args.out.now.items in
    let a = codes "</text>\n<rect x=\"250\" y=\"8\" height=\"10\" class=\"d\" width=\"" in
    let b = decimal (share c.args.read c.args.most) in
    let d = codes "\"/><rect x=\"250\" y=\"8\" height=\"10\" class=\"w\" width=\"" in
    let e = decimal (share c.args.written c.args.most) in
    let f = codes "\"/>\n<text x=\"662\" y=\"18\">" in
    let reaches = subst (λ n. c.put_number.new.out.items ≡ c.extend_from_slice.new.self.items ++ decimal n) c.share.ensures.share c.in_ok-put_number.ensures in
    let fills = subst (λ n. c.put_number-2.new.out.items ≡ c.extend_from_slice-2.new.self.items ++ decimal n) c.share-2.ensures.share c.in_ok-put_number-2.ensures in
    let two = then_text old c.extend_from_slice.new.self.items c.put_number.new.out.items a b c.in_ok-extend_from_slice.ensures.items reaches in
    let three = then_text old c.put_number.new.out.items c.extend_from_slice-2.new.self.items (a ++ b) d two c.in_ok-extend_from_slice-2.ensures.items in
    let four = then_text old c.extend_from_slice-2.new.self.items c.put_number-2.new.out.items ((a ++ b) ++ d) e three fills in
    sign_by c.extend_from_slice-3.result (chart Svg c.args.written c.args.read c.args.most) old c.put_number-2.new.out.items c.extend_from_slice-3.new.self.items
    (((a ++ b) ++ d) ++ e) f refl four (grind (arith, common_steps))
