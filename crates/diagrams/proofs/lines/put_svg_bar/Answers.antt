use Rattle.proof_prelude.proofs.{◌≡◌, ◌++◌, refl, codes, decimal, subst, arith, common_steps}
use Rattle.diagrams.specs.declared.form.Form.TheVariants.{Svg}
use Rattle.diagrams.specs.{bar, ratio, share}
use Rattle.diagrams.proofs.{sign_by, then_text}
use Rattle.diagrams.proofs.lines.put_svg_bar.Goals as goal

pub returns : goal.returns
returns c =
    let old = c.args.out.now.items in
    let a = codes "<rect x=\"20\" y=\"54\" width=\"400\" height=\"10\" class=\"d\"/><rect x=\"20\" y=\"54\" width=\"" in
    let b = decimal (share c.args.part c.args.whole) in
    let d = codes "\" height=\"10\" class=\"w\"/><text x=\"432\" y=\"63\">" in
    let e = ratio c.args.part c.args.whole in
    let f = codes "</text>\n" in
    let is = subst (λ n. c.put_number.new.out.items ≡ c.extend_from_slice.new.self.items ++ decimal n) c.share.ensures.share c.in_ok-put_number.ensures in
    let two = then_text old c.extend_from_slice.new.self.items c.put_number.new.out.items a b c.in_ok-extend_from_slice.ensures.items is in
    let three = then_text old c.put_number.new.out.items c.extend_from_slice-2.new.self.items (a ++ b) d two c.in_ok-extend_from_slice-2.ensures.items in
    let four = then_text old c.extend_from_slice-2.new.self.items c.put_ratio.new.out.items ((a ++ b) ++ d) e three c.in_ok-put_ratio.ensures in
    sign_by c.extend_from_slice-3.result (bar Svg c.args.part c.args.whole) old c.put_ratio.new.out.items c.extend_from_slice-3.new.self.items
    (((a ++ b) ++ d) ++ e) f refl four (grind (arith, common_steps))
