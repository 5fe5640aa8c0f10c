use Rattle.proof_prelude.proofs.{◌++◌, ◌/◌, refl, codes, take, drop, arith, common_steps}
use Rattle.diagrams.specs.declared.form.Form.TheVariants.{Text}
use Rattle.diagrams.specs.{bar, ratio, share}
use Rattle.diagrams.proofs.{sign_by, then_text}
use Rattle.diagrams.proofs.lines.put_text_bar.Goals as goal

pub returns : goal.returns
returns c =
    let old = c.args.out.now.items in
    let n = share c.args.part c.args.whole / 10 in
    let a = codes "  [" in
    let b = take n (codes "########################################") in
    let d = drop n (codes "........................................") in
    let e = codes "] " in
    let f = ratio c.args.part c.args.whole in
    let g = codes "\n" in
    let two = then_text old c.extend_from_slice.new.self.items c.extend_from_slice-2.new.self.items a b c.in_ok-extend_from_slice.ensures.items
    (grind (arith, common_steps)) in
    let three = then_text old c.extend_from_slice-2.new.self.items c.extend_from_slice-3.new.self.items (a ++ b) d two
    (grind (arith, common_steps)) in
    let four = then_text old c.extend_from_slice-3.new.self.items c.extend_from_slice-4.new.self.items ((a ++ b) ++ d) e three
    c.in_ok-extend_from_slice-4.ensures.items in
    let five = then_text old c.extend_from_slice-4.new.self.items c.put_ratio.new.out.items (((a ++ b) ++ d) ++ e) f four
    c.in_ok-put_ratio.ensures in
    sign_by c.extend_from_slice-5.result (bar Text c.args.part c.args.whole) old c.put_ratio.new.out.items c.extend_from_slice-5.new.self.items
    ((((a ++ b) ++ d) ++ e) ++ f) g refl five (grind (arith, common_steps))
