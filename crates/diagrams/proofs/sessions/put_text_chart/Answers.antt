use Rattle.proof_prelude.proofs.{◌++◌, ◌-◌, refl, codes, take, drop, arith, common_steps}
use Rattle.diagrams.specs.declared.form.Form.TheVariants.{Text}
use Rattle.diagrams.specs.{chart, filled, reached}
use Rattle.diagrams.proofs.{sign_by, then_text}
use Rattle.diagrams.proofs.sessions.put_text_chart.Goals as goal

pub returns : goal.returns
returns c =
    let old = c.args.out.now.items in
    let n = filled c.args.written c.args.most in
    let m = reached c.args.written c.args.read c.args.most in
    let a = codes "  [" in
    let b = take n (codes "########################################") in
    let d = take (m - n) (codes "........................................") in
    let e = drop m (codes "                                        ") in
    let f = codes "]" in
    let two = then_text old c.extend_from_slice.new.self.items c.extend_from_slice-2.new.self.items a b c.in_ok-extend_from_slice.ensures.items
    (grind (arith, common_steps)) in
    let three = then_text old c.extend_from_slice-2.new.self.items c.extend_from_slice-3.new.self.items (a ++ b) d two
    (grind (arith, common_steps)) in
    let four = then_text old c.extend_from_slice-3.new.self.items c.extend_from_slice-4.new.self.items ((a ++ b) ++ d) e three
    (grind (arith, common_steps)) in
    sign_by c.extend_from_slice-5.result (chart Text c.args.written c.args.read c.args.most) old c.extend_from_slice-4.new.self.items c.extend_from_slice-5.new.self.items
    (((a ++ b) ++ d) ++ e) f refl four (grind (arith, common_steps))
