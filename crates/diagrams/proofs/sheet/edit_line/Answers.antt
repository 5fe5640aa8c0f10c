use Rattle.proof_prelude.proofs.{◌≡◌, ℕ, List, ◌++◌, codes, ◌∙◌, append_assoc, arith, common_steps}
use Rattle.rev_core.specs.{rev_text}
use Rattle.diagrams.specs.declared.form.Form.TheVariants.{Text}
use Rattle.diagrams.specs.{edit, shown_text}
use Rattle.diagrams.proofs.{sign_by, then_text}
use Rattle.diagrams.proofs.sheet.edit_line.Goals as goal

seven : (a b c d e f g : List ℕ) → ((((((a ++ b) ++ c) ++ d) ++ e) ++ f) ++ g) ≡ a ++ (b ++ (c ++ (d ++ (e ++ (f ++ g)))))
seven a b c d e f g =
    append_assoc ((((a ++ b) ++ c) ++ d) ++ e) f g ∙ (append_assoc (((a ++ b) ++ c) ++ d) e (f ++ g)
    ∙ (append_assoc ((a ++ b) ++ c) d (e ++ (f ++ g)) ∙ (append_assoc (a ++ b) c (d ++ (e ++ (f ++ g))) ∙ append_assoc a b (c ++ (d ++ (e ++ (f ++ g)))))))

pub returns : goal.returns
returns c =
    let old = c.args.out.now.items in
    let a = codes "  to keep the winner alone: {\"do\":\"edit\",\"db\":\"" in
    let b = shown_text Text c.args.db.now in
    let d = codes "\",\"id\":" in
    let e = shown_text Text c.args.id.now in
    let f = codes ",\"parent\":\"" in
    let r = rev_text c.args.rev.now in
    let g = codes "\",\"deleted\":true}\n" in
    let one = c.in_ok-extend_from_slice.ensures.items in
    let two = then_text old c.extend_from_slice.new.self.items c.put_text.new.out.items a b one c.in_ok-put_text.ensures.text in
    let three = then_text old c.put_text.new.out.items c.extend_from_slice-2.new.self.items (a ++ b) d two c.in_ok-extend_from_slice-2.ensures.items in
    let four = then_text old c.extend_from_slice-2.new.self.items c.put_text-2.new.out.items ((a ++ b) ++ d) e three c.in_ok-put_text-2.ensures.text in
    let five = then_text old c.put_text-2.new.out.items c.extend_from_slice-3.new.self.items (((a ++ b) ++ d) ++ e) f four c.in_ok-extend_from_slice-3.ensures.items in
    let six = then_text old c.extend_from_slice-3.new.self.items c.push_rev.new.out.items ((((a ++ b) ++ d) ++ e) ++ f) r five (grind (arith, common_steps)) in
    sign_by c.extend_from_slice-4.result (edit c.args.db.now c.args.id.now c.args.rev.now) old c.push_rev.new.out.items
    c.extend_from_slice-4.new.self.items (((((a ++ b) ++ d) ++ e) ++ f) ++ r) g (seven a b d e f r g) six (grind (arith, common_steps))
