use Rattle.proof_prelude.proofs.{◌≡◌, ◌++◌, ◌+◌, ◌-◌, ◌/◌, ◌%◌, sym, ap, subst, ◌∙◌, append_assoc, if◌then◌else◌, arith, nat_tests, nat_lt, Bool, false, string_bytes, encode_utf8_all, encodes-append, OnOk}
use Rattle.visible_text.specs.{unit_of}
use Rattle.visible_text.proofs.{both_units}
use Rattle.visible_text.proofs.visible.push_escape.Goals as goal

pub returns : goal.returns
returns c =
    let high = unit_of (0xD800 + (c.args.c - 0x10000) / 1024) in
    let low = unit_of (0xDC00 + c.args.c % 1024) in
    let above : nat_lt c.args.c 65536 ≡ false = grind (arith, nat_tests, c.if-code-lt65536.false) in
    subst (λ t. OnOk c.push_unit-3.result (string_bytes c.push_unit-3.new.out ≡ string_bytes c.args.out.now ++ encode_utf8_all t))
    (sym (ap (λ b. if b then unit_of c.args.c else high ++ low) above))
    (both_units c.push_unit-3.result (string_bytes c.args.out.now) (string_bytes c.push_unit-2.new.out) (string_bytes c.push_unit-3.new.out) high low c.in_ok-push_unit.ensures c.push_unit-3.ensures)
