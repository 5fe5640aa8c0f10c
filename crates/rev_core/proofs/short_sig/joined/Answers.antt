use Rattle.proof_prelude.proofs.{◌≡◌, ◌&&◌, ◌*◌, ◌+◌, slice_set, subst, sym, arith}
use Rattle.rev_core.proofs.{IsRead, read_more, read_all}
use Rattle.rev_core.proofs.short_sig.joined.Goals as goal

pub loop-i-preserved : goal.loop-i-preserved
loop-i-preserved c =
    let text = c.args.text.now in
    let bytes = slice_set c.loop-i.bytes c.loop-i.i (c.value_of.result * 16 + c.value_of-in-loop-i.result) in
    let more = read_more text c.loop-i.bytes c.loop-i.all c.loop-i.i c.value_of.result c.value_of-in-loop-i.result c.requires (omega arith)
    c.value_of.ensures.low c.value_of-in-loop-i.ensures.low c.value_of.ensures.digit c.value_of-in-loop-i.ensures.digit c.loop-i.invariant in
    subst (λ b. IsRead text bytes b (c.loop-i.i + 1)) (λ i. (sym c.is_hex_digit.ensures i && sym c.is_hex_digit-in-loop-i.ensures i) && c.loop-i.all) more

pub returns-clause-all : goal.returns-clause-all
returns-clause-all c =
    let all : c.loop-i.i ≡ 16 = omega arith in
    let read = subst (λ n. IsRead c.args.text.now c.loop-i.bytes c.loop-i.all n) all c.loop-i.invariant in
    (read_all c.args.text.now c.loop-i.bytes c.loop-i.all c.requires read).0

pub returns-clause-bytes : goal.returns-clause-bytes
returns-clause-bytes c =
    let all : c.loop-i.i ≡ 16 = omega arith in
    let read = subst (λ n. IsRead c.args.text.now c.loop-i.bytes c.loop-i.all n) all c.loop-i.invariant in
    (read_all c.args.text.now c.loop-i.bytes c.loop-i.all c.requires read).1
