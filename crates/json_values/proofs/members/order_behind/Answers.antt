use Rattle.proof_prelude.proofs.{◌≡◌, length, get_or, nat_cmp, sym, ap, ap₂, ◌∙◌, arith, slice_cmp}
use Rattle.json_values.proofs.{second_less, second_greater}
use Rattle.json_values.proofs.members.order_behind.Goals as goal

pub returns-then-x-y : goal.returns-then-x-y
returns-then-x-y c =
    let xs = c.as_bytes-x.result.now in
    let ys = c.as_bytes-y.result.now in
    let x : xs ≡ c.args.a.now = c.as_bytes-x.ensures.value in
    let y : ys ≡ c.args.b.now = c.as_bytes-y.ensures.value in
    let first : get_or xs 0 0 ≡ get_or ys 0 0 = ap (λ l. get_or l 0 0) x ∙ c.requires.2 ∙ ap (λ l. get_or l 0 0) (sym y) in
    sym (ap₂ (slice_cmp nat_cmp) (sym x) (sym y) ∙ second_less xs ys (omega (arith, ap length x)) (omega (arith, ap length y)) first c.if-x-y.true)

pub returns-then-y-x : goal.returns-then-y-x
returns-then-y-x c =
    let xs = c.as_bytes-x.result.now in
    let ys = c.as_bytes-y.result.now in
    let x : xs ≡ c.args.a.now = c.as_bytes-x.ensures.value in
    let y : ys ≡ c.args.b.now = c.as_bytes-y.ensures.value in
    let first : get_or xs 0 0 ≡ get_or ys 0 0 = ap (λ l. get_or l 0 0) x ∙ c.requires.2 ∙ ap (λ l. get_or l 0 0) (sym y) in
    sym (ap₂ (slice_cmp nat_cmp) (sym x) (sym y) ∙ second_greater xs ys (omega (arith, ap length x)) (omega (arith, ap length y)) first c.if-y-x.true)
