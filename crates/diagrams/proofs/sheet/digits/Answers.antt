use Rattle.proof_prelude.proofs.{ℕ, ◌+◌, ◌/◌, ◌<◌, ◌≡◌, ◌≤◌, ◌^◌, length, decimal, decimal_digit, length-append, sym, ap, subst, ◌∙◌, arith, rules}
use Rattle.std.proofs.lemmas.Fmt.{decimal_nonempty, decimal_step, length-decimal-le}
use Rattle.diagrams.proofs.sheet.digits.Invariants.{IsCounted}
use Rattle.diagrams.proofs.sheet.digits.Goals as goal
use Rattle.diagrams.proofs.sheet.digits.Goals.{else-number-ge10, then-number-ge10}

begun : (n : ℕ) → n < 2 ^ 64 → IsCounted n n 1 0
begun n small =
    let few = length-decimal-le 20 n (omega arith) (omega arith) small in
    record { counted = omega arith; few = omega (arith, few); below = omega arith; near = omega arith }

fewer : (n : ℕ) → 10 ≤ n → n < 2 ^ 64 → length (decimal n) ≡ length (decimal (n / 10)) + 1
fewer n high small = ap length (decimal_step n high small) ∙ length-append (decimal (n / 10)) _

next : (all n count step : ℕ) → 10 ≤ n → n < 2 ^ 64 → IsCounted all n count step → IsCounted all (n / 10) (count + 1) (step + 1)
next all n count step high small h =
    let f = fewer n high small in
    let counted = h.counted in
    let few = h.few in
    let below = h.below in
    let near = h.near in
    record { counted = omega (arith, f, counted); few = omega (arith, f, few); below = omega (arith, below); near = omega (arith, near) }

same : (all n count step : ℕ) → n < 10 → step < 19 → IsCounted all n count step → IsCounted all n count (step + 1)
same all n count step low more h =
    let one : length (decimal n) ≡ 1 = ap length (decimal_digit n low) in
    let near = h.near in
    record { counted = h.counted; few = omega (arith, one); below = h.below; near = omega (arith, near) }

pub loop-step-init : goal.loop-step-init
loop-step-init c = begun c.args.number (search rules)

pub loop-step-preserved : goal.loop-step-preserved
loop-step-preserved c =
    let small : c.loop-step.number < 2 ^ 64 = let b = c.loop-step.invariant.below in let s : c.args.number < 2 ^ 64 = search rules in omega (arith, b, s) in
    elim c.if-number-ge10.branch [
      | then-number-ge10 w ↦ subst (λ n. IsCounted c.args.number n c.if-number-ge10.count (c.loop-step.step + 1)) (sym w.number-is)
          (subst (λ k. IsCounted c.args.number (c.loop-step.number / 10) k (c.loop-step.step + 1)) (sym w.count-is)
          (next c.args.number c.loop-step.number c.loop-step.count c.loop-step.step w.if-number-ge10.true small c.loop-step.invariant))
      | else-number-ge10 w ↦ subst (λ n. IsCounted c.args.number n c.if-number-ge10.count (c.loop-step.step + 1)) (sym w.number-is)
          (subst (λ k. IsCounted c.args.number c.loop-step.number k (c.loop-step.step + 1)) (sym w.count-is)
          (same c.args.number c.loop-step.number c.loop-step.count c.loop-step.step w.if-number-ge10.false c.loop-step-test.true c.loop-step.invariant))
    ]

pub returns-clause-text : goal.returns-clause-text
returns-clause-text c =
    let h = c.loop-step.invariant in
    let counted = h.counted in
    let few = h.few in
    let below = h.below in
    let all : c.args.number < 2 ^ 64 = search rules in
    let small : c.loop-step.number < 2 ^ 64 = omega (arith, below, all) in
    let some = decimal_nonempty c.loop-step.number small in
    omega (arith, counted, few, some)
