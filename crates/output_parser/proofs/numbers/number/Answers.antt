use Rattle.proof_prelude.proofs.{◌≡◌, ℕ, sym, ap, subst, ◌∙◌, decimal, Ok, Result, false≢true, IsUtf8, IsUtf8-from_ascii, IsAscii-decimal, parse-decimal, bytes_decides}
use Rattle.output_parser.proofs.{clash}
use Rattle.output_parser.proofs.numbers.number.Goals as goal

ok_number : {E : Type 0} (m n : ℕ) (r : Result ℕ E) → r ≡ Ok m → r ≡ Ok n → m ≡ n
ok_number m n r p q = let e : Ok m ≡ Ok n = sym p ∙ q in cc

pub returns-in_default-clause-none : goal.returns-in_default-clause-none
returns-in_default-clause-none c =
    λ n h. c.in_default.ensures.cases.0 (subst IsUtf8 (sym h.0) (IsUtf8-from_ascii (decimal n) (IsAscii-decimal n h.1)))

pub returns-in_default-parse-clause-none : goal.returns-in_default-parse-clause-none
returns-in_default-parse-clause-none c =
    λ n h.
    let is = c.in-Ok.ensures.cases.0 ∙ h.0 in
    clash c.parse.result n c.in_default-parse.field-0 (parse-decimal 64 n c.in-Ok.text.now c.parse.result h.1 h.1 is c.parse.ensures.value.0) c.in_default-parse.is

pub returns-else-eq-clause-none : goal.returns-else-eq-clause-none
returns-else-eq-clause-none c =
    λ n h.
    let is = c.in-Ok.ensures.cases.0 ∙ h.0 in
    let same = ok_number n c.in-Ok-parse.number c.parse.result (parse-decimal 64 n c.in-Ok.text.now c.parse.result h.1 h.1 is c.parse.ensures.value.0) c.in-Ok-parse.is in
    let text : c.format.result.now ≡ c.in-Ok.text.now = c.format.ensures.text ∙ (ap decimal (sym same) ∙ sym is) in
    false≢true (sym c.if-eq.false ∙ (c.eq.ensures ∙ (bytes_decides c.format.result.now c.in-Ok.text.now).1 text))
