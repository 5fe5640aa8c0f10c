-- The count of lines, after one line more and at the end of the input.
use Rattle.proof_prelude.proofs.{◌≡◌, ℕ, suc, ◌+◌, Bool, true, false, if◌then◌else◌, nat_eq, not, List, [], ◌∷◌, ◌++◌, length, Option, None, Some, option_map, option_or, refl, sym, ap, ◌∙◌, arith, add-one, length-append}
use Rattle.journal_core.specs.{first_index}
use Rattle.journal_core.proofs.{first_index-push}
use Rattle.journal_tasks.specs.{IsCounting, counted_as, failed, failed_end, wrong_line}
use Rattle.journal_tasks.specs.declared.count.Count.{Count}

-- the first wrong line, after one line more
wrong_after : (o : Option ℕ) (b : Bool) (count : ℕ) → (if b then option_or (option_map suc o) (Some (count + 1)) else option_map suc o) ≡ option_map suc (option_or o (if b then Some count else None))
wrong_after (Some n) true count = refl
wrong_after (Some n) false count = refl
wrong_after None true count = ap Some (add-one count)
wrong_after None false count = refl

wrong_as : (b : Bool) (after : Count) → (counted_as b after).wrong ≡ (if b then failed after.wrong after.lines else after.wrong)
wrong_as true after = refl
wrong_as false after = refl

lines_as : (b : Bool) (after : Count) → (counted_as b after).lines ≡ after.lines
lines_as true after = refl
lines_as false after = refl

pub count_line : {A : Type 0} (test : A → Bool) (lines : List A) (line : A) (old after new : Count) (b : Bool) → IsCounting test lines old → after ≡ record { lines = old.lines + 1; wrong = old.wrong } → b ≡ test line → new ≡ counted_as b after → IsCounting test (lines ++ line ∷ []) new
count_line test lines line old after new b c a t n = record {
  lines_is = ap (λ (z : Count). z.lines) n ∙ lines_as b after ∙ ap (λ (z : Count). z.lines) a ∙ omega (arith, c.lines_is, length-append lines (line ∷ []));
  wrong_is = ap (λ (z : Count). z.wrong) n ∙ wrong_as b after ∙ ap (λ (z : Count). if b then failed z.wrong z.lines else z.wrong) a ∙ ap (λ o. if b then option_or o (Some (old.lines + 1)) else o) c.wrong_is
      ∙ ap (λ k. if b then option_or (option_map suc (first_index test lines)) (Some (k + 1)) else option_map suc (first_index test lines)) c.lines_is ∙ wrong_after (first_index test lines) b (length lines)
      ∙ ap (λ d. option_map suc (option_or (first_index test lines) (if d then Some (length lines) else None))) t ∙ ap (option_map suc) (sym (first_index-push test lines line));
}

-- the first wrong line of the complete input
end_after : (o : Option ℕ) (b : Bool) (count : ℕ) → (if b then option_map suc o else option_or (option_map suc o) (Some (count + 1))) ≡ option_map suc (option_or o (if b then None else Some count))
end_after (Some n) true count = refl
end_after (Some n) false count = refl
end_after None true count = refl
end_after None false count = ap Some (add-one count)

pub count_end : {A : Type 0} (test : A → Bool) (lines : List A) (rest : List ℕ) (old : Count) (wrong : Option ℕ) → IsCounting test lines old → wrong ≡ failed_end old.wrong old.lines rest → wrong ≡ wrong_line test lines rest
count_end test lines rest old wrong c w =
    let none = nat_eq (length rest) 0 in
    w ∙ ap (λ o. if none then o else option_or o (Some (old.lines + 1))) c.wrong_is ∙ ap (λ k. if none then option_map suc (first_index test lines) else option_or (option_map suc (first_index test lines)) (Some (k + 1))) c.lines_is
    ∙ end_after (first_index test lines) none (length lines)

-- no line was read
pub count_none : {A : Type 0} (test : A → Bool) (count : Count) → count ≡ record { lines = 0; wrong = None } → IsCounting test [] count
count_none test count e = record { lines_is = ap (λ (z : Count). z.lines) e; wrong_is = ap (λ (z : Count). z.wrong) e }

pub not_not : (b : Bool) → not (not b) ≡ b
not_not true = refl
not_not false = refl
