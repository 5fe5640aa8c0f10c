-- The first line that has a wrong form.
use Rattle.proof_prelude.proofs.{◌≡◌, ℕ, suc, Bool, true, false, if◌then◌else◌, nat_eq, List, [], ◌∷◌, ◌++◌, length, not, Option, None, Some, option_map, refl, ap, ◌∙◌, option_or}
use Rattle.journal_core.specs.{first_index, wrong_after, wrong_at}

-- one item more
pub first_index-push : {A : Type 0} (test : A → Bool) (xs : List A) (x : A) → first_index test (xs ++ x ∷ []) ≡ option_or (first_index test xs) (if test x then Some (length xs) else None)
first_index-push test [] x = refl
first_index-push test (y ∷ xs) x = by (test y) (test x) (first_index test xs) (first_index-push test xs x) where
  by : (b d : Bool) (o : Option ℕ) → first_index test (xs ++ x ∷ []) ≡ option_or o (if d then Some (length xs) else None)
      → (let zero : Option ℕ = Some 0 in (if b then zero else option_map suc (first_index test (xs ++ x ∷ []))) ≡ option_or (if b then zero else option_map suc o) (if d then Some (suc (length xs)) else None))
  by true d o e = refl
  by false d (Some n) e = ap (option_map suc) e
  by false true None e = ap (option_map suc) e
  by false false None e = ap (option_map suc) e

-- the first wrong line, after one line more
pub wrong_more : (test : List ℕ → Bool) (lines : List (List ℕ)) (line : List ℕ) (before : Option ℕ) (wrong : Bool) (count : ℕ) → before ≡ first_index test lines → wrong ≡ test line → count ≡ length lines → wrong_after before wrong count ≡ first_index test (lines ++ line ∷ [])
wrong_more test lines line before wrong count e w n =
    by before wrong count ∙ ap (λ o. option_or o (if wrong then Some count else None)) e ∙ ap (λ b. option_or (first_index test lines) (if b then Some count else None)) w ∙ ap (λ k. option_or (first_index test lines) (if test line then Some k else None)) n
    ∙ cc (first_index-push test lines line) where
      by : (before : Option ℕ) (wrong : Bool) (count : ℕ) → wrong_after before wrong count ≡ option_or before (if wrong then Some count else None)
      by (Some n) wrong count = refl
      by None true count = refl
      by None false count = refl

-- the first wrong line, of which the bytes after the last line end are one
pub wrong_end : (test : List ℕ → Bool) (lines : List (List ℕ)) (rest : List ℕ) (before : Option ℕ) (wrong : Bool) (count : ℕ) → before ≡ first_index test lines → wrong ≡ not (nat_eq (length rest) 0) → count ≡ length lines → wrong_after before wrong count ≡ wrong_at test lines rest
wrong_end test lines rest before wrong count e w n =
    by before wrong (nat_eq (length rest) 0) count w ∙ ap (λ o. option_or o (if nat_eq (length rest) 0 then None else Some count)) e
    ∙ ap (λ k. option_or (first_index test lines) (if nat_eq (length rest) 0 then None else Some k)) n where
      by : (before : Option ℕ) (wrong none : Bool) (count : ℕ) → wrong ≡ not none → wrong_after before wrong count ≡ option_or before (if none then None else Some count)
      by (Some n) wrong none count w = refl
      by None true true count w = cc
      by None true false count w = refl
      by None false true count w = refl
      by None false false count w = cc
