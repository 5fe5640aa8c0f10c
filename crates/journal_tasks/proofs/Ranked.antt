-- The leaves of a document in the order of their ranks.
use Rattle.proof_prelude.proofs.{◌≡◌, ℕ, suc, ◌+◌, ◌<◌, ◌^◌, Bool, true, false, ◌&&◌, if◌then◌else◌, nat_lt, List, [], ◌∷◌, ◌++◌, length, take, filter, map, map_more, filter-append, Bor, None, Some, inl, inr, refl, sym, ap, ◌∙◌, arith, cases_Bool, cond-true, cond-false, and_from, and_parts, append-nil, ltb-true, lt-ltb, get_or, insert, prefix_len, digits_value, IsNumeralModel}
use Rattle.std.proofs.lemmas.List.Sums.{fold-append}
use Rattle.std.proofs.lemmas.Str.Parse.{numerals_by_value, tells_all_ascii_digits}
use Rattle.std.specs.Str.{all_ascii_digits}
use Rattle.std.specs.Str.Parse.{IsNumeral, without_leading_plus}
use Rattle.journal_lines.specs.Leafs.{HeadView, head_view}
use Rattle.journal_lines.specs.declared.leaf.Leaf.{Leaf}
use Rattle.journal_tasks.specs.{heads_view, insert_ranked, number_in, outranks, ranked}

-- ---- a number

digits : IsNumeralModel (λ ds. all_ascii_digits ds ≡ true) (digits_value 10)
digits = numerals_by_value _ tells_all_ascii_digits

abbrev Writes : List ℕ → Type 0
Writes text = IsNumeral 10 (without_leading_plus text) × (digits_value 10 (without_leading_plus text) < 2 ^ 64)

abbrev tests : List ℕ → Bool
tests ds = nat_lt 0 (length ds) && all_ascii_digits ds && nat_lt (digits_value 10 ds) (2 ^ 64)

passes : (ds : List ℕ) → IsNumeral 10 ds → digits_value 10 ds < 2 ^ 64 → tests ds ≡ true
passes ds is small = and_from (nat_lt 0 (length ds) && all_ascii_digits ds) (nat_lt (digits_value 10 ds) (2 ^ 64)) (and_from (nat_lt 0 (length ds)) (all_ascii_digits ds) (lt-ltb 0 (length ds) is.0) (digits.from ds is.1)) (lt-ltb (digits_value 10 ds) (2 ^ 64) small)

passed : (ds : List ℕ) → tests ds ≡ true → IsNumeral 10 ds × (digits_value 10 ds < 2 ^ 64)
passed ds h =
    let p = and_parts (nat_lt 0 (length ds) && all_ascii_digits ds) (nat_lt (digits_value 10 ds) (2 ^ 64)) h in
    let q = and_parts (nat_lt 0 (length ds)) (all_ascii_digits ds) p.0 in
    ((ltb-true 0 (length ds) q.0, digits.to ds q.1), ltb-true (digits_value 10 ds) (2 ^ 64) p.1)

pub number_yes : (text : List ℕ) (n : ℕ) → Writes text × (n ≡ digits_value 10 (without_leading_plus text)) → Some n ≡ number_in text
number_yes text n (is, e) =
    let ds = without_leading_plus text in
    ap Some e ∙ sym (cond-true (tests ds) (Some (digits_value 10 ds)) None (passes ds is.0 is.1))

pub number_no : (text : List ℕ) → ¬ (Writes text) → None ≡ number_in text
number_no text other =
    let ds = without_leading_plus text in
    elim (cases_Bool (tests ds)) [
      | inl hit ↦ absurd (other (passed ds hit))
      | inr miss ↦ sym (cond-false (tests ds) (Some (digits_value 10 ds)) None miss)
    ]

-- ---- a leaf more

abbrev pub views : List (Bor Leaf) → List HeadView
views leaves = map (λ leaf. head_view leaf.now) leaves

abbrev above : Bor Leaf → Bor Leaf → Bool
above x known = outranks (head_view known.now) (head_view x.now)

pub inserted : (xs : List (Bor Leaf)) (x : Bor Leaf) → views (insert xs (prefix_len (λ known. outranks (head_view known.now) (head_view x.now)) xs) x) ≡ insert_ranked (head_view x.now) (views xs)
inserted [] x = refl
inserted (y ∷ ys) x =
    let n = prefix_len (above x) ys in
    let at : ℕ → List HeadView = λ k. views (insert (y ∷ ys) k x) in
    let later = head_view y.now ∷ insert_ranked (head_view x.now) (views ys) in
    let first = head_view x.now ∷ views (y ∷ ys) in
    elim (cases_Bool (above x y)) [
      | inl hit ↦ ap at (cond-true (above x y) (1 + n) 0 hit ∙ one n) ∙ ap (λ (z : List HeadView). head_view y.now ∷ z) (inserted ys x) ∙ sym (cond-true (above x y) later first hit)
      | inr miss ↦ ap at (cond-false (above x y) (1 + n) 0 miss) ∙ sym (cond-false (above x y) later first miss)
    ] where
      one : (k : ℕ) → 1 + k ≡ suc k
      one k = omega arith

-- the leaves among the first revisions, and one revision more
pub ranked_more : (p : HeadView → Bool) (xs : List Leaf) (i : ℕ) (d : Leaf) → i < length xs → ranked (filter p (heads_view (take (i + 1) xs))) ≡ (if p (head_view (get_or xs i d)) then insert_ranked (head_view (get_or xs i d)) (ranked (filter p (heads_view (take i xs)))) else ranked (filter p (heads_view (take i xs))))
ranked_more p xs i d h =
    let x = head_view (get_or xs i d) in
    let before = heads_view (take i xs) in
    ap (λ (z : List HeadView). ranked (filter p z)) (map_more head_view xs i d h) ∙ ap ranked (filter-append p before (x ∷ [])) ∙ one (p x) x (filter p before) where
      one : (b : Bool) (x : HeadView) (before : List HeadView) → ranked (before ++ (if b then x ∷ [] else [])) ≡ (if b then insert_ranked x (ranked before) else ranked before)
      one true x before = fold-append (λ (z : List HeadView) (head : HeadView). insert_ranked head z) [] before (x ∷ [])
      one false x before = ap ranked (append-nil before)
