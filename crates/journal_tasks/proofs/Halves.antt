-- The two parts of an input, after one line more.
use Rattle.proof_prelude.proofs.{◌≡◌, ℕ, Bool, true, false, ◌||◌, if◌then◌else◌, List, [], ◌∷◌, ◌++◌, map, refl, sym, ap, ap₂, ◌∙◌, append-nil, append_assoc, map-append, inl, inr, cases_Bool, cond-true, cond-false, or_parts, or-false, false≢true, list_any-append}
use Rattle.journal_tasks.specs.Halves.{first_part, has_second_part, is_empty_line, part_flags, second_part}

or_rest : (a b : Bool) → a ≡ false → (a || b) ≡ true → b ≡ true
or_rest false b e h = h
or_rest true b e h = absurd (false≢true (sym e))

pub has_second_push : (lines : List (List ℕ)) (line : List ℕ) → has_second_part (lines ++ line ∷ []) ≡ (has_second_part lines || is_empty_line line)
has_second_push lines line = list_any-append is_empty_line lines (line ∷ []) ∙ ap (λ b. has_second_part lines || b) (or-false (is_empty_line line))

pub second_open : (lines : List (List ℕ)) → has_second_part lines ≡ false → second_part lines ≡ []
second_open [] h = refl
second_open (l ∷ ls) h =
    let p = or_parts (is_empty_line l) (has_second_part ls) h in
    cond-false (is_empty_line l) ls (second_part ls) p.0 ∙ second_open ls p.1

pub first_all : (lines : List (List ℕ)) → has_second_part lines ≡ false → first_part lines ≡ lines
first_all [] h = refl
first_all (l ∷ ls) h =
    let p = or_parts (is_empty_line l) (has_second_part ls) h in
    cond-false (is_empty_line l) [] (l ∷ first_part ls) p.0 ∙ ap (λ z. l ∷ z) (first_all ls p.1)

pub first_push : (lines : List (List ℕ)) (line : List ℕ) → has_second_part lines ≡ false → is_empty_line line ≡ false → first_part (lines ++ line ∷ []) ≡ first_part lines ++ line ∷ []
first_push [] line h e = cond-false (is_empty_line line) [] (line ∷ []) e
first_push (l ∷ ls) line h e =
    let p = or_parts (is_empty_line l) (has_second_part ls) h in
    cond-false (is_empty_line l) [] (l ∷ first_part (ls ++ line ∷ [])) p.0 ∙ ap (λ z. l ∷ z) (first_push ls line p.1 e)
    ∙ ap (λ z. z ++ line ∷ []) (sym (cond-false (is_empty_line l) [] (l ∷ first_part ls) p.0))

pub first_break : (lines : List (List ℕ)) (line : List ℕ) → has_second_part lines ≡ false → is_empty_line line ≡ true → first_part (lines ++ line ∷ []) ≡ first_part lines
first_break [] line h e = cond-true (is_empty_line line) [] (line ∷ []) e
first_break (l ∷ ls) line h e =
    let p = or_parts (is_empty_line l) (has_second_part ls) h in
    cond-false (is_empty_line l) [] (l ∷ first_part (ls ++ line ∷ [])) p.0 ∙ ap (λ z. l ∷ z) (first_break ls line p.1 e)
    ∙ sym (cond-false (is_empty_line l) [] (l ∷ first_part ls) p.0)

pub second_break : (lines : List (List ℕ)) (line : List ℕ) → has_second_part lines ≡ false → is_empty_line line ≡ true → second_part (lines ++ line ∷ []) ≡ []
second_break [] line h e = cond-true (is_empty_line line) [] [] e
second_break (l ∷ ls) line h e =
    let p = or_parts (is_empty_line l) (has_second_part ls) h in
    cond-false (is_empty_line l) (ls ++ line ∷ []) (second_part (ls ++ line ∷ [])) p.0 ∙ second_break ls line p.1 e

pub first_done : (lines : List (List ℕ)) (line : List ℕ) → has_second_part lines ≡ true → first_part (lines ++ line ∷ []) ≡ first_part lines
first_done [] line h = absurd (false≢true h)
first_done (l ∷ ls) line h =
    elim (cases_Bool (is_empty_line l)) [
      | inl hit ↦ cond-true (is_empty_line l) [] (l ∷ first_part (ls ++ line ∷ [])) hit ∙ sym (cond-true (is_empty_line l) [] (l ∷ first_part ls) hit)
      | inr miss ↦ cond-false (is_empty_line l) [] (l ∷ first_part (ls ++ line ∷ [])) miss ∙ ap (λ z. l ∷ z) (first_done ls line (or_rest (is_empty_line l) (has_second_part ls) miss h))
          ∙ sym (cond-false (is_empty_line l) [] (l ∷ first_part ls) miss)
    ]

pub second_done : (lines : List (List ℕ)) (line : List ℕ) → has_second_part lines ≡ true → second_part (lines ++ line ∷ []) ≡ second_part lines ++ line ∷ []
second_done [] line h = absurd (false≢true h)
second_done (l ∷ ls) line h =
    elim (cases_Bool (is_empty_line l)) [
      | inl hit ↦ cond-true (is_empty_line l) (ls ++ line ∷ []) (second_part (ls ++ line ∷ [])) hit ∙ ap (λ z. z ++ line ∷ []) (sym (cond-true (is_empty_line l) ls (second_part ls) hit))
      | inr miss ↦ cond-false (is_empty_line l) (ls ++ line ∷ []) (second_part (ls ++ line ∷ [])) miss ∙ second_done ls line (or_rest (is_empty_line l) (has_second_part ls) miss h)
          ∙ ap (λ z. z ++ line ∷ []) (sym (cond-false (is_empty_line l) ls (second_part ls) miss))
    ]

-- ---- the wrong lines, after one line more

flags_by : (test test' : List ℕ → Bool) (f f' s s' : List (List ℕ)) (b b' : Bool) → f ≡ f' → s ≡ s' → b ≡ b' → map test f ++ (if b then false ∷ map test' s else []) ≡ map test f' ++ (if b' then false ∷ map test' s' else [])
flags_by test test' f f' s s' b b' e g h =
    ap (λ z. map test z ++ (if b then false ∷ map test' s else [])) e ∙ ap (λ z. map test f' ++ (if b then false ∷ map test' z else [])) g ∙ ap (λ z. map test f' ++ (if z then false ∷ map test' s' else [])) h

pub flags_first : (test test' : List ℕ → Bool) (lines : List (List ℕ)) (line : List ℕ) → has_second_part lines ≡ false → is_empty_line line ≡ false → part_flags test test' (lines ++ line ∷ []) ≡ part_flags test test' lines ++ test line ∷ []
flags_first test test' lines line h e =
    let f = first_part lines in
    let s = second_part lines in
    let s' = second_part (lines ++ line ∷ []) in
    flags_by test test' (first_part (lines ++ line ∷ [])) (f ++ line ∷ []) s' s' (has_second_part (lines ++ line ∷ [])) false (first_push lines line h e) refl (has_second_push lines line ∙ ap₂ (λ a b. a || b) h e)
    ∙ append-nil (map test (f ++ line ∷ [])) ∙ map-append test f (line ∷ []) ∙ ap (λ z. z ++ test line ∷ []) (sym (flags_by test test' f f s s (has_second_part lines) false refl refl h ∙ append-nil (map test f)))

pub flags_separator : (test test' : List ℕ → Bool) (lines : List (List ℕ)) (line : List ℕ) → has_second_part lines ≡ false → is_empty_line line ≡ true → part_flags test test' (lines ++ line ∷ []) ≡ part_flags test test' lines ++ false ∷ []
flags_separator test test' lines line h e =
    let f = first_part lines in
    let s = second_part lines in
    flags_by test test' (first_part (lines ++ line ∷ [])) f (second_part (lines ++ line ∷ [])) [] (has_second_part (lines ++ line ∷ [])) true (first_break lines line h e) (second_break lines line h e) (has_second_push lines line ∙ ap₂ (λ a b. a || b) h e)
    ∙ ap (λ z. z ++ false ∷ []) (sym (flags_by test test' f f s s (has_second_part lines) false refl refl h ∙ append-nil (map test f)))

pub flags_second : (test test' : List ℕ → Bool) (lines : List (List ℕ)) (line : List ℕ) → has_second_part lines ≡ true → part_flags test test' (lines ++ line ∷ []) ≡ part_flags test test' lines ++ test' line ∷ []
flags_second test test' lines line h =
    let f = first_part lines in
    let s = second_part lines in
    flags_by test test' (first_part (lines ++ line ∷ [])) f (second_part (lines ++ line ∷ [])) (s ++ line ∷ []) (has_second_part (lines ++ line ∷ [])) true (first_done lines line h) (second_done lines line h) (has_second_push lines line ∙ ap (λ b. b || is_empty_line line) h)
    ∙ ap (λ z. map test f ++ false ∷ z) (map-append test' s (line ∷ [])) ∙ sym (append_assoc (map test f) (false ∷ map test' s) (test' line ∷ [])) ∙ ap (λ z. z ++ test' line ∷ []) (sym (flags_by test test' f f s s (has_second_part lines) true refl refl h))
