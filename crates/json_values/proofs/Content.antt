-- The steps of `content`, at an index of the text.
use Rattle.proof_prelude.proofs.{◌≡◌, ℕ, suc, ◌+◌, ◌-◌, ◌<◌, ◌≤◌, Bool, true, false, not, ◌||◌, cond, ◌&&◌, ◌==◌, nat_lt, List, [], ◌∷◌, ◌++◌, length, take, drop, get_or, Option, Some, None, option_and_then, refl, sym, ap, ◌∙◌, arith, drop_more, drop_all, or_parts, not-true, prefix_len, len_utf8, append_assoc, drop-drop, take-take, length-take-le, get_or-drop, length-drop, eqb-true, true≢false, ne_eqb, lt-ltb, le-ltb, ⊎_elim, lt_of_not-le, get_or_default}
use Rattle.std.proofs.lemmas.Bool.{cases_lt}
use Rattle.std.specs.Char.{encode_utf8}
use Rattle.json.specs.Text.{code_unit, short_escape, is_high_surrogate, is_low_surrogate, surrogate_pair, Within, plain, after_backslash, after_u, after_high, prepend, content}
use Rattle.json.specs.Run.{is_plain}

pub content-plain : (d : List ℕ) (i : ℕ) → i < length d → content plain (drop i d)
    ≡ cond (get_or d i 0 == 34) (Some []) (cond (get_or d i 0 == 92) (content after_backslash (drop (i + 1) d)) (cond (nat_lt (get_or d i 0) 32) None (prepend (get_or d i 0 ∷ []) (content plain (drop (i + 1) d)))))
content-plain d i h = unfold content in ap (content plain) (drop_more d i 0 h)

pub content-after_backslash : (d : List ℕ) (i : ℕ) → i < length d → content after_backslash (drop i d)
    ≡ cond (get_or d i 0 == 117) (content after_u (drop (i + 1) d)) (option_and_then (λ c. prepend (c ∷ []) (content plain (drop (i + 1) d))) (short_escape (get_or d i 0)))
content-after_backslash d i h = unfold content in ap (content after_backslash) (drop_more d i 0 h)

pub four : (d : List ℕ) (i : ℕ) → i + 4 ≤ length d → drop i d ≡ get_or d i 0 ∷ get_or d (i + 1) 0 ∷ get_or d (i + 2) 0 ∷ get_or d (i + 3) 0 ∷ drop (i + 4) d
four d i h =
    let more : (j k : ℕ) → k ≡ j + 1 → j < length d → drop j d ≡ get_or d j 0 ∷ drop k d = λ j k e l. drop_more d j 0 l ∙ ap (λ n. get_or d j 0 ∷ drop n d) (sym e) in
    more i (i + 1) refl (omega arith) ∙ ap (λ l. get_or d i 0 ∷ l) (more (i + 1) (i + 2) (omega arith) (omega arith) ∙ ap (λ l. get_or d (i + 1) 0 ∷ l)
    (more (i + 2) (i + 3) (omega arith) (omega arith) ∙ ap (λ l. get_or d (i + 2) 0 ∷ l) (more (i + 3) (i + 4) (omega arith) (omega arith))))

pub content-after_u : (d : List ℕ) (i : ℕ) → i + 4 ≤ length d → content after_u (drop i d)
    ≡ option_and_then (λ u. cond (is_high_surrogate u) (content (after_high u) (drop (i + 4) d)) (cond (is_low_surrogate u) None (prepend (encode_utf8 u) (content plain (drop (i + 4) d)))))
    (code_unit (get_or d i 0) (get_or d (i + 1) 0) (get_or d (i + 2) 0) (get_or d (i + 3) 0))
content-after_u d i h = unfold content in ap (content after_u) (four d i h)

pub content-after_high : (d : List ℕ) (i high : ℕ) → i + 6 ≤ length d → content (after_high high) (drop i d)
    ≡ cond ((get_or d i 0 == 92) && (get_or d (i + 1) 0 == 117))
    (option_and_then (λ l. cond (is_low_surrogate l) (prepend (encode_utf8 (surrogate_pair high l)) (content plain (drop (i + 6) d))) None)
    (code_unit (get_or d (i + 2) 0) (get_or d (i + 2 + 1) 0) (get_or d (i + 2 + 2) 0) (get_or d (i + 2 + 3) 0))) None
content-after_high d i high h = unfold content in
    let two : i + 1 + 1 ≡ i + 2 = omega arith in
    let six : i + 2 + 4 ≡ i + 6 = omega arith in
    let last = four d (i + 2) (omega arith) ∙ ap (λ n. get_or d (i + 2) 0 ∷ get_or d (i + 2 + 1) 0 ∷ get_or d (i + 2 + 2) 0 ∷ get_or d (i + 2 + 3) 0 ∷ drop n d) six in
    ap (content (after_high high)) (drop_more d i 0 (omega arith) ∙ ap (λ l. get_or d i 0 ∷ l) (drop_more d (i + 1) 0 (omega arith) ∙ ap (λ l. get_or d (i + 1) 0 ∷ l) (ap (λ n. drop n d) two ∙ last)))

pub content-nil : (w : Within) → content w [] ≡ None
content-nil plain = unfold content in refl
content-nil _ = unfold content in refl

pub short_after_u : (xs : List ℕ) → length xs < 4 → content after_u xs ≡ None
short_after_u (a ∷ b ∷ c ∷ d ∷ xs) h = unfold content in let no : ⊥ = omega arith in absurd no
short_after_u _ h = unfold content in refl

pub short_after_high : (high : ℕ) (xs : List ℕ) → length xs < 6 → content (after_high high) xs ≡ None
short_after_high high (s ∷ u ∷ a ∷ b ∷ c ∷ d ∷ xs) h = unfold content in let no : ⊥ = omega arith in absurd no
short_after_high high _ h = unfold content in refl

abbrev pub is_found : Option ℕ → Bool
is_found None = false
is_found (Some u) = true

pub all_hex : (b : Bool) (u : ℕ) → is_found (cond b (Some u) None) ≡ true → b ≡ true
all_hex true u h = refl
all_hex false u h = h

pub prepend-prepend : (a b : List ℕ) (r : Option (List ℕ)) → prepend a (prepend b r) ≡ prepend (a ++ b) r
prepend-prepend a b None = refl
prepend-prepend a b (Some s) = ap Some (sym (append_assoc a b s))

pub prepend-nil : (r : Option (List ℕ)) → prepend [] r ≡ r
prepend-nil None = refl
prepend-nil (Some s) = refl

run_byte : (p : Bool) (x n : ℕ) (xs : List ℕ) → p ≡ is_plain x → content plain xs ≡ prepend (take n xs) (content plain (drop n xs))
    → content plain (x ∷ xs) ≡ prepend (take (cond p (1 + n) 0) (x ∷ xs)) (content plain (drop (cond p (1 + n) 0) (x ∷ xs)))
run_byte false x n xs e ih = unfold content in sym (prepend-nil _)
run_byte true x n xs e ih = unfold content in
    let next : suc n ≡ 1 + n = omega arith in
    let none = or_parts ((x == 34) || (x == 92)) _ (not-true _ (sym e)) in
    let tests = or_parts (x == 34) _ none.0 in
    (λ i. cond (tests.0 i) (Some []) (cond (tests.1 i) (content after_backslash xs) (cond (none.1 i) None (prepend (x ∷ []) (ih i)))))
    ∙ prepend-prepend (x ∷ []) (take n xs) _ ∙ ap (λ k. prepend (take k (x ∷ xs)) (content plain (drop k (x ∷ xs)))) next

-- bytes without escapes represent themselves
pub content-run : (xs : List ℕ) → content plain xs ≡ prepend (take (prefix_len is_plain xs) xs) (content plain (drop (prefix_len is_plain xs) xs))
content-run [] = sym (prepend-nil _)
content-run (x ∷ xs) = run_byte (is_plain x) x (prefix_len is_plain xs) xs refl (content-run xs)

-- ---- from i up to the end of the unescaped run

module _ (d : List ℕ) (i stop : ℕ) (is : stop ≡ i + prefix_len is_plain (drop i d)) where
  pub content-to_stop : content plain (drop i d) ≡ prepend (take (stop - i) (drop i d)) (content plain (drop stop d))
  content-to_stop =
      let n : prefix_len is_plain (drop i d) ≡ stop - i = omega arith in
      content-run (drop i d) ∙ ap (λ l. prepend (take (prefix_len is_plain (drop i d)) (drop i d)) (content plain l)) (drop-drop _ i d ∙ ap (λ k. drop k d) (sym is))
      ∙ ap (λ k. prepend (take k (drop i d)) (content plain (drop stop d))) n

pub at_quote : (d : List ℕ) (i : ℕ) → i < length d → get_or d i 0 ≡ 34 → content plain (drop i d) ≡ Some []
at_quote d i h e = unfold content in ap (content plain) (drop_more d i 0 h ∙ ap (λ x. x ∷ drop (i + 1) d) e)

pub at_backslash : (d : List ℕ) (i : ℕ) → i < length d → get_or d i 0 ≡ 92 → content plain (drop i d) ≡ content after_backslash (drop (i + 1) d)
at_backslash d i h e = unfold content in ap (content plain) (drop_more d i 0 h ∙ ap (λ x. x ∷ drop (i + 1) d) e)

pub at_control : (d : List ℕ) (i : ℕ) → i < length d → get_or d i 0 < 32 → content plain (drop i d) ≡ None
at_control d i h e =
    let x = get_or d i 0 in
    content-plain d i h ∙ (λ j. cond (ne_eqb x 34 (λ z. omega arith) j) (Some []) (cond (ne_eqb x 92 (λ z. omega arith) j) (content after_backslash (drop (i + 1) d))
    (cond (lt-ltb x 32 e j) None (prepend (x ∷ []) (content plain (drop (i + 1) d))))))

pub at_end : (d : List ℕ) (i : ℕ) → length d ≤ i → content plain (drop i d) ≡ None
at_end d i h = ap (content plain) (drop_all i d h) ∙ content-nil plain

stops_byte : (p : Bool) (x n : ℕ) (xs : List ℕ) → p ≡ is_plain x → (n < length xs → is_plain (get_or xs n 0) ≡ false) → cond p (1 + n) 0 < length (x ∷ xs) → is_plain (get_or (x ∷ xs) (cond p (1 + n) 0) 0) ≡ false
stops_byte false x n xs e ih h = sym e
stops_byte true x n xs e ih h = let next : 1 + n ≡ suc n = omega arith in ap (λ k. is_plain (get_or (x ∷ xs) k 0)) next ∙ ih (omega arith)

pub stops_there : (xs : List ℕ) → prefix_len is_plain xs < length xs → is_plain (get_or xs (prefix_len is_plain xs) 0) ≡ false
stops_there [] h = let no : ⊥ = omega arith in absurd no
stops_there (x ∷ xs) h = stops_byte (is_plain x) x (prefix_len is_plain xs) xs refl (stops_there xs) h

-- a byte that ends the run, and is neither a quotation mark nor a control byte, is a backslash
pub stop_is_backslash : (d : List ℕ) (i stop : ℕ) → stop ≡ i + prefix_len is_plain (drop i d) → stop < length d → (get_or d stop 0 ≡ 34 → ⊥) → 32 ≤ get_or d stop 0 → get_or d stop 0 ≡ 92
stop_is_backslash d i stop is h q l =
    let x = get_or d stop 0 in
    let there : is_plain x ≡ false = ap is_plain (ap (λ k. get_or d k 0) is ∙ sym (get_or-drop i d _ 0)) ∙ stops_there (drop i d) (omega (arith, length-drop i d)) in
    eqb-true x 92 (last (x == 92) (sym ((λ j. not (ne_eqb x 34 q j || (x == 92) || le-ltb x 32 l j))) ∙ there))
  where
    last : (b : Bool) → not (b || false) ≡ false → b ≡ true
    last true e = refl
    last false e = absurd (true≢false e)

-- where a run ends at neither a quotation mark nor a backslash, the string has no content
pub no_content : (d : List ℕ) (i stop : ℕ) → stop ≡ i + prefix_len is_plain (drop i d) → (get_or d stop 32 ≡ 34 → ⊥) → (get_or d stop 32 ≡ 92 → ⊥) → content plain (drop i d) ≡ None
no_content d i stop is quote slash =
    content-to_stop d i stop is ∙ ap (prepend (take (stop - i) (drop i d))) (⊎_elim
    (λ h. at_control d stop h (lt_of_not-le (λ l. slash (sym (get_or_default d stop 0 32 h) ∙ stop_is_backslash d i stop is h (λ e. quote (sym (get_or_default d stop 0 32 h) ∙ e)) l))))
    (λ h. at_end d stop h)
    (cases_lt stop (length d)))

pub len_utf8-le : (c : ℕ) → len_utf8 c ≤ 4
len_utf8-le c = grind arith

take-append-add : (xs ys : List ℕ) (n : ℕ) → take (length xs + n) (xs ++ ys) ≡ xs ++ take n ys
take-append-add [] ys n = let e : 0 + n ≡ n = omega arith in ap (λ k. take k ys) e
take-append-add (x ∷ xs) ys n = let e : suc (length xs) + n ≡ suc (length xs + n) = omega arith in ap (λ k. take k (x ∷ (xs ++ ys))) e ∙ ap (λ l. x ∷ l) (take-append-add xs ys n)

-- what was written after n is dropped
pub cut_back : (out old run : List ℕ) (at k n : ℕ) → n ≤ k → at ≤ length old → take (at + k) out ≡ take at old ++ take k run → take (at + n) out ≡ take at old ++ take n run
cut_back out old run at k n le within e =
    let long = length-take-le at old within in
    sym (take-take (at + n) (at + k) out (omega arith)) ∙ ap (take (at + n)) e ∙ ap (λ j. take (j + n) (take at old ++ take k run)) (sym long)
    ∙ take-append-add (take at old) (take k run) n ∙ ap (λ x. take at old ++ x) (take-take n k run le)
