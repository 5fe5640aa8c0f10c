-- The members of a text, in order.
use Rattle.proof_prelude.proofs.{◌≡◌, ℕ, suc, ◌+◌, ◌<◌, ◌≤◌, ◌==◌, get_or, prefix_len, take, drop, length, List, [], ◌∷◌, ◌++◌, Bool, true, false, cond, refl, sym, ap, ◌∙◌, append_assoc, append-nil, add-one, eqb-true, false_from_ne_true, drop-cons, arith, common_steps}
use Rattle.json.specs.Run.{is_plain}
use Rattle.doc_envelope.specs.{ends_member, mode_behind, nesting_behind, length_in, first_length, members_in, behind_comma, Mode}
use Rattle.doc_envelope.specs.Members.{Outside, Quoted, Escaped}

take_one : (k b : ℕ) (t : List ℕ) → take (k + 1) (b ∷ t) ≡ b ∷ take k t
take_one k b t = simp add-one

comma_one : (k b : ℕ) (t : List ℕ) → behind_comma (b ∷ t) (k + 1) ≡ behind_comma t k
comma_one k b t = simp add-one

comma_members : (c : Bool) (t : List ℕ) → cond c (members_in Outside 0 [] t) [] ≡ members_in Outside 0 [] (cond c t [])
comma_members true t = unfold members_in in refl
comma_members false t = unfold members_in in refl

-- if this much of a text was read, the first member is that and what follows of it, and the others come after its comma
abbrev pub FirstBy : Mode → ℕ → List ℕ → List ℕ → Type 0
FirstBy m n u t = members_in m n u t ≡ (u ++ take (length_in m n t) t) ∷ members_in Outside 0 [] (behind_comma t (length_in m n t))

first_end : (m : Mode) (n : ℕ) (u : List ℕ) (b : ℕ) (t : List ℕ) → ends_member m n b ≡ true → FirstBy m n u (b ∷ t)
first_end m n u b t h = unfold members_in length_in in
    rw h (ap (λ z. z ∷ cond (b == 44) (members_in Outside 0 [] t) []) (sym (append-nil u)) ∙ ap (λ z. (u ++ []) ∷ z) (comma_members (b == 44) t))

first_more : (m : Mode) (n : ℕ) (u : List ℕ) (b : ℕ) (t : List ℕ) → ends_member m n b ≡ false → FirstBy (mode_behind m b) (nesting_behind m n b) (u ++ b ∷ []) t → FirstBy m n u (b ∷ t)
first_more m n u b t h more = unfold members_in length_in in
    let k = length_in (mode_behind m b) (nesting_behind m n b) t in
    rw h (more ∙ ap (λ z. z ∷ members_in Outside 0 [] (behind_comma t k)) (append_assoc u (b ∷ []) (take k t) ∙ ap (λ z. u ++ z) (sym (take_one k b t)))
    ∙ ap (λ z. (u ++ take (k + 1) (b ∷ t)) ∷ members_in Outside 0 [] z) (sym (comma_one k b t)))

first_none : (m : Mode) (n : ℕ) (u : List ℕ) → (length u == 0) ≡ false → FirstBy m n u []
first_none m n u h = unfold members_in length_in in rw h (ap (λ z. z ∷ []) (sym (append-nil u)))

pub first_by : (m : Mode) (n : ℕ) (u t : List ℕ) → (length (u ++ t) == 0) ≡ false → FirstBy m n u t
first_by m n u [] some = first_none m n u (ap (λ z. length z == 0) (sym (append-nil u)) ∙ some)
first_by m n u (b ∷ t) some =
    by_end (ends_member m n b) refl (first_by (mode_behind m b) (nesting_behind m n b) (u ++ b ∷ []) t (ap (λ z. length z == 0) (append_assoc u (b ∷ []) t) ∙ some)) where
      by_end : (c : Bool) → ends_member m n b ≡ c → FirstBy (mode_behind m b) (nesting_behind m n b) (u ++ b ∷ []) t → FirstBy m n u (b ∷ t)
      by_end true h more = first_end m n u b t h
      by_end false h more = first_more m n u b t h more

pub members_first : (t : List ℕ) → (length t == 0) ≡ false → members_in Outside 0 [] t ≡ take (first_length t) t ∷ members_in Outside 0 [] (behind_comma t (first_length t))
members_first t some = first_by Outside 0 [] t some

pub members_none : members_in Outside 0 [] [] ≡ []
members_none = unfold members_in in refl

-- ---- one more byte of the first member

length_more : (m : Mode) (n : ℕ) (b : ℕ) (t : List ℕ) → ends_member m n b ≡ false → length_in m n (b ∷ t) ≡ length_in (mode_behind m b) (nesting_behind m n b) t + 1
length_more m n b t h = unfold length_in in rw h

length_end : (m : Mode) (n : ℕ) (b : ℕ) (t : List ℕ) → ends_member m n b ≡ true → length_in m n (b ∷ t) ≡ 0
length_end m n b t h = unfold length_in in rw h

length_none : (m : Mode) (n : ℕ) → length_in m n [] ≡ 0
length_none m n = unfold length_in in refl

module _ (m : Mode) (n : ℕ) (text : List ℕ) (i : ℕ) where
  cut : i < length text → drop i text ≡ get_or text i 0 ∷ drop (i + 1) text
  cut h = grind (arith, common_steps, drop-cons text i 0, h)

  pub length_step : i < length text → ends_member m n (get_or text i 0) ≡ false
      → length_in m n (drop i text) ≡ length_in (mode_behind m (get_or text i 0)) (nesting_behind m n (get_or text i 0)) (drop (i + 1) text) + 1
  length_step h e = ap (length_in m n) (cut h) ∙ length_more m n (get_or text i 0) (drop (i + 1) text) e

  pub length_stop : i < length text → ends_member m n (get_or text i 0) ≡ true → length_in m n (drop i text) ≡ 0
  length_stop h e = ap (length_in m n) (cut h) ∙ length_end m n (get_or text i 0) (drop (i + 1) text) e

over : (t : List ℕ) → drop (length t) t ≡ []
over [] = refl
over (b ∷ t) = over t

pub length_over : (m : Mode) (n : ℕ) (text : List ℕ) → length_in m n (drop (length text) text) ≡ 0
length_over m n text = ap (length_in m n) (over text) ∙ length_none m n

-- ---- within a string

pub other_byte : (a b : ℕ) → (a ≡ b → ⊥) → (a == b) ≡ false
other_byte a b h = false_from_ne_true (a == b) (λ e. h (eqb-true a b e))

quoted_mode : (b : ℕ) → (b == 34) ≡ false → (b == 92) ≡ false → mode_behind Quoted b ≡ Quoted
quoted_mode b e f = ap (λ c. cond c Outside (cond (b == 92) Escaped Quoted)) e ∙ ap (λ c. cond c Escaped Quoted) f

escaped_mode : (b : ℕ) → (b == 34) ≡ false → (b == 92) ≡ true → mode_behind Quoted b ≡ Escaped
escaped_mode b e f = ap (λ c. cond c Outside (cond (b == 92) Escaped Quoted)) e ∙ ap (λ c. cond c Escaped Quoted) f

quoted_more : (n b : ℕ) (t : List ℕ) → (b == 34) ≡ false → (b == 92) ≡ false → length_in Quoted n (b ∷ t) ≡ length_in Quoted n t + 1
quoted_more n b t e f = length_more Quoted n b t refl ∙ ap (λ m. length_in m n t + 1) (quoted_mode b e f)

escaped_more : (n b : ℕ) (t : List ℕ) → (b == 34) ≡ false → (b == 92) ≡ true → length_in Quoted n (b ∷ t) ≡ length_in Escaped n t + 1
escaped_more n b t e f = length_more Quoted n b t refl ∙ ap (λ m. length_in m n t + 1) (escaped_mode b e f)

closed_more : (n b : ℕ) (t : List ℕ) → (b == 34) ≡ true → length_in Quoted n (b ∷ t) ≡ length_in Outside n t + 1
closed_more n b t e = length_more Quoted n b t refl ∙ ap (λ c. length_in (cond c Outside (cond (b == 92) Escaped Quoted)) n t + 1) e

-- a byte that needs no test
plain_byte : (b : ℕ) → is_plain b ≡ true → ((b == 34) ≡ false) × ((b == 92) ≡ false)
plain_byte b h = (grind arith, grind arith)

run_by : (n x k : ℕ) (u : List ℕ) (b : Bool) → is_plain x ≡ b → length_in Quoted n u ≡ length_in Quoted n (drop k u) + k
    → length_in Quoted n (x ∷ u) ≡ length_in Quoted n (drop (cond b (1 + k) 0) (x ∷ u)) + cond b (1 + k) 0
run_by n x k u true e more =
    let p = plain_byte x e in
    let one : 1 + k ≡ suc k = omega arith in
    let same = ap (λ z. length_in Quoted n (drop z (x ∷ u)) + z) one in
    let first = quoted_more n x u p.0 p.1 in
    let sums : length_in Quoted n (drop k u) + k + 1 ≡ length_in Quoted n (drop k u) + suc k = omega arith in
    first ∙ ap (λ z. z + 1) more ∙ sums ∙ sym same
run_by n x k u false e more = omega arith

run : (n : ℕ) (u : List ℕ) → length_in Quoted n u ≡ length_in Quoted n (drop (prefix_len is_plain u) u) + prefix_len is_plain u
run n [] = omega arith
run n (x ∷ u) = run_by n x (prefix_len is_plain u) u (is_plain x) refl (run n u)

module _ (n : ℕ) (text : List ℕ) (i : ℕ) where
  here : i < length text → drop i text ≡ get_or text i 0 ∷ drop (i + 1) text
  here h = grind (arith, common_steps, drop-cons text i 0, h)

  pub quoted_run : (j : ℕ) → j ≡ i + prefix_len is_plain (drop i text) → length_in Quoted n (drop i text) + i ≡ length_in Quoted n (drop j text) + j
  quoted_run j e =
      let k = prefix_len is_plain (drop i text) in
      let to : drop k (drop i text) ≡ drop j text = grind (arith, common_steps, e) in
      let more = run n (drop i text) ∙ ap (λ t. length_in Quoted n t + k) to in
      omega (arith, more, e)

  pub quoted_end : i < length text → (get_or text i 0 == 34) ≡ true → length_in Quoted n (drop i text) + i ≡ length_in Outside n (drop (i + 1) text) + (i + 1)
  quoted_end h e =
      let more = ap (length_in Quoted n) (here h) ∙ closed_more n (get_or text i 0) (drop (i + 1) text) e in
      omega (arith, more)

  pub quoted_other : i < length text → (get_or text i 0 == 34) ≡ false → (get_or text i 0 == 92) ≡ false → length_in Quoted n (drop i text) + i ≡ length_in Quoted n (drop (i + 1) text) + (i + 1)
  quoted_other h e f =
      let more = ap (length_in Quoted n) (here h) ∙ quoted_more n (get_or text i 0) (drop (i + 1) text) e f in
      omega (arith, more)

pub quoted_escape : (n : ℕ) (text : List ℕ) (i : ℕ) → i + 1 < length text → (get_or text i 0 == 34) ≡ false → (get_or text i 0 == 92) ≡ true
    → length_in Quoted n (drop i text) + i ≡ length_in Quoted n (drop (i + 2) text) + (i + 2)
quoted_escape n text i h e f =
    let within : i < length text = omega arith in
    let two : i + 1 + 1 ≡ i + 2 = omega arith in
    let one = ap (length_in Quoted n) (here n text i within) ∙ escaped_more n (get_or text i 0) (drop (i + 1) text) e f in
    let next = ap (length_in Escaped n) (here n text (i + 1) h) ∙ length_more Escaped n (get_or text (i + 1) 0) (drop (i + 1 + 1) text) refl ∙ ap (λ z. length_in Quoted n (drop z text) + 1) two in
    omega (arith, one, next)

-- a backslash that is the last byte
pub quoted_last : (n : ℕ) (text : List ℕ) (i : ℕ) → i < length text → length text ≤ i + 1 → (get_or text i 0 == 34) ≡ false → (get_or text i 0 == 92) ≡ true
    → length_in Quoted n (drop i text) + i ≡ length_in Quoted n (drop (i + 1) text) + (i + 1)
quoted_last n text i h k e f =
    let at_end : length text ≡ i + 1 = omega arith in
    let none = over text in
    let rest : drop (i + 1) text ≡ [] = sym (ap (λ z. drop z text) at_end) ∙ none in
    let one = ap (length_in Quoted n) (here n text i h) ∙ escaped_more n (get_or text i 0) (drop (i + 1) text) e f ∙ ap (λ t. length_in Escaped n t + 1) rest ∙ ap (λ z. z + 1) (length_none Escaped n) in
    let zero = ap (length_in Quoted n) rest ∙ length_none Quoted n in
    omega (arith, one, zero)

-- ---- the loop over the members

pub no_bytes : (t : List ℕ) → length t ≡ 0 → t ≡ []
no_bytes [] h = refl
no_bytes (b ∷ t) h = absurd (cc)
