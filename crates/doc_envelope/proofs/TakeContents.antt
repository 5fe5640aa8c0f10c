-- The content of a string that goes on after a part without a closing quotation mark.
use Rattle.proof_prelude.proofs.{◌≡◌, ℕ, ◌==◌, ◌&&◌, nat_lt, List, [], ◌∷◌, ◌++◌, Bool, true, false, not, cond, refl, sym, ap, subst, ◌∙◌, append_assoc, append-nil, Option, Some, None, is_digit, encode_utf8, eqb-true, false_from_ne_true, false≢true, and_parts}
use Rattle.json.specs.Text.{content, code_unit, short_escape, is_high_surrogate, is_low_surrogate, surrogate_pair, Within, plain, after_backslash, after_u, after_high, prepend}

-- Whether the text t leaves a string open. If `escaped` is true, the first byte follows a backslash.
abbrev pub is_open : Bool → List ℕ → Bool
is_open escaped [] = not escaped
is_open true (b ∷ t) = is_open false t
is_open false (b ∷ t) = cond (b == 34) false (is_open (b == 92) t)

-- ---- one byte

open_quote : (b : ℕ) (t : List ℕ) → (b == 34) ≡ true → is_open false (b ∷ t) ≡ true → ⊥
open_quote b t e h = false≢true (subst (λ c. cond c false (is_open (b == 92) t) ≡ true) e h)

open_more : (b : ℕ) (t : List ℕ) (c : Bool) → (b == 34) ≡ false → (b == 92) ≡ c → is_open false (b ∷ t) ≡ true → is_open c t ≡ true
open_more b t c e f h = subst (λ z. is_open z t ≡ true) f (subst (λ z. cond z false (is_open (b == 92) t) ≡ true) e h)

no_digit : (a b : ℕ) → is_digit b 16 ≡ false → is_digit a 16 ≡ true → (a == b) ≡ false
no_digit a b f h = false_from_ne_true (a == b) (λ e. false≢true (sym f ∙ ap (λ z. is_digit z 16) (sym (eqb-true a b e)) ∙ h))

open_digit : (a : ℕ) (t : List ℕ) → is_digit a 16 ≡ true → is_open false (a ∷ t) ≡ true → is_open false t ≡ true
open_digit a t d h = open_more a t false (no_digit a 34 refl d) (no_digit a 92 refl d) h

record Digits (a b c d : ℕ) : Type 0 where
  first : is_digit a 16 ≡ true
  second : is_digit b 16 ≡ true
  third : is_digit c 16 ≡ true
  last : is_digit d 16 ≡ true

digits_by : {A : Type 0} (x y z w : Bool) (s : A) (u : A) → cond (x && y && z && w) (Some s) None ≡ Some u → (x ≡ true) × (y ≡ true) × (z ≡ true) × (w ≡ true)
digits_by true true true true s u h = (refl, refl, refl, refl)
digits_by true true true false s u h = absurd (cc)
digits_by true true false w s u h = absurd (cc)
digits_by true false z w s u h = absurd (cc)
digits_by false y z w s u h = absurd (cc)

digits_of : (a b c d u : ℕ) → code_unit a b c d ≡ Some u → Digits a b c d
unfolding code_unit
digits_of a b c d u h =
    let all = digits_by (is_digit a 16) (is_digit b 16) (is_digit c 16) (is_digit d 16) _ u h in
    record { first = all.0; second = all.1; third = all.2; last = all.3 }

open_digits : (a b c d u : ℕ) (t : List ℕ) → code_unit a b c d ≡ Some u → is_open false (a ∷ b ∷ c ∷ d ∷ t) ≡ true → is_open false t ≡ true
open_digits a b c d u t e h =
    let all = digits_of a b c d u e in
    open_digit d t all.last (open_digit c (d ∷ t) all.third (open_digit b (c ∷ d ∷ t) all.second (open_digit a (b ∷ c ∷ d ∷ t) all.first h)))

no_unit : (a b c : ℕ) → code_unit a b c 34 ≡ None
unfolding code_unit
no_unit a b c = by_digits (is_digit a 16) (is_digit b 16) (is_digit c 16) _ where
  by_digits : {A : Type 0} (x y z : Bool) (s : A) → cond (x && y && z && false) (Some s) None ≡ None
  by_digits true true true s = refl
  by_digits true true false s = refl
  by_digits true false z s = refl
  by_digits false y z s = refl

-- ---- the content before a text and after it

pub prepend_nil : (o : Option (List ℕ)) → prepend [] o ≡ o
prepend_nil None = refl
prepend_nil (Some s) = refl

pub prepend_more : (a b : List ℕ) (o : Option (List ℕ)) → prepend a (prepend b o) ≡ prepend (a ++ b) o
prepend_more a b None = refl
prepend_more a b (Some s) = ap Some (sym (append_assoc a b s))

-- The part q of a string, in state w, ends within an escape or is followed by the rest of the string's content.
data Part (w : Within) (q : List ℕ) : Type 0 where
  fails : content w (q ++ 34 ∷ []) ≡ None → Part w q
  reads : (c : List ℕ) → ((x : List ℕ) → content w (q ++ x) ≡ prepend c (content plain x)) → Part w q

part_none : (w : Within) (q : List ℕ) → ((x : List ℕ) → content w (q ++ x) ≡ None) → Part w q
part_none w q h = fails (h (34 ∷ []))

part_more : (w v : Within) (d q t : List ℕ) → ((x : List ℕ) → content w (q ++ x) ≡ prepend d (content v (t ++ x))) → Part v t → Part w q
part_more w v d q t e (fails k) = fails (e (34 ∷ []) ∙ ap (prepend d) k)
part_more w v d q t e (reads c r) = reads (d ++ c) (λ x. e x ∙ ap (prepend d) (r x) ∙ prepend_more d c (content plain x))

-- the same without a byte of content
part_on : (w v : Within) (q t : List ℕ) → ((x : List ℕ) → content w (q ++ x) ≡ content v (t ++ x)) → Part v t → Part w q
part_on w v q t e p = part_more w v [] q t (λ x. e x ∙ sym (prepend_nil (content v (t ++ x)))) p

-- ---- by state

abbrev After : Within → List ℕ → Bool → Type 0
After w t escaped = is_open escaped t ≡ true → Part w t

plain_by : (b : ℕ) (t : List ℕ) (quote slash low : Bool) → (b == 34) ≡ quote → (b == 92) ≡ slash → nat_lt b 32 ≡ low → After plain t false → After after_backslash t true → After plain (b ∷ t) false
unfolding content
plain_by b t true slash low e f g p a h = absurd (open_quote b t e h)
plain_by b t false true low e f g p a h = part_on plain after_backslash (b ∷ t) t (λ x. rw (e, f) refl) (a (open_more b t true e f h))
plain_by b t false false true e f g p a h = part_none plain (b ∷ t) (λ x. rw (e, f, g) refl)
plain_by b t false false false e f g p a h = part_more plain plain (b ∷ []) (b ∷ t) t (λ x. rw (e, f, g) refl) (p (open_more b t false e f h))

short_by : (b : ℕ) (t : List ℕ) (o : Option ℕ) → (b == 117) ≡ false → short_escape b ≡ o → After plain t false → After after_backslash (b ∷ t) true
unfolding content
short_by b t None e f p h = part_none after_backslash (b ∷ t) (λ x. rw (e, f) refl)
short_by b t (Some k) e f p h = part_more after_backslash plain (k ∷ []) (b ∷ t) t (λ x. rw (e, f) refl) (p h)

backslash_by : (b : ℕ) (t : List ℕ) (u : Bool) → (b == 117) ≡ u → After plain t false → After after_u t false → After after_backslash (b ∷ t) true
unfolding content
backslash_by b t true e p a h = part_on after_backslash after_u (b ∷ t) t (λ x. rw e refl) (a h)
backslash_by b t false e p a h = short_by b t (short_escape b) e refl p h

unit_by : (a b c d u : ℕ) (t : List ℕ) (high low : Bool) → code_unit a b c d ≡ Some u → is_high_surrogate u ≡ high → is_low_surrogate u ≡ low → After plain t false → After (after_high u) t false → After after_u (a ∷ b ∷ c ∷ d ∷ t) false
unfolding content
unit_by a b c d u t true low e f g p k h = part_on after_u (after_high u) (a ∷ b ∷ c ∷ d ∷ t) t (λ x. rw (e, f) refl) (k (open_digits a b c d u t e h))
unit_by a b c d u t false true e f g p k h = part_none after_u (a ∷ b ∷ c ∷ d ∷ t) (λ x. rw (e, f, g) refl)
unit_by a b c d u t false false e f g p k h = part_more after_u plain (encode_utf8 u) (a ∷ b ∷ c ∷ d ∷ t) t (λ x. rw (e, f, g) refl) (p (open_digits a b c d u t e h))

u_by : (a b c d : ℕ) (t : List ℕ) (o : Option ℕ) → code_unit a b c d ≡ o → After plain t false → ((u : ℕ) → After (after_high u) t false) → After after_u (a ∷ b ∷ c ∷ d ∷ t) false
unfolding content
u_by a b c d t None e p k h = part_none after_u (a ∷ b ∷ c ∷ d ∷ t) (λ x. rw e refl)
u_by a b c d t (Some u) e p k h = unit_by a b c d u t (is_high_surrogate u) (is_low_surrogate u) e refl refl p (k u) h

-- a second escape of a surrogate pair
abbrev Pair : ℕ → List ℕ → Type 0
Pair high q = is_open false q ≡ true → Part (after_high high) q

open_slash : (s u : ℕ) (t : List ℕ) → ((s == 92) && (u == 117)) ≡ true → is_open false (s ∷ u ∷ t) ≡ true → is_open false t ≡ true
open_slash s u t e h =
    let slash = and_parts (s == 92) (u == 117) e in
    open_more s (u ∷ t) true (subst (λ z. (z == 34) ≡ false) (sym (eqb-true s 92 slash.0)) refl) slash.0 h

low_by : (high s u a b c d l : ℕ) (t : List ℕ) (low : Bool) → ((s == 92) && (u == 117)) ≡ true → code_unit a b c d ≡ Some l → is_low_surrogate l ≡ low → After plain t false → Pair high (s ∷ u ∷ a ∷ b ∷ c ∷ d ∷ t)
unfolding content
low_by high s u a b c d l t true e f g p h = part_more (after_high high) plain (encode_utf8 (surrogate_pair high l)) (s ∷ u ∷ a ∷ b ∷ c ∷ d ∷ t) t (λ x. rw (e, f, g) refl)
    (p (open_digits a b c d l t f (open_slash s u (a ∷ b ∷ c ∷ d ∷ t) e h)))
low_by high s u a b c d l t false e f g p h = part_none (after_high high) (s ∷ u ∷ a ∷ b ∷ c ∷ d ∷ t) (λ x. rw (e, f, g) refl)

pair_by : (high s u a b c d : ℕ) (t : List ℕ) (slash : Bool) (o : Option ℕ) → ((s == 92) && (u == 117)) ≡ slash → code_unit a b c d ≡ o → After plain t false → Pair high (s ∷ u ∷ a ∷ b ∷ c ∷ d ∷ t)
unfolding content
pair_by high s u a b c d t false o e f p h = part_none (after_high high) (s ∷ u ∷ a ∷ b ∷ c ∷ d ∷ t) (λ x. rw e refl)
pair_by high s u a b c d t true None e f p h = part_none (after_high high) (s ∷ u ∷ a ∷ b ∷ c ∷ d ∷ t) (λ x. rw (e, f) refl)
pair_by high s u a b c d t true (Some l) e f p h = low_by high s u a b c d l t (is_low_surrogate l) e f refl p h

short_pair : (high s u a b c : ℕ) (slash : Bool) → ((s == 92) && (u == 117)) ≡ slash → content (after_high high) (s ∷ u ∷ a ∷ b ∷ c ∷ 34 ∷ []) ≡ None
unfolding content
short_pair high s u a b c true e = rw (e, no_unit a b c) refl
short_pair high s u a b c false e = rw e refl

abbrev in_escape : Within → Bool
in_escape plain = false
in_escape after_backslash = true
in_escape after_u = false
in_escape (after_high h) = false

part_of : (w : Within) (q : List ℕ) → After w q (in_escape w)
unfolding content short_escape
part_of plain [] h = reads [] (λ x. sym (prepend_nil (content plain x)))
part_of plain (b ∷ t) h = plain_by b t (b == 34) (b == 92) (nat_lt b 32) refl refl refl (part_of plain t) (part_of after_backslash t) h
part_of after_backslash [] h = fails refl
part_of after_backslash (b ∷ t) h = backslash_by b t (b == 117) refl (part_of plain t) (part_of after_u t) h
part_of after_u [] h = fails refl
part_of after_u (a ∷ []) h = fails refl
part_of after_u (a ∷ b ∷ []) h = fails refl
part_of after_u (a ∷ b ∷ c ∷ []) h = fails (rw (no_unit a b c) refl)
part_of after_u (a ∷ b ∷ c ∷ d ∷ t) h = u_by a b c d t (code_unit a b c d) refl (part_of plain t) (λ u. part_of (after_high u) t) h
part_of (after_high k) [] h = fails refl
part_of (after_high k) (s ∷ []) h = fails refl
part_of (after_high k) (s ∷ u ∷ []) h = fails refl
part_of (after_high k) (s ∷ u ∷ a ∷ []) h = fails refl
part_of (after_high k) (s ∷ u ∷ a ∷ b ∷ []) h = fails refl
part_of (after_high k) (s ∷ u ∷ a ∷ b ∷ c ∷ []) h = fails (short_pair k s u a b c ((s == 92) && (u == 117)) refl)
part_of (after_high k) (s ∷ u ∷ a ∷ b ∷ c ∷ d ∷ t) h = pair_by k s u a b c d t ((s == 92) && (u == 117)) (code_unit a b c d) refl refl (part_of plain t) h

same_content : (a b : List ℕ) → Some a ≡ Some b → a ≡ b
same_content a b k = cc

closed_content : (q c d : List ℕ) → content plain (q ++ 34 ∷ []) ≡ Some c → content plain (q ++ 34 ∷ []) ≡ prepend d (content plain (34 ∷ [])) → d ≡ c
unfolding content
closed_content q c d e f = sym (append-nil d) ∙ same_content (d ++ []) c (sym f ∙ e)

-- If a part of a string has the content c, the string's content is c and the content of the rest.
pub content_more : (q c : List ℕ) → is_open false q ≡ true → content plain (q ++ 34 ∷ []) ≡ Some c → (x : List ℕ) → content plain (q ++ x) ≡ prepend c (content plain x)
content_more q c h e = by_part (part_of plain q h) where
  by_part : Part plain q → (x : List ℕ) → content plain (q ++ x) ≡ prepend c (content plain x)
  by_part (fails k) x = absurd (cc)
  by_part (reads d r) x = r x ∙ ap (λ z. prepend z (content plain x)) (closed_content q c d e (r (34 ∷ [])))
