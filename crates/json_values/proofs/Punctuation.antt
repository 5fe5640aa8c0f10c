-- The result of `punctuate`, by the first byte of the text.
use Rattle.proof_prelude.proofs.{◌≡◌, ◌≢◌, ℕ, Bool, true, false, cond, ◌==◌, List, [], ◌∷◌, drop, Option, Some, None, ◌⊎◌, inl, inr, refl, sym, ap, ◌∙◌, subst, false≢true, or_cases, ⊤, true≢false, eqb-true}
use Rattle.json.specs.Token.{Token, begin_object, end_object, begin_array, end_array, key, string, number, boolean, null, bad}
use Rattle.json.specs.Text.{content, plain}
use Rattle.json.specs.Word.{is_operator, is_space, head, ends_word, after_number, number_before, word}
use Rattle.json.specs.Lex.{Lexeme, token, comma, colon, Class, quote, backslash, operator, space, other, class, operator_lexeme, string_token, between, lex}
use Rattle.json.specs.Lex.{Place, fresh, after_value, after_comma, after_key, begins_colon, may_begin, may_close, if_allowed, place_token, punctuate}
use Rattle.json.specs.Align.{is_good, is_blank}
use Rattle.json.specs.Json.{after_end_array}
use Rattle.json_values.specs.{tokens_at, closes_at, begins_at, begins_key, ends_object, refused_at, NotBeforeComma, IsPlainToken, PlainTexts}
use Rattle.json_values.specs.declared.tokens.Place as reader
use Rattle.json_values.specs.declared.tokens.Place.TheVariants.{Fresh, AfterValue, AfterComma, Failed}
use Rattle.json_values.proofs.Steps.{lex_first, lex-nil}

abbrev pub rest : List ℕ → List Lexeme
rest t = drop 1 (lex between t)

pub at_operator : (c : ℕ) (t : List ℕ) → class c ≡ operator → head t ≡ c → lex between t ≡ operator_lexeme c ∷ rest t
at_operator c t k e = lex_first operator t (ap class e ∙ k) refl ∙ ap (λ x. operator_lexeme x ∷ rest t) e

pub at_string : (t : List ℕ) (o : Option (List ℕ)) → head t ≡ 34 → content plain (drop 1 t) ≡ o → lex between t ≡ token (string_token o) ∷ rest t
at_string t o e found = lex_first quote t (ap class e) refl ∙ ap (λ r. token (string_token r) ∷ rest t) found

-- ---- a word is a number, a literal or bad

abbrev pub IsWord : Token → Type 0
IsWord (number s) = ⊤
IsWord (boolean v) = ⊤
IsWord null = ⊤
IsWord bad = ⊤
IsWord _ = ⊥

either : (b : Bool) (x y : Token) → IsWord x → IsWord y → IsWord (cond b x y)
either true x y p q = p
either false x y p q = q

number_word : (t : List ℕ) (o : Option (List ℕ)) → IsWord (number_before t o)
number_word t None = tt
number_word t (Some r) = either (ends_word r) _ bad tt tt

-- each word is one of four kinds
pub by_word : (Q : Token → Type 0) → ((s : List ℕ) → Q (number s)) → ((b : Bool) → Q (boolean b)) → Q null → Q bad → (k : Token) → IsWord k → Q k
by_word Q n b u x (number s) w = n s
by_word Q n b u x (boolean v) w = b v
by_word Q n b u x null w = u
by_word Q n b u x bad w = x
by_word Q n b u x _ w = absurd w

pub plain_word : (p : PlainTexts) (k : Token) → IsWord k → IsPlainToken p k
plain_word p k w = by_word (IsPlainToken p) (λ s. tt) (λ b. tt) tt tt k w

pub IsWord-word : (t : List ℕ) → IsWord (word t)
IsWord-word t = unfold word in
    either (head t == 116) _ _ (either _ (boolean true) bad tt tt) (either (head t == 102) _ _ (either _ (boolean false) bad tt tt)
    (either (head t == 110) _ _ (either _ null bad tt tt) (number_word t (after_number t))))

-- ---- the cases of the first lexeme

abbrev is_operator_class : Class → Bool
is_operator_class operator = true
is_operator_class _ = false

tested : (q b o s : Bool) → is_operator_class (cond q quote (cond b backslash (cond o operator (cond s space other)))) ≡ true → o ≡ true
tested true b o s h = absurd (false≢true h)
tested false true o s h = absurd (false≢true h)
tested false false true s h = refl
tested false false false true h = h
tested false false false false h = h

or_last : (P : ℕ → Type 0) (x c : ℕ) (b : Bool) → P c → (b ≡ true → P x) → (b ≡ true) ⊎ ((x == c) ≡ true) → P x
or_last P x c b p f (inl e) = f e
or_last P x c b p f (inr e) = subst P (sym (eqb-true x c e)) p

pub six : (P : ℕ → Type 0) → P 123 → P 125 → P 91 → P 93 → P 58 → P 44 → (x : ℕ) → class x ≡ operator → P x
six P a b c d e f x k =
    or_last P x 44 _ f (λ h. or_last P x 58 _ e (λ i. or_last P x 93 _ d (λ j. or_last P x 91 _ c (λ l. or_last P x 125 _ b (λ m. subst P (sym (eqb-true x 123 m)) a)
    (or_cases _ _ l)) (or_cases _ _ j)) (or_cases _ _ i)) (or_cases _ _ h)) (or_cases _ _ (tested (x == 34) (x == 92) (is_operator x) (is_space x) (ap is_operator_class k)))

abbrev is_quote_class : Class → Bool
is_quote_class quote = true
is_quote_class _ = false

quoted : (q b o s : Bool) → is_quote_class (cond q quote (cond b backslash (cond o operator (cond s space other)))) ≡ true → q ≡ true
quoted true b o s h = refl
quoted false true o s h = h
quoted false false true s h = h
quoted false false false true h = h
quoted false false false false h = h

a_quote : (x : ℕ) → class x ≡ quote → x ≡ 34
a_quote x e = eqb-true x 34 (quoted (x == 34) (x == 92) (is_operator x) (is_space x) (ap is_quote_class e))

abbrev pub Ends : List ℕ → Type 0
Ends t = is_blank (class (head t)) ≡ true → t ≡ []

module _ (t : List ℕ) (P : List Lexeme → Type 0) (end : is_blank (class (head t)) ≡ true → P (lex between t)) (text : (o : Option (List ℕ)) → head t ≡ 34 → P (token (string_token o) ∷ rest t))
    (words : (k : Token) → IsWord k → P (token k ∷ rest t)) (marks : (x : ℕ) → class x ≡ operator → head t ≡ x → P (operator_lexeme x ∷ rest t)) where
  by_class : (c : Class) → class (head t) ≡ c → P (lex between t)
  by_class quote e = subst P (sym (lex_first quote t e refl)) (text _ (a_quote (head t) e))
  by_class backslash e = subst P (sym (lex_first backslash t e refl)) (words bad tt)
  by_class operator e = subst P (sym (lex_first operator t e refl)) (marks (head t) e refl)
  by_class space e = end (ap is_blank e)
  by_class other e = subst P (sym (lex_first other t e refl)) (words (word t) (IsWord-word t))

  pub first_cases : P (lex between t)
  first_cases = by_class (class (head t)) refl

pub no_colon : (t : List ℕ) → Ends t → head t ≢ 58 → begins_colon (lex between t) ≡ false
no_colon t ends other_byte =
    first_cases t (λ ls. begins_colon ls ≡ false) (λ b. ap begins_colon (ap (lex between) (ends b) ∙ lex-nil)) (λ o h. refl) (λ k w. refl)
    (six (λ x. head t ≡ x → begins_colon (operator_lexeme x ∷ rest t) ≡ false) (λ e. refl) (λ e. refl) (λ e. refl) (λ e. refl) (λ e. absurd (other_byte e)) (λ e. refl))

-- ---- positions at which a value may begin

pub allowed : (b : Bool) (t : Token) (k : Place → List Token) (next : Place) → b ≡ true → if_allowed b t k next ≡ t ∷ k next
allowed b t k next e = ap (λ x. if_allowed x t k next) e

pub good_word : (p : Place) (k : Token) (ls : List Lexeme) → IsWord k → is_good k ≡ true → may_begin p ≡ true → punctuate p (token k ∷ ls) ≡ k ∷ punctuate after_value ls
good_word p k ls w good may = unfold punctuate in
    let taken = λ (x : Token). allowed (may_begin p) x (λ n. punctuate n ls) after_value may in
    by_word (λ x. is_good x ≡ true → punctuate p (token x ∷ ls) ≡ x ∷ punctuate after_value ls) (λ s _. taken (number s)) (λ b _. taken (boolean b)) (λ _. taken null)
    (λ g. absurd (false≢true g)) k w good

pub bad_word : (p : Place) (k : Token) (ls : List Lexeme) → is_good k ≡ false → punctuate p (token k ∷ ls) ≡ k ∷ []
bad_word p bad ls e = unfold punctuate in refl
bad_word p _ ls e = unfold punctuate in absurd (true≢false e)

stray_mark : (p : Place) (ls : List Lexeme) → may_begin p ≡ true → (punctuate p (comma ∷ ls) ≡ bad ∷ []) × (punctuate p (colon ∷ ls) ≡ bad ∷ [])
unfolding punctuate
stray_mark fresh ls e = (refl, refl)
stray_mark after_value ls e = absurd (false≢true e)
stray_mark after_comma ls e = (refl, refl)
stray_mark after_key ls e = absurd (false≢true e)

pub stray : (p : Place) (t : List ℕ) → may_begin p ≡ true → (head t ≡ 44) ⊎ ((head t ≡ 58) ⊎ (head t ≡ 92)) → punctuate p (lex between t) ≡ bad ∷ []
stray p t may (inl e) = ap (punctuate p) (at_operator 44 t refl e) ∙ (stray_mark p (rest t) may).0
stray p t may (inr (inl e)) = ap (punctuate p) (at_operator 58 t refl e) ∙ (stray_mark p (rest t) may).1
stray p t may (inr (inr e)) = ap (punctuate p) (lex_first backslash t (ap class e) refl) ∙ bad_word p bad (rest t) refl

pub closing : (t : List ℕ) → (head t ≡ 125) ⊎ (head t ≡ 93) → class (head t) ≡ operator
closing t (inl e) = ap class e
closing t (inr e) = ap class e

-- ---- from the positions of a text

pub begun : (place : reader.Place) (t : List ℕ) (ts : List Token) → begins_at place ≡ true → ((p : Place) → may_begin p ≡ true → punctuate p (lex between t) ≡ ts) → tokens_at place t ≡ ts
begun Fresh t ts e f = f fresh refl
begun AfterValue t ts e f = absurd (false≢true e)
begun AfterComma t ts e f = f after_comma refl
begun Failed t ts e f = absurd (false≢true e)

pub closed : (place : reader.Place) (t : List ℕ) (ts : List Token) → closes_at place ≡ true → ((p : Place) → may_close p ≡ true → punctuate p (lex between t) ≡ ts) → tokens_at place t ≡ ts
closed Fresh t ts e f = f fresh refl
closed AfterValue t ts e f = f after_value refl
closed AfterComma t ts e f = absurd (false≢true e)
closed Failed t ts e f = absurd (false≢true e)

closing_after_comma : (t : List ℕ) → (head t ≡ 125) ⊎ (head t ≡ 93) → punctuate after_comma (lex between t) ≡ bad ∷ []
closing_after_comma t (inl e) = unfold punctuate in ap (punctuate after_comma) (at_operator 125 t refl e)
closing_after_comma t (inr e) = unfold punctuate in ap (punctuate after_comma) (at_operator 93 t refl e)

pub not_closed : (place : reader.Place) (t : List ℕ) → closes_at place ≡ false → (head t ≡ 125) ⊎ (head t ≡ 93) → tokens_at place t ≡ refused_at place
not_closed Fresh t e h = absurd (true≢false e)
not_closed AfterValue t e h = absurd (true≢false e)
not_closed AfterComma t e h = closing_after_comma t h
not_closed Failed t e h = refl

pub ended : (place : reader.Place) (t : List ℕ) → t ≡ [] → tokens_at place t ≡ cond (closes_at place) [] (refused_at place)
unfolding punctuate
ended Fresh t e = ap (punctuate fresh) (ap (lex between) e ∙ lex-nil)
ended AfterValue t e = ap (punctuate after_value) (ap (lex between) e ∙ lex-nil)
ended AfterComma t e = ap (punctuate after_comma) (ap (lex between) e ∙ lex-nil)
ended Failed t e = refl

pub text_after_value : (o : Option (List ℕ)) (b : Bool) (k : Place → List Token) → place_token after_value (string_token o) b k ≡ bad ∷ []
text_after_value None b k = refl
text_after_value (Some s) true k = refl
text_after_value (Some s) false k = refl

pub word_after_value : (w : Token) (b : Bool) (k : Place → List Token) → IsWord w → place_token after_value w b k ≡ bad ∷ []
word_after_value w b k h = by_word (λ x. place_token after_value x b k ≡ bad ∷ []) (λ s. refl) (λ v. refl) refl refl w h

pub not_begun : (place : reader.Place) (t : List ℕ) → begins_at place ≡ false → NotBeforeComma place t → is_blank (class (head t)) ≡ false → head t ≢ 125 → head t ≢ 93 → tokens_at place t ≡ refused_at place
unfolding punctuate
not_begun Fresh t e passed solid a b = absurd (true≢false e)
not_begun AfterValue t e passed solid a b =
    first_cases t (λ ls. punctuate after_value ls ≡ bad ∷ []) (λ blank. absurd (true≢false (sym blank ∙ solid))) (λ o h. text_after_value o _ _) (λ k w. word_after_value k _ _ w)
    (six (λ x. head t ≡ x → punctuate after_value (operator_lexeme x ∷ rest t) ≡ bad ∷ []) (λ h. refl) (λ h. absurd (a h)) (λ h. refl) (λ h. absurd (b h)) (λ h. refl) (λ h. absurd (passed h)))
not_begun AfterComma t e passed solid a b = absurd (true≢false e)
not_begun Failed t e passed solid a b = refl

-- ---- texts in which another token comes first

-- a property of the first token that is false for no token, for words and for opening brackets
module _ (P : List Token → Type 0) (none : P []) (a_number : (s : List ℕ) (ts : List Token) → P (number s ∷ ts)) (a_boolean : (b : Bool) (ts : List Token) → P (boolean b ∷ ts))
    (a_null : (ts : List Token) → P (null ∷ ts))
    (a_bad : (ts : List Token) → P (bad ∷ ts)) (an_object : (ts : List Token) → P (begin_object ∷ ts)) (an_array : (ts : List Token) → P (begin_array ∷ ts)) where
  guarded : (b : Bool) (t : Token) (k : Place → List Token) (next : Place) → P (t ∷ k next) → P (if_allowed b t k next)
  guarded true t k next e = e
  guarded false t k next e = a_bad []

  worded : (p : Place) (w : Token) (b : Bool) (k : Place → List Token) → IsWord w → P (place_token p w b k)
  worded p w b k h =
      let taken = λ (x : Token) (is : P (x ∷ k after_value)). guarded (may_begin p) x k after_value is in
      by_word (λ x. P (place_token p x b k)) (λ s. taken (number s) (a_number s (k after_value))) (λ v. taken (boolean v) (a_boolean v (k after_value)))
      (taken null (a_null (k after_value))) (a_bad []) w h

  texted : (p : Place) (o : Option (List ℕ)) (b : Bool) (k : Place → List Token) → ((s : List ℕ) (ts : List Token) → P (key s ∷ ts))
      → ((s : List ℕ) (ts : List Token) → P (string s ∷ ts)) → P (place_token p (string_token o) b k)
  texted p None b k name text = a_bad []
  texted p (Some s) true k name text = guarded (may_begin p) (key s) k after_key (name s (k after_key))
  texted p (Some s) false k name text = guarded (may_begin p) (string s) k after_value (text s (k after_value))

  -- the text begins with none of the bytes for which the property may hold
  module _ (t : List ℕ) (ends : Ends t) (name : head t ≡ 34 → (s : List ℕ) (ts : List Token) → P (key s ∷ ts)) (text : head t ≡ 34 → (s : List ℕ) (ts : List Token) → P (string s ∷ ts))
      (brace : head t ≡ 125 → (ts : List Token) → P (end_object ∷ ts)) (bracket : head t ≡ 93 → (ts : List Token) → P (end_array ∷ ts)) where
    from : (p : Place) → P (punctuate p []) → (head t ≡ 44 → P (punctuate p (comma ∷ rest t))) → P (punctuate p (colon ∷ rest t)) → P (punctuate p (lex between t))
    from p over at_comma at_colon = unfold punctuate in
        let k = λ (n : Place). punctuate n (rest t) in
        first_cases t (λ ls. P (punctuate p ls)) (λ b. subst (λ ls. P (punctuate p ls)) (sym (ap (lex between) (ends b) ∙ lex-nil)) over) (λ o h. texted p o _ k (name h) (text h))
        (λ w h. worded p w _ k h)
        (six (λ x. head t ≡ x → P (punctuate p (operator_lexeme x ∷ rest t))) (λ h. guarded (may_begin p) begin_object k fresh (an_object (k fresh)))
        (λ h. guarded (may_close p) end_object k after_value (brace h (k after_value)))
        (λ h. guarded (may_begin p) begin_array k fresh (an_array (k fresh))) (λ h. guarded (may_close p) end_array k after_value (bracket h (k after_value))) (λ h. at_colon) at_comma)

    pub other_first : (place : reader.Place) → NotBeforeComma place t → P (tokens_at place t)
    unfolding punctuate
    other_first Fresh passed = from fresh none (λ e. a_bad []) (a_bad [])
    other_first AfterValue passed = from after_value none (λ e. absurd (passed e)) (a_bad [])
    other_first AfterComma passed = from after_comma (a_bad []) (λ e. a_bad []) (a_bad [])
    other_first Failed passed = none

  pub refused_first : (place : reader.Place) → P (refused_at place)
  refused_first Failed = none
  refused_first _ = a_bad []

-- no array ends
pub no_end_array : (place : reader.Place) (t : List ℕ) → Ends t → NotBeforeComma place t → head t ≢ 93 → after_end_array (tokens_at place t) ≡ None
no_end_array place t ends passed apart =
    other_first (λ ts. after_end_array ts ≡ None) refl (λ s ts. refl) (λ b ts. refl) (λ ts. refl) (λ ts. refl) (λ ts. refl) (λ ts. refl)
    t ends (λ h s ts. refl) (λ h s ts. refl) (λ h ts. refl) (λ h. absurd (apart h)) place passed

pub refused_no_end : (place : reader.Place) → after_end_array (refused_at place) ≡ None
refused_no_end = refused_first (λ ts. after_end_array ts ≡ None) refl (λ s ts. refl) (λ b ts. refl) (λ ts. refl) (λ ts. refl) (λ ts. refl) (λ ts. refl)

-- no name comes next
pub no_key : (place : reader.Place) (t : List ℕ) → Ends t → NotBeforeComma place t → head t ≢ 34 → begins_key (tokens_at place t) ≡ false
no_key place t ends passed apart =
    other_first (λ ts. begins_key ts ≡ false) refl (λ s ts. refl) (λ b ts. refl) (λ ts. refl) (λ ts. refl) (λ ts. refl) (λ ts. refl)
    t ends (λ h. absurd (apart h)) (λ h. absurd (apart h)) (λ h ts. refl) (λ h ts. refl) place passed

pub no_key_yet : (place : reader.Place) (t : List ℕ) → begins_at place ≡ false → head t ≡ 34 → begins_key (tokens_at place t) ≡ false
unfolding punctuate
no_key_yet Fresh t e h = absurd (true≢false e)
no_key_yet AfterValue t e h = ap (λ ls. begins_key (punctuate after_value ls)) (at_string t _ h refl) ∙ ap begins_key (text_after_value _ _ _)
no_key_yet AfterComma t e h = absurd (true≢false e)
no_key_yet Failed t e h = refl

-- no object ends
pub no_brace : (place : reader.Place) (t : List ℕ) → Ends t → NotBeforeComma place t → head t ≢ 125 → ends_object (tokens_at place t) ≡ false
no_brace place t ends passed apart =
    other_first (λ ts. ends_object ts ≡ false) refl (λ s ts. refl) (λ b ts. refl) (λ ts. refl) (λ ts. refl) (λ ts. refl) (λ ts. refl)
    t ends (λ h s ts. refl) (λ h s ts. refl) (λ h. absurd (apart h)) (λ h ts. refl) place passed

pub refused_no_brace : (place : reader.Place) → ends_object (refused_at place) ≡ false
refused_no_brace = refused_first (λ ts. ends_object ts ≡ false) refl (λ s ts. refl) (λ b ts. refl) (λ ts. refl) (λ ts. refl) (λ ts. refl) (λ ts. refl)
