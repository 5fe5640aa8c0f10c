-- The value of a JSON string whose text goes on after a part that leaves the string open.
use Rattle.proof_prelude.proofs.{◌≡◌, ℕ, ◌==◌, nat_lt, list_all, List, [], ◌∷◌, ◌++◌, Bool, true, false, cond, refl, sym, ap, subst, ◌∙◌, Option, Some, None, option_and_then, is_utf8, and_parts, arith}
use Rattle.json.specs.Json.{Json, document, if_last, value, max_depth}
use Rattle.json.specs.Token.{Token, begin_object, end_object, begin_array, end_array, key, string, number, boolean, null, bad}
use Rattle.json.specs.Text.{content, plain, prepend}
use Rattle.json.specs.Word.{is_operator, is_space}
use Rattle.json.specs.Lex.{Class, quote, backslash, operator, space, other, Lexeme, token, comma, colon, lex, lex_byte, class, string_token, Mode, between, in_string, in_escape, Place, fresh, after_value, after_comma, after_key, begins_colon, if_allowed, may_begin, may_close, place_token, punctuate}
use Rattle.json.specs.Find.{as_str}
use Rattle.doc_envelope.specs.{IsRun, MayStream, is_streamable, mode_after, string_of}
use Rattle.doc_envelope.specs.Members.{Outside, Quoted, Escaped}
use Rattle.doc_envelope.proofs.RunsUtf8.{utf8_run}
use Rattle.doc_envelope.proofs.TakeContents.{content_more, is_open, prepend_more, prepend_nil}

-- ---- the lexemes after an open string

abbrev lex_mode : Bool → Mode
lex_mode false = in_string
lex_mode true = in_escape

string_byte : (b : ℕ) (xs : List ℕ) → (b == 34) ≡ false → (b == 92) ≡ false → lex in_string (b ∷ xs) ≡ lex in_string xs
unfolding lex
string_byte b xs e f = rw (e, f) (by_class (is_operator b) (is_space b)) where
  by_class : (o s : Bool) → lex_byte in_string (cond o operator (cond s space other)) b xs (λ next. lex next xs) ≡ lex in_string xs
  by_class true s = refl
  by_class false true = refl
  by_class false false = refl

slash_byte : (b : ℕ) (xs : List ℕ) → (b == 34) ≡ false → (b == 92) ≡ true → lex in_string (b ∷ xs) ≡ lex in_escape xs
unfolding lex
slash_byte b xs e f = rw (e, f) refl

quote_byte : (b : ℕ) (xs : List ℕ) → (b == 34) ≡ true → lex in_string (b ∷ xs) ≡ lex between xs
unfolding lex
quote_byte b xs e = rw e refl

escape_byte : (b : ℕ) (xs : List ℕ) → lex in_escape (b ∷ xs) ≡ lex in_string xs
unfolding lex
escape_byte b xs = refl

abbrev LexOf : Bool → List ℕ → Type 0
LexOf escaped q = is_open escaped q ≡ true → (x : List ℕ) → lex (lex_mode escaped) (q ++ x) ≡ lex in_string x

lex_open : (escaped : Bool) (q : List ℕ) → LexOf escaped q
lex_open true [] h x = absurd (cc)
lex_open false [] h x = refl
lex_open true (b ∷ t) h x = escape_byte b (t ++ x) ∙ lex_open false t h x
lex_open false (b ∷ t) h x = by_byte (b == 34) (b == 92) refl refl (lex_open true t) (lex_open false t) h where
  by_byte : (e s : Bool) → (b == 34) ≡ e → (b == 92) ≡ s → LexOf true t → LexOf false t → cond e false (is_open s t) ≡ true → lex in_string (b ∷ (t ++ x)) ≡ lex in_string x
  by_byte true s f g p q k = absurd (cc)
  by_byte false true f g p q k = slash_byte b (t ++ x) f g ∙ p k x
  by_byte false false f g p q k = string_byte b (t ++ x) f g ∙ q k x

-- ---- a closed string is the only lexeme

some_token : (t : List ℕ) → lex between (t ++ 34 ∷ []) ≡ [] → ⊥
unfolding lex
some_token [] h = cc
some_token (b ∷ t) h = by_class (class b) h (some_token t) where
  by_class : (c : Class) → lex_byte between c b (t ++ 34 ∷ []) (λ next. lex next (t ++ 34 ∷ [])) ≡ [] → (lex between (t ++ 34 ∷ []) ≡ [] → ⊥) → ⊥
  by_class quote k more = cc
  by_class backslash k more = cc
  by_class operator k more = cc
  by_class space k more = more k
  by_class other k more = cc

abbrev string_mode : Bool → Rattle.doc_envelope.specs.Members.Mode
string_mode false = Quoted
string_mode true = Escaped

abbrev OpenOf : Bool → List ℕ → Type 0
OpenOf escaped q = lex (lex_mode escaped) (q ++ 34 ∷ []) ≡ [] → mode_after (string_mode escaped) q ≡ Quoted → is_open escaped q ≡ true

open_by : (escaped : Bool) (q : List ℕ) → OpenOf escaped q
unfolding mode_after
open_by true [] h k = absurd (cc)
open_by false [] h k = refl
open_by true (b ∷ t) h k = open_by false t (sym (escape_byte b (t ++ 34 ∷ [])) ∙ h) k
open_by false (b ∷ t) h k = by_byte (b == 34) (b == 92) refl refl (open_by true t) (open_by false t) k where
  by_byte : (e s : Bool) → (b == 34) ≡ e → (b == 92) ≡ s → OpenOf true t → OpenOf false t → mode_after (cond e Outside (cond s Escaped Quoted)) t ≡ Quoted → cond e false (is_open s t) ≡ true
  by_byte true s f g p q m = absurd (some_token t (sym (quote_byte b (t ++ 34 ∷ []) f) ∙ h))
  by_byte false true f g p q m = p (sym (slash_byte b (t ++ 34 ∷ []) f g) ∙ h) m
  by_byte false false f g p q m = q (sym (string_byte b (t ++ 34 ∷ []) f g) ∙ h) m

-- ---- the value of a text that begins with a quotation mark

allowed_more : (b : Bool) (t : Token) (k : Place → List Token) (p : Place) (j : Json) → if_last j (if_allowed b t k p) ≡ None
allowed_more true t k p j = refl
allowed_more false t k p j = refl

placed_more : (p : Place) (t : Token) (b : Bool) (k : Place → List Token) (j : Json) → if_last j (place_token p t b k) ≡ None
placed_more p begin_object b k j = allowed_more (may_begin p) begin_object k fresh j
placed_more p end_object b k j = allowed_more (may_close p) end_object k after_value j
placed_more p begin_array b k j = allowed_more (may_begin p) begin_array k fresh j
placed_more p end_array b k j = allowed_more (may_close p) end_array k after_value j
placed_more p (key s) b k j = refl
placed_more p (string s) true k j = allowed_more (may_begin p) (key s) k after_key j
placed_more p (string s) false k j = allowed_more (may_begin p) (string s) k after_value j
placed_more p (number s) b k j = allowed_more (may_begin p) (number s) k after_value j
placed_more p (boolean c) b k j = allowed_more (may_begin p) (boolean c) k after_value j
placed_more p null b k j = allowed_more (may_begin p) null k after_value j
placed_more p bad b k j = refl

comma_more : (ls : List Lexeme) (j : Json) → if_last j (punctuate after_comma ls) ≡ None
unfolding punctuate
comma_more [] j = refl
comma_more (token t ∷ ls) j = placed_more after_comma t (begins_colon ls) (λ next. punctuate next ls) j
comma_more (comma ∷ ls) j = refl
comma_more (colon ∷ ls) j = refl

abbrev is_nil : List Lexeme → Bool
is_nil [] = true
is_nil (l ∷ ls) = false

abbrev value_of_tokens : List Token → Option (List ℕ)
value_of_tokens ts = option_and_then as_str (option_and_then (λ p. if_last p.0 p.1) (value max_depth ts))

value_string : (s : List ℕ) (ts : List Token) → value_of_tokens (string s ∷ ts) ≡ option_and_then as_str (if_last (Json.string s) ts)
unfolding value
value_string s ts = refl

value_bad : (ts : List Token) → value_of_tokens (bad ∷ ts) ≡ None
unfolding value
value_bad ts = refl

value_key : (s : List ℕ) (ts : List Token) → value_of_tokens (key s ∷ ts) ≡ None
unfolding value
value_key s ts = refl

string_lexemes : (o : Option (List ℕ)) (ls : List Lexeme) → value_of_tokens (punctuate fresh (token (string_token o) ∷ ls)) ≡ cond (is_nil ls) o None
unfolding punctuate
string_lexemes None [] = value_bad []
string_lexemes None (l ∷ ls) = value_bad []
string_lexemes (Some s) [] = value_string s []
string_lexemes (Some s) (token t ∷ ls) = value_string s (punctuate after_value (token t ∷ ls)) ∙ ap (option_and_then as_str) (placed_more after_value t (begins_colon ls) (λ next. punctuate next ls) (Json.string s))
string_lexemes (Some s) (comma ∷ ls) = value_string s (punctuate after_value (comma ∷ ls)) ∙ ap (option_and_then as_str) (comma_more ls (Json.string s))
string_lexemes (Some s) (colon ∷ ls) = value_key s (punctuate after_key (colon ∷ ls))

quoted_lexemes : (z : List ℕ) → lex between (34 ∷ z) ≡ token (string_token (content plain z)) ∷ lex in_string z
unfolding lex
quoted_lexemes z = refl

string_value : (z : List ℕ) → option_and_then as_str (document (34 ∷ z)) ≡ cond (is_nil (lex in_string z)) (content plain z) None
string_value z = ap (λ ls. value_of_tokens (punctuate fresh ls)) (quoted_lexemes z) ∙ string_lexemes (content plain z) (lex in_string z)

-- ---- runs

pub run_byte : (b : ℕ) → is_streamable b ≡ true → ((b == 34) ≡ false) × ((b == 92) ≡ false) × (nat_lt b 32 ≡ false)
run_byte b h = (grind arith, grind arith, grind arith)

pub run_open : (r : List ℕ) → IsRun r → is_open false r ≡ true
run_open [] h = refl
run_open (b ∷ r) h =
    let parts = and_parts (is_streamable b) (list_all is_streamable r) h in
    let byte = run_byte b parts.0 in
    subst (λ e. cond e false (is_open (b == 92) r) ≡ true) (sym byte.0) (subst (λ s. is_open s r ≡ true) (sym byte.1) (run_open r parts.1))

run_content : (r v : List ℕ) → IsRun r → content plain (r ++ v) ≡ prepend r (content plain v)
unfolding content
run_content [] v h = sym (prepend_nil (content plain v))
run_content (b ∷ r) v h =
    let parts = and_parts (is_streamable b) (list_all is_streamable r) h in
    let byte = run_byte b parts.0 in
    rw (byte.0, byte.1, byte.2) (ap (prepend (b ∷ [])) (run_content r v parts.1) ∙ prepend_more (b ∷ []) r (content plain v))

-- ---- an open string

nil_of : (ls : List Lexeme) → is_nil ls ≡ true → ls ≡ []
nil_of [] h = refl
nil_of (l ∷ ls) h = absurd (cc)

some_parts : (u n : Bool) (o : Option (List ℕ)) (c : List ℕ) → cond u (cond n o None) None ≡ Some c → (n ≡ true) × (o ≡ Some c)
some_parts true true o c h = (refl, h)
some_parts true false o c h = absurd (cc)
some_parts false n o c h = absurd (cc)

cond_prepend : (u n : Bool) (c : List ℕ) (o : Option (List ℕ)) → cond u (cond n (prepend c o) None) None ≡ prepend c (cond u (cond n o None) None)
cond_prepend true true c o = refl
cond_prepend true false c o = refl
cond_prepend false n c o = refl

string_text : (z : List ℕ) → string_of (34 ∷ z) ≡ cond (is_utf8 (34 ∷ z)) (cond (is_nil (lex in_string z)) (content plain z) None) None
string_text z = ap (λ o. cond (is_utf8 (34 ∷ z)) o None) (string_value z)

-- The text of a JSON string begins with a quotation mark and the part q, with the content c. The string is open after q.
pub record IsOpen (q c : List ℕ) : Type 0 where
  pub may : MayStream (34 ∷ q)
  pub opened : is_open false q ≡ true
  pub closed : content plain (q ++ 34 ∷ []) ≡ Some c

pub open_string : (q c : List ℕ) → MayStream (34 ∷ q) → string_of (34 ∷ (q ++ 34 ∷ [])) ≡ Some c → IsOpen q c
unfolding mode_after
open_string q c may h =
    let z = q ++ 34 ∷ [] in
    let parts = some_parts (is_utf8 (34 ∷ z)) (is_nil (lex in_string z)) (content plain z) c (sym (string_text z) ∙ h) in
    record { may = may; opened = open_by false q (nil_of (lex in_string z) parts.0) may.quoted; closed = parts.1 }

-- The content of the rest v of a string, after its part q.
pub rest_value : List ℕ → List ℕ → Option (List ℕ)
rest_value q v = cond (is_utf8 (34 ∷ (q ++ v))) (cond (is_nil (lex in_string v)) (content plain v) None) None

pub string_part : (q c v : List ℕ) → IsOpen q c → string_of (34 ∷ (q ++ v)) ≡ prepend c (rest_value q v)
unfolding rest_value
string_part q c v o =
    let u = is_utf8 (34 ∷ (q ++ v)) in
    string_text (q ++ v) ∙ ap (λ ls. cond u (cond (is_nil ls) (content plain (q ++ v)) None) None) (lex_open false q o.opened v)
    ∙ ap (λ r. cond u (cond (is_nil (lex in_string v)) r None) None) (content_more q c o.opened o.closed v)
    ∙ cond_prepend u (is_nil (lex in_string v)) c (content plain v)

rest_run : (q c r v : List ℕ) → IsOpen q c → IsRun r → rest_value q (r ++ v) ≡ prepend r (rest_value q v)
unfolding rest_value
rest_run q c r v o h =
    ap (λ u. cond u (cond (is_nil (lex in_string (r ++ v))) (content plain (r ++ v)) None) None) (utf8_run (34 ∷ q) r v o.may h)
    ∙ ap (λ ls. cond (is_utf8 (34 ∷ (q ++ v))) (cond (is_nil ls) (content plain (r ++ v)) None) None) (lex_open false r (run_open r h) v)
    ∙ ap (λ z. cond (is_utf8 (34 ∷ (q ++ v))) (cond (is_nil (lex in_string v)) z None) None) (run_content r v h)
    ∙ cond_prepend (is_utf8 (34 ∷ (q ++ v))) (is_nil (lex in_string v)) r (content plain v)

pub string_run : (q c r v : List ℕ) → IsOpen q c → IsRun r → string_of (34 ∷ (q ++ (r ++ v))) ≡ prepend (c ++ r) (rest_value q v)
string_run q c r v o h = string_part q c (r ++ v) o ∙ ap (prepend c) (rest_run q c r v o h) ∙ prepend_more c r (rest_value q v)
