-- Whether a text is an envelope does not depend on the string of its last member `whole`.
use Rattle.proof_prelude.proofs.{◌≡◌, ℕ, List, [], ◌∷◌, ◌++◌, Bool, true, false, cond, ◌&&◌, ◌||◌, ◌==◌, refl, sym, ap, subst, ◌∙◌, arith, append_assoc, list_any, is_utf8, IsUtf8, IsUtf8-append}
use Rattle.json.specs.Token.{Token, bad, string, end_object}
use Rattle.json.specs.Text.{content, plain}
use Rattle.json.specs.Word.{is_operator, is_space, word, after_number}
use Rattle.json.specs.Lex.{Lexeme, token, colon, begins_colon, Class, class, quote, backslash, operator, space, other, operator_lexeme, string_token, lex_byte, lex, between, in_word, in_string, in_escape}
use Rattle.json.specs.Lex as l
use Rattle.json.specs.Json.{document}
use Rattle.json.specs.Print.{quoted, escape}
use Rattle.json.proofs.Printed.Strings.{content-escape, lex-escape}
use Rattle.json.proofs.Printed.Utf8.{IsUtf8-are_ascii, IsUtf8-quoted}
use Rattle.doc_envelope.specs.{is_envelope, is_envelope_value}
use Rattle.doc_envelope.proofs.Contents.{content_named}
use Rattle.doc_envelope.proofs.LikeTokens.{Like, nothing, same, strings, document_like}
use Rattle.doc_envelope.proofs.RunsUtf8.{same_utf8, utf8_cut}
use Rattle.doc_envelope.proofs.Words.{Ended, ended_of, stops, word_same}

-- ---- the lexemes of a text that ends with the name `whole` and a colon

-- the text p, the name, the colon, and the text z
abbrev named : List ℕ → List ℕ → List ℕ
named p z = p ++ 34 ∷ 119 ∷ 104 ∷ 111 ∷ 108 ∷ 101 ∷ 34 ∷ 58 ∷ z

-- the lexemes before z are known
abbrev Known : l.Mode → List ℕ → Type 0
Known m p = (ls : List Lexeme) × ((z : List ℕ) → lex m (named p z) ≡ ls ++ lex between z)

record All (p : List ℕ) : Type 0 where
  free : Known between p
  word : Known in_word p
  string : Known in_string p
  escape : Known in_escape p

all_end : All []
unfolding lex content word after_number
all_end = record {
  free = (token (string (119 ∷ 104 ∷ 111 ∷ 108 ∷ 101 ∷ [])) ∷ colon ∷ [], (λ z. refl));
  word = (colon ∷ [], (λ z. refl));
  string = (token bad ∷ colon ∷ [], (λ z. refl));
  escape = (colon ∷ [], (λ z. refl));
}

any_named : (p : List ℕ) → list_any stops (named p []) ≡ true
any_named [] = refl
any_named (x ∷ p) = always (stops x) (list_any stops (named p [])) (any_named p) where
  always : (a b : Bool) → b ≡ true → (a || b) ≡ true
  always true b e = refl
  always false b e = e

append_named : (p z : List ℕ) → named p z ≡ named p [] ++ z
append_named p z = sym (append_assoc p (34 ∷ 119 ∷ 104 ∷ 111 ∷ 108 ∷ 101 ∷ 34 ∷ 58 ∷ []) z)

word_known : (x : ℕ) (p : List ℕ) → (t : Token) × ((z : List ℕ) → word (x ∷ named p z) ≡ t)
word_known x p = (word (x ∷ (d.front ++ d.stop ∷ (d.back ++ []))), (λ z. ap (λ u. word (x ∷ u)) (split z) ∙ word_same d.stop d.ends x d.front (d.back ++ z) (d.back ++ []))) where
  d : Ended (named p [])
  d = ended_of (named p []) (any_named p)

  split : (z : List ℕ) → named p z ≡ d.front ++ d.stop ∷ (d.back ++ z)
  split z = append_named p z ∙ ap (λ u. u ++ z) d.is ∙ append_assoc d.front (d.stop ∷ d.back) z

abbrev class_by : Bool → Bool → Bool → Bool → Class
class_by a b o s = cond a quote (cond b backslash (cond o operator (cond s space other)))

abbrev Lexes : l.Mode → Class → ℕ → List ℕ → Type 0
Lexes m c x p = (ls : List Lexeme) × ((z : List ℕ) → lex_byte m c x (named p z) (λ n. lex n (named p z)) ≡ ls ++ lex between z)

and_then : (t : Lexeme) (m : l.Mode) (p : List ℕ) → Known m p → (ls : List Lexeme) × ((z : List ℕ) → t ∷ lex m (named p z) ≡ ls ++ lex between z)
and_then t m p k = (t ∷ k.0, (λ z. ap (λ ls. t ∷ ls) (k.1 z)))

free_by : (x : ℕ) (p : List ℕ) (a b o s : Bool) → All p → Lexes between (class_by a b o s) x p
free_by x p true b o s ih =
    let c = content_named p in
    (token (string_token c.0) ∷ ih.string.0, (λ z. ap (λ o. token (string_token o) ∷ lex in_string (named p z)) (c.1 (58 ∷ z)) ∙ ap (λ ls. token (string_token c.0) ∷ ls) (ih.string.1 z)))
free_by x p false true o s ih = and_then (token bad) in_word p ih.word
free_by x p false false true s ih = and_then (operator_lexeme x) between p ih.free
free_by x p false false false true ih = ih.free
free_by x p false false false false ih =
    let w = word_known x p in
    (token w.0 ∷ ih.word.0, (λ z. ap (λ t. token t ∷ lex in_word (named p z)) (w.1 z) ∙ ap (λ ls. token w.0 ∷ ls) (ih.word.1 z)))

word_by : (x : ℕ) (p : List ℕ) (a b o s : Bool) → All p → Lexes in_word (class_by a b o s) x p
word_by x p true b o s ih = ih.word
word_by x p false true o s ih = ih.word
word_by x p false false true s ih = and_then (operator_lexeme x) between p ih.free
word_by x p false false false true ih = ih.free
word_by x p false false false false ih = ih.word

string_by : (x : ℕ) (p : List ℕ) (a b o s : Bool) → All p → Lexes in_string (class_by a b o s) x p
string_by x p true b o s ih = ih.free
string_by x p false true o s ih = ih.escape
string_by x p false false true s ih = ih.string
string_by x p false false false true ih = ih.string
string_by x p false false false false ih = ih.string

all_more : (x : ℕ) (p : List ℕ) → All p → All (x ∷ p)
unfolding lex
all_more x p ih = record {
  free = free_by x p (x == 34) (x == 92) (is_operator x) (is_space x) ih;
  word = word_by x p (x == 34) (x == 92) (is_operator x) (is_space x) ih;
  string = string_by x p (x == 34) (x == 92) (is_operator x) (is_space x) ih;
  escape = ih.string;
}

all : (p : List ℕ) → All p
all [] = all_end
all (x ∷ p) = all_more x p (all p)

-- ---- the string

string_lexemes : (s : List ℕ) → lex between (quoted s ++ 125 ∷ []) ≡ token (string s) ∷ token end_object ∷ []
unfolding lex
string_lexemes s =
    let cut = append_assoc (escape s) (34 ∷ []) (125 ∷ []) in
    ap (λ t. token (string_token (content plain t)) ∷ lex in_string t) cut
    ∙ ap (λ o. token (string_token o) ∷ lex in_string (escape s ++ 34 ∷ 125 ∷ [])) (content-escape s (125 ∷ []))
    ∙ ap (λ ls. token (string s) ∷ ls) (lex-escape s (125 ∷ []))

like_append : (ls ms ns : List Lexeme) → Like false ms ns → Like false (ls ++ ms) (ls ++ ns)
like_append [] ms ns h = h
like_append (t ∷ ls) ms ns h = same t (like_append ls ms ns h)

strings_like : (p s t : List ℕ) → Like false (lex between (named p (quoted s ++ 125 ∷ []))) (lex between (named p (quoted t ++ 125 ∷ [])))
strings_like p s t =
    let k = (all p).free in
    let a = k.1 (quoted s ++ 125 ∷ []) ∙ ap (λ ls. k.0 ++ ls) (string_lexemes s) in
    let b = k.1 (quoted t ++ 125 ∷ []) ∙ ap (λ ls. k.0 ++ ls) (string_lexemes t) in
    subst (λ ls. Like false ls (lex between (named p (quoted t ++ 125 ∷ [])))) (sym a) (subst (λ ls. Like false (k.0 ++ token (string s) ∷ token end_object ∷ []) ls) (sym b)
    (like_append k.0 (token (string s) ∷ token end_object ∷ []) (token (string t) ∷ token end_object ∷ []) (strings s t (λ e. absurd (never e)) (same (token end_object) nothing)))) where
      never : false ≡ true → ⊥
      never e = absurd (cc)

values_like : (p s t : List ℕ) → is_envelope_value (document (named p (quoted s ++ 125 ∷ []))) ≡ is_envelope_value (document (named p (quoted t ++ 125 ∷ [])))
values_like p s t = (document_like false (named p (quoted s ++ 125 ∷ [])) (named p (quoted t ++ 125 ∷ [])) (strings_like p s t)).1 refl

-- ---- UTF-8

closed_utf8 : (s : List ℕ) → IsUtf8 s → IsUtf8 (quoted s ++ 125 ∷ [])
closed_utf8 s u = IsUtf8-append (quoted s) (125 ∷ []) (IsUtf8-quoted s u) (IsUtf8-are_ascii (125 ∷ []) refl)

utf8_other : (p s t : List ℕ) → IsUtf8 t → IsUtf8 (named p (quoted s ++ 125 ∷ [])) → IsUtf8 (named p (quoted t ++ 125 ∷ []))
utf8_other p s t v u =
    let q = p ++ 34 ∷ 119 ∷ 104 ∷ 111 ∷ 108 ∷ 101 ∷ 34 ∷ [] in
    let cut = λ (z : List ℕ). append_assoc p (34 ∷ 119 ∷ 104 ∷ 111 ∷ 108 ∷ 101 ∷ 34 ∷ []) (58 ∷ z) in
    let front = (utf8_cut q 58 (quoted s ++ 125 ∷ []) (omega arith) (subst IsUtf8 (sym (cut (quoted s ++ 125 ∷ []))) u)).0 in
    subst IsUtf8 (append_assoc q (58 ∷ []) (quoted t ++ 125 ∷ []) ∙ cut (quoted t ++ 125 ∷ [])) (IsUtf8-append (q ++ 58 ∷ []) (quoted t ++ 125 ∷ []) front (closed_utf8 t v))

pub other_string : (p s t : List ℕ) → IsUtf8 s → IsUtf8 t → is_envelope (named p (quoted s ++ 125 ∷ [])) ≡ is_envelope (named p (quoted t ++ 125 ∷ []))
other_string p s t u v =
    ap (λ b. b && is_envelope_value (document (named p (quoted s ++ 125 ∷ [])))) (same_utf8 (named p (quoted s ++ 125 ∷ [])) (named p (quoted t ++ 125 ∷ [])) (utf8_other p s t v) (utf8_other p t s u))
    ∙ ap (λ b. is_utf8 (named p (quoted t ++ 125 ∷ [])) && b) (values_like p s t)
