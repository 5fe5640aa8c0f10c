-- A run of streamable bytes that is inserted in a string does not change whether a text is JSON.
use Rattle.proof_prelude.proofs.{◌≡◌, ℕ, ◌-◌, ◌≤◌, List, [], ◌∷◌, ◌++◌, length, take, drop, Bool, true, false, not, cond, ◌&&◌, ◌||◌, ◌==◌, refl, sym, ap, subst, ◌∙◌, Option, Some, None, is_some, eqb-true, arith, append_assoc, list_all, list_any, and_parts, take-append-drop, length-drop}
use Rattle.json.specs.Token.{bad}
use Rattle.json.specs.Text.{content, plain, prepend}
use Rattle.json.specs.Word.{is_operator, is_space, word}
use Rattle.json.specs.Lex.{Lexeme, token, Class, class, quote, backslash, operator, space, other, operator_lexeme, string_token, lex_byte, lex, between, in_word, in_string, in_escape}
use Rattle.json.specs.Json.{document}
use Rattle.doc_envelope.specs.{IsRun, MayStream, Mode, is_streamable, mode_after, mode_behind}
use Rattle.doc_envelope.specs.Members.{Outside, Quoted, Escaped}
use Rattle.doc_envelope.proofs.Contents.{Inside, known, follows, content_inside, content_run}
use Rattle.doc_envelope.proofs.LikeTokens.{Like, nothing, same, strings, fault, document_like}
use Rattle.doc_envelope.proofs.Words.{Ended, broken, ended_of, inner, stops, word_bad, word_same}

-- ---- the mode after a text

pub mode_append : (m : Mode) (s t : List ℕ) → mode_after m (s ++ t) ≡ mode_after (mode_after m s) t
unfolding mode_after
mode_append m [] t = refl
mode_append m (b ∷ s) t = mode_append (mode_behind m b) s t

pub streams : (x : ℕ) → is_streamable x ≡ true → ((x == 34) ≡ false) × ((x == 92) ≡ false)
streams x h = (grind arith, grind arith)

pub run_outside : (r : List ℕ) → IsRun r → mode_after Outside r ≡ Outside
unfolding mode_after
run_outside [] h = refl
run_outside (x ∷ r) h =
    let parts = and_parts (is_streamable x) (list_all is_streamable r) h in
    ap (λ b. mode_after (cond b Quoted Outside) r) (streams x parts.0).0 ∙ run_outside r parts.1

pub run_quoted : (r : List ℕ) → IsRun r → mode_after Quoted r ≡ Quoted
unfolding mode_after
run_quoted [] h = refl
run_quoted (x ∷ r) h =
    let parts = and_parts (is_streamable x) (list_all is_streamable r) h in
    let q = streams x parts.0 in
    ap (λ b. mode_after (cond b Outside (cond (x == 92) Escaped Quoted)) r) q.0 ∙ ap (λ b. mode_after (cond b Escaped Quoted) r) q.1 ∙ run_quoted r parts.1

-- a text after which a string is open has a quotation mark
any_stop : (q : List ℕ) → (mode_after Outside q ≡ Outside → ⊥) → list_any stops q ≡ true
unfolding mode_after
any_stop [] h = absurd (h refl)
any_stop (x ∷ q) h = by (x == 34) refl (any_stop q) where
  always : (a b : Bool) → ((a || true) || b) ≡ true
  always true b = refl
  always false b = refl

  more : (a b : Bool) → b ≡ true → (a || b) ≡ true
  more true b e = refl
  more false b e = e

  by : (b : Bool) → (x == 34) ≡ b → ((mode_after Outside q ≡ Outside → ⊥) → list_any stops q ≡ true) → list_any stops (x ∷ q) ≡ true
  by true e ih = ap (λ b. (is_operator x || is_space x || b) || list_any stops q) e ∙ always (is_operator x || is_space x) (list_any stops q)
  by false e ih = more (stops x) (list_any stops q) (ih (subst (λ b. mode_after (cond b Quoted Outside) q ≡ Outside → ⊥) e h))

-- ---- lexemes

pub like_refl : (k : Bool) (ls : List Lexeme) → Like k ls ls
like_refl k [] = nothing
like_refl k (l ∷ ls) = same l (like_refl k ls)

string_class : (o s : Bool) (x : ℕ) (xs : List ℕ) (f : Rattle.json.specs.Lex.Mode → List Lexeme) → lex_byte in_string (cond o operator (cond s space other)) x xs f ≡ f in_string
string_class true s x xs f = refl
string_class false true x xs f = refl
string_class false false x xs f = refl

-- a run in a string is passed over
pub run_lex : (r z : List ℕ) → IsRun r → lex in_string (r ++ z) ≡ lex in_string z
unfolding lex
run_lex [] z h = refl
run_lex (x ∷ r) z h =
    let parts = and_parts (is_streamable x) (list_all is_streamable r) h in
    let q = streams x parts.0 in
    let k = λ (n : Rattle.json.specs.Lex.Mode). lex n (r ++ z) in
    ap (λ b. lex_byte in_string (cond b quote (cond (x == 92) backslash (cond (is_operator x) operator (cond (is_space x) space other)))) x (r ++ z) k) q.0
    ∙ ap (λ b. lex_byte in_string (cond b backslash (cond (is_operator x) operator (cond (is_space x) space other))) x (r ++ z) k) q.1
    ∙ string_class (is_operator x) (is_space x) x (r ++ z) k ∙ run_lex r z parts.1

options_like : (o p : Option (List ℕ)) (ls ms : List Lexeme) → is_some o ≡ is_some p → Like true ls ms → Like true (token (string_token o) ∷ ls) (token (string_token p) ∷ ms)
options_like None None ls ms e h = same (token bad) h
options_like None (Some b) ls ms e h = absurd (cc)
options_like (Some a) None ls ms e h = absurd (cc)
options_like (Some a) (Some b) ls ms e h = strings a b (λ _. refl) h

some_prepend : (c : List ℕ) (o : Option (List ℕ)) → is_some (prepend c o) ≡ is_some o
some_prepend c None = refl
some_prepend c (Some s) = refl

-- ---- two texts that go on differently in a string, after streamable bytes e

module _ (e : List ℕ) (run : IsRun e) (long : 6 ≤ length e) (y z : List ℕ) (tail : Like true (lex in_string y) (lex in_string z)) (both : is_some (content plain y) ≡ is_some (content plain z)) where
  abbrev L : Rattle.json.specs.Lex.Mode → List ℕ → Type 0
  L m p = Like true (lex m (p ++ (e ++ y))) (lex m (p ++ (e ++ z)))

  abbrev Open : Mode → List ℕ → Type 0
  Open m p = mode_after m p ≡ Outside → ⊥

  record At (p : List ℕ) : Type 0 where
    free : Open Outside p → L between p
    word : Open Outside p → broken p ≡ false → L in_word p
    string : Open Quoted p → L in_string p
    escape : Open Escaped p → L in_escape p

  contents : (q : List ℕ) → is_some (content plain (q ++ (e ++ y))) ≡ is_some (content plain (q ++ (e ++ z)))
  contents q = by (content_inside q e run long) where
    by : Inside (q ++ e) → is_some (content plain (q ++ (e ++ y))) ≡ is_some (content plain (q ++ (e ++ z)))
    by (known o h) = ap (λ t. is_some (content plain t)) (sym (append_assoc q e y)) ∙ ap is_some (h y) ∙ sym (ap is_some (h z)) ∙ ap (λ t. is_some (content plain t)) (append_assoc q e z)
    by (follows c h) =
        ap (λ t. is_some (content plain t)) (sym (append_assoc q e y)) ∙ ap is_some (h y) ∙ some_prepend c (content plain y) ∙ both ∙ sym (some_prepend c (content plain z))
        ∙ sym (ap is_some (h z)) ∙ ap (λ t. is_some (content plain t)) (append_assoc q e z)

  strings_like : (p : List ℕ) → L in_string p
      → Like true (token (string_token (content plain (p ++ (e ++ y)))) ∷ lex in_string (p ++ (e ++ y))) (token (string_token (content plain (p ++ (e ++ z)))) ∷ lex in_string (p ++ (e ++ z)))
  strings_like p h = options_like (content plain (p ++ (e ++ y))) (content plain (p ++ (e ++ z))) (lex in_string (p ++ (e ++ y))) (lex in_string (p ++ (e ++ z))) (contents p) h

  -- a word, whose end or a quotation mark follows
  words_like : (x : ℕ) (p : List ℕ) → inner x ≡ true → Open Outside p → (broken p ≡ false → L in_word p)
      → Like true (token (word (x ∷ (p ++ (e ++ y)))) ∷ lex in_word (p ++ (e ++ y))) (token (word (x ∷ (p ++ (e ++ z)))) ∷ lex in_word (p ++ (e ++ z)))
  words_like x p clean h more = by (d.stop == 34) refl where
    d : Ended p
    d = ended_of p (any_stop p h)

    split : (t : List ℕ) → p ++ t ≡ d.front ++ d.stop ∷ (d.back ++ t)
    split t = ap (λ u. u ++ t) d.is ∙ append_assoc d.front (d.stop ∷ d.back) t

    bad_word : (t : List ℕ) → (d.stop == 34) ≡ true → word (x ∷ (p ++ t)) ≡ bad
    bad_word t k = ap (λ u. word (x ∷ u)) (split t ∙ ap (λ c. d.front ++ c ∷ (d.back ++ t)) (eqb-true d.stop 34 k)) ∙ word_bad x d.front (d.back ++ t) (ap (λ b. b && list_all inner d.front) clean ∙ d.clean)

    by : (b : Bool) → (d.stop == 34) ≡ b
        → Like true (token (word (x ∷ (p ++ (e ++ y)))) ∷ lex in_word (p ++ (e ++ y))) (token (word (x ∷ (p ++ (e ++ z)))) ∷ lex in_word (p ++ (e ++ z)))
    by true k =
        subst (λ a. Like true (token a ∷ lex in_word (p ++ (e ++ y))) (token (word (x ∷ (p ++ (e ++ z)))) ∷ lex in_word (p ++ (e ++ z)))) (sym (bad_word (e ++ y) k))
        (subst (λ a. Like true (token bad ∷ lex in_word (p ++ (e ++ y))) (token a ∷ lex in_word (p ++ (e ++ z)))) (sym (bad_word (e ++ z) k)) (fault (lex in_word (p ++ (e ++ y))) (lex in_word (p ++ (e ++ z)))))
    by false k =
        let alike = ap (λ u. word (x ∷ u)) (split (e ++ y)) ∙ word_same d.stop d.ends x d.front (d.back ++ (e ++ y)) (d.back ++ (e ++ z)) ∙ sym (ap (λ u. word (x ∷ u)) (split (e ++ z))) in
        subst (λ a. Like true (token (word (x ∷ (p ++ (e ++ y)))) ∷ lex in_word (p ++ (e ++ y))) (token a ∷ lex in_word (p ++ (e ++ z)))) alike
        (same (token (word (x ∷ (p ++ (e ++ y))))) (more (d.breaks ∙ k)))

  -- ---- one byte

  abbrev class_by : Bool → Bool → Bool → Bool → Class
  class_by a b o s = cond a quote (cond b backslash (cond o operator (cond s space other)))

  -- two continuations of a byte
  abbrev Lexes : Rattle.json.specs.Lex.Mode → Class → ℕ → List ℕ → Type 0
  Lexes m c x p = Like true (lex_byte m c x (p ++ (e ++ y)) (λ n. lex n (p ++ (e ++ y)))) (lex_byte m c x (p ++ (e ++ z)) (λ n. lex n (p ++ (e ++ z))))

  inner_by : (x : ℕ) → (x == 34) ≡ false → is_operator x ≡ false → is_space x ≡ false → inner x ≡ true
  inner_by x q o s = ap (λ b. not (is_operator x || is_space x || b)) q ∙ ap (λ b. not (b || is_space x || false)) o ∙ ap (λ b. not (b || false)) s

  free_by : (x : ℕ) (p : List ℕ) (a b o s : Bool) → (x == 34) ≡ a → is_operator x ≡ o → is_space x ≡ s → Open (cond a Quoted Outside) p → At p → Lexes between (class_by a b o s) x p
  free_by x p true b o s q f g h ih = strings_like p (ih.string h)
  free_by x p false true o s q f g h ih = fault (lex in_word (p ++ (e ++ y))) (lex in_word (p ++ (e ++ z)))
  free_by x p false false true s q f g h ih = same (operator_lexeme x) (ih.free h)
  free_by x p false false false true q f g h ih = ih.free h
  free_by x p false false false false q f g h ih = words_like x p (inner_by x q f g) h (ih.word h)

  backslash_inner : (x : ℕ) → (x == 92) ≡ true → (is_operator x || is_space x) ≡ false
  backslash_inner x e = ap (λ c. is_operator c || is_space c) (eqb-true x 92 e)

  unbroken : (x : ℕ) (p : List ℕ) → (x == 34) ≡ false → (is_operator x || is_space x) ≡ false → broken (x ∷ p) ≡ false → broken p ≡ false
  unbroken x p q o h = sym (ap (λ b. cond b true (cond (is_operator x || is_space x) false (broken p))) q ∙ ap (λ b. cond b false (broken p)) o) ∙ h

  quote_breaks : (x : ℕ) (p : List ℕ) → (x == 34) ≡ true → broken (x ∷ p) ≡ false → ⊥
  quote_breaks x p q h = clash (sym (ap (λ b. cond b true (cond (is_operator x || is_space x) false (broken p))) q) ∙ h) where
    clash : true ≡ false → ⊥
    clash k = absurd (cc)

  word_by : (x : ℕ) (p : List ℕ) (a b o s : Bool) → (x == 34) ≡ a → (x == 92) ≡ b → is_operator x ≡ o → is_space x ≡ s → Open (cond a Quoted Outside) p → broken (x ∷ p) ≡ false → At p
      → Lexes in_word (class_by a b o s) x p
  word_by x p true b o s q k f g h w ih = absurd (quote_breaks x p q w)
  word_by x p false true o s q k f g h w ih = ih.word h (unbroken x p q (backslash_inner x k) w)
  word_by x p false false true s q k f g h w ih = same (operator_lexeme x) (ih.free h)
  word_by x p false false false true q k f g h w ih = ih.free h
  word_by x p false false false false q k f g h w ih = ih.word h (unbroken x p q (ap (λ b. b || is_space x) f ∙ g) w)

  string_by : (x : ℕ) (p : List ℕ) (a b o s : Bool) → Open (cond a Outside (cond b Escaped Quoted)) p → At p → Lexes in_string (class_by a b o s) x p
  string_by x p true b o s h ih = ih.free h
  string_by x p false true o s h ih = ih.escape h
  string_by x p false false true s h ih = ih.string h
  string_by x p false false false true h ih = ih.string h
  string_by x p false false false false h ih = ih.string h

  escape_empty : (f : List ℕ) → IsRun f → 6 ≤ length f → (t : List ℕ) → lex in_escape (f ++ t) ≡ lex in_string t
  unfolding lex
  escape_empty [] h k t = absurd (omega arith)
  escape_empty (x ∷ f) h k t = run_lex f t (and_parts (is_streamable x) (list_all is_streamable f) h).1

  at_end : At []
  unfolding mode_after
  at_end = record {
    free = λ h. absurd (h refl);
    word = λ h w. absurd (h refl);
    string = λ h. subst (λ a. Like true a (lex in_string (e ++ z))) (sym (run_lex e y run)) (subst (λ a. Like true (lex in_string y) a) (sym (run_lex e z run)) tail);
    escape = λ h. subst (λ a. Like true a (lex in_escape (e ++ z))) (sym (escape_empty e run long y)) (subst (λ a. Like true (lex in_string y) a) (sym (escape_empty e run long z)) tail);
  }

  at_more : (x : ℕ) (p : List ℕ) → At p → At (x ∷ p)
  unfolding mode_after lex
  at_more x p ih = record {
    free = λ h. free_by x p (x == 34) (x == 92) (is_operator x) (is_space x) refl refl refl h ih;
    word = λ h w. word_by x p (x == 34) (x == 92) (is_operator x) (is_space x) refl refl refl refl h w ih;
    string = λ h. string_by x p (x == 34) (x == 92) (is_operator x) (is_space x) h ih;
    escape = λ h. ih.string h;
  }

  at : (p : List ℕ) → At p
  at [] = at_end
  at (x ∷ p) = at_more x p (at p)

  pub lex_like : (p : List ℕ) → (mode_after Outside p ≡ Outside → ⊥) → Like true (lex between (p ++ (e ++ y))) (lex between (p ++ (e ++ z)))
  lex_like p h = (at p).free h

-- ---- a run

pub record Parts (s : List ℕ) : Type 0 where
  pub front : List ℕ
  pub back : List ℕ
  pub is : s ≡ front ++ back
  pub run : IsRun back
  pub long : length back ≡ 8
  pub opens : mode_after Outside front ≡ Outside → ⊥

pub parts_of : (s : List ℕ) → MayStream s → Parts s
parts_of s m = record {
  front = take (length s - 8) s;
  back = drop (length s - 8) s;
  is = sym (take-append-drop (length s - 8) s);
  run = m.plain;
  long = (let n = length-drop (length s - 8) s in let k = m.long in omega (arith, n, k));
  opens = λ h.
      let all = ap (mode_after Outside) (take-append-drop (length s - 8) s) ∙ m.quoted in
      clash (sym (run_outside (drop (length s - 8) s) m.plain) ∙ ap (λ q. mode_after q (drop (length s - 8) s)) (sym h) ∙ sym (mode_append Outside (take (length s - 8) s) (drop (length s - 8) s)) ∙ all);
} where
  clash : Outside ≡ Quoted → ⊥
  clash e = absurd (cc)

pub document_run : (s r t : List ℕ) → MayStream s → IsRun r → is_some (document (s ++ (r ++ t))) ≡ is_some (document (s ++ t))
document_run s r t m h =
    let p = parts_of s m in
    let cut = λ (u : List ℕ). ap (λ v. v ++ u) p.is ∙ append_assoc p.front p.back u in
    let k = p.long in
    let tail = subst (λ ls. Like true ls (lex in_string t)) (sym (run_lex r t h)) (like_refl true (lex in_string t)) in
    let both = ap is_some (content_run r t h) ∙ some_prepend r (content plain t) in
    let like = lex_like p.back p.run (omega (arith, k)) (r ++ t) t tail both p.front p.opens in
    ap (λ v. is_some (document v)) (cut (r ++ t)) ∙ (document_like true (p.front ++ (p.back ++ (r ++ t))) (p.front ++ (p.back ++ t)) like).0 ∙ sym (ap (λ v. is_some (document v)) (cut t))
