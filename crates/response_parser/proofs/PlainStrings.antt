-- A string of ASCII characters without escapes is JSON.
use Rattle.proof_prelude.proofs.{◌≡◌, ℕ, suc, Bool, IsTrue, ◌+◌, ◌-◌, ◌≤◌, ◌&&◌, ◌==◌, nat_lt, length, take, drop, get_or, prefix_len, List, [], ◌∷◌, ◌++◌, true, false, Some, refl, sym, ap, ◌∙◌, append-nil, arith, list_all, and_parts, take_all, take_more, is_some, is_utf8-from_IsUtf8, IsAscii, IsUtf8-from_ascii}
use Rattle.std.specs.Bool.{MatchBool}
use Rattle.std.specs.Str.{IsNotAscii}
use Rattle.doc_envelope.specs.{is_json}
use Rattle.json.specs.Run.{is_plain}
use Rattle.json.specs.Json.{document, string}
use Rattle.json.specs.Token as tokens
use Rattle.json.specs.Print.{escape, escape_byte, print_from}
use Rattle.json.proofs.Printed.Trees.{document-print}
use Rattle.response_parser.proofs.RunTexts.{all_prefix}

-- an unescaped byte
escape_plain_byte : (x : ℕ) → is_plain x ≡ true → escape_byte x ≡ x ∷ []
unfolding escape_byte
escape_plain_byte x h =
    let a : (x == 34) ≡ false = grind arith in
    let b : (x == 92) ≡ false = grind arith in
    let c : (x == 8) ≡ false = grind arith in
    let d : (x == 12) ≡ false = grind arith in
    let e : (x == 10) ≡ false = grind arith in
    let f : (x == 13) ≡ false = grind arith in
    let g : (x == 9) ≡ false = grind arith in
    let k : nat_lt x 32 ≡ false = grind arith in
    rw (a, b, c, d, e, f, g, k) refl

escape_plain : (xs : List ℕ) → list_all is_plain xs ≡ true → escape xs ≡ xs
escape_plain [] h = refl
escape_plain (x ∷ xs) h =
    let parts = and_parts (is_plain x) (list_all is_plain xs) h in
    ap (λ l. l ++ escape xs) (escape_plain_byte x parts.0) ∙ ap (λ l. x ∷ l) (escape_plain xs parts.1)

printed : (xs : List ℕ) → list_all is_plain xs ≡ true → print_from false (tokens.string xs ∷ []) ≡ 34 ∷ (xs ++ 34 ∷ [])
unfolding print_from
printed xs h = append-nil (34 ∷ (escape xs ++ 34 ∷ [])) ∙ ap (λ l. 34 ∷ (l ++ 34 ∷ [])) (escape_plain xs h)

plain_document : (xs : List ℕ) → list_all is_plain xs ≡ true → document (34 ∷ (xs ++ 34 ∷ [])) ≡ Some (string xs)
plain_document xs h = ap document (sym (printed xs h)) ∙ document-print (string xs) tt (omega arith)

-- a text by its first byte, the bytes between, and its last byte
last_byte : (xs : List ℕ) (n : ℕ) → length xs ≡ n + 1 → xs ≡ take n xs ++ get_or xs n 0 ∷ []
last_byte xs n e = sym (take_all (n + 1) xs (omega arith)) ∙ take_more xs n 0 (omega arith)

between : (text : List ℕ) → 2 ≤ length text → get_or text 0 0 ≡ 34 → get_or text (length text - 1) 0 ≡ 34 → text ≡ 34 ∷ (take (length text - 1 - 1) (drop 1 text) ++ 34 ∷ [])
between [] h a b = absurd (omega arith)
between (x ∷ []) h a b = absurd (omega arith)
between (x ∷ y ∷ xs) h a b =
    let at : suc (length xs) ≡ length (x ∷ y ∷ xs) - 1 = omega arith in
    let last : get_or (y ∷ xs) (length xs) 0 ≡ 34 = ap (λ k. get_or (x ∷ y ∷ xs) k 0) at ∙ b in
    let count : length xs ≡ length (x ∷ y ∷ xs) - 1 - 1 = omega arith in
    ap (λ z. z ∷ y ∷ xs) a ∙ ap (λ l. 34 ∷ l) (last_byte (y ∷ xs) (length xs) (omega arith) ∙ ap (λ z. take (length xs) (y ∷ xs) ++ z ∷ []) last)
    ∙ ap (λ k. 34 ∷ (take k (y ∷ xs) ++ 34 ∷ [])) count

pub ascii_of : (b : Bool) (text : List ℕ) → IsTrue b → MatchBool b (IsAscii text) (IsNotAscii text) → IsAscii text
ascii_of true text t h = h
ascii_of false text t h = absurd (cc)

pub plain_string : (text : List ℕ) → 2 ≤ length text → get_or text 0 0 ≡ 34 → get_or text (length text - 1) 0 ≡ 34
    → prefix_len is_plain (take (length text - 1 - 1) (drop 1 text)) ≡ length (take (length text - 1 - 1) (drop 1 text)) → IsAscii text → is_json text ≡ true
plain_string text h a b plain ascii =
    let xs = take (length text - 1 - 1) (drop 1 text) in
    let all : list_all is_plain xs ≡ true = ap (list_all is_plain) (sym (take_all (prefix_len is_plain xs) xs (omega arith))) ∙ all_prefix is_plain xs in
    ap (λ c. c && is_some (document text)) (is_utf8-from_IsUtf8 text (IsUtf8-from_ascii text ascii)) ∙ ap (λ t. is_some (document t)) (between text h a b) ∙ ap is_some (plain_document xs all)
