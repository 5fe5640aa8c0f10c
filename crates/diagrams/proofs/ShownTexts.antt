-- A text that is shown has no hidden character, and in XML none that is markup.
use Rattle.proof_prelude.proofs.{◌≡◌, ℕ, ◌+◌, ◌-◌, ◌/◌, ◌%◌, ◌<◌, ◌≤◌, ◌==◌, ◌||◌, nat_lt, Bool, true, false, if◌then◌else◌, List, [], ◌∷◌, ◌++◌, refl, sym, ap, ◌∙◌, append_assoc, arith, encode_utf8_all, codes, list_any, digit_char, or_from, or_parts, nat_tests, list_any-append, flat_map-append, encodes-append, append-nil}
use Rattle.visible_text.specs.{IsSeen, escape_of, is_hidden, unit_of}
use Rattle.visible_text.proofs.{escape_seen}
use Rattle.diagrams.specs.{Form, IsEscaped, IsSafe, done, entity_of, is_markup, named, plain, shown, shown_char}
use Rattle.diagrams.specs.declared.form.Form.TheVariants.{Text, Svg}

by_if : {X : Type 0} (P : X → Type 0) (b : Bool) (x y : X) → (b ≡ true → P x) → (b ≡ false → P y) → P (if b then x else y)
by_if P true x y f g = f refl
by_if P false x y f g = g refl

-- ---- an escape has no markup

digit_low : (d : ℕ) → d < 16 → (48 ≤ digit_char d) × (digit_char d ≤ 102)
digit_low d low = grind (arith, nat_tests)

digit_plain : (d : ℕ) → d < 16 → is_markup (digit_char d) ≡ false
digit_plain d low = let h = digit_low d low in grind (arith, nat_tests, h.0)

unit_plain : (n : ℕ) → list_any is_markup (unit_of n) ≡ false
unit_plain n =
    let a = digit_plain (n / 4096 % 16) (omega arith) in
    let b = digit_plain (n / 256 % 16) (omega arith) in
    let d = digit_plain (n / 16 % 16) (omega arith) in
    let e = digit_plain (n % 16) (omega arith) in
    or_from _ _ a (or_from _ _ b (or_from _ _ d (or_from _ _ e refl)))

escape_plain : (c : ℕ) → list_any is_markup (escape_of c) ≡ false
escape_plain c =
    by_if (λ t. list_any is_markup t ≡ false) (nat_lt c 0x10000) (unit_of c) (unit_of (0xD800 + (c - 0x10000) / 1024) ++ unit_of (0xDC00 + c % 1024))
    (λ h. unit_plain c)
    (λ h. list_any-append is_markup (unit_of (0xD800 + (c - 0x10000) / 1024)) (unit_of (0xDC00 + c % 1024))
    ∙ or_from _ _ (unit_plain (0xD800 + (c - 0x10000) / 1024)) (unit_plain (0xDC00 + c % 1024)))

entity_seen : (c : ℕ) → is_hidden c ≡ false → list_any is_hidden (entity_of c) ≡ false
unfolding is_hidden
entity_seen c h =
    let P : List ℕ → Type 0 = λ t. list_any is_hidden t ≡ false in
    by_if P (c == 38) (codes "&amp;") _ (λ e. refl) (λ e.
    by_if P (c == 60) (codes "&lt;") _ (λ e. refl) (λ e.
    by_if P (c == 62) (codes "&gt;") _ (λ e. refl) (λ e.
    by_if P (c == 34) (codes "&quot;") (c ∷ []) (λ e. refl) (λ e. or_from _ _ h refl))))

char_seen : (form : Form) (c : ℕ) → list_any is_hidden (shown_char form c) ≡ false
char_seen Text c =
    by_if (λ (t : List ℕ). list_any is_hidden t ≡ false) (is_hidden c) (escape_of c) (c ∷ []) (λ h. escape_seen c) (λ h. or_from _ _ h refl)
char_seen Svg c =
    by_if (λ (t : List ℕ). list_any is_hidden t ≡ false) (is_hidden c) (escape_of c) (entity_of c) (λ h. escape_seen c) (entity_seen c)

pub seen_shown : (form : Form) (cs : List ℕ) → IsSeen (shown form cs)
seen_shown form [] = refl
seen_shown form (c ∷ cs) =
    list_any-append is_hidden (shown_char form c) (shown form cs)
    ∙ (ap (λ b. b || list_any is_hidden (shown form cs)) (char_seen form c) ∙ seen_shown form cs)

-- text without markup and hidden characters before escaped text
plain_escaped : (cs rest : List ℕ) → IsSeen cs → list_any is_markup cs ≡ false → IsEscaped rest → IsEscaped (cs ++ rest)
plain_escaped [] rest h m k = k
plain_escaped (c ∷ cs) rest h m k =
    let p = or_parts (is_hidden c) (list_any is_hidden cs) h in
    let q = or_parts (is_markup c) (list_any is_markup cs) m in
    plain p.0 q.0 (plain_escaped cs rest p.1 q.1 k)

escape_escaped : (c : ℕ) (rest : List ℕ) → is_hidden c ≡ true → IsEscaped rest → IsEscaped (escape_of c ++ rest)
escape_escaped c rest h k = plain_escaped (escape_of c) rest (escape_seen c) (escape_plain c) k

entity_escaped : (c : ℕ) (rest : List ℕ) → is_hidden c ≡ false → IsEscaped rest → IsEscaped (entity_of c ++ rest)
entity_escaped c rest h k =
    let P : List ℕ → Type 0 = λ t. IsEscaped (t ++ rest) in
    by_if P (c == 38) (codes "&amp;") _ (λ e. named 38 refl k) (λ amp.
    by_if P (c == 60) (codes "&lt;") _ (λ e. named 60 refl k) (λ lt.
    by_if P (c == 62) (codes "&gt;") _ (λ e. named 62 refl k) (λ gt.
    by_if P (c == 34) (codes "&quot;") (c ∷ []) (λ e. named 34 refl k)
    (λ quot. plain h (or_from _ _ (or_from _ _ (or_from _ _ amp lt) gt) quot) k))))

pub escaped_shown : (cs : List ℕ) → IsEscaped (shown Svg cs)
escaped_shown [] = done
escaped_shown (c ∷ cs) =
    let rest = escaped_shown cs in
    by_if (λ (t : List ℕ). IsEscaped (t ++ shown Svg cs)) (is_hidden c) (escape_of c) (entity_of c)
    (λ h. escape_escaped c (shown Svg cs) h rest) (λ h. entity_escaped c (shown Svg cs) h rest)

pub safe_shown : (form : Form) (cs : List ℕ) → IsSafe form (shown form cs)
safe_shown Text cs = seen_shown Text cs
safe_shown Svg cs = escaped_shown cs

-- one character more
pub shown_more : (form : Form) (old a b : List ℕ) (cs : List ℕ) (c : ℕ) → a ≡ old ++ encode_utf8_all (shown form cs) → b ≡ a ++ encode_utf8_all (shown_char form c) → b ≡ old ++ encode_utf8_all (shown form (cs ++ c ∷ []))
shown_more form old a b cs c before step =
    step ∙ (ap (λ t. t ++ encode_utf8_all (shown_char form c)) before
    ∙ (append_assoc old (encode_utf8_all (shown form cs)) (encode_utf8_all (shown_char form c))
    ∙ ap (λ t. old ++ t) (sym (encodes-append (shown form cs) (shown_char form c))
    ∙ ap encode_utf8_all (ap (λ t. shown form cs ++ t) (sym (append-nil (shown_char form c))) ∙ sym (flat_map-append (shown_char form) cs (c ∷ []))))))
