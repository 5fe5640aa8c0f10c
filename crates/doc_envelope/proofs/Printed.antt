-- One more member of a printed object, and members that are printed.
use Rattle.proof_prelude.proofs.{◌≡◌, ℕ, ◌≤◌, ◌<◌, ◌&&◌, ◌==◌, nat_lt, suc, List, [], ◌∷◌, ◌++◌, length, Bool, true, false, cond, codes, refl, sym, ap, subst, ◌∙◌, append_assoc, append-nil, arith, common_steps, and_parts, fold, get_or, Result, Ok, Err, OnOk, Some, is_utf8, IsUtf8, IsUtf8-append, IsUtf8-from_is_utf8, is_utf8-from_IsUtf8, IsCharBoundary-before_ascii, append_cancel_right, take-append_seam, get_or-append_seam}
use Rattle.json.specs.Token.{Token, end_object, key}
use Rattle.json.specs.Json.{Json, null, boolean, number, string, array, object, Items, no_items, item, Members, no_members, member, document, max_depth}
use Rattle.json.specs.Print.{print, print_from, ends, token_text, quoted, escape, escape_byte}
use Rattle.json.specs.Tree.{json_tokens, items_tokens, members_tokens, depth, members_depth, HasNumbers, MembersHaveNumbers}
use Rattle.json.proofs.Printed.Tokens.{print_from-append}
use Rattle.json.proofs.Printed.Trees.{document-print}
use Rattle.json.proofs.Printed.Utf8.{IsUtf8-are_ascii, IsUtf8-quoted}
use Rattle.std.proofs.lemmas.Str.{IsUtf8-take}
use Rattle.doc_envelope.specs.{added, all_may_stand, is_envelope, is_envelope_value, may_stand, whole_name, with_held}
use Rattle.doc_envelope.specs.Printed.{IsPrinted, IsPrintedMember}

-- ---- an object with one more member

with_member : List ℕ → Json → Members → Members
with_member k v no_members = member k v no_members
with_member k v (member l j ms) = member l j (with_member k v ms)

-- the tokens before the closing bracket
front : Members → List Token
front no_members = []
front (member k j ms) = key k ∷ (json_tokens j ++ front ms)

front_closed : (ms : Members) → members_tokens ms ≡ front ms ++ end_object ∷ []
unfolding front
front_closed no_members = refl
front_closed (member k j ms) = ap (λ ts. key k ∷ (json_tokens j ++ ts)) (front_closed ms) ∙ ap (λ ts. key k ∷ ts) (sym (append_assoc (json_tokens j) (front ms) (end_object ∷ [])))

abbrev last_tokens : List ℕ → Json → List Token
last_tokens k v = key k ∷ (json_tokens v ++ end_object ∷ [])

-- the tokens with one more member
front_more : (k : List ℕ) (v : Json) (ms : Members) → members_tokens (with_member k v ms) ≡ front ms ++ last_tokens k v
unfolding front with_member
front_more k v no_members = refl
front_more k v (member l j ms) = ap (λ ts. key l ∷ (json_tokens j ++ ts)) (front_more k v ms) ∙ ap (λ ts. key l ∷ ts) (sym (append_assoc (json_tokens j) (front ms) (last_tokens k v)))

numbers_more : (k : List ℕ) (v : Json) (ms : Members) → HasNumbers v → MembersHaveNumbers ms → MembersHaveNumbers (with_member k v ms)
unfolding with_member
numbers_more k v no_members h n = (h, tt)
numbers_more k v (member l j ms) h n = (n.0, numbers_more k v ms h n.1)

depth_more : (k : List ℕ) (v : Json) (ms : Members) (d : ℕ) → depth v ≤ d → members_depth ms ≤ d → members_depth (with_member k v ms) ≤ d
unfolding with_member
depth_more k v no_members d h n = omega arith
depth_more k v (member l j ms) d h n =
    let rest = depth_more k v ms d h (omega arith) in
    omega (arith, rest)

stand_more : (k : List ℕ) (v : Json) (ms : Members) → may_stand k v ≡ true → all_may_stand ms ≡ true → all_may_stand (with_member k v ms) ≡ true
unfolding with_member
stand_more k v no_members h n = ap (λ b. b && true) h
stand_more k v (member l j ms) h n =
    let parts = and_parts (may_stand l j) (all_may_stand ms) n in
    ap (λ b. b && all_may_stand (with_member k v ms)) parts.0 ∙ stand_more k v ms h parts.1

-- ---- a value ends with a token that ends a value

abbrev pub ended : Bool → List Token → Bool
ended c ts = fold (λ _ t. ends t) c ts

ended-append : (c : Bool) (ts us : List Token) → ended c (ts ++ us) ≡ ended (ended c ts) us
ended-append c [] us = refl
ended-append c (t ∷ ts) us = ended-append (ends t) ts us

ended_items : (c : Bool) (js : Items) → ended c (items_tokens js) ≡ true
ended_items c no_items = refl
ended_items c (item j js) = ended-append c (json_tokens j) (items_tokens js) ∙ ended_items (ended c (json_tokens j)) js

ended_members : (c : Bool) (ms : Members) → ended c (members_tokens ms) ≡ true
ended_members c no_members = refl
ended_members c (member k j ms) = ended-append false (json_tokens j) (members_tokens ms) ∙ ended_members (ended false (json_tokens j)) ms

ended_json : (c : Bool) (j : Json) → ended c (json_tokens j) ≡ true
ended_json c null = refl
ended_json c (boolean b) = refl
ended_json c (number s) = refl
ended_json c (string s) = refl
ended_json c (array js) = ended_items false js
ended_json c (object ms) = ended_members false ms

ended_front : (c : Bool) (ms : Members) → c ≡ true → ended c (front ms) ≡ true
unfolding front
ended_front c no_members h = h
ended_front c (member k j ms) h =
    ended-append false (json_tokens j) (front ms) ∙ ended_front (ended false (json_tokens j)) ms (ended_json false j)

-- ---- the text

-- the text of the members before the closing bracket
abbrev fore : Members → List ℕ
fore ms = print_from false (front ms)

-- no comma stands before the closing bracket
pub end_text : (c : Bool) → print_from c (end_object ∷ []) ≡ 125 ∷ []
unfolding print_from
end_text true = refl
end_text false = refl

closed_text : (ms : Members) → print (json_tokens (object ms)) ≡ (123 ∷ fore ms) ++ 125 ∷ []
unfolding print_from
closed_text ms =
    ap (λ ts. 123 ∷ print_from false ts) (front_closed ms)
    ∙ ap (λ z. 123 ∷ z) (print_from-append false (front ms) (end_object ∷ []) ∙ ap (λ z. fore ms ++ z) (end_text (ended false (front ms))))

-- the text of a member
abbrev text_of : List ℕ → Json → List ℕ
text_of k v = token_text (key k) ++ print (json_tokens v)

value_closed : (k : List ℕ) (v : Json) → token_text (key k) ++ print_from false (json_tokens v ++ end_object ∷ []) ≡ text_of k v ++ 125 ∷ []
value_closed k v =
    ap (λ z. token_text (key k) ++ z) (print_from-append false (json_tokens v) (end_object ∷ []) ∙ ap (λ z. print (json_tokens v) ++ z) (end_text (ended false (json_tokens v))))
    ∙ sym (append_assoc (token_text (key k)) (print (json_tokens v)) (125 ∷ []))

-- the last member, after a value or not
last_text : (c : Bool) (k : List ℕ) (v : Json) → print_from c (last_tokens k v) ≡ cond c (44 ∷ []) [] ++ (text_of k v ++ 125 ∷ [])
unfolding print_from
last_text true k v = ap (λ z. 44 ∷ z) (value_closed k v)
last_text false k v = value_closed k v

more_text : (k : List ℕ) (v : Json) (ms : Members) → print (json_tokens (object (with_member k v ms)))
    ≡ (123 ∷ fore ms) ++ (cond (ended false (front ms)) (44 ∷ []) [] ++ (text_of k v ++ 125 ∷ []))
unfolding print_from
more_text k v ms =
    ap (λ ts. 123 ∷ print_from false ts) (front_more k v ms)
    ∙ ap (λ z. 123 ∷ z) (print_from-append false (front ms) (last_tokens k v) ∙ ap (λ z. fore ms ++ z) (last_text (ended false (front ms)) k v))

-- ---- a printed object has a comma before its next member if it has a member

long_fore : (ms : Members) → nat_lt 1 (length (123 ∷ fore ms)) ≡ ended false (front ms)
unfolding front print_from
long_fore no_members = refl
long_fore (member k j ms) =
    let after = json_tokens j ++ front ms in
    longer (escape k ++ 34 ∷ []) (58 ∷ []) (print_from false after) ∙ sym (ended-append false (json_tokens j) (front ms) ∙ ended_front (ended false (json_tokens j)) ms (ended_json false j)) where
      two : (n : ℕ) → nat_lt 1 (suc (suc n)) ≡ true
      two n = grind arith

      longer : (a b c : List ℕ) → nat_lt 1 (length (123 ∷ 34 ∷ ((a ++ b) ++ c))) ≡ true
      longer a b c = two (length ((a ++ b) ++ c))

added_text : (t m : List ℕ) (c : Bool) → nat_lt 1 (length t) ≡ c → added t m ≡ t ++ (cond c (44 ∷ []) [] ++ m)
added_text t m true e = ap (λ b. cond b (t ++ 44 ∷ m) (t ++ m)) e
added_text t m false e = ap (λ b. cond b (t ++ 44 ∷ m) (t ++ m)) e

comma_utf8 : (c : Bool) → IsUtf8 (cond c (44 ∷ []) [])
comma_utf8 true = IsUtf8-are_ascii (44 ∷ []) refl
comma_utf8 false = IsUtf8-are_ascii [] refl

-- a text before a closing brace
fore_utf8 : (t : List ℕ) → IsUtf8 (t ++ 125 ∷ []) → IsUtf8 t
fore_utf8 t u =
    let all = t ++ 125 ∷ [] in
    let at : get_or all (length t) 0 ≡ 125 = get_or-append_seam t 125 [] 0 in
    let within : length t < length all = grind (arith, common_steps) in
    let low : get_or all (length t) 0 < 128 = subst (λ b. b < 128) (sym at) (omega arith) in
    subst IsUtf8 (take-append_seam t (125 ∷ [])) (IsUtf8-take all (length t) u (IsCharBoundary-before_ascii all (length t) within low))

pub begin_printed : IsPrinted (123 ∷ 125 ∷ [])
unfolding print_from
begin_printed = record {
  utf8 = IsUtf8-are_ascii (123 ∷ 125 ∷ []) refl;
  value = object no_members;
  numbers = tt;
  nests = omega arith;
  text = refl;
  envelope = refl;
}

module _ (t m : List ℕ) (q : IsPrintedMember m) where
  by_value : (j : Json) → IsUtf8 t → HasNumbers j → depth j ≤ max_depth → t ++ 125 ∷ [] ≡ print (json_tokens j) → is_envelope_value (Some j) ≡ true → IsPrinted (added t m ++ 125 ∷ [])
  by_value null u numbers nests is stands = absurd (cc)
  by_value (boolean b) u numbers nests is stands = absurd (cc)
  by_value (number s) u numbers nests is stands = absurd (cc)
  by_value (string s) u numbers nests is stands = absurd (cc)
  by_value (array js) u numbers nests is stands = absurd (cc)
  by_value (object ms) u numbers nests is stands =
      let c = ended false (front ms) in
      let comma = cond c (44 ∷ []) [] in
      let same : t ≡ 123 ∷ fore ms = append_cancel_right t (123 ∷ fore ms) (125 ∷ []) (is ∙ closed_text ms) in
      let text = ap (λ z. z ++ 125 ∷ []) (added_text t m c (ap (λ z. nat_lt 1 (length z)) same ∙ long_fore ms)) ∙ append_assoc t (comma ++ m) (125 ∷ []) ∙ ap (λ z. t ++ z) (append_assoc comma m (125 ∷ [])) in
      let utf8 = IsUtf8-append t (comma ++ (m ++ 125 ∷ [])) u (IsUtf8-append comma (m ++ 125 ∷ []) (comma_utf8 c) (IsUtf8-append m (125 ∷ []) q.utf8 (IsUtf8-are_ascii (125 ∷ []) refl))) in
      let deep = depth_more q.name q.value ms 127 (omega (arith, q.nests)) (omega (arith, nests)) in
      record {
        utf8 = subst IsUtf8 (sym text) utf8;
        value = object (with_member q.name q.value ms);
        numbers = numbers_more q.name q.value ms q.numbers numbers;
        nests = omega (arith, deep);
        text = text ∙ ap (λ z. z ++ (comma ++ (m ++ 125 ∷ []))) same ∙ ap (λ z. (123 ∷ fore ms) ++ (comma ++ (z ++ 125 ∷ []))) q.text ∙ sym (more_text q.name q.value ms);
        envelope = stand_more q.name q.value ms q.stands stands;
      }

  -- a printed envelope with one more printed member
  pub printed_more : IsPrinted (t ++ 125 ∷ []) → IsPrinted (added t m ++ 125 ∷ [])
  printed_more p = by_value p.value (fore_utf8 t p.utf8) p.numbers p.nests p.text p.envelope

-- ---- the member `whole`

pub string_text : (s : List ℕ) → print (json_tokens (string s)) ≡ quoted s
unfolding print_from
string_text s = append-nil (quoted s)

name_text : token_text (key (codes "whole")) ≡ whole_name ++ 58 ∷ []
unfolding escape_byte
name_text = refl

whole_member : (h : List ℕ) → IsUtf8 h → IsPrintedMember ((whole_name ++ 58 ∷ []) ++ quoted h)
whole_member h u = record {
  utf8 = IsUtf8-append (whole_name ++ 58 ∷ []) (quoted h) (IsUtf8-are_ascii (whole_name ++ 58 ∷ []) refl) (IsUtf8-quoted h u);
  name = codes "whole";
  value = string h;
  numbers = tt;
  nests = omega arith;
  text = ap (λ z. z ++ quoted h) (sym name_text) ∙ ap (λ z. token_text (key (codes "whole")) ++ z) (sym (string_text h));
  stands = refl;
}

pub added_by : (b : Bool) (t m n : List ℕ) → cond b (t ++ 44 ∷ m) (t ++ m) ++ n ≡ cond b (t ++ 44 ∷ (m ++ n)) (t ++ (m ++ n))
added_by true t m n = append_assoc t (44 ∷ m) n
added_by false t m n = append_assoc t m n

is_printed_envelope : (e : List ℕ) → IsPrinted e → is_envelope e ≡ true
is_printed_envelope e p =
    ap (λ b. b && is_envelope_value (document e)) (is_utf8-from_IsUtf8 e p.utf8) ∙ ap is_envelope_value (ap document p.text ∙ document-print p.value p.numbers p.nests) ∙ p.envelope

-- an envelope whose front is printed
pub printed_envelope : (t h : List ℕ) → IsPrinted (t ++ 125 ∷ []) → is_utf8 h ≡ true → is_envelope (with_held t h ++ 125 ∷ []) ≡ true
printed_envelope t h p v = by_held (length h == 0) refl where
  by_held : (b : Bool) → (length h == 0) ≡ b → is_envelope (cond b t (added t (whole_name ++ 58 ∷ []) ++ quoted h) ++ 125 ∷ []) ≡ true
  by_held true e = is_printed_envelope (t ++ 125 ∷ []) p
  by_held false e =
      let w = whole_name ++ 58 ∷ [] in
      ap (λ z. is_envelope (z ++ 125 ∷ [])) (added_by (nat_lt 1 (length t)) t w (quoted h))
      ∙ is_printed_envelope (added t (w ++ quoted h) ++ 125 ∷ []) (printed_more t (w ++ quoted h) (whole_member h (IsUtf8-from_is_utf8 h v)) p)

-- ---- the mark of an envelope that is built

-- a member is appended, and the mark stays only if it is printed
pub front_marked : {E : Type 0} (r : Result (Unit {0}) E) (t t' m : List ℕ) (b c b' : Bool) → (b ≡ true → IsPrinted (t ++ 125 ∷ [])) → (c ≡ true → (b ≡ true) × IsPrintedMember m) → b' ≡ c
    → OnOk r (t' ≡ added t m) → OnOk r (b' ≡ true → IsPrinted (t' ++ 125 ∷ []))
front_marked (Err w) t t' m b c b' p f e g = tt
front_marked (Ok u) t t' m b c b' p f e g = λ h.
    let q = f (sym e ∙ h) in
    subst (λ z. IsPrinted (z ++ 125 ∷ [])) (sym g) (printed_more t m q.1 (p q.0))

-- the result stays
pub front_same : {E : Type 0} (r : Result (Unit {0}) E) (t t' : List ℕ) (b b' : Bool) → (b ≡ true → IsPrinted (t ++ 125 ∷ [])) → b' ≡ b → t' ≡ t
    → OnOk r (b' ≡ true → IsPrinted (t' ++ 125 ∷ []))
front_same (Err w) t t' b b' p e g = tt
front_same (Ok u) t t' b b' p e g = λ h. subst (λ z. IsPrinted (z ++ 125 ∷ [])) (sym g) (p (sym e ∙ h))
