-- Members that are written as the kit writes them, in the form that CouchDB gives them.
use Rattle.proof_prelude.proofs.{◌≡◌, ℕ, ◌+◌, ◌-◌, ◌<◌, ◌==◌, nat_lt, suc, List, [], ◌∷◌, ◌++◌, length, take, drop, prefix_len, Bool, true, false, cond, codes, refl, sym, ap, subst, ◌∙◌, append_assoc, append-nil, arith, common_steps, drop-cons, take_all, get_or, max, length-append, Bor, Option, Some, None, MatchOption, IfSome, IsAscii, IsUtf8, IsUtf8-append, IsUtf8-from_ascii, take-append-drop}
use Rattle.std.specs.Bool.{MatchBool}
use Rattle.std.specs.Str.{IsNotAscii}
use Rattle.json.specs.Token.{end_object, key, string as string_token}
use Rattle.json.specs.Json.{Json, boolean, number, string, array, object, Items, no_items, item, no_members, member}
use Rattle.json.specs.Print.{print, print_from, token_text, quoted, escape, escape_byte}
use Rattle.json.specs.Run.{is_plain}
use Rattle.json.specs.Tree.{json_tokens, items_tokens, items_depth, ItemsHaveNumbers}
use Rattle.json.proofs.Printed.Utf8.{IsUtf8-are_ascii, IsUtf8-quoted}
use Rattle.json.proofs.Printed.Tokens.{print_from-append}
use Rattle.doc_envelope.specs.{may_stand}
use Rattle.doc_envelope.specs.Printed.{AreIds, BeginsWithString, IsPrintedMember, IsPrintedValue, IsStarted, last_id, more_ids}
use Rattle.doc_envelope.proofs.Printed.{end_text, ended, string_text}

pub some_of : {T : Type 0} (o : Option T) (P : Type 0) (Q : T → Type 0) → MatchOption o P Q → IfSome o Q
some_of None P Q h = tt
some_of (Some x) P Q h = h

-- ---- a string without escapes

pub escape_plain_byte : (x : ℕ) → is_plain x ≡ true → escape_byte x ≡ x ∷ []
unfolding escape_byte
escape_plain_byte x h =
    let a : (x == 34) ≡ false = grind arith in
    let b : (x == 92) ≡ false = grind arith in
    let c : (x == 8) ≡ false = grind arith in
    let d : (x == 12) ≡ false = grind arith in
    let e : (x == 10) ≡ false = grind arith in
    let f : (x == 13) ≡ false = grind arith in
    let g : (x == 9) ≡ false = grind arith in
    let k : nat_lt x 32 ≡ false = grind arith in
    rw (a, b, c, d, e, f, g, k) refl

plain_by : (x k : ℕ) (xs : List ℕ) (b : Bool) → is_plain x ≡ b → escape (take k xs) ≡ take k xs → escape (take (cond b (1 + k) 0) (x ∷ xs)) ≡ take (cond b (1 + k) 0) (x ∷ xs)
plain_by x k xs true e f =
    let one : 1 + k ≡ suc k = omega arith in
    subst (λ z. escape (take z (x ∷ xs)) ≡ take z (x ∷ xs)) (sym one) (ap (λ l. l ++ escape (take k xs)) (escape_plain_byte x e) ∙ ap (λ l. x ∷ l) f)
plain_by x k xs false e f = refl

pub escape_plain : (xs : List ℕ) → escape (take (prefix_len is_plain xs) xs) ≡ take (prefix_len is_plain xs) xs
escape_plain [] = refl
escape_plain (x ∷ xs) = plain_by x (prefix_len is_plain xs) xs (is_plain x) refl (escape_plain xs)

drop_suc : (k : ℕ) (u : List ℕ) → k < length u → drop k u ≡ get_or u k 0 ∷ drop (suc k) u
drop_suc k u h =
    let one : k + 1 ≡ suc k = omega arith in
    let cut : drop k u ≡ get_or u k 0 ∷ drop (k + 1) u = grind (arith, common_steps, drop-cons u k 0, h) in
    cut ∙ ap (λ n. get_or u k 0 ∷ drop n u) one

string_by : (x k : ℕ) (u : List ℕ) → k ≡ prefix_len is_plain u → k < length u → x ≡ 34 → get_or u k 0 ≡ 34 → IsAscii (take k u) → BeginsWithString (x ∷ u) (drop (suc k) u)
string_by x k u e within first last ascii = record {
  string = take k u;
  utf8 = IsUtf8-from_ascii (take k u) ascii;
  text =
      let plain = subst (λ n. escape (take n u) ≡ take n u) (sym e) (escape_plain u) in
      let rest = drop_suc k u within ∙ ap (λ z. z ∷ drop (suc k) u) last in
      ap (λ z. z ∷ u) first ∙ ap (λ z. 34 ∷ z) (sym (take-append-drop k u) ∙ ap (λ z. take k u ++ z) rest ∙ sym (append_assoc (take k u) (34 ∷ []) (drop (suc k) u)) ∙ ap (λ z. (z ++ 34 ∷ []) ++ drop (suc k) u) (sym plain));
}

-- by positions in the text
pub begins_string : (text : List ℕ) (end : ℕ) → end ≡ 1 + prefix_len is_plain (drop 1 text) → end < length text → get_or text 0 0 ≡ 34 → get_or text end 0 ≡ 34
    → IsAscii (take (end - 1) (drop 1 text)) → BeginsWithString text (drop (end + 1) text)
begins_string [] end e within first last ascii = absurd (omega arith)
begins_string (x ∷ u) end e within first last ascii =
    let k = prefix_len is_plain u in
    let one : end ≡ suc k = omega (arith, e) in
    let count : end - 1 ≡ k = omega (arith, e) in
    let rest : end + 1 ≡ suc (suc k) = omega (arith, e) in
    subst (λ n. BeginsWithString (x ∷ u) (drop n (x ∷ u))) (sym rest)
    (string_by x k u refl (omega (arith, within, one)) first (sym (ap (λ n. get_or (x ∷ u) n 0) one) ∙ last) (subst (λ n. IsAscii (take n u)) count ascii))

-- a slice up to the end of a text
pub rest_all : (i : ℕ) (text : List ℕ) → take (length text - i) (drop i text) ≡ drop i text
rest_all i text = take_all (length text - i) (drop i text) (grind (arith, common_steps))

no_rest : (rest : List ℕ) → (length rest == 0) ≡ true → rest ≡ []
no_rest [] h = refl
no_rest (b ∷ rest) h = absurd (never (length rest) h) where
  never : (n : ℕ) → (suc n == 0) ≡ true → ⊥
  never n h = grind arith

pub printed_string : (t rest : List ℕ) → BeginsWithString t rest → (length rest == 0) ≡ true → IsPrintedValue t
printed_string t rest b h =
    let text = b.text ∙ ap (λ z. quoted b.string ++ z) (no_rest rest h) ∙ append-nil (quoted b.string) in
    record {
      utf8 = subst IsUtf8 (sym text) (IsUtf8-quoted b.string b.utf8);
      value = string b.string;
      numbers = tt;
      nests = omega arith;
      text = text ∙ sym (string_text b.string);
    }

-- ---- a list of strings

record Ids (t : List ℕ) : Type 0 where
  first : List ℕ
  others : Items
  numbers : ItemsHaveNumbers others
  flat : items_depth others ≡ 0
  text : t ≡ print_from false (string_token first ∷ items_tokens others) ++ 125 ∷ []
  utf8 : IsUtf8 t

ids_more : (s t : List ℕ) → IsUtf8 s → Ids t → Ids (quoted s ++ 44 ∷ t)
unfolding print_from
ids_more s t u i = record {
  first = s;
  others = item (string i.first) i.others;
  numbers = (tt, i.numbers);
  flat = ap (λ d. max 0 d) i.flat;
  text = ap (λ z. quoted s ++ 44 ∷ z) i.text ∙ sym (append_assoc (quoted s) (44 ∷ print_from false (string_token i.first ∷ items_tokens i.others)) (125 ∷ []));
  utf8 = IsUtf8-append (quoted s) (44 ∷ t) (IsUtf8-quoted s u) (IsUtf8-append (44 ∷ []) t (IsUtf8-are_ascii (44 ∷ []) refl) i.utf8);
}

ids_last : (s : List ℕ) → IsUtf8 s → Ids (quoted s ++ 93 ∷ 125 ∷ [])
unfolding print_from
ids_last s u = record {
  first = s;
  others = no_items;
  numbers = tt;
  flat = refl;
  text = sym (append_assoc (quoted s) (93 ∷ []) (125 ∷ []));
  utf8 = IsUtf8-append (quoted s) (93 ∷ 125 ∷ []) (IsUtf8-quoted s u) (IsUtf8-are_ascii (93 ∷ 125 ∷ []) refl);
}

ids_of : (t : List ℕ) → AreIds t → Ids t
ids_of x (last_id {s} u) = ids_last s u
ids_of x (more_ids {s} {t} u a) = ids_more s t u (ids_of t a)

pub ids_step : (t rest : List ℕ) → BeginsWithString t (44 ∷ rest) → AreIds rest → AreIds t
ids_step t rest b a = subst AreIds (sym b.text) (more_ids b.utf8 a)

pub ids_end : (t : List ℕ) → BeginsWithString t (93 ∷ 125 ∷ []) → AreIds t
ids_end t b = subst AreIds (sym b.text) (last_id b.utf8)

pub ids_shorter : (t rest : List ℕ) → BeginsWithString t (44 ∷ rest) → length rest < length t
ids_shorter t rest b =
    let all = ap length b.text in
    let sum = length-append (quoted b.string) (44 ∷ rest) in
    omega (arith, all, sum)

pub id_some : (r : Option (Bor (List ℕ))) (t b : List ℕ) → BeginsWithString t b → IfSome r (λ x. b ≡ 44 ∷ x.now) → IfSome r (λ x. BeginsWithString t (44 ∷ x.now))
id_some None t b h e = tt
id_some (Some x) t b h e = subst (BeginsWithString t) e h

pub ascii_of : (b : Bool) (text : List ℕ) → b ≡ true → MatchBool b (IsAscii text) (IsNotAscii text) → IsAscii text
ascii_of true text t h = h
ascii_of false text t h = absurd (cc)

-- ---- `_revisions`

start_text : token_text (key (codes "start")) ≡ codes "\"start\":"
unfolding escape_byte
start_text = refl

ids_text : token_text (key (codes "ids")) ≡ codes "\"ids\":"
unfolding escape_byte
ids_text = refl

abbrev revisions : List ℕ → Items → Json
revisions d js = object (member (codes "start") (number d) (member (codes "ids") (array js) no_members))

revisions_text : (d : List ℕ) (i : List ℕ) (js : Items) → print (json_tokens (revisions d (item (string i) js)))
    ≡ 123 ∷ (token_text (key (codes "start")) ++ (d ++ 44 ∷ (token_text (key (codes "ids")) ++ 91 ∷ print_from false ((string_token i ∷ items_tokens js) ++ end_object ∷ []))))
unfolding print_from
revisions_text d i js = refl

-- the parts of the text in order
pub printed_revisions : (v start : List ℕ) → v ≡ codes "{\"start\":" ++ start → IsStarted start → IsPrintedValue v
printed_revisions v start e s =
    let d = s.digits in
    let ids = s.ids in
    let i = ids_of ids s.strings in
    let tokens = string_token i.first ∷ items_tokens i.others in
    let text = e ∙ ap (λ z. codes "{\"start\":" ++ z) s.text in
    let closed = print_from-append false tokens (end_object ∷ []) ∙ ap (λ z. print_from false tokens ++ z) (end_text (ended false tokens)) in
    let printed = revisions_text d i.first i.others
    ∙ ap (λ z. 123 ∷ (z ++ (d ++ 44 ∷ (token_text (key (codes "ids")) ++ 91 ∷ print_from false (tokens ++ end_object ∷ []))))) start_text
    ∙ ap (λ z. 123 ∷ (codes "\"start\":" ++ (d ++ 44 ∷ (z ++ 91 ∷ print_from false (tokens ++ end_object ∷ []))))) ids_text
    ∙ ap (λ z. 123 ∷ (codes "\"start\":" ++ (d ++ 44 ∷ (codes "\"ids\":" ++ 91 ∷ z)))) (closed ∙ sym i.text) in
    record {
      utf8 = subst IsUtf8 (sym text) (IsUtf8-append (codes "{\"start\":") (d ++ (codes ",\"ids\":[" ++ ids)) (IsUtf8-are_ascii (codes "{\"start\":") refl)
          (IsUtf8-append d (codes ",\"ids\":[" ++ ids) s.number.utf8 (IsUtf8-append (codes ",\"ids\":[") ids (IsUtf8-are_ascii (codes ",\"ids\":[") refl) i.utf8)));
      value = revisions d (item (string i.first) i.others);
      numbers = (s.number.number, ((tt, i.numbers), tt));
      nests = omega (arith, i.flat);
      text = text ∙ sym printed;
    }

-- ---- members

printed_named : (k pre m v : List ℕ) → pre ≡ token_text (key k) → IsUtf8 pre → ((j : Json) → may_stand k j ≡ true) → m ≡ pre ++ v → IsPrintedValue v → IsPrintedMember m
printed_named k pre m v same u stands e p = record {
  utf8 = subst IsUtf8 (sym e) (IsUtf8-append pre v u p.utf8);
  name = k;
  value = p.value;
  numbers = p.numbers;
  nests = p.nests;
  text = e ∙ ap (λ z. z ++ v) same ∙ ap (λ z. token_text (key k) ++ z) p.text;
  stands = stands p.value;
}

id_text : codes "\"_id\":" ≡ token_text (key (codes "_id"))
unfolding escape_byte
id_text = refl

rev_text : codes "\"_rev\":" ≡ token_text (key (codes "_rev"))
unfolding escape_byte
rev_text = refl

revs_text : codes "\"_revisions\":" ≡ token_text (key (codes "_revisions"))
unfolding escape_byte
revs_text = refl

deleted_text : codes "\"_deleted\":true" ≡ token_text (key (codes "_deleted")) ++ print (json_tokens (boolean true))
unfolding escape_byte print_from
deleted_text = refl

pub printed_id : (m v : List ℕ) → m ≡ codes "\"_id\":" ++ v → IsPrintedValue v → IsPrintedMember m
printed_id m v e p = printed_named (codes "_id") (codes "\"_id\":") m v id_text (IsUtf8-are_ascii (codes "\"_id\":") refl) (λ j. refl) e p

pub printed_rev : (m v : List ℕ) → m ≡ codes "\"_rev\":" ++ v → IsPrintedValue v → IsPrintedMember m
printed_rev m v e p = printed_named (codes "_rev") (codes "\"_rev\":") m v rev_text (IsUtf8-are_ascii (codes "\"_rev\":") refl) (λ j. refl) e p

pub printed_revs : (m v : List ℕ) → m ≡ codes "\"_revisions\":" ++ v → IsPrintedValue v → IsPrintedMember m
printed_revs m v e p = printed_named (codes "_revisions") (codes "\"_revisions\":") m v revs_text (IsUtf8-are_ascii (codes "\"_revisions\":") refl) (λ j. refl) e p

pub printed_deleted : (m : List ℕ) → m ≡ codes "\"_deleted\":true" → IsPrintedMember m
printed_deleted m e = record {
  utf8 = subst IsUtf8 (sym e) (IsUtf8-are_ascii (codes "\"_deleted\":true") refl);
  name = codes "_deleted";
  value = boolean true;
  numbers = tt;
  nests = omega arith;
  text = e ∙ deleted_text;
  stands = refl;
}
