-- Envelopes that are printed, by their members from the first one on.
use Rattle.proof_prelude.proofs.{◌≡◌, ℕ, ◌+◌, ◌≤◌, ◌<◌, ◌==◌, ◌||◌, ◌&&◌, nat_lt, List, [], ◌∷◌, ◌++◌, length, take, drop, get_or, prefix_len, Bool, true, false, cond, codes, refl, sym, ap, subst, ◌∙◌, append_assoc, arith, common_steps, drop-cons, length-append, is_some, IsUtf8, IsUtf8-append, is_utf8-from_IsUtf8, take-append-drop}
use Rattle.std.proofs.Math.Seq.{drop-length}
use Rattle.std.proofs.lemmas.Grind.{flat_map-append}
use Rattle.json.specs.Token.{key}
use Rattle.json.specs.Json.{document, string}
use Rattle.json.specs.Print.{print, token_text, escape, escape_byte}
use Rattle.json.specs.Run.{is_plain}
use Rattle.json.specs.Tree.{json_tokens}
use Rattle.json.proofs.Printed.Trees.{document-print}
use Rattle.json.proofs.Printed.Utf8.{IsUtf8-are_ascii}
use Rattle.doc_envelope.specs.{added, is_json}
use Rattle.doc_envelope.specs.Printed.{IsPrinted, IsPrintedMember, IsQuoted, EndsPrinted, EndsEnvelope}
use Rattle.doc_envelope.proofs.Printed.{added_by, begin_printed, printed_more, string_text}
use Rattle.doc_envelope.proofs.PrintedMembers.{escape_plain}

pub byte_is : (b n : ℕ) → (b == n) ≡ true → b ≡ n
byte_is b n h = grind arith

-- ---- the content of a string

-- characters without escapes come first
plain_first : (u : List ℕ) → EndsPrinted (drop (prefix_len is_plain u) u) → EndsPrinted u
plain_first u e =
    let k = prefix_len is_plain u in
    let front = take k u in
    record {
      string = front ++ e.string;
      text =
          sym (take-append-drop k u) ∙ ap (λ z. front ++ z) e.text ∙ sym (append_assoc front (escape e.string) (34 ∷ []))
          ∙ ap (λ z. (z ++ escape e.string) ++ 34 ∷ []) (sym (escape_plain u)) ∙ ap (λ z. z ++ 34 ∷ []) (sym (flat_map-append escape_byte front e.string));
    }

escaped_by : (c : ℕ) (a b : Bool) → (c == 34) ≡ a → (c == 92) ≡ b → (a || b) ≡ true → escape_byte c ≡ 92 ∷ c ∷ []
unfolding escape_byte
escaped_by c true b e f h =
    let same : c ≡ 34 = grind arith in
    subst (λ x. escape_byte x ≡ 92 ∷ x ∷ []) (sym same) refl
escaped_by c false true e f h =
    let same : c ≡ 92 = grind arith in
    subst (λ x. escape_byte x ≡ 92 ∷ x ∷ []) (sym same) refl
escaped_by c false false e f h = absurd (cc)

-- an escape comes first
escape_first : (c : ℕ) (u : List ℕ) → (c == 34 || c == 92) ≡ true → EndsPrinted u → EndsPrinted (92 ∷ c ∷ u)
escape_first c u h e = record {
  string = c ∷ e.string;
  text = ap (λ z. 92 ∷ c ∷ z) e.text ∙ ap (λ z. (z ++ escape e.string) ++ 34 ∷ []) (sym (escaped_by c (c == 34) (c == 92) refl refl h));
}

module _ (text : List ℕ) where
  cut : (i : ℕ) → i < length text → drop i text ≡ get_or text i 0 ∷ drop (i + 1) text
  cut i h = grind (arith, common_steps, drop-cons text i 0, h)

  pub printed_start : (at : ℕ) → at ≡ 0 + prefix_len is_plain text → EndsPrinted (drop at text) → EndsPrinted text
  printed_start at e h =
      let same : at ≡ prefix_len is_plain text = omega (arith, e) in
      plain_first text (subst (λ n. EndsPrinted (drop n text)) same h)

  pub printed_step : (i j : ℕ) → i + 2 ≤ length text → get_or text i 0 ≡ 92 → (get_or text (i + 1) 0 == 34 || get_or text (i + 1) 0 == 92) ≡ true
      → j ≡ i + 2 + prefix_len is_plain (drop (i + 2) text) → EndsPrinted (drop j text) → EndsPrinted (drop i text)
  printed_step i j within slash letter e h =
      let rest = drop (i + 2) text in
      let to : drop (prefix_len is_plain rest) rest ≡ drop j text = grind (arith, common_steps, e) in
      let two : i + 1 + 1 ≡ i + 2 = omega arith in
      let parts = cut i (omega arith) ∙ ap (λ b. b ∷ drop (i + 1) text) slash ∙ ap (λ z. 92 ∷ z) (cut (i + 1) (omega arith)) ∙ ap (λ n. 92 ∷ get_or text (i + 1) 0 ∷ drop n text) two in
      subst EndsPrinted (sym parts) (escape_first (get_or text (i + 1) 0) rest letter (plain_first rest (subst EndsPrinted (sym to) h)))

  pub printed_stop : (i : ℕ) → i + 1 ≡ length text → get_or text i 0 ≡ 34 → EndsPrinted (drop i text)
  printed_stop i e quote = record {
    string = [];
    text = cut i (omega arith) ∙ ap (λ b. b ∷ drop (i + 1) text) quote ∙ ap (λ n. 34 ∷ drop n text) e ∙ ap (λ z. 34 ∷ z) (drop-length text);
  }

-- ---- the member `whole`

pub printed_quoted : (v s : List ℕ) → v ≡ codes "\"" ++ s → IsUtf8 v → EndsPrinted s → IsQuoted v
printed_quoted v s e u h = record {
  utf8 = u;
  string = h.string;
  text = e ∙ ap (λ z. 34 ∷ z) h.text;
}

whole_text : codes "\"whole\":" ≡ token_text (key (codes "whole"))
unfolding escape_byte
whole_text = refl

pub printed_whole : (m v : List ℕ) → m ≡ codes "\"whole\":" ++ v → IsQuoted v → IsPrintedMember m
printed_whole m v e q = record {
  utf8 = subst IsUtf8 (sym e) (IsUtf8-append (codes "\"whole\":") v (IsUtf8-are_ascii (codes "\"whole\":") refl) q.utf8);
  name = codes "whole";
  value = string q.string;
  numbers = tt;
  nests = omega arith;
  text = e ∙ ap (λ z. z ++ v) whole_text ∙ ap (λ z. token_text (key (codes "whole")) ++ z) (q.text ∙ sym (string_text q.string));
  stands = refl;
}

-- ---- the members in order

-- The members before `rest` are printed.
pub record IsFront (text rest : List ℕ) : Type 0 where
  front : List ℕ
  some : 0 < length front
  printed : IsPrinted (front ++ 125 ∷ [])
  is : text ≡ added front rest

pub front_first : (text members : List ℕ) → text ≡ codes "{" ++ members → IsFront text members
front_first text members e = record {
  front = 123 ∷ [];
  some = omega arith;
  printed = begin_printed;
  is = e;
}

positive : (b : ℕ) (t : List ℕ) → 0 < length (b ∷ t)
positive b t = omega arith

member_some : (m : List ℕ) → IsPrintedMember m → 0 < length m
member_some m q = subst (λ z. 0 < length z) (sym q.text) (positive 34 (((escape q.name ++ 34 ∷ []) ++ 58 ∷ []) ++ print (json_tokens q.value)))

two_by : (c : Bool) (t m : List ℕ) → 0 < length t → 0 < length m → nat_lt 1 (length (cond c (t ++ 44 ∷ m) (t ++ m))) ≡ true
two_by true t m h g =
    let n = length-append t (44 ∷ m) in
    grind (arith, n, h, g)
two_by false t m h g =
    let n = length-append t m in
    grind (arith, n, h, g)

comma_text : (t m more : List ℕ) → 0 < length t → 0 < length m → added t (m ++ 44 ∷ more) ≡ added (added t m) more
comma_text t m more h g =
    let u = added t m in
    sym (added_by (nat_lt 1 (length t)) t m (44 ∷ more)) ∙ ap (λ c. cond c (u ++ 44 ∷ more) (u ++ more)) (sym (two_by (nat_lt 1 (length t)) t m h g))

some_by : (c : Bool) (t m : List ℕ) → 0 < length m → 0 < length (cond c (t ++ 44 ∷ m) (t ++ m))
some_by true t m g =
    let n = length-append t (44 ∷ m) in
    omega (arith, n)
some_by false t m g =
    let n = length-append t m in
    omega (arith, n, g)

pub front_more : (text rest m more : List ℕ) → rest ≡ m ++ 44 ∷ more → IsPrintedMember m → IsFront text rest → IsFront text more
front_more text rest m more e q f = record {
  front = added f.front m;
  some = some_by (nat_lt 1 (length f.front)) f.front m (member_some m q);
  printed = printed_more f.front m q f.printed;
  is = f.is ∙ ap (added f.front) e ∙ comma_text f.front m more f.some (member_some m q);
}

json_of : (t : List ℕ) → IsPrinted t → is_json t ≡ true
json_of t p = ap (λ b. b && is_some (document t)) (is_utf8-from_IsUtf8 t p.utf8) ∙ ap is_some (ap document p.text ∙ document-print p.value p.numbers p.nests)

pub front_json : (text rest : List ℕ) → IsFront text rest → EndsEnvelope rest → is_json text ≡ true
front_json text rest f e =
    let same = f.is ∙ ap (added f.front) e.text ∙ sym (added_by (nat_lt 1 (length f.front)) f.front e.member (125 ∷ [])) in
    subst (λ z. is_json z ≡ true) (sym same) (json_of (added f.front e.member ++ 125 ∷ []) (printed_more f.front e.member e.printed f.printed))
