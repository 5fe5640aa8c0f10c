-- A run in an envelope is a run in its document.
use Rattle.proof_prelude.proofs.{◌≡◌, ℕ, ◌<◌, ◌≤◌, nat_lt, length, take, drop, List, [], ◌∷◌, ◌++◌, Bool, true, false, cond, codes, refl, sym, ap, subst, ◌∙◌, append_assoc, append_cancel_left, arith, lt-ltb, Option, Some, None, option_and_then}
use Rattle.std.proofs.lemmas.List.{take-append-le}
use Rattle.json.specs.Text.{prepend}
use Rattle.doc_envelope.specs.{IsRun, IsTakeStart, added, all_taken, first_length, has_name, if_json, is_json, members_in, unfolded, value_of}
use Rattle.doc_envelope.specs.Members.{Outside}
use Rattle.doc_envelope.specs.Names.{first_member, id_of}
use Rattle.doc_envelope.proofs.Folds.{taken_none, taken_some}
use Rattle.doc_envelope.proofs.OpenMembers.{length-append_end}
use Rattle.doc_envelope.proofs.RunsUtf8.{json_run}
use Rattle.doc_envelope.proofs.TakeStrings.{IsOpen, open_string}
use Rattle.doc_envelope.proofs.TakeMembers.{rest_taken, whole_part, whole_run}

abbrev taken_of : List ℕ → Option (List ℕ)
taken_of x = all_taken (123 ∷ []) (members_in Outside 0 [] (drop 1 x))

-- ---- the output without the brace that closes it

string_open : (s S : List ℕ) (i : IsTakeStart s S) → IsOpen i.string i.appends.content
string_open s S i = open_string i.string i.appends.content i.quoted i.appends.says

long_front : (s S : List ℕ) (i : IsTakeStart s S) → nat_lt 1 (length (added i.made i.appends.content)) ≡ true
long_front s S i =
    let long : 1 < length (added i.made i.appends.content) = subst (λ z. 1 < length z) i.appends.front (shorter i.inside.long) in
    lt-ltb 1 (length (added i.made i.appends.content)) long where
      shorter : {n : ℕ} → 16 ≤ n → 1 < n
      shorter h = omega arith

step_taken : (s S t : List ℕ) (i : IsTakeStart s S) → taken_of (s ++ t) ≡ prepend S (rest_taken i.string t)
step_taken s S t i =
    i.opens t ∙ whole_part i.made i.string i.appends.content t (string_open s S i) i.appends.filled (long_front s S i)
    ∙ ap (λ z. prepend z (rest_taken i.string t)) (sym i.appends.front)

step_run : (s S r t : List ℕ) (i : IsTakeStart s S) → IsRun r → taken_of (s ++ (r ++ t)) ≡ prepend (S ++ r) (rest_taken i.string t)
step_run s S r t i h =
    i.opens (r ++ t) ∙ whole_run i.made i.string i.appends.content r t (string_open s S i) i.appends.filled (long_front s S i) h
    ∙ ap (λ z. prepend (z ++ r) (rest_taken i.string t)) (sym i.appends.front)

-- ---- the output

ended : (x S : List ℕ) (o : Option (List ℕ)) → taken_of x ≡ prepend S o → unfolded x ≡ option_and_then (λ w. if_json ((S ++ w) ++ 125 ∷ [])) o
ended x S None h = taken_none x h
ended x S (Some w) h = taken_some x (S ++ w) h

-- the closing brace is part of the rest
closed : (S : List ℕ) (o : Option (List ℕ)) → option_and_then (λ w. if_json ((S ++ w) ++ 125 ∷ [])) o ≡ option_and_then (λ w. if_json (S ++ (w ++ 125 ∷ []))) o
closed S None = refl
closed S (Some w) = ap if_json (append_assoc S w (125 ∷ []))

start_unfolded : (s S t : List ℕ) (i : IsTakeStart s S) → unfolded (s ++ t) ≡ option_and_then (λ w. if_json (S ++ (w ++ 125 ∷ []))) (rest_taken i.string t)
start_unfolded s S t i = ended (s ++ t) S (rest_taken i.string t) (step_taken s S t i) ∙ closed S (rest_taken i.string t)

run_unfolded : (s S r t : List ℕ) (i : IsTakeStart s S) → IsRun r → unfolded (s ++ (r ++ t)) ≡ option_and_then (λ w. if_json (S ++ (r ++ (w ++ 125 ∷ [])))) (rest_taken i.string t)
run_unfolded s S r t i h = ended (s ++ (r ++ t)) (S ++ r) o (step_run s S r t i h) ∙ closed (S ++ r) o ∙ inner o where
  o : Option (List ℕ)
  o = rest_taken i.string t

  inner : (o : Option (List ℕ)) → option_and_then (λ w. if_json ((S ++ r) ++ (w ++ 125 ∷ []))) o ≡ option_and_then (λ w. if_json (S ++ (r ++ (w ++ 125 ∷ [])))) o
  inner None = refl
  inner (Some w) = ap if_json (append_assoc S r (w ++ 125 ∷ []))

json_some : (S r z e : List ℕ) (b : Bool) → is_json (S ++ z) ≡ b → is_json (S ++ (r ++ z)) ≡ b → cond b (Some (S ++ z)) None ≡ Some (S ++ e) → if_json (S ++ (r ++ z)) ≡ Some (S ++ (r ++ e))
json_some S r z e true f g h = ap (λ c. cond c (Some (S ++ (r ++ z))) None) g ∙ ap (λ y. Some (S ++ (r ++ y))) (append_cancel_left S z e (same h)) where
  same : {a b : List ℕ} → Some a ≡ Some b → a ≡ b
  same k = cc
json_some S r z e false f g h = absurd (cc)

some_by : (S r e : List ℕ) (o : Option (List ℕ)) → ((z : List ℕ) → is_json (S ++ (r ++ z)) ≡ is_json (S ++ z)) → option_and_then (λ w. if_json (S ++ (w ++ 125 ∷ []))) o ≡ Some (S ++ e)
    → option_and_then (λ w. if_json (S ++ (r ++ (w ++ 125 ∷ [])))) o ≡ Some (S ++ (r ++ e))
some_by S r e None same h = absurd (cc)
some_by S r e (Some w) same h = let z = w ++ 125 ∷ [] in json_some S r z e (is_json (S ++ z)) refl (same z) h

json_none : (u v : List ℕ) (b : Bool) → is_json v ≡ b → cond b (Some u) None ≡ None → if_json v ≡ None
json_none u v true e k = absurd (cc)
json_none u v false e k = ap (λ c. cond c (Some v) None) e

none_by : (S r : List ℕ) (o : Option (List ℕ)) → ((z : List ℕ) → is_json (S ++ (r ++ z)) ≡ is_json (S ++ z)) → option_and_then (λ w. if_json (S ++ (w ++ 125 ∷ []))) o ≡ None
    → option_and_then (λ w. if_json (S ++ (r ++ (w ++ 125 ∷ [])))) o ≡ None
none_by S r None same h = refl
none_by S r (Some w) same h = let z = w ++ 125 ∷ [] in json_none (S ++ z) (S ++ (r ++ z)) (is_json (S ++ z)) (same z) h

pub take_step_some : (s S r t e : List ℕ) → IsTakeStart s S → IsRun r → unfolded (s ++ t) ≡ Some (S ++ e) → unfolded (s ++ (r ++ t)) ≡ Some (S ++ (r ++ e))
take_step_some s S r t e i h k =
    run_unfolded s S r t i h ∙ some_by S r e (rest_taken i.string t) (λ z. json_run S r z i.inside h) (sym (start_unfolded s S t i) ∙ k)

pub take_step_none : (s S r t : List ℕ) → IsTakeStart s S → IsRun r → unfolded (s ++ t) ≡ None → unfolded (s ++ (r ++ t)) ≡ None
take_step_none s S r t i h k =
    run_unfolded s S r t i h ∙ none_by S r (rest_taken i.string t) (λ z. json_run S r z i.inside h) (sym (start_unfolded s S t i) ∙ k)

json_begins : (u x : List ℕ) (b : Bool) → cond b (Some u) None ≡ Some x → x ≡ u
json_begins u x true k = cc
json_begins u x false k = absurd (cc)

begins_by : (S x : List ℕ) (o : Option (List ℕ)) → option_and_then (λ w. if_json (S ++ (w ++ 125 ∷ []))) o ≡ Some x → (e : List ℕ) × (x ≡ S ++ e)
begins_by S x None h = absurd (cc)
begins_by S x (Some w) h = let z = w ++ 125 ∷ [] in (z, json_begins (S ++ z) x (is_json (S ++ z)) h)

-- The output for an envelope begins with the output for its beginning.
pub take_begins : (s S t x : List ℕ) → IsTakeStart s S → unfolded (s ++ t) ≡ Some x → (e : List ℕ) × (x ≡ S ++ e)
take_begins s S t x i h = begins_by S x (rest_taken i.string t) (sym (start_unfolded s S t i) ∙ h)

-- ---- the id

first_more : (b : ℕ) (t x : List ℕ) → first_length t < length t → first_member ((b ∷ t) ++ x) ≡ first_member (b ∷ t)
first_more b t x h =
    let k = first_length t in
    let within : k ≤ length t = omega arith in
    ap (λ n. take n (t ++ x)) (length-append_end Outside 0 t x h) ∙ take-append-le k t x within

pub id_more : (S x : List ℕ) → 16 ≤ length S → first_length (drop 1 S) < length (drop 1 S) → id_of (S ++ x) ≡ id_of S
id_more [] x l h = absurd (omega arith)
id_more (b ∷ S) x l h = ap (λ m. cond (has_name m (codes "\"_id\"")) (value_of m (codes "\"_id\"")) []) (first_more b S x h)

pub take_step_id : (s S r e : List ℕ) → IsTakeStart s S → IsRun r → id_of (S ++ (r ++ e)) ≡ id_of (S ++ e)
take_step_id s S r e i h = id_more S (r ++ e) i.inside.long i.two ∙ sym (id_more S e i.inside.long i.two)
