-- The texts of an envelope, by its members.
use Rattle.proof_prelude.proofs.{◌≡◌, ℕ, suc, ◌==◌, nat_lt, length, take, drop, List, [], ◌∷◌, ◌++◌, Bool, true, false, not, cond, refl, sym, ap, subst, ◌∙◌, append_assoc, append-nil, arith, Option, Some, None, option_map, option_and_then, filter}
use Rattle.doc_envelope.specs.{members_in, members_of, is_blank, joined, object_of, first_length, has_name, value_of, whole_name, stays, goes, whole_of, envelope_of, if_any, string_of, unfolded_member, unfolded_members, unfolded, if_json, added, held_with, taken_with, texts_with, helds_by, all_taken, with_held, behind_comma}
use Rattle.json.specs.Print.{quoted}
use Rattle.doc_envelope.proofs.Splits.{members_first, members_none}
use Rattle.doc_envelope.specs.Members.{Outside}

-- no member is blank
abbrev pub Filled : List (List ℕ) → Type 0
Filled [] = Unit {0}
Filled (m ∷ ms) = (is_blank m ≡ false) × Filled ms

abbrev pub is_filled : List ℕ → Bool
is_filled m = not (is_blank m)

filled_more : (ms : List (List ℕ)) (m : List ℕ) → Filled ms → is_blank m ≡ false → Filled (ms ++ m ∷ [])
filled_more [] m h e = (e, tt)
filled_more (n ∷ ms) m h e = (h.0, filled_more ms m h.1 e)

filled_by : (m : List ℕ) (ms : List (List ℕ)) (b : Bool) → is_blank m ≡ b → Filled ms → Filled (cond (not b) (m ∷ ms) ms)
filled_by m ms true e h = h
filled_by m ms false e h = (e, h)

pub filled_filter : (ms : List (List ℕ)) → Filled (filter is_filled ms)
filled_filter [] = tt
filled_filter (m ∷ ms) = filled_by m (filter is_filled ms) (is_blank m) refl (filled_filter ms)

pub filled_among : (p : List ℕ → Bool) (ms : List (List ℕ)) → Filled ms → Filled (filter p ms)
filled_among p [] h = tt
filled_among p (m ∷ ms) h = among (p m) (filled_among p ms h.1) where
  among : (b : Bool) → Filled (filter p ms) → Filled (cond b (m ∷ filter p ms) (filter p ms))
  among true k = (h.0, k)
  among false k = k

-- ---- one more member

pub joined_more : (f : List ℕ) (fs : List (List ℕ)) (m : List ℕ) → joined ((f ∷ fs) ++ m ∷ []) ≡ joined (f ∷ fs) ++ 44 ∷ m
joined_more f [] m = refl
joined_more f (g ∷ fs) m = ap (λ z. f ++ 44 ∷ z) (joined_more g fs m) ∙ sym (append_assoc f (44 ∷ joined (g ∷ fs)) (44 ∷ m))

two : (n : ℕ) → nat_lt 1 (suc (suc n)) ≡ true
two n = grind arith

long : (f : List ℕ) (fs : List (List ℕ)) → is_blank f ≡ false → nat_lt 1 (length (123 ∷ joined (f ∷ fs))) ≡ true
long [] fs h = absurd (cc)
long (b ∷ f) [] h = two (length f)
long (b ∷ f) (g ∷ fs) h = two (length (f ++ 44 ∷ joined (g ∷ fs)))

pub added_joined : (fs : List (List ℕ)) (m : List ℕ) → Filled fs → added (123 ∷ joined fs) m ≡ 123 ∷ joined (fs ++ m ∷ [])
added_joined [] m h = refl
added_joined (f ∷ fs) m h =
    ap (λ c. cond c ((123 ∷ joined (f ∷ fs)) ++ 44 ∷ m) ((123 ∷ joined (f ∷ fs)) ++ m)) (long f fs h.0) ∙ ap (λ z. 123 ∷ z) (sym (joined_more f fs m))

-- ---- outside of the string

-- what is to be shown of the remaining members, for all members before them
abbrev TextsOf : List (List ℕ) → Type 0
TextsOf ms = (fs : List (List ℕ)) → Filled fs → texts_with (123 ∷ joined fs) ms ≡ 123 ∷ joined (fs ++ filter stays (filter is_filled ms))

texts_step : (m : List ℕ) (ms : List (List ℕ)) (blank front : Bool) → is_blank m ≡ blank → stays m ≡ front → TextsOf ms → TextsOf (m ∷ ms)
texts_step m ms true front e f more fs h = unfold texts_with in
    subst (λ b. texts_with (cond b (123 ∷ joined fs) (cond (stays m) (added (123 ∷ joined fs) m) (123 ∷ joined fs))) ms ≡ 123 ∷ joined (fs ++ filter stays (cond (not b) (m ∷ filter is_filled ms) (filter is_filled ms)))) (sym e) (more fs h)
texts_step m ms false true e f more fs h = unfold texts_with in
    let rest = filter stays (filter is_filled ms) in
    subst (λ b. texts_with (cond b (123 ∷ joined fs) (cond (stays m) (added (123 ∷ joined fs) m) (123 ∷ joined fs))) ms ≡ 123 ∷ joined (fs ++ filter stays (cond (not b) (m ∷ filter is_filled ms) (filter is_filled ms)))) (sym e)
    (subst (λ b. texts_with (cond b (added (123 ∷ joined fs) m) (123 ∷ joined fs)) ms ≡ 123 ∷ joined (fs ++ cond b (m ∷ rest) rest)) (sym f)
    (ap (λ z. texts_with z ms) (added_joined fs m h) ∙ more (fs ++ m ∷ []) (filled_more fs m h e) ∙ ap (λ z. 123 ∷ joined z) (append_assoc fs (m ∷ []) rest)))
texts_step m ms false false e f more fs h = unfold texts_with in
    let rest = filter stays (filter is_filled ms) in
    subst (λ b. texts_with (cond b (123 ∷ joined fs) (cond (stays m) (added (123 ∷ joined fs) m) (123 ∷ joined fs))) ms ≡ 123 ∷ joined (fs ++ filter stays (cond (not b) (m ∷ filter is_filled ms) (filter is_filled ms)))) (sym e)
    (subst (λ b. texts_with (cond b (added (123 ∷ joined fs) m) (123 ∷ joined fs)) ms ≡ 123 ∷ joined (fs ++ cond b (m ∷ rest) rest)) (sym f) (more fs h))

texts_all : (ms : List (List ℕ)) → TextsOf ms
unfolding texts_with
texts_all [] fs h = ap (λ z. 123 ∷ joined z) (sym (append-nil fs))
texts_all (m ∷ ms) fs h = texts_step m ms (is_blank m) (stays m) refl refl (texts_all ms) fs h

-- ---- in the string

one : (n : ℕ) → (suc n == 0) ≡ false
one n = grind arith

some_held : (o : List ℕ) (os : List (List ℕ)) → is_blank o ≡ false → (length (joined (o ∷ os)) == 0) ≡ false
some_held [] os h = absurd (cc)
some_held (b ∷ o) [] h = one (length o)
some_held (b ∷ o) (p ∷ os) h = one (length (o ++ 44 ∷ joined (p ∷ os)))

held_joined : (os : List (List ℕ)) (m : List ℕ) → Filled os → held_with (joined os) m ≡ joined (os ++ m ∷ [])
held_joined [] m h = refl
held_joined (o ∷ os) m h =
    ap (λ c. cond c (joined (o ∷ os) ++ m) (joined (o ∷ os) ++ 44 ∷ m)) (some_held o os h.0) ∙ sym (joined_more o os m)

abbrev HeldsOf : List (List ℕ) → Type 0
HeldsOf ms = (os : List (List ℕ)) → Filled os → helds_by (joined os) ms ≡ joined (os ++ filter goes (filter is_filled ms))

helds_step : (m : List ℕ) (ms : List (List ℕ)) (blank front : Bool) → is_blank m ≡ blank → stays m ≡ front → HeldsOf ms → HeldsOf (m ∷ ms)
helds_step m ms true front e f more os h = unfold helds_by in
    let H = joined os in
    subst (λ b. helds_by (cond b H (cond (stays m) H (held_with H m))) ms ≡ (joined (os ++ filter goes (cond (not b) (m ∷ filter is_filled ms) (filter is_filled ms))))) (sym e) (more os h)
helds_step m ms false true e f more os h = unfold helds_by in
    let H = joined os in
    let rest = filter goes (filter is_filled ms) in
    subst (λ b. helds_by (cond b H (cond (stays m) H (held_with H m))) ms ≡ (joined (os ++ filter goes (cond (not b) (m ∷ filter is_filled ms) (filter is_filled ms))))) (sym e)
    (subst (λ b. helds_by (cond b H (held_with H m)) ms ≡ (joined (os ++ cond (not b) (m ∷ rest) rest))) (sym f) (more os h))
helds_step m ms false false e f more os h = unfold helds_by in
    let H = joined os in
    let rest = filter goes (filter is_filled ms) in
    subst (λ b. helds_by (cond b H (cond (stays m) H (held_with H m))) ms ≡ (joined (os ++ filter goes (cond (not b) (m ∷ filter is_filled ms) (filter is_filled ms))))) (sym e)
    (subst (λ b. helds_by (cond b H (held_with H m)) ms ≡ (joined (os ++ cond (not b) (m ∷ rest) rest))) (sym f)
    (ap (λ z. helds_by z ms) (held_joined os m h) ∙ more (os ++ m ∷ []) (filled_more os m h e) ∙ ap (λ z. joined z) (append_assoc os (m ∷ []) rest)))

helds_all : (ms : List (List ℕ)) → HeldsOf ms
unfolding helds_by
helds_all [] os h = ap (λ z. joined z) (sym (append-nil os))
helds_all (m ∷ ms) os h = helds_step m ms (is_blank m) (stays m) refl refl (helds_all ms) os h

-- ---- the envelope

whole_joined : (fs os : List (List ℕ)) → Filled fs → Filled os → with_held (123 ∷ joined fs) (joined os) ≡ 123 ∷ joined (fs ++ whole_of os)
whole_joined fs [] h k = ap (λ z. 123 ∷ joined z) (sym (append-nil fs))
whole_joined fs (o ∷ os) h k =
    let H = joined (o ∷ os) in
    let w = whole_name ++ 58 ∷ [] in
    ap (λ c. cond c (123 ∷ joined fs) (added (123 ∷ joined fs) w ++ quoted H)) (some_held o os k.0) ∙ added_more (123 ∷ joined fs) w (quoted H) ∙ added_joined fs (whole_name ++ 58 ∷ quoted H) h where
      added_by : (b : Bool) (t m n : List ℕ) → cond b (t ++ 44 ∷ m) (t ++ m) ++ n ≡ cond b (t ++ 44 ∷ (m ++ n)) (t ++ (m ++ n))
      added_by true t m n = append_assoc t (44 ∷ m) n
      added_by false t m n = append_assoc t m n

      added_more : (t m n : List ℕ) → added t m ++ n ≡ added t (m ++ n)
      added_more t m n = added_by (nat_lt 1 (length t)) t m n

held_is : (x : List ℕ) → helds_by [] (members_in Outside 0 [] (drop 1 x)) ≡ joined (filter goes (members_of x))
held_is x = helds_all (members_in Outside 0 [] (drop 1 x)) [] tt

pub fold_enveloped : (x text held : List ℕ) → text ≡ texts_with (123 ∷ []) (members_in Outside 0 [] (drop 1 x)) → held ≡ helds_by [] (members_in Outside 0 [] (drop 1 x))
    → (with_held text held ++ 125 ∷ [] ≡ envelope_of x) × (held ≡ joined (filter goes (members_of x)))
fold_enveloped x text held e f =
    let all = members_in Outside 0 [] (drop 1 x) in
    let ms = members_of x in
    let a = e ∙ texts_all all [] tt in
    let b = f ∙ held_is x in (
      ap (λ z. with_held z held ++ 125 ∷ []) a ∙ ap (λ z. with_held (123 ∷ joined (filter stays ms)) z ++ 125 ∷ []) b
          ∙ ap (λ z. z ++ 125 ∷ []) (whole_joined (filter stays ms) (filter goes ms) (filled_among stays ms (filled_filter all)) (filled_among goes ms (filled_filter all))),
      b,
    )

-- ---- unwrapping

-- what is unwrapped of a text, by its first member
pub taken_first : (t rest first : List ℕ) (o : Option (List ℕ)) → (length rest == 0) ≡ false → first ≡ take (first_length rest) rest → taken_with t first ≡ o
    → all_taken t (members_in Outside 0 [] rest) ≡ option_and_then (λ u. all_taken u (members_in Outside 0 [] (behind_comma rest (first_length rest)))) o
taken_first t rest first o some is one = unfold all_taken in
    let more = members_in Outside 0 [] (behind_comma rest (first_length rest)) in
    ap (all_taken t) (members_first rest some) ∙ ap (option_and_then (λ u. all_taken u more)) (ap (taken_with t) (sym is) ∙ one)

pub taken_over : (t rest : List ℕ) → (length rest == 0) ≡ true → all_taken t (members_in Outside 0 [] rest) ≡ Some t
unfolding all_taken
taken_over t [] h = ap (all_taken t) members_none
taken_over t (b ∷ rest) h = absurd (never (length rest) h) where
  never : (n : ℕ) → (suc n == 0) ≡ true → ⊥
  never n h = grind arith

any_filled : (t u : List ℕ) (b : Bool) → is_blank t ≡ b → cond b None (Some t) ≡ Some u → is_blank u ≡ false
any_filled t u true e h = absurd (cc)
any_filled t u false e h = subst (λ z. is_blank z ≡ false) (some_same t u h) e where
  some_same : (t u : List ℕ) → Some t ≡ Some u → t ≡ u
  some_same t u h = cc

string_filled : (o : Option (List ℕ)) (u : List ℕ) → option_and_then if_any o ≡ Some u → is_blank u ≡ false
string_filled None u h = absurd (cc)
string_filled (Some t) u h = any_filled t u (is_blank t) refl h

member_filled : (m u : List ℕ) (b : Bool) → is_blank m ≡ false → cond b (option_and_then if_any (string_of (value_of m whole_name))) (Some m) ≡ Some u → is_blank u ≡ false
member_filled m u true e h = string_filled (string_of (value_of m whole_name)) u h
member_filled m u false e h = subst (λ z. is_blank z ≡ false) (some_same m u h) e where
  some_same : (t u : List ℕ) → Some t ≡ Some u → t ≡ u
  some_same t u h = cc

joins_more : (fs : List (List ℕ)) (t : List ℕ) (o : Option (List (List ℕ))) → option_map (λ ts. 123 ∷ joined ((fs ++ t ∷ []) ++ ts)) o ≡ option_map (λ ts. 123 ∷ joined (fs ++ ts)) (option_map (λ ts. t ∷ ts) o)
joins_more fs t None = refl
joins_more fs t (Some ts) = ap (λ z. Some (123 ∷ joined z)) (append_assoc fs (t ∷ []) ts)

abbrev TakenOf : List (List ℕ) → Type 0
TakenOf ms = (fs : List (List ℕ)) → Filled fs → all_taken (123 ∷ joined fs) ms ≡ option_map (λ ts. 123 ∷ joined (fs ++ ts)) (unfolded_members (filter is_filled ms))

taken_one : (m : List ℕ) (ms : List (List ℕ)) → is_blank m ≡ false → (o : Option (List ℕ)) → unfolded_member m ≡ o → TakenOf ms → (fs : List (List ℕ)) → Filled fs
    → option_and_then (λ u. all_taken u ms) (option_map (added (123 ∷ joined fs)) (unfolded_member m)) ≡ option_map (λ ts. 123 ∷ joined (fs ++ ts)) (unfolded_members (m ∷ filter is_filled ms))
taken_one m ms e None f more fs h =
    subst (λ o. option_and_then (λ u. all_taken u ms) (option_map (added (123 ∷ joined fs)) o) ≡ option_map (λ ts. 123 ∷ joined (fs ++ ts)) (option_and_then (λ t. option_map (λ ts. t ∷ ts) (unfolded_members (filter is_filled ms))) o)) (sym f) refl
taken_one m ms e (Some t) f more fs h =
    subst (λ o. option_and_then (λ u. all_taken u ms) (option_map (added (123 ∷ joined fs)) o) ≡ option_map (λ ts. 123 ∷ joined (fs ++ ts)) (option_and_then (λ t. option_map (λ ts. t ∷ ts) (unfolded_members (filter is_filled ms))) o)) (sym f)
    (ap (λ z. all_taken z ms) (added_joined fs t h) ∙ more (fs ++ t ∷ []) (filled_more fs t h (member_filled m t (has_name m whole_name) e f))
    ∙ joins_more fs t (unfolded_members (filter is_filled ms)))

taken_step : (m : List ℕ) (ms : List (List ℕ)) (blank : Bool) → is_blank m ≡ blank → TakenOf ms → TakenOf (m ∷ ms)
taken_step m ms true e more fs h = unfold all_taken in
    subst (λ b. option_and_then (λ u. all_taken u ms) (cond b (Some (123 ∷ joined fs)) (option_map (added (123 ∷ joined fs)) (unfolded_member m))) ≡ option_map (λ ts. 123 ∷ joined (fs ++ ts)) (unfolded_members (cond (not b) (m ∷ filter is_filled ms) (filter is_filled ms)))) (sym e) (more fs h)
taken_step m ms false e more fs h = unfold all_taken in
    subst (λ b. option_and_then (λ u. all_taken u ms) (cond b (Some (123 ∷ joined fs)) (option_map (added (123 ∷ joined fs)) (unfolded_member m))) ≡ option_map (λ ts. 123 ∷ joined (fs ++ ts)) (unfolded_members (cond (not b) (m ∷ filter is_filled ms) (filter is_filled ms)))) (sym e)
    (taken_one m ms e (unfolded_member m) refl more fs h)

taken_all : (ms : List (List ℕ)) → TakenOf ms
unfolding all_taken
taken_all [] fs h = ap (λ z. Some (123 ∷ joined z)) (sym (append-nil fs))
taken_all (m ∷ ms) fs h = taken_step m ms (is_blank m) refl (taken_all ms) fs h

none_by : (o : Option (List (List ℕ))) → option_map (λ ts. 123 ∷ joined ts) o ≡ None → option_and_then (λ ts. if_json (object_of ts)) o ≡ None
none_by None h = refl
none_by (Some ts) h = absurd (cc)

some_by : (o : Option (List (List ℕ))) (t : List ℕ) → option_map (λ ts. 123 ∷ joined ts) o ≡ Some t → option_and_then (λ ts. if_json (object_of ts)) o ≡ if_json (t ++ 125 ∷ [])
some_by None t h = absurd (cc)
some_by (Some ts) t h = ap (λ z. if_json (z ++ 125 ∷ [])) (same (123 ∷ joined ts) t h) where
  same : (a b : List ℕ) → Some a ≡ Some b → a ≡ b
  same a b h = cc

pub taken_none : (x : List ℕ) → all_taken (123 ∷ []) (members_in Outside 0 [] (drop 1 x)) ≡ None → unfolded x ≡ None
taken_none x h = none_by (unfolded_members (members_of x)) (sym (taken_all (members_in Outside 0 [] (drop 1 x)) [] tt) ∙ h)

pub taken_some : (x t : List ℕ) → all_taken (123 ∷ []) (members_in Outside 0 [] (drop 1 x)) ≡ Some t → unfolded x ≡ if_json (t ++ 125 ∷ [])
taken_some x t h = some_by (unfolded_members (members_of x)) t (sym (taken_all (members_in Outside 0 [] (drop 1 x)) [] tt) ∙ h)
