-- Lemmas about tables that store values by session. Dependent crates use these lemmas.
use Rattle.std.proofs.Common.{◌≡◌, ◌==◌, ◌&&◌, ◌||◌, Bool, true, false, cond, if◌then◌else◌, List, [], ◌∷◌, ◌++◌, map, Option, Some, None, is_some, reverse, refl, sym, ap, ◌∙◌, subst}
use Rattle.std.specs.List.{find, list_any, IsDistinct, AllByRecursion}
use Rattle.std.specs.Option.{option_map, option_or}
use Rattle.std.specs.Map.{keys_of, lookup, set_value}
use Rattle.std.proofs.Math.Bool.{and-true}
use Rattle.std.proofs.lemmas.Bool.{eqb-true, eq-eqb, ne_eqb, eqb-false}
use Rattle.std.proofs.lemmas.List.{map_push, reverse-append}
use Rattle.std.proofs.lemmas.List.Folds.{find-append}
use Rattle.std.proofs.lemmas.Grind.{reverse_onto}
use Rattle.doc_json.proofs.DocReads.{is_some-option_map}
use Rattle.rev_tree.specs.PartLaws.{or_none}
use Rattle.indexmap.proofs.ReorderLemmas.{map-reverse}
use Rattle.indexmap.specs.IndexMap.{insert_entry}
use Rattle.rev_tree.specs.declared.origin.SessionId.{SessionId}
use Rattle.repl_log.specs.Stored.{at_session, newest_first, IsKeyed}

-- No session occurs twice in a table.
abbrev pub EachSessionOnce : {X : Type 0} → List (SessionId × X) → Type 0
EachSessionOnce es = IsDistinct at_session (keys_of es)

pub same_id : (a b : SessionId) → a.0 ≡ b.0 → a ≡ b
same_id a b same = λ i. record { 0 = same i }

pub any-find : {A : Type 0} (p : A → Bool) (xs : List A) → list_any p xs ≡ is_some (find p xs)
any-find p [] = refl
any-find p (x ∷ xs) =
    elim (p x) as (λ b. (b || list_any p xs) ≡ is_some (cond b (Some x) (find p xs))) [
      | true ↦ refl
      | false ↦ any-find p xs
    ]

absent-lookup : {X : Type 0} (s : SessionId) (es : List (SessionId × X)) → AllByRecursion (λ k. at_session s k ≡ false) (keys_of es) → lookup (at_session s) es ≡ None
absent-lookup s [] none = refl
absent-lookup s (e ∷ es) none = ap (λ b. cond b (Some e.1) (lookup (at_session s) es)) none.0 ∙ absent-lookup s es none.1

-- If a table has a value for a session, an insertion for this session replaces the value.
pub insert_entry-present : {X : Type 0} (s : SessionId) (es : List (SessionId × X)) (x y : X) → lookup (at_session s) es ≡ Some y → insert_entry at_session es s x ≡ set_value (at_session s) es x
insert_entry-present s [] x y is = cc is
insert_entry-present s (e ∷ es) x y is =
    elim (at_session s e.0) as (λ b. cond b (Some e.1) (lookup (at_session s) es) ≡ Some y → cond b ((e.0, x) ∷ es) (e ∷ insert_entry at_session es s x) ≡ cond b ((e.0, x) ∷ es) (e ∷ set_value (at_session s) es x)) [
      | true ↦ λ _. refl
      | false ↦ λ rest. ap (λ l. e ∷ l) (insert_entry-present s es x y rest)
    ] is

-- Theorems about the values that a table stores by session. The function `value` maps a stored value of type X to its
-- counterpart of type V in contracts. The function `session` returns the session of a value of type V.
module _ {X V : Type 0} (value : X → V) (session : V → SessionId) where
  abbrev named : SessionId → V → Bool
  named s v = (session v).0 == s.0

  abbrev own : X → SessionId
  own x = session (value x)

  named_at : (s k : SessionId) (x : X) → own x ≡ k → at_session s k ≡ true → named s (value x) ≡ true
  named_at s k x keyed at = eq-eqb (own x).0 s.0 (ap (λ (j : SessionId). j.0) keyed ∙ sym (eqb-true s.0 k.0 at))

  named_past : (s k : SessionId) (x : X) → own x ≡ k → at_session s k ≡ false → named s (value x) ≡ false
  named_past s k x keyed past = ne_eqb (own x).0 s.0 (λ same. eqb-false s.0 k.0 past (sym same ∙ ap (λ (j : SessionId). j.0) keyed))

  pub newest_first-cons : (e : SessionId × X) (es : List (SessionId × X)) → newest_first value (e ∷ es) ≡ newest_first value es ++ value e.1 ∷ []
  newest_first-cons e es = reverse_onto (map (λ (e : SessionId × X). value e.1) es) (value e.1) []

  -- A value that was just appended to a table is the table's newest value.
  pub newest_first-push : (s : SessionId) (x : X) (es : List (SessionId × X)) → newest_first value (es ++ (s, x) ∷ []) ≡ value x ∷ newest_first value es
  newest_first-push s x es = ap reverse (map_push (λ (e : SessionId × X). value e.1) es (s, x)) ∙ reverse-append (map (λ (e : SessionId × X). value e.1) es) (value x ∷ [])

  -- ---- lookups

  -- The value of an optional item, if the value passes the test q. The result is `None` if the item is absent, or if
  -- its value does not pass the test.
  abbrev pub chosen : (V → Bool) → Option X → Option V
  chosen q None = None
  chosen q (Some x) = if q (value x) then Some (value x) else None

  module _ (q p : V → Bool) (s : SessionId) (says : (v : V) → p v ≡ (named s v && q v)) where
    chosen_step : (e : SessionId × X) (es : List (SessionId × X)) → own e.1 ≡ e.0 → AllByRecursion (λ k. at_session e.0 k ≡ false) (keys_of es) → (b : Bool) → at_session s e.0 ≡ b
        → option_or (chosen q (lookup (at_session s) es)) (cond (p (value e.1)) (Some (value e.1)) None) ≡ chosen q (cond b (Some e.1) (lookup (at_session s) es))
    chosen_step e es keyed apart true at =
        let same : e.0 ≡ s = same_id e.0 s (sym (eqb-true s.0 e.0.0 at)) in
        let none = absent-lookup s es (subst (λ (j : SessionId). AllByRecursion (λ k. at_session j k ≡ false) (keys_of es)) same apart) in
        ap (λ o. option_or (chosen q o) (cond (p (value e.1)) (Some (value e.1)) None)) none
        ∙ ap (λ b. cond b (Some (value e.1)) None) (says (value e.1) ∙ ap (λ b. b && q (value e.1)) (named_at s e.0 e.1 keyed at))
    chosen_step e es keyed apart false past =
        ap (λ b. option_or (chosen q (lookup (at_session s) es)) (cond b (Some (value e.1)) None)) (says (value e.1) ∙ ap (λ b. b && q (value e.1)) (named_past s e.0 e.1 keyed past))
        ∙ or_none (chosen q (lookup (at_session s) es))

    pub find-chosen : (es : List (SessionId × X)) → IsKeyed own es → EachSessionOnce es → find p (newest_first value es) ≡ chosen q (lookup (at_session s) es)
    unfolding IsDistinct
    find-chosen [] keyed once = refl
    find-chosen (e ∷ es) keyed once =
        ap (find p) (newest_first-cons e es)
        ∙ find-append p (newest_first value es) (value e.1 ∷ [])
        ∙ ap (λ o. option_or o (find p (value e.1 ∷ []))) (find-chosen es keyed.1 once.1)
        ∙ chosen_step e es keyed.0 once.0 (at_session s e.0) refl

  chosen-always : (o : Option X) → chosen (λ _. true) o ≡ option_map value o
  chosen-always None = refl
  chosen-always (Some x) = refl

  -- Looking up session s in a table, and searching for s in the table's values from the newest on, give the same value.
  pub find-lookup : (s : SessionId) (es : List (SessionId × X)) → IsKeyed own es → EachSessionOnce es → find (named s) (newest_first value es) ≡ option_map value (lookup (at_session s) es)
  find-lookup s es keyed once =
      find-chosen (λ _. true) (named s) s (λ v. sym (and-true (named s v))) es keyed once ∙ chosen-always (lookup (at_session s) es)

  pub any-lookup : (s : SessionId) (es : List (SessionId × X)) → IsKeyed own es → EachSessionOnce es → list_any (named s) (newest_first value es) ≡ is_some (lookup (at_session s) es)
  any-lookup s es keyed once =
      any-find (named s) (newest_first value es) ∙ ap is_some (find-lookup s es keyed once) ∙ is_some-option_map value (lookup (at_session s) es)

  -- ---- writes

  abbrev put_over : SessionId → X → V → V
  put_over s x v = if named s v then value x else v

  untouched : (s : SessionId) (x : X) (es : List (SessionId × X)) → IsKeyed own es → AllByRecursion (λ k. at_session s k ≡ false) (keys_of es) → map (λ e. value e.1) es ≡ map (put_over s x) (map (λ e. value e.1) es)
  untouched s x [] keyed none = refl
  untouched s x (e ∷ es) keyed none = λ i. cond (sym (named_past s e.0 e.1 keyed.0 none.0) i) (value x) (value e.1) ∷ untouched s x es keyed.1 none.1 i

  put_step : (s : SessionId) (x : X) (e : SessionId × X) (es : List (SessionId × X)) → IsKeyed own (e ∷ es) → AllByRecursion (λ k. at_session e.0 k ≡ false) (keys_of es)
      → map (λ e. value e.1) (set_value (at_session s) es x) ≡ map (put_over s x) (map (λ e. value e.1) es) → (b : Bool) → at_session s e.0 ≡ b
      → map (λ e. value e.1) (cond b ((e.0, x) ∷ es) (e ∷ set_value (at_session s) es x)) ≡ put_over s x (value e.1) ∷ map (put_over s x) (map (λ e. value e.1) es)
  put_step s x e es keyed apart rest true at =
      let same : e.0 ≡ s = same_id e.0 s (sym (eqb-true s.0 e.0.0 at)) in
      let others = untouched s x es keyed.1 (subst (λ (j : SessionId). AllByRecursion (λ k. at_session j k ≡ false) (keys_of es)) same apart) in
      λ i. cond (sym (named_at s e.0 e.1 keyed.0 at) i) (value x) (value e.1) ∷ others i
  put_step s x e es keyed apart rest false past =
      λ i. cond (sym (named_past s e.0 e.1 keyed.0 past) i) (value x) (value e.1) ∷ rest i

  put_over-set : (s : SessionId) (x : X) (es : List (SessionId × X)) → IsKeyed own es → EachSessionOnce es → map (λ e. value e.1) (set_value (at_session s) es x) ≡ map (put_over s x) (map (λ e. value e.1) es)
  unfolding IsDistinct
  put_over-set s x [] keyed once = refl
  put_over-set s x (e ∷ es) keyed once = put_step s x e es keyed once.0 (put_over-set s x es keyed.1 once.1) (at_session s e.0) refl

  -- If a table has a value for a session, a write for this session replaces only this value in the list of the table's
  -- values.
  pub newest_first-set : (s : SessionId) (x : X) (es : List (SessionId × X)) → IsKeyed own es → EachSessionOnce es → newest_first value (set_value (at_session s) es x) ≡ map (put_over s x) (newest_first value es)
  newest_first-set s x es keyed once = ap reverse (put_over-set s x es keyed once) ∙ sym (map-reverse (put_over s x) (map (λ e. value e.1) es))

  -- ---- values under their sessions

  pub IsKeyed-push : (s : SessionId) (x : X) (es : List (SessionId × X)) → IsKeyed own es → own x ≡ s → IsKeyed own (es ++ (s, x) ∷ [])
  IsKeyed-push s x [] keyed here = (here, tt)
  IsKeyed-push s x (e ∷ es) keyed here = (keyed.0, IsKeyed-push s x es keyed.1 here)

  pub IsKeyed-set : (s : SessionId) (x : X) (es : List (SessionId × X)) → IsKeyed own es → own x ≡ s → IsKeyed own (set_value (at_session s) es x)
  IsKeyed-set s x [] keyed here = tt
  IsKeyed-set s x (e ∷ es) keyed here =
      elim (at_session s e.0) as (λ b. at_session s e.0 ≡ b → IsKeyed own (cond b ((e.0, x) ∷ es) (e ∷ set_value (at_session s) es x))) [
        | true ↦ λ at. (here ∙ same_id s e.0 (eqb-true s.0 e.0.0 at), keyed.1)
        | false ↦ λ _. (keyed.0, IsKeyed-set s x es keyed.1 here)
      ] refl
