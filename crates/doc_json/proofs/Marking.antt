-- What the table says about ids.
use Rattle.proof_prelude.proofs.{◌≡◌, ℕ, ◌<◌, ◌==◌, Bool, true, false, ◌||◌, List, [], ◌∷◌, ◌++◌, length, get_or, set, refl, sym, ap, ◌∙◌, subst, false≢true, eqb-false, list_any, AllByRecursion, bytes_eq, bytes_decides, eqb-true, get_or-set_same, get_or-set_other, length-set}
use Rattle.doc_json.specs.{AreMarks, is_marked, is_marked_of, place_of}
use Rattle.doc_json.proofs.ChosenBytes.{each_more}

-- an entry stays true when another is set
stays : (places : ℕ) (marks : List Bool) (n : ℕ) (id : List ℕ) → n < length marks → is_marked_of places marks id ≡ true → is_marked_of places (set marks n true) id ≡ true
stays places marks n id within h = go (n == place_of places id) refl
  where
    go : (b : Bool) → (n == place_of places id) ≡ b → is_marked_of places (set marks n true) id ≡ true
    go true e = subst (λ k. get_or (set marks n true) k false ≡ true) (eqb-true _ _ e) (get_or-set_same marks n true false within)
    go false e = get_or-set_other marks n (place_of places id) true false (λ same. eqb-false _ _ e (sym same)) ∙ h

all_stay : (places : ℕ) (marks : List Bool) (n : ℕ) (ids : List (List ℕ)) → n < length marks → AllByRecursion (λ id. is_marked_of places marks id ≡ true) ids → AllByRecursion (λ id. is_marked_of places (set marks n true) id ≡ true) ids
all_stay places marks n [] within h = tt
all_stay places marks n (id ∷ ids) within h = (stays places marks n id within h.0, all_stay places marks n ids within h.1)

-- one more id is entered
pub marked_more : (places : ℕ) (marks : List Bool) (ids : List (List ℕ)) (id : List ℕ) (n : ℕ) → length marks ≡ places → n ≡ place_of places id → n < places → AreMarks marks ids → AreMarks (set marks n true) (ids ++ id ∷ [])
marked_more places marks ids id n size is small m =
    let within : n < length marks = subst (λ k. n < k) (sym size) small in
    let there = subst (λ p. AllByRecursion (λ x. is_marked_of p marks x ≡ true) ids) size m.each in
    let own : is_marked_of places (set marks n true) id ≡ true = subst (λ k. get_or (set marks n true) k false ≡ true) is (get_or-set_same marks n true false within) in
    let same : length (set marks n true) ≡ places = length-set marks n true ∙ size in
    record {
      some = subst (λ k. 0 < k) (sym (length-set marks n true)) m.some;
      each =
          subst (λ p. AllByRecursion (λ x. is_marked_of p (set marks n true) x ≡ true) (ids ++ id ∷ [])) (sym same)
          (each_more (λ x. is_marked_of places (set marks n true) x ≡ true) ids id (all_stay places marks n ids within there) own);
    }

-- an id whose entry is false is not in the list
unmarked : (marks : List Bool) (ids : List (List ℕ)) (q : List ℕ) → AllByRecursion (λ id. is_marked marks id ≡ true) ids → is_marked marks q ≡ false → list_any (bytes_eq q) ids ≡ false
unmarked marks [] q all none = refl
unmarked marks (id ∷ ids) q all none = go (unmarked marks ids q all.1 none) (bytes_eq q id) refl
  where
    go : list_any (bytes_eq q) ids ≡ false → (b : Bool) → bytes_eq q id ≡ b → list_any (bytes_eq q) (id ∷ ids) ≡ false
    go rest true e = absurd (false≢true (sym none ∙ ap (is_marked marks) ((bytes_decides q id).0 e) ∙ all.0))
    go rest false e = ap (λ b. b || list_any (bytes_eq q) ids) e ∙ rest

pub not_among : (marks : List Bool) (ids : List (List ℕ)) (q : List ℕ) → AreMarks marks ids → is_marked marks q ≡ false → list_any (bytes_eq q) ids ≡ false
not_among marks ids q m none = unmarked marks ids q m.each none
