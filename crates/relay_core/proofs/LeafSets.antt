-- Sets of leaves, and of ids.
use Rattle.proof_prelude.proofs.{◌≡◌, inl, inr, Bor, Bool, true, false, ◌&&◌, ◌||◌, not, if◌then◌else◌, List, [], ◌∷◌, ◌++◌, list_any, list_all, bytes_eq, refl, sym, ap, ap₂, subst, fun_ext, ◌∙◌, or_cases, or_assoc, or-false, and_parts, and-true, not-true, cases_Bool, list_any-append}
use Rattle.std.specs.Cmp.{both_ways}
use Rattle.indexmap.specs.IndexSet.{insert_key}
use Rattle.relay_core.specs.Messages.{Text, DocView}
use Rattle.relay_core.specs.Leaves.{has_text, names, has_id, are_distinct}
use Rattle.relay_core.specs.LeafSets.{has_leaf, is_leaf_of}
use Rattle.relay_core.proofs.Filtering.{same_text, text_is}

absorbed : (a c : Bool) → (c ≡ true → a ≡ true) → a ≡ (a || c)
absorbed true c h = refl
absorbed false true h = h refl
absorbed false false h = refl

text_sym : (a b : Text) → bytes_eq a b ≡ bytes_eq b a
text_sym a b =
    both_ways (bytes_eq a b) (bytes_eq b a)
    (λ e. subst (λ (t : Text). bytes_eq t a ≡ true) (text_is a b e) (same_text a))
    (λ e. subst (λ (t : Text). bytes_eq t b ≡ true) (text_is b a e) (same_text b))

-- ---- leaves

-- whether two keys are one leaf
abbrev pub same_leaf : Bor Text × Bor Text → Bor Text × Bor Text → Bool
same_leaf a b = bytes_eq a.0.now b.0.now && bytes_eq a.1.now b.1.now

-- the leaves after an insertion
pub has_leaf-insert : (ks : List (Bor Text × Bor Text)) (k : Bor Text × Bor Text) (id leaf : Text)
    → has_leaf (insert_key same_leaf ks k) id leaf ≡ (has_leaf ks id leaf || (bytes_eq k.0.now id && bytes_eq k.1.now leaf))
has_leaf-insert ks k id leaf =
    let test : Bor Text × Bor Text → Bool = λ x. bytes_eq id x.0.now && bytes_eq leaf x.1.now in
    elim (cases_Bool (list_any (same_leaf k) ks)) [
      | inl here ↦
          ap (λ (b : Bool). has_leaf (if b then ks else ks ++ k ∷ []) id leaf) here
          ∙ absorbed (has_leaf ks id leaf) (bytes_eq k.0.now id && bytes_eq k.1.now leaf)
          (λ e. let both = and_parts (bytes_eq k.0.now id) (bytes_eq k.1.now leaf) e in
          ap₂ (λ (i l : Text). has_leaf ks i l) (sym (text_is k.0.now id both.0)) (sym (text_is k.1.now leaf both.1)) ∙ here)
      | inr absent ↦
          ap (λ (b : Bool). has_leaf (if b then ks else ks ++ k ∷ []) id leaf) absent
          ∙ list_any-append test ks (k ∷ [])
          ∙ ap (λ (b : Bool). has_leaf ks id leaf || b)
          (or-false (bytes_eq id k.0.now && bytes_eq leaf k.1.now) ∙ ap₂ (λ (a b : Bool). a && b) (text_sym id k.0.now) (text_sym leaf k.1.now))
    ]

-- a leaf more of a document
spread : (a b c d : Bool) → ((a || (b && c)) || (b && d)) ≡ (a || (b && (c || d)))
spread true b c d = refl
spread false true c d = refl
spread false false c d = refl

-- a leaf more is added
pub add_leaves-next : (id key leaf rev : Text) (revs : List Text) (old new all : Bool)
    → new ≡ (old || (bytes_eq key id && bytes_eq rev leaf)) → (old || (bytes_eq key id && has_text (rev ∷ revs) leaf)) ≡ all
    → (new || (bytes_eq key id && has_text revs leaf)) ≡ all
add_leaves-next id key leaf rev revs old new all new_is before =
    ap (λ (b : Bool). b || (bytes_eq key id && has_text revs leaf)) new_is
    ∙ spread old (bytes_eq key id) (bytes_eq rev leaf) (has_text revs leaf) ∙ before

-- a document more is added
pub leaf_set-next : (id leaf : Text) (doc : DocView) (docs : List DocView) (old new all : Bool)
    → new ≡ (old || is_leaf_of doc id leaf) → (old || names (doc ∷ docs) id leaf) ≡ all → (new || names docs id leaf) ≡ all
leaf_set-next id leaf doc docs old new all new_is before =
    ap (λ (b : Bool). b || names docs id leaf) new_is ∙ or_assoc old (is_leaf_of doc id leaf) (names docs id leaf) ∙ before

-- a set that has what documents name
pub as_named : (ks : List (Bor Text × Bor Text)) (docs : List DocView) → ((id leaf : Text) → has_leaf ks id leaf ≡ names docs id leaf) → has_leaf ks ≡ names docs
as_named ks docs same = fun_ext (λ id. fun_ext (λ leaf. same id leaf))

-- ---- ids

-- no document has a known id
abbrev pub are_new : List (Bor Text) → List DocView → Bool
are_new ks docs = list_all (λ d. not (list_any (λ k. bytes_eq d.0 k.now) ks)) docs

-- whether two references are to one text
abbrev pub same_ref : Bor Text → Bor Text → Bool
same_ref a b = bytes_eq a.now b.now

split : (a b n h : Bool) → (not (a || b) && (n && not h)) ≡ ((not a && n) && not (b || h))
split true b n h = refl
split false true true h = refl
split false true false h = refl
split false false n h = refl

-- no document has a known id, nor this one
are_new-snoc : (ks : List (Bor Text)) (k : Bor Text) (docs : List DocView) → are_new (ks ++ k ∷ []) docs ≡ (are_new ks docs && not (has_id docs k.now))
are_new-snoc ks k [] = refl
are_new-snoc ks k (d ∷ ds) =
    let test : Bor Text → Bool = λ x. bytes_eq d.0 x.now in
    ap₂ (λ (a b : Bool). not a && b) (list_any-append test ks (k ∷ []) ∙ ap (λ (b : Bool). list_any test ks || b) (or-false (bytes_eq d.0 k.now))) (are_new-snoc ks k ds)
    ∙ split (list_any test ks) (bytes_eq d.0 k.now) (are_new ks ds) (has_id ds k.now)

moved : (h d n : Bool) → (d && (n && not h)) ≡ ((not h && d) && n)
moved true true true = refl
moved true true false = refl
moved true false n = refl
moved false d n = ap (λ (b : Bool). d && b) (and-true n)

-- a document has a new id
pub are_distinct-next : (ks new : List (Bor Text)) (k : Bor Text) (doc : DocView) (docs : List DocView) (all : Bool)
    → k.now ≡ doc.0 → new ≡ insert_key same_ref ks k → not (list_any (same_ref k) ks) ≡ true
    → (are_distinct (doc ∷ docs) && are_new ks (doc ∷ docs)) ≡ all → (are_distinct docs && are_new new docs) ≡ all
are_distinct-next ks new k doc docs all k_is new_is absent before =
    let none : list_any (same_ref k) ks ≡ false = not-true (list_any (same_ref k) ks) absent in
    let known : not (list_any (λ (x : Bor Text). bytes_eq doc.0 x.now) ks) ≡ true = ap (λ (t : Text). not (list_any (λ (x : Bor Text). bytes_eq t x.now) ks)) (sym k_is) ∙ absent in
    ap (λ (xs : List (Bor Text)). are_distinct docs && are_new xs docs) (new_is ∙ ap (λ (b : Bool). if b then ks else ks ++ k ∷ []) none)
    ∙ ap (λ (b : Bool). are_distinct docs && b) (are_new-snoc ks k docs ∙ ap (λ (t : Text). are_new ks docs && not (has_id docs t)) k_is)
    ∙ moved (has_id docs doc.0) (are_distinct docs) (are_new ks docs)
    ∙ ap (λ (b : Bool). (not (has_id docs doc.0) && are_distinct docs) && (b && are_new ks docs)) (sym known)
    ∙ before

are_new-nil : (docs : List DocView) → are_new [] docs ≡ true
are_new-nil [] = refl
are_new-nil (d ∷ ds) = are_new-nil ds

-- no id is known yet
pub are_distinct-first : (ks : List (Bor Text)) (docs : List DocView) → ks ≡ [] → (are_distinct docs && are_new ks docs) ≡ are_distinct docs
are_distinct-first ks docs none =
    ap (λ (xs : List (Bor Text)). are_distinct docs && are_new xs docs) none ∙ ap (λ (b : Bool). are_distinct docs && b) (are_new-nil docs) ∙ and-true (are_distinct docs)
