-- The documents of a list of leaves, after more leaves.
use Rattle.proof_prelude.proofs.{◌≡◌, ℕ, Bool, true, false, ◌||◌, if◌then◌else◌, List, [], ◌∷◌, ◌++◌, filter, fold, map, bytes_eq, inl, inr, refl, sym, ap, ap₂, subst, ◌∙◌, cases_Bool, cond-true, cond-false, or_parts, or_right, or-false, or_assoc, false≢true, list_any, list_any-append, filter-append, map-append, append_assoc, append-nil, bytes_eq-Decides}
use Rattle.std.proofs.lemmas.List.Sums.{fold-append}
use Rattle.journal_lines.specs.Docs.{DocsView, add_pair, add_rev}
use Rattle.journal_tasks.specs.Documents.{add_leaves, distinct, docs_of, ids_of, revs_of}

abbrev Leaf : Type 0
Leaf = List ℕ × List ℕ

pub same_text : (a b : List ℕ) → bytes_eq a b ≡ true → a ≡ b
same_text a b h = (bytes_eq-Decides a b).0 h

pub text_same : (a : List ℕ) → bytes_eq a a ≡ true
text_same a = (bytes_eq-Decides a a).1 refl

pub eq_sym : (a b : List ℕ) → bytes_eq a b ≡ bytes_eq b a
eq_sym a b =
    elim (cases_Bool (bytes_eq a b)) [
      | inl hit ↦ hit ∙ sym ((bytes_eq-Decides b a).1 (sym (same_text a b hit)))
      | inr miss ↦ elim (cases_Bool (bytes_eq b a)) [
        | inl hit ↦ absurd (false≢true (sym miss ∙ (bytes_eq-Decides a b).1 (sym (same_text b a hit))))
        | inr miss' ↦ miss ∙ sym miss'
      ]
    ]

-- ---- the distinct items of a list

pub distinct_push : (xs : List (List ℕ)) (x : List ℕ) → distinct (xs ++ x ∷ []) ≡ add_rev (distinct xs) x
distinct_push xs x = fold-append add_rev [] xs (x ∷ [])

any_at : (xs : List (List ℕ)) (a b : List ℕ) → bytes_eq a b ≡ true → list_any (bytes_eq b) xs ≡ true → list_any (bytes_eq a) xs ≡ true
any_at xs a b h e = ap (λ z. list_any (bytes_eq z) xs) (same_text a b h) ∙ e

pub any_added : (xs : List (List ℕ)) (x y : List ℕ) → list_any (bytes_eq y) (add_rev xs x) ≡ (list_any (bytes_eq y) xs || bytes_eq y x)
any_added xs x y =
    elim (cases_Bool (list_any (bytes_eq x) xs)) [
      | inl hit ↦ ap (list_any (bytes_eq y)) (cond-true (list_any (bytes_eq x) xs) xs (xs ++ x ∷ []) hit) ∙ known hit
      | inr miss ↦ ap (list_any (bytes_eq y)) (cond-false (list_any (bytes_eq x) xs) xs (xs ++ x ∷ []) miss) ∙ list_any-append (bytes_eq y) xs (x ∷ []) ∙ ap (λ b. list_any (bytes_eq y) xs || b) (or-false (bytes_eq y x))
    ] where
      known : list_any (bytes_eq x) xs ≡ true → list_any (bytes_eq y) xs ≡ (list_any (bytes_eq y) xs || bytes_eq y x)
      known hit =
          elim (cases_Bool (bytes_eq y x)) [
            | inl same ↦ any_at xs y x same hit ∙ sym (or_right (list_any (bytes_eq y) xs) (bytes_eq y x) same)
            | inr other ↦ sym (ap (λ b. list_any (bytes_eq y) xs || b) other ∙ or-false (list_any (bytes_eq y) xs))
          ]

any_fold : (before xs : List (List ℕ)) (y : List ℕ) → list_any (bytes_eq y) (fold add_rev before xs) ≡ (list_any (bytes_eq y) before || list_any (bytes_eq y) xs)
any_fold before [] y = sym (or-false (list_any (bytes_eq y) before))
any_fold before (x ∷ xs) y =
    any_fold (add_rev before x) xs y ∙ ap (λ b. b || list_any (bytes_eq y) xs) (any_added before x y) ∙ or_assoc (list_any (bytes_eq y) before) (bytes_eq y x) (list_any (bytes_eq y) xs)

-- a list has an item exactly if the distinct items have it
pub any_distinct : (xs : List (List ℕ)) (y : List ℕ) → list_any (bytes_eq y) (distinct xs) ≡ list_any (bytes_eq y) xs
any_distinct xs y = any_fold [] xs y

abbrev pub Once : List (List ℕ) → Type 0
Once [] = Unit {0}
Once (x ∷ xs) = (list_any (bytes_eq x) xs ≡ false) × Once xs

once_push : (xs : List (List ℕ)) (x : List ℕ) → Once xs → list_any (bytes_eq x) xs ≡ false → Once (xs ++ x ∷ [])
once_push [] x o e = (refl, tt)
once_push (y ∷ ys) x (h, o) e =
    let p = or_parts (bytes_eq x y) (list_any (bytes_eq x) ys) e in
    (list_any-append (bytes_eq y) ys (x ∷ []) ∙ ap₂ (λ a b. a || b) h (or-false (bytes_eq y x) ∙ eq_sym y x ∙ p.0), once_push ys x o p.1)

once_added : (xs : List (List ℕ)) (x : List ℕ) → Once xs → Once (add_rev xs x)
once_added xs x o =
    elim (cases_Bool (list_any (bytes_eq x) xs)) [
      | inl hit ↦ subst Once (sym (cond-true (list_any (bytes_eq x) xs) xs (xs ++ x ∷ []) hit)) o
      | inr miss ↦ subst Once (sym (cond-false (list_any (bytes_eq x) xs) xs (xs ++ x ∷ []) miss)) (once_push xs x o miss)
    ]

pub once_fold : (before xs : List (List ℕ)) → Once before → Once (fold add_rev before xs)
once_fold before [] o = o
once_fold before (x ∷ xs) o = once_fold (add_rev before x) xs (once_added before x o)

-- ---- the documents after one leaf more

ids_push : (leaves : List Leaf) (id rev : List ℕ) → ids_of (leaves ++ (id, rev) ∷ []) ≡ add_rev (ids_of leaves) id
ids_push leaves id rev = ap distinct (map-append (λ (leaf : Leaf). leaf.0) leaves ((id, rev) ∷ [])) ∙ distinct_push (map (λ (leaf : Leaf). leaf.0) leaves) id

abbrev of_doc : List ℕ → List Leaf → List Leaf
of_doc d leaves = filter (λ leaf. bytes_eq d leaf.0) leaves

abbrev revs : List Leaf → List (List ℕ)
revs leaves = map (λ leaf. leaf.1) leaves

revs_more : (b : Bool) (before : List Leaf) (leaf : Leaf) → distinct (revs (before ++ (if b then leaf ∷ [] else []))) ≡ (if b then add_rev (distinct (revs before)) leaf.1 else distinct (revs before))
revs_more true before leaf = ap distinct (map-append (λ (l : Leaf). l.1) before (leaf ∷ [])) ∙ distinct_push (revs before) leaf.1
revs_more false before leaf = ap (λ z. distinct (revs z)) (append-nil before)

revs_push : (leaves : List Leaf) (id rev d : List ℕ) → revs_of (leaves ++ (id, rev) ∷ []) d ≡ (if bytes_eq d id then add_rev (revs_of leaves d) rev else revs_of leaves d)
revs_push leaves id rev d =
    ap (λ z. distinct (revs z)) (filter-append (λ (leaf : Leaf). bytes_eq d leaf.0) leaves ((id, rev) ∷ [])) ∙ revs_more (bytes_eq d id) (of_doc d leaves) (id, rev)

revs_same : (leaves : List Leaf) (id rev d : List ℕ) → bytes_eq id d ≡ false → revs_of (leaves ++ (id, rev) ∷ []) d ≡ revs_of leaves d
revs_same leaves id rev d miss = revs_push leaves id rev d ∙ cond-false (bytes_eq d id) (add_rev (revs_of leaves d) rev) (revs_of leaves d) (eq_sym d id ∙ miss)

revs_hit : (leaves : List Leaf) (id rev d : List ℕ) → bytes_eq id d ≡ true → revs_of (leaves ++ (id, rev) ∷ []) d ≡ add_rev (revs_of leaves d) rev
revs_hit leaves id rev d hit = revs_push leaves id rev d ∙ cond-true (bytes_eq d id) (add_rev (revs_of leaves d) rev) (revs_of leaves d) (eq_sym d id ∙ hit)

none_of : (leaves : List Leaf) (id : List ℕ) → list_any (bytes_eq id) (map (λ (leaf : Leaf). leaf.0) leaves) ≡ false → of_doc id leaves ≡ []
none_of [] id h = refl
none_of (leaf ∷ leaves) id h =
    let p = or_parts (bytes_eq id leaf.0) (list_any (bytes_eq id) (map (λ (l : Leaf). l.0) leaves)) h in
    cond-false (bytes_eq id leaf.0) (leaf ∷ of_doc id leaves) (of_doc id leaves) p.0 ∙ none_of leaves id p.1

-- a document that no leaf names has no revisions
pub no_revs : (leaves : List Leaf) (id : List ℕ) → list_any (bytes_eq id) (ids_of leaves) ≡ false → revs_of leaves id ≡ []
no_revs leaves id h = ap (λ z. distinct (revs z)) (none_of leaves id (sym (any_distinct (map (λ (leaf : Leaf). leaf.0) leaves) id) ∙ h))

abbrev docs_by : (List ℕ → List (List ℕ)) → List (List ℕ) → DocsView
docs_by r ids = map (λ d. (d, r d)) ids

same_docs : (r r' : List ℕ → List (List ℕ)) (id : List ℕ) (ids : List (List ℕ)) → ((d : List ℕ) → bytes_eq id d ≡ false → r' d ≡ r d) → list_any (bytes_eq id) ids ≡ false → docs_by r' ids ≡ docs_by r ids
same_docs r r' id [] f h = refl
same_docs r r' id (d ∷ ds) f h =
    let p = or_parts (bytes_eq id d) (list_any (bytes_eq id) ds) h in
    ap₂ (λ (x : List (List ℕ)) (z : DocsView). (d, x) ∷ z) (f d p.0) (same_docs r r' id ds f p.1)

pair_there : (r r' : List ℕ → List (List ℕ)) (id rev : List ℕ) (ids : List (List ℕ)) → ((d : List ℕ) → bytes_eq id d ≡ false → r' d ≡ r d) → ((d : List ℕ) → bytes_eq id d ≡ true → r' d ≡ add_rev (r d) rev) → Once ids → list_any (bytes_eq id) ids ≡ true
    → docs_by r' ids ≡ add_pair (docs_by r ids) id rev
pair_there r r' id rev [] f g o h = absurd (false≢true h)
pair_there r r' id rev (d ∷ ds) f g (apart, o) h =
    elim (cases_Bool (bytes_eq id d)) [
      | inl hit ↦ ap₂ (λ (x : List (List ℕ)) (z : DocsView). (d, x) ∷ z) (g d hit) (same_docs r r' id ds f (ap (λ z. list_any (bytes_eq z) ds) (same_text id d hit) ∙ apart))
          ∙ sym (cond-true (bytes_eq id d) ((d, add_rev (r d) rev) ∷ docs_by r ds) ((d, r d) ∷ add_pair (docs_by r ds) id rev) hit)
      | inr miss ↦ ap₂ (λ (x : List (List ℕ)) (z : DocsView). (d, x) ∷ z) (f d miss) (pair_there r r' id rev ds f g o (ap (λ b. b || list_any (bytes_eq id) ds) (sym miss) ∙ h))
          ∙ sym (cond-false (bytes_eq id d) ((d, add_rev (r d) rev) ∷ docs_by r ds) ((d, r d) ∷ add_pair (docs_by r ds) id rev) miss)
    ]

pair_new : (r : List ℕ → List (List ℕ)) (id rev : List ℕ) (ids : List (List ℕ)) → list_any (bytes_eq id) ids ≡ false → docs_by r ids ++ (id, rev ∷ []) ∷ [] ≡ add_pair (docs_by r ids) id rev
pair_new r id rev [] h = refl
pair_new r id rev (d ∷ ds) h =
    let p = or_parts (bytes_eq id d) (list_any (bytes_eq id) ds) h in
    ap (λ (z : DocsView). (d, r d) ∷ z) (pair_new r id rev ds p.1) ∙ sym (cond-false (bytes_eq id d) ((d, add_rev (r d) rev) ∷ docs_by r ds) ((d, r d) ∷ add_pair (docs_by r ds) id rev) p.0)

docs_push : (leaves : List Leaf) (id rev : List ℕ) → docs_of (leaves ++ (id, rev) ∷ []) ≡ add_pair (docs_of leaves) id rev
docs_push leaves id rev =
    let ids = ids_of leaves in
    let r = revs_of leaves in
    let r' = revs_of (leaves ++ (id, rev) ∷ []) in
    elim (cases_Bool (list_any (bytes_eq id) ids)) [
      | inl hit ↦ ap (docs_by r') (ids_push leaves id rev ∙ cond-true (list_any (bytes_eq id) ids) ids (ids ++ id ∷ []) hit)
          ∙ pair_there r r' id rev ids (revs_same leaves id rev) (revs_hit leaves id rev) (once_fold [] (map (λ (leaf : Leaf). leaf.0) leaves) tt) hit
      | inr miss ↦ ap (docs_by r') (ids_push leaves id rev ∙ cond-false (list_any (bytes_eq id) ids) ids (ids ++ id ∷ []) miss)
          ∙ map-append (λ d. (d, r' d)) ids (id ∷ []) ∙ ap₂ (λ (z : DocsView) (x : List (List ℕ)). z ++ (id, x) ∷ []) (same_docs r r' id ids (revs_same leaves id rev) miss) (revs_hit leaves id rev id (text_same id) ∙ ap (λ z. add_rev z rev) (no_revs leaves id miss))
          ∙ pair_new r id rev ids miss
    ]

-- the documents after the leaves of one line more
pub docs_more : (leaves more : List Leaf) → docs_of (leaves ++ more) ≡ add_leaves (docs_of leaves) more
docs_more leaves [] = ap docs_of (append-nil leaves)
docs_more leaves (leaf ∷ more) =
    ap docs_of (sym (append_assoc leaves (leaf ∷ []) more)) ∙ docs_more (leaves ++ leaf ∷ []) more ∙ ap (λ z. add_leaves z more) (docs_push leaves leaf.0 leaf.1)
