-- Leaves that pass a test.
use Rattle.proof_prelude.proofs.{◌≡◌, inl, inr, Bool, true, false, ◌&&◌, ◌||◌, not, if◌then◌else◌, List, [], ◌∷◌, ◌++◌, filter, bytes_eq, refl, sym, ap, ap₂, subst, ◌∙◌, append_assoc, append-nil, or_cases, or_left, or_right, and_parts, and_from, and-false, or-false, false≢true, cases_Bool, list_any-append, bytes_eq-Decides}
use Rattle.relay_core.specs.Messages.{Text, DocView, RowErrorView}
use Rattle.relay_core.specs.Leaves.{has_text, names, has_id, are_distinct, is_filled, have_leaves, doc_if_any, docs_where, are_about, are_all_about, cover}

pub same_text : (a : Text) → bytes_eq a a ≡ true
same_text a = (bytes_eq-Decides a a).1 refl

pub text_is : (a b : Text) → bytes_eq a b ≡ true → a ≡ b
text_is a b e = (bytes_eq-Decides a b).0 e

-- ---- filters of texts

has_text-filter : (q : Text → Bool) (revs : List Text) (leaf : Text) → has_text revs leaf ≡ true → q leaf ≡ true → has_text (filter q revs) leaf ≡ true
has_text-filter q [] leaf has holds = absurd (false≢true has)
has_text-filter q (r ∷ revs) leaf has holds =
    elim (cases_Bool (q r)) [
      | inl keep ↦
          subst (λ (b : Bool). has_text (if b then r ∷ filter q revs else filter q revs) leaf ≡ true) (sym keep)
          (elim (or_cases (bytes_eq r leaf) (has_text revs leaf) has) [
            | inl here ↦ or_left (bytes_eq r leaf) (has_text (filter q revs) leaf) here
            | inr later ↦ or_right (bytes_eq r leaf) (has_text (filter q revs) leaf) (has_text-filter q revs leaf later holds)
          ])
      | inr lose ↦
          subst (λ (b : Bool). has_text (if b then r ∷ filter q revs else filter q revs) leaf ≡ true) (sym lose)
          (elim (or_cases (bytes_eq r leaf) (has_text revs leaf) has) [
            | inl here ↦ absurd (false≢true (sym lose ∙ ap q (text_is r leaf here) ∙ holds))
            | inr later ↦ has_text-filter q revs leaf later holds
          ])
    ]

filter-filter : (p q : Text → Bool) (xs : List Text) → filter q (filter p xs) ≡ filter (λ x. p x && q x) xs
filter-filter p q [] = refl
filter-filter p q (x ∷ xs) =
    let ih = filter-filter p q xs in
    elim (cases_Bool (p x)) [
      | inl holds ↦
          subst (λ (b : Bool). filter q (if b then x ∷ filter p xs else filter p xs) ≡ (if b && q x then x ∷ filter (λ y. p y && q y) xs else filter (λ y. p y && q y) xs)) (sym holds)
          (ap (λ (ys : List Text). if q x then x ∷ ys else ys) ih)
      | inr fails ↦
          subst (λ (b : Bool). filter q (if b then x ∷ filter p xs else filter p xs) ≡ (if b && q x then x ∷ filter (λ y. p y && q y) xs else filter (λ y. p y && q y) xs)) (sym fails) ih
    ]

filter_congr : (p q : Text → Bool) (xs : List Text) → ((x : Text) → has_text xs x ≡ true → p x ≡ q x) → filter p xs ≡ filter q xs
filter_congr p q [] same = refl
filter_congr p q (x ∷ xs) same =
    ap₂ (λ (b : Bool) (ys : List Text). if b then x ∷ ys else ys) (same x (or_left (bytes_eq x x) (has_text xs x) (same_text x)))
    (filter_congr p q xs (λ y has. same y (or_right (bytes_eq x y) (has_text xs y) has)))

-- ---- the document of some leaves

names-doc_if_any : (key : Text) (revs : List Text) (id leaf : Text) → names (doc_if_any key revs) id leaf ≡ (bytes_eq key id && has_text revs leaf)
names-doc_if_any key [] id leaf = sym (and-false (bytes_eq key id))
names-doc_if_any key (r ∷ revs) id leaf = or-false (bytes_eq key id && has_text (r ∷ revs) leaf)

docs_where-doc_if_any : (q : Text → Text → Bool) (id : Text) (revs : List Text) → docs_where q (doc_if_any id revs) ≡ doc_if_any id (filter (λ r. q id r) revs)
docs_where-doc_if_any q id [] = refl
docs_where-doc_if_any q id (r ∷ revs) = append-nil (doc_if_any id (filter (λ x. q id x) (r ∷ revs)))

docs_where-append : (q : Text → Text → Bool) (ds es : List DocView) → docs_where q (ds ++ es) ≡ docs_where q ds ++ docs_where q es
docs_where-append q [] es = refl
docs_where-append q (d ∷ ds) es =
    ap (λ (xs : List DocView). doc_if_any d.0 (filter (λ r. q d.0 r) d.1) ++ xs) (docs_where-append q ds es)
    ∙ sym (append_assoc (doc_if_any d.0 (filter (λ r. q d.0 r) d.1)) (docs_where q ds) (docs_where q es))

-- ---- documents

-- a leaf that passes is kept
pub names-docs_where : (p : Text → Text → Bool) (docs : List DocView) (id leaf : Text) → names docs id leaf ≡ true → p id leaf ≡ true → names (docs_where p docs) id leaf ≡ true
names-docs_where p [] id leaf n holds = absurd (false≢true n)
names-docs_where p (d ∷ ds) id leaf n holds =
    let test : DocView → Bool = λ x. bytes_eq x.0 id && has_text x.1 leaf in
    let first : List DocView = doc_if_any d.0 (filter (λ r. p d.0 r) d.1) in
    list_any-append test first (docs_where p ds) ∙
    elim (or_cases (bytes_eq d.0 id && has_text d.1 leaf) (names ds id leaf) n) [
      | inl here ↦
          let parts = and_parts (bytes_eq d.0 id) (has_text d.1 leaf) here in
          let kept : has_text (filter (λ r. p d.0 r) d.1) leaf ≡ true = has_text-filter (λ r. p d.0 r) d.1 leaf parts.1 (ap (λ (t : Text). p t leaf) (text_is d.0 id parts.0) ∙ holds) in
          or_left (names first id leaf) (names (docs_where p ds) id leaf)
          (names-doc_if_any d.0 (filter (λ r. p d.0 r) d.1) id leaf ∙ and_from (bytes_eq d.0 id) (has_text (filter (λ r. p d.0 r) d.1) leaf) parts.0 kept)
      | inr later ↦ or_right (names first id leaf) (names (docs_where p ds) id leaf) (names-docs_where p ds id leaf later holds)
    ]

-- two tests, one after the other
pub docs_where-docs_where : (p q : Text → Text → Bool) (docs : List DocView) → docs_where q (docs_where p docs) ≡ docs_where (λ id leaf. p id leaf && q id leaf) docs
docs_where-docs_where p q [] = refl
docs_where-docs_where p q (d ∷ ds) =
    let first : List Text = filter (λ r. p d.0 r) d.1 in
    docs_where-append q (doc_if_any d.0 first) (docs_where p ds)
    ∙ ap₂ (λ (xs ys : List DocView). xs ++ ys) (docs_where-doc_if_any q d.0 first ∙ ap (λ (revs : List Text). doc_if_any d.0 revs) (filter-filter (λ r. p d.0 r) (λ r. q d.0 r) d.1)) (docs_where-docs_where p q ds)

-- tests that agree on the leaves
pub docs_where_congr : (p q : Text → Text → Bool) (docs : List DocView) → ((id leaf : Text) → names docs id leaf ≡ true → p id leaf ≡ q id leaf) → docs_where p docs ≡ docs_where q docs
docs_where_congr p q [] same = refl
docs_where_congr p q (d ∷ ds) same =
    ap₂ (λ (revs : List Text) (xs : List DocView). doc_if_any d.0 revs ++ xs)
    (filter_congr (λ r. p d.0 r) (λ r. q d.0 r) d.1
    (λ r has. same d.0 r (or_left (bytes_eq d.0 d.0 && has_text d.1 r) (names ds d.0 r) (and_from (bytes_eq d.0 d.0) (has_text d.1 r) (same_text d.0) has))))
    (docs_where_congr p q ds (λ id leaf n. same id leaf (or_right (bytes_eq d.0 id && has_text d.1 leaf) (names ds id leaf) n)))

pub no_from_not : (b : Bool) → not b ≡ true → b ≡ false
no_from_not true e = absurd (false≢true e)
no_from_not false e = refl

no_parts : (a b : Bool) → (a || b) ≡ false → (a ≡ false) × (b ≡ false)
no_parts true b e = absurd (false≢true (sym e))
no_parts false b e = (refl, e)

has_id-first : (key : Text) (revs : List Text) (rest : List DocView) (id : Text) → bytes_eq key id ≡ false → has_id rest id ≡ false → has_id (doc_if_any key revs ++ rest) id ≡ false
has_id-first key [] rest id fails no_rest = no_rest
has_id-first key (r ∷ revs) rest id fails no_rest = ap₂ (λ (a b : Bool). a || b) fails no_rest

filter-all : (revs : List Text) → filter (λ r. true) revs ≡ revs
filter-all [] = refl
filter-all (r ∷ revs) = ap (λ (xs : List Text). r ∷ xs) (filter-all revs)

doc_if_any-filled : (id : Text) (revs : List Text) → is_filled revs ≡ true → doc_if_any id revs ≡ (id, revs) ∷ []
doc_if_any-filled id [] e = absurd (false≢true e)
doc_if_any-filled id (r ∷ revs) e = refl

-- all leaves pass
pub docs_where-all : (docs : List DocView) → have_leaves docs ≡ true → docs_where (λ id leaf. true) docs ≡ docs
docs_where-all [] e = refl
docs_where-all (d ∷ ds) e =
    let parts = and_parts (is_filled d.1) (have_leaves ds) e in
    ap₂ (λ (xs ys : List DocView). xs ++ ys) (ap (λ (revs : List Text). doc_if_any d.0 revs) (filter-all d.1) ∙ doc_if_any-filled d.0 d.1 parts.0) (docs_where-all ds parts.1)

has_id-docs_where : (p : Text → Text → Bool) (docs : List DocView) (id : Text) → has_id docs id ≡ false → has_id (docs_where p docs) id ≡ false
has_id-docs_where p [] id fails = refl
has_id-docs_where p (d ∷ ds) id fails =
    let parts = no_parts (bytes_eq d.0 id) (has_id ds id) fails in
    has_id-first d.0 (filter (λ r. p d.0 r) d.1) (docs_where p ds) id parts.0 (has_id-docs_where p ds id parts.1)

are_distinct-first : (key : Text) (revs : List Text) (rest : List DocView) → has_id rest key ≡ false → are_distinct rest ≡ true → are_distinct (doc_if_any key revs ++ rest) ≡ true
are_distinct-first key [] rest fails e = e
are_distinct-first key (r ∷ revs) rest fails e = and_from (not (has_id rest key)) (are_distinct rest) (ap not fails) e

pub are_distinct-docs_where : (p : Text → Text → Bool) (docs : List DocView) → are_distinct docs ≡ true → are_distinct (docs_where p docs) ≡ true
are_distinct-docs_where p [] e = refl
are_distinct-docs_where p (d ∷ ds) e =
    let parts = and_parts (not (has_id ds d.0)) (are_distinct ds) e in
    are_distinct-first d.0 (filter (λ r. p d.0 r) d.1) (docs_where p ds) (has_id-docs_where p ds d.0 (no_from_not (has_id ds d.0) parts.0)) (are_distinct-docs_where p ds parts.1)

-- ---- rows

about_each : (rows : List RowErrorView) (id leaf : Text) (revs : List Text) → are_all_about rows id revs ≡ true → has_text revs leaf ≡ true → are_about rows id leaf ≡ true
about_each rows id leaf [] all has = absurd (false≢true has)
about_each rows id leaf (r ∷ revs) all has =
    let parts = and_parts (are_about rows id r) (are_all_about rows id revs) all in
    elim (or_cases (bytes_eq r leaf) (has_text revs leaf) has) [
      | inl here ↦ subst (λ (t : Text). are_about rows id t ≡ true) (text_is r leaf here) parts.0
      | inr later ↦ about_each rows id leaf revs parts.1 later
    ]

-- rows that cover documents are about each of their leaves
pub about_covered : (rows : List RowErrorView) (docs : List DocView) → cover rows docs ≡ true → (id leaf : Text) → names docs id leaf ≡ true → are_about rows id leaf ≡ true
about_covered rows [] all id leaf n = absurd (false≢true n)
about_covered rows (d ∷ docs) all id leaf n =
    let parts = and_parts (are_all_about rows d.0 d.1) (cover rows docs) all in
    elim (or_cases (bytes_eq d.0 id && has_text d.1 leaf) (names docs id leaf) n) [
      | inl here ↦
          let both = and_parts (bytes_eq d.0 id) (has_text d.1 leaf) here in
          subst (λ (t : Text). are_about rows t leaf ≡ true) (text_is d.0 id both.0) (about_each rows d.0 leaf d.1 parts.0 both.1)
      | inr later ↦ about_covered rows docs parts.1 id leaf later
    ]
