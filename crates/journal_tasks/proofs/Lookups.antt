-- The documents and leaves that are stored.
use Rattle.proof_prelude.proofs.{◌≡◌, ℕ, ◌+◌, suc, Bool, true, false, ◌||◌, ◌&&◌, if◌then◌else◌, List, [], ◌∷◌, ◌++◌, drop, drop-cons, slice_get, slice_get_within, get_or_from_slice_get, add-one, flat_map, map, Bor, Option, None, Some, option_map, is_some, unwrap_or, bytes_eq, Global, String, string_bytes, inl, inr, refl, sym, ap, ap₂, ◌∙◌, fun_ext, cases_Bool, cond-false, append_assoc, or_assoc, or-false, list_any, lookup}
use Rattle.std.specs.String.{string_eq}
use Rattle.indexmap.specs.IndexMap.{insert_entry}
use Rattle.indexmap.specs.IndexSet.{IndexSet}
use Rattle.journal_lines.specs.Docs.{DocsView, add_pair, add_rev, doc_view}
use Rattle.journal_lines.specs.Lists.{texts_of}
use Rattle.journal_tasks.specs.Documents.{add_leaves, has_leaf, has_rev, revs_at}
use Rattle.journal_tasks.specs.Missing.{missing_line, missing_lines}
use Rattle.journal_tasks.proofs.Documents.{any_added, eq_sym, same_text}

abbrev Entries : Type 0 → Type 0
Entries S = List (String Global × IndexSet (String Global) S)

-- ---- one entry of a map

-- an entry, and the entries after it
pub at_entry : {A : Type 0} (es : List A) (i : ℕ) (e : A) → slice_get es i ≡ Some e → drop i es ≡ e ∷ drop (i + 1) es
at_entry es i e h = drop-cons es i e (slice_get_within es i e h) ∙ ap (λ y. y ∷ drop (suc i) es) (get_or_from_slice_get es i e e h) ∙ ap (λ n. e ∷ drop n es) (sym (add-one i))

-- a document more is written
pub doc_written : {S A : Type 0} (write : List ℕ × List (List ℕ) → List A) (es : Entries S) (i : ℕ) (k : String Global) (x : IndexSet (String Global) S) (id : List ℕ) (revs : List (String Global)) (old new all : List A)
    → Some (k, x) ≡ slice_get es i → id ≡ string_bytes k → revs ≡ x.keys → new ≡ old ++ write (id, texts_of revs) → old ++ flat_map write (map doc_view (drop i es)) ≡ all → new ++ flat_map write (map doc_view (drop (i + 1) es)) ≡ all
doc_written {S} write es i k x id revs old new all entry a b new_is before =
    let rest = flat_map write (map doc_view (drop (i + 1) es)) in
    ap (λ z. z ++ rest) (new_is ∙ ap₂ (λ y z. old ++ write (y, texts_of z)) a b) ∙ append_assoc old (write (string_bytes k, texts_of x.keys)) rest
    ∙ ap (λ (l : Entries S). old ++ flat_map write (map doc_view l)) (sym (at_entry es i (k, x) (sym entry))) ∙ before

-- ---- the revisions of a document

option_if : {A B : Type 0} (f : A → B) (b : Bool) (x : A) (o : Option A) → option_map f (if b then Some x else o) ≡ (if b then Some (f x) else option_map f o)
option_if f true x o = refl
option_if f false x o = refl

copied : {S : Type 0} (o : Option (Bor (IndexSet (String Global) S))) → option_map (λ (r : Bor (IndexSet (String Global) S)). texts_of r.now.keys) o ≡ option_map (λ (s : IndexSet (String Global) S). texts_of s.keys) (option_map (λ r. r.now) o)
copied None = refl
copied (Some r) = refl

found : {S : Type 0} (es : Entries S) (id : List ℕ) → option_map (λ (s : IndexSet (String Global) S). texts_of s.keys) (lookup (λ (k : String Global). bytes_eq id (string_bytes k)) es) ≡ revs_at (map doc_view es) id
found [] id = refl
found {S} (e ∷ es) id =
    option_if (λ (s : IndexSet (String Global) S). texts_of s.keys) (bytes_eq id (string_bytes e.0)) e.1 (lookup (λ (k : String Global). bytes_eq id (string_bytes k)) es)
    ∙ ap (λ z. if bytes_eq id (string_bytes e.0) then Some (texts_of e.1.keys) else z) (found es id)

-- the revisions of a document that is looked up
pub revs_found : {S : Type 0} (es : Entries S) (id : List ℕ) (o : Option (Bor (IndexSet (String Global) S))) → option_map (λ r. r.now) o ≡ lookup (λ (k : String Global). bytes_eq id (string_bytes k)) es
    → option_map (λ (r : Bor (IndexSet (String Global) S)). texts_of r.now.keys) o ≡ revs_at (map doc_view es) id
revs_found {S} es id o e = copied o ∙ ap (option_map (λ (s : IndexSet (String Global) S). texts_of s.keys)) e ∙ found es id

pub any_key : (ks : List (String Global)) (rev : List ℕ) → list_any (λ (k : String Global). bytes_eq rev (string_bytes k)) ks ≡ list_any (bytes_eq rev) (texts_of ks)
any_key [] rev = refl
any_key (k ∷ ks) rev = ap (λ b. bytes_eq rev (string_bytes k) || b) (any_key ks rev)

-- whether a document that is looked up has a revision
pub rev_found : (docs : DocsView) (id rev : List ℕ) (ks : List (String Global)) (b : Bool) → Some (texts_of ks) ≡ revs_at docs id → b ≡ list_any (λ (k : String Global). bytes_eq rev (string_bytes k)) ks → b ≡ has_rev docs id rev
rev_found docs id rev ks b e h = h ∙ any_key ks rev ∙ ap (λ o. list_any (bytes_eq rev) (unwrap_or o [])) e

-- ---- after one leaf more

abbrev added_to : Option (List (List ℕ)) → List ℕ → Option (List (List ℕ))
added_to o rev = Some (add_rev (unwrap_or o []) rev)

revs_added : (ds : DocsView) (id rev d : List ℕ) → revs_at (add_pair ds id rev) d ≡ (if bytes_eq d id then added_to (revs_at ds d) rev else revs_at ds d)
revs_added [] id rev d = refl
revs_added (x ∷ ds) id rev d =
    elim (cases_Bool (bytes_eq id x.0)) [
      | inl hit ↦ rw hit (elim (cases_Bool (bytes_eq d x.0)) [
        | inl y ↦ rw (ap (bytes_eq d) (same_text id x.0 hit), y) refl
        | inr n ↦ rw (ap (bytes_eq d) (same_text id x.0 hit), n) refl
      ])
      | inr miss ↦ rw miss (elim (cases_Bool (bytes_eq d x.0)) [
        | inl y ↦ let no : bytes_eq d id ≡ false = ap (λ z. bytes_eq z id) (same_text d x.0 y) ∙ eq_sym x.0 id ∙ miss in rw (y, no) refl
        | inr n ↦ rw n (revs_added ds id rev d)
      ])
    ]

some_if : (b : Bool) (o : Option (List (List ℕ))) (rev : List ℕ) → is_some (if b then added_to o rev else o) ≡ (is_some o || b)
some_if true None rev = refl
some_if true (Some x) rev = refl
some_if false None rev = refl
some_if false (Some x) rev = refl

pub some_added : (ds : DocsView) (id rev d : List ℕ) → is_some (revs_at (add_pair ds id rev) d) ≡ (is_some (revs_at ds d) || bytes_eq d id)
some_added ds id rev d = ap is_some (revs_added ds id rev d) ∙ some_if (bytes_eq d id) (revs_at ds d) rev

any_if : (b : Bool) (o : Option (List (List ℕ))) (rev r : List ℕ) → list_any (bytes_eq r) (unwrap_or (if b then added_to o rev else o) []) ≡ (list_any (bytes_eq r) (unwrap_or o []) || b && bytes_eq r rev)
any_if true o rev r = any_added (unwrap_or o []) rev r
any_if false o rev r = sym (or-false (list_any (bytes_eq r) (unwrap_or o [])))

pub rev_added : (ds : DocsView) (id rev d r : List ℕ) → has_rev (add_pair ds id rev) d r ≡ (has_rev ds d r || bytes_eq d id && bytes_eq r rev)
rev_added ds id rev d r = ap (λ o. list_any (bytes_eq r) (unwrap_or o [])) (revs_added ds id rev d) ∙ any_if (bytes_eq d id) (revs_at ds d) rev r

pub some_stored : (ds : DocsView) (leaves : List (List ℕ × List ℕ)) (d : List ℕ) → is_some (revs_at (add_leaves ds leaves) d) ≡ (is_some (revs_at ds d) || list_any (λ leaf. bytes_eq d leaf.0) leaves)
some_stored ds [] d = sym (or-false (is_some (revs_at ds d)))
some_stored ds (l ∷ ls) d =
    some_stored (add_pair ds l.0 l.1) ls d ∙ ap (λ b. b || list_any (λ leaf. bytes_eq d leaf.0) ls) (some_added ds l.0 l.1 d) ∙ or_assoc (is_some (revs_at ds d)) (bytes_eq d l.0) (list_any (λ leaf. bytes_eq d leaf.0) ls)

-- the leaves that are stored
pub leaf_stored : (ds : DocsView) (leaves : List (List ℕ × List ℕ)) (d r : List ℕ) → has_rev (add_leaves ds leaves) d r ≡ (has_rev ds d r || has_leaf leaves d r)
leaf_stored ds [] d r = sym (or-false (has_rev ds d r))
leaf_stored ds (l ∷ ls) d r =
    leaf_stored (add_pair ds l.0 l.1) ls d r ∙ ap (λ b. b || has_leaf ls d r) (rev_added ds l.0 l.1 d r) ∙ or_assoc (has_rev ds d r) (bytes_eq d l.0 && bytes_eq r l.1) (has_leaf ls d r)

-- ---- after a document is inserted

pub inserted_at : {S : Type 0} (es : Entries S) (k : String Global) (s : IndexSet (String Global) S) (d : List ℕ) → revs_at (map doc_view (insert_entry string_eq es k s)) d ≡ (if bytes_eq d (string_bytes k) then Some (texts_of s.keys) else revs_at (map doc_view es) d)
inserted_at [] k s d = refl
inserted_at (e ∷ es) k s d =
    let id = string_bytes k in
    elim (cases_Bool (bytes_eq (string_bytes k) (string_bytes e.0))) [
      | inl hit ↦ rw hit (elim (cases_Bool (bytes_eq d (string_bytes e.0))) [
        | inl y ↦ rw (ap (bytes_eq d) (same_text (string_bytes k) (string_bytes e.0) hit), y) refl
        | inr n ↦ rw (ap (bytes_eq d) (same_text (string_bytes k) (string_bytes e.0) hit), n) refl
      ])
      | inr miss ↦ rw miss (elim (cases_Bool (bytes_eq d (string_bytes e.0))) [
        | inl y ↦ let no : bytes_eq d (string_bytes k) ≡ false = ap (λ z. bytes_eq z (string_bytes k)) (same_text d (string_bytes e.0) y) ∙ eq_sym (string_bytes e.0) (string_bytes k) ∙ miss in rw (y, no) refl
        | inr n ↦ rw n (inserted_at es k s d)
      ])
    ]

some_is : (o : Option (List (List ℕ))) → is_some o ≡ true → o ≡ Some (unwrap_or o [])
some_is None h = cc
some_is (Some x) h = refl

none_is : (o : Option (List (List ℕ))) → is_some o ≡ false → unwrap_or o [] ≡ []
none_is None h = refl
none_is (Some x) h = cc

-- the document is inserted without revisions
pub doc_added : {S : Type 0} (es new : Entries S) (k : String Global) (s : IndexSet (String Global) S) (id other : List ℕ) → string_bytes k ≡ id → s.keys ≡ [] → new ≡ insert_entry string_eq es k s → is_some (revs_at (map doc_view es) id) ≡ false
    → revs_at (map doc_view new) other ≡ (if bytes_eq other id then Some (unwrap_or (revs_at (map doc_view es) other) []) else revs_at (map doc_view es) other)
doc_added {S} es new k s id other e empty n h =
    let o = revs_at (map doc_view es) other in
    ap (λ (z : Entries S). revs_at (map doc_view z) other) n ∙ inserted_at es k s other ∙ ap₂ (λ z x. if bytes_eq other z then Some x else o) e (ap texts_of empty)
    ∙ elim (cases_Bool (bytes_eq other id)) [
      | inl y ↦ ap (λ x. if bytes_eq other id then Some x else o) (sym (none_is o (ap (λ z. is_some (revs_at (map doc_view es) z)) (same_text other id y) ∙ h)))
      | inr n' ↦ cond-false (bytes_eq other id) (Some []) o n' ∙ sym (cond-false (bytes_eq other id) (Some (unwrap_or o [])) o n')
    ]

-- ---- what a response names as missing

pub missing_found : (docs : DocsView) (o : Option (List (List ℕ × List ℕ))) (m : DocsView) → Some m ≡ option_map (add_leaves []) o → flat_map (missing_line (has_rev m)) docs ≡ missing_lines docs o
missing_found docs None m e = cc
missing_found docs (Some leaves) m e =
    let same : m ≡ add_leaves [] leaves = ap (λ o. unwrap_or o []) e in
    ap (λ (h : List ℕ → List ℕ → Bool). flat_map (missing_line h) docs) (fun_ext (λ id. fun_ext (λ rev. ap (λ z. has_rev z id rev) same ∙ leaf_stored [] leaves id rev)))
