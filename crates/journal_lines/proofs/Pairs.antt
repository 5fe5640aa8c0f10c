-- Revisions by document.
use Rattle.proof_prelude.proofs.{◌≡◌, ℕ, List, [], ◌∷◌, ◌++◌, if◌then◌else◌, Bool, true, false, ◌||◌, inl, inr, Option, Some, None, map, refl, sym, ap, ◌∙◌, arith, bytes_eq, cases_Bool, bytes_eq-Decides, common_steps, String, string_bytes, Global, list_any, lookup}
use Rattle.std.specs.String.{string_eq}
use Rattle.indexmap.specs.IndexMap.{insert_entry}
use Rattle.indexmap.specs.IndexSet.{IndexSet, insert_key}
use Rattle.journal_lines.specs.Lists.{texts_of}
use Rattle.journal_lines.specs.Docs.{DocsView, add_pair, add_rev, doc_view, keys_or_none}

abbrev pub Entries : Type 0 → Type 0
Entries S = List (String Global × IndexSet (String Global) S)

-- these revisions in the place of those of a document
abbrev pub put : DocsView → List ℕ → List (List ℕ) → DocsView
put [] id revs = (id, revs) ∷ []
put (d ∷ ds) id revs = if bytes_eq id d.0 then (d.0, revs) ∷ ds else d ∷ put ds id revs

abbrev pub revs_at : DocsView → List ℕ → List (List ℕ)
revs_at [] id = []
revs_at (d ∷ ds) id = if bytes_eq id d.0 then d.1 else revs_at ds id

inserted : {S : Type 0} (es : Entries S) (k : String Global) (s : IndexSet (String Global) S)
    → map doc_view (insert_entry string_eq es k s) ≡ put (map doc_view es) (string_bytes k) (texts_of s.keys)
inserted [] k s = refl
inserted (e ∷ es) k s =
    elim (cases_Bool (bytes_eq (string_bytes k) (string_bytes e.0))) [
      | inl hit ↦ rw hit refl
      | inr miss ↦ rw miss (ap (λ z. doc_view e ∷ z) (inserted es k s))
    ]

same_bytes : (id : List ℕ) → bytes_eq id id ≡ true
same_bytes id = (bytes_eq-Decides id id).1 refl

put_again : (ds : DocsView) (id : List ℕ) (a b : List (List ℕ)) → put (put ds id a) id b ≡ put ds id b
put_again [] id a b = rw (same_bytes id) refl
put_again (d ∷ ds) id a b =
    elim (cases_Bool (bytes_eq id d.0)) [
      | inl hit ↦ rw (hit, hit) refl
      | inr miss ↦ rw (miss, miss) (ap (λ z. d ∷ z) (put_again ds id a b))
    ]

found : {S : Type 0} (es : Entries S) (k : String Global) → texts_of (keys_or_none (lookup (string_eq k) es)) ≡ revs_at (map doc_view es) (string_bytes k)
found [] k = refl
found (e ∷ es) k =
    elim (cases_Bool (bytes_eq (string_bytes k) (string_bytes e.0))) [
      | inl hit ↦ rw hit refl
      | inr miss ↦ rw miss (found es k)
    ]

put_added : (ds : DocsView) (id rev : List ℕ) → put ds id (add_rev (revs_at ds id) rev) ≡ add_pair ds id rev
put_added [] id rev = refl
put_added (d ∷ ds) id rev =
    elim (cases_Bool (bytes_eq id d.0)) [
      | inl hit ↦ rw hit refl
      | inr miss ↦ rw miss (ap (λ z. d ∷ z) (put_added ds id rev))
    ]

any_text : (ks : List (String Global)) (k : String Global) → list_any (string_eq k) ks ≡ list_any (bytes_eq (string_bytes k)) (texts_of ks)
any_text [] k = refl
any_text (x ∷ ks) k = ap (λ b. bytes_eq (string_bytes k) (string_bytes x) || b) (any_text ks k)

pub texts_added : (ks : List (String Global)) (k : String Global) → texts_of (insert_key string_eq ks k) ≡ add_rev (texts_of ks) (string_bytes k)
texts_added ks k =
    elim (cases_Bool (list_any (string_eq k) ks)) [
      | inl hit ↦ rw (sym (any_text ks k), hit) refl
      | inr miss ↦ rw (sym (any_text ks k), miss) (grind (arith, common_steps))
    ]

-- the entries after a set of revisions is taken out, gets one more, and is put back
pub pair_added : {S : Type 0} (es mid new : Entries S) (k k' r : String Global) (none old more : IndexSet (String Global) S) (id rev : List ℕ)
    → string_bytes k ≡ id → string_bytes k' ≡ id → string_bytes r ≡ rev → mid ≡ insert_entry string_eq es k none → old.keys ≡ keys_or_none (lookup (string_eq k) es)
    → more.keys ≡ insert_key string_eq old.keys r → new ≡ insert_entry string_eq mid k' more → map doc_view new ≡ add_pair (map doc_view es) id rev
pair_added es mid new k k' r none old more id rev a a' b m o e n =
    let ds = map doc_view es in
    let revs = texts_added old.keys r in
    let before : map doc_view mid ≡ put ds id (texts_of none.keys) = ap (map doc_view) m ∙ inserted es k none ∙ ap (λ z. put ds z (texts_of none.keys)) a in
    let known : texts_of old.keys ≡ revs_at ds id = ap texts_of o ∙ found es k ∙ ap (revs_at ds) a in
    let now : texts_of more.keys ≡ add_rev (revs_at ds id) rev = ap texts_of e ∙ revs ∙ ap (λ z. add_rev z (string_bytes r)) known ∙ ap (add_rev (revs_at ds id)) b in
    ap (map doc_view) n ∙ inserted mid k' more ∙ ap (λ z. put z (string_bytes k') (texts_of more.keys)) before ∙ ap (λ z. put (put ds id (texts_of none.keys)) z (texts_of more.keys)) a'
    ∙ put_again ds id (texts_of none.keys) (texts_of more.keys) ∙ ap (put ds id) now ∙ put_added ds id rev
