-- Maps and sets whose keys are references to texts.
use Rattle.std.proofs.Common.{◌≡◌, ℕ, ◌+◌, ◌<◌, suc, Bool, true, false, cond, ◌||◌, if◌then◌else◌, List, [], ◌∷◌, ◌++◌, length, drop, get_or, slice_get, Option, None, Some, refl, sym, ap, ◌∙◌, add-one, append_assoc, drop-cons}
use Rattle.std.specs.Prelude.{bytes_eq, string_bytes, String}
use Rattle.std.specs.Borrow.{Bor}
use Rattle.std.specs.Global.{Global}
use Rattle.std.specs.List.{list_any}
use Rattle.std.specs.Map.{lookup}
use Rattle.std.proofs.lemmas.Option.{slice_get_within, get_or_from_slice_get}
use Rattle.json.specs.Json.{Json}
use Rattle.json.specs.Value.{value_view, members_view}
use Rattle.json.specs.declared.value.Value.{Value}
use Rattle.indexmap.specs.IndexMap.{insert_entry}
use Rattle.indexmap.specs.IndexSet.{IndexSet, insert_key}
use Rattle.relay_core.specs.Messages.{Text, DocView}
use Rattle.relay_core.specs.Views.{texts_of, doc_view, docs_view}
use Rattle.relay_core.specs.declared.messages.DocLeaves.{DocLeaves}
use Rattle.relay_core.proofs.Filtering.{same_text}
use Rattle.relay_core.proofs.Lists.{at_drop}
use Rattle.relay_responses.specs.Maps.{texts_in, values_in, docs_in, texts_or_none}
use Rattle.relay_responses.specs.Pages.{add_revs, add_row}
use Rattle.relay_responses.specs.Diffs.{last_members, missing_at, each_missing}
use Rattle.relay_responses.specs.Read.{prepend, with_first}

-- whether two references are to one text
abbrev pub same_ref : Bor Text → Bor Text → Bool
same_ref a b = bytes_eq a.now b.now

-- an entry, and the entries after it
pub at_entry : {A : Type 0} (es : List A) (i : ℕ) (e : A) → slice_get es i ≡ Some e → drop i es ≡ e ∷ drop (i + 1) es
at_entry es i e h =
    drop-cons es i e (slice_get_within es i e h) ∙ ap (λ y. y ∷ drop (suc i) es) (get_or_from_slice_get es i e e h) ∙ ap (λ n. e ∷ drop n es) (sym (add-one i))

-- ---- sets of texts

snoc : (ks : List (Bor Text)) (k : Bor Text) → texts_in (ks ++ k ∷ []) ≡ texts_in ks ++ k.now ∷ []
snoc [] k = refl
snoc (x ∷ xs) k = ap (λ ts. x.now ∷ ts) (snoc xs k)

-- whether a text is among the texts of references
among : (t : Text) (ks : List (Bor Text)) → list_any (λ (k : Bor Text). bytes_eq t k.now) ks ≡ list_any (bytes_eq t) (texts_in ks)
among t [] = refl
among t (k ∷ ks) = ap (λ b. bytes_eq t k.now || b) (among t ks)

inserted : (b : Bool) (ks : List (Bor Text)) (k : Bor Text) → texts_in (if b then ks else ks ++ k ∷ []) ≡ (if b then texts_in ks else texts_in ks ++ k.now ∷ [])
inserted true ks k = refl
inserted false ks k = snoc ks k

-- the texts of a set after an insertion
pub texts_in-insert : (ks : List (Bor Text)) (k : Bor Text) → texts_in (insert_key same_ref ks k) ≡ add_revs (texts_in ks) (k.now ∷ [])
texts_in-insert ks k =
    inserted (list_any (λ (x : Bor Text). bytes_eq k.now x.now) ks) ks k ∙ ap (λ b. if b then texts_in ks else texts_in ks ++ k.now ∷ []) (among k.now ks)

-- a revision more is added
pub add_revs-next : (revs : List (String Global)) (i : ℕ) (x : String Global) (k : Bor Text) (old new : List (Bor Text)) (all : List Text)
    → i < length revs → x ≡ get_or revs i x → k.now ≡ string_bytes x → new ≡ insert_key same_ref old k
    → add_revs (texts_in old) (texts_of (drop i revs)) ≡ all → add_revs (texts_in new) (texts_of (drop (i + 1) revs)) ≡ all
add_revs-next revs i x k old new all l is k_is new_is before =
    let rest : List Text = texts_of (drop (i + 1) revs) in
    ap (λ (ks : List (Bor Text)). add_revs (texts_in ks) rest) new_is ∙ ap (λ (ts : List Text). add_revs ts rest) (texts_in-insert old k)
    ∙ ap (λ (t : Text). add_revs (texts_in old) (t ∷ rest)) k_is
    ∙ ap (λ (ss : List (String Global)). add_revs (texts_in old) (texts_of ss)) (sym (at_drop revs i x l is)) ∙ before

-- ---- maps of JSON values

value_step : (b : Bool) (e : Bor Text × Bor (Value Global)) (es rest : List (Bor Text × Bor (Value Global))) (x : Bor (Value Global)) (more : List (Text × Json))
    → values_in rest ≡ more → values_in (if b then (e.0, x) ∷ es else e ∷ rest) ≡ (if b then (e.0.now, value_view x.now) ∷ values_in es else (e.0.now, value_view e.1.now) ∷ more)
value_step true e es rest x more h = refl
value_step false e es rest x more h = ap (λ m. (e.0.now, value_view e.1.now) ∷ m) h

-- the values after an insertion
pub values_in-insert : (es : List (Bor Text × Bor (Value Global))) (k : Bor Text) (x : Bor (Value Global)) → values_in (insert_entry same_ref es k x) ≡ insert_entry bytes_eq (values_in es) k.now (value_view x.now)
values_in-insert [] k x = refl
values_in-insert (e ∷ es) k x = value_step (bytes_eq k.now e.0.now) e es (insert_entry same_ref es k x) x (insert_entry bytes_eq (values_in es) k.now (value_view x.now)) (values_in-insert es k x)

-- a member more is found
pub last_members-next : (ms : List (Bor Text × Value Global)) (i : ℕ) (m : Bor Text × Value Global) (x : Bor (Value Global)) (old new : List (Bor Text × Bor (Value Global))) (all : List (Text × Json))
    → i < length ms → m ≡ get_or ms i m → x.now ≡ m.1 → new ≡ insert_entry same_ref old m.0 x
    → last_members (values_in old) (members_view (drop i ms)) ≡ all → last_members (values_in new) (members_view (drop (i + 1) ms)) ≡ all
last_members-next ms i m x old new all l is x_is new_is before =
    let rest = members_view (drop (i + 1) ms) in
    ap (λ (es : List (Bor Text × Bor (Value Global))). last_members (values_in es) rest) new_is
    ∙ ap (λ (es : List (Text × Json)). last_members es rest) (values_in-insert old m.0 x)
    ∙ ap (λ (v : Value Global). last_members (insert_entry bytes_eq (values_in old) m.0.now (value_view v)) rest) x_is
    ∙ ap (λ (es : List (Bor Text × Value Global)). last_members (values_in old) (members_view es)) (sym (at_drop ms i m l is)) ∙ before

-- ---- maps of documents

module _ {S : Type 0} where
  again_step : (c : Bool) (e : Bor Text × IndexSet (Bor Text) S) (es : List (Bor Text × IndexSet (Bor Text) S)) (k l : Bor Text) (a b : IndexSet (Bor Text) S)
      → same_ref l e.0 ≡ c → docs_in (insert_entry same_ref (insert_entry same_ref es k a) l b) ≡ docs_in (insert_entry same_ref es l b)
      → docs_in (insert_entry same_ref (if c then (e.0, a) ∷ es else e ∷ insert_entry same_ref es k a) l b) ≡ docs_in (if c then (e.0, b) ∷ es else e ∷ insert_entry same_ref es l b)
  again_step true e es k l a b h rest = ap (λ (d : Bool). docs_in (if d then (e.0, b) ∷ es else (e.0, a) ∷ insert_entry same_ref es l b)) h
  again_step false e es k l a b h rest =
      ap (λ (d : Bool). docs_in (if d then (e.0, b) ∷ insert_entry same_ref es k a else e ∷ insert_entry same_ref (insert_entry same_ref es k a) l b)) h
      ∙ ap (λ (m : List DocView). (e.0.now, texts_in e.1.keys) ∷ m) rest

  -- the second of two insertions of one id counts
  inserted_again : (es : List (Bor Text × IndexSet (Bor Text) S)) (k l : Bor Text) (a b : IndexSet (Bor Text) S) → k.now ≡ l.now
      → docs_in (insert_entry same_ref (insert_entry same_ref es k a) l b) ≡ docs_in (insert_entry same_ref es l b)
  inserted_again [] k l a b h =
      ap (λ (d : Bool). docs_in (if d then (k, b) ∷ [] else (k, a) ∷ (l, b) ∷ [])) (ap (λ (t : Text). bytes_eq l.now t) h ∙ same_text l.now)
      ∙ ap (λ (t : Text). (t, texts_in b.keys) ∷ []) h
  inserted_again (e ∷ es) k l a b h =
      ap (λ (d : Bool). docs_in (insert_entry same_ref (if d then (e.0, a) ∷ es else e ∷ insert_entry same_ref es k a) l b)) (ap (λ (t : Text). bytes_eq t e.0.now) h)
      ∙ again_step (same_ref l e.0) e es k l a b refl (inserted_again es k l a b h)

  row_step : (c : Bool) (e : Bor Text × IndexSet (Bor Text) S) (es rest : List (Bor Text × IndexSet (Bor Text) S)) (more : List DocView) (r : List Text) (x : IndexSet (Bor Text) S) (o : Option (IndexSet (Bor Text) S))
      → (texts_in x.keys ≡ add_revs (texts_or_none o) r → docs_in rest ≡ more) → texts_in x.keys ≡ add_revs (texts_or_none (cond c (Some e.1) o)) r
      → docs_in (if c then (e.0, x) ∷ es else e ∷ rest) ≡ (if c then (e.0.now, add_revs (texts_in e.1.keys) r) ∷ docs_in es else (e.0.now, texts_in e.1.keys) ∷ more)
  row_step true e es rest more r x o h t = ap (λ (ts : List Text). (e.0.now, ts) ∷ docs_in es) t
  row_step false e es rest more r x o h t = ap (λ (m : List DocView). (e.0.now, texts_in e.1.keys) ∷ m) (h t)

  -- the documents after the set of an id is stored
  docs_in-insert : (es : List (Bor Text × IndexSet (Bor Text) S)) (k : Bor Text) (r : List Text) (x : IndexSet (Bor Text) S)
      → texts_in x.keys ≡ add_revs (texts_or_none (lookup (same_ref k) es)) r → docs_in (insert_entry same_ref es k x) ≡ add_row (docs_in es) (k.now, r)
  docs_in-insert [] k r x t = ap (λ (ts : List Text). (k.now, ts) ∷ []) t
  docs_in-insert (e ∷ es) k r x t =
      row_step (same_ref k e.0) e es (insert_entry same_ref es k x) (add_row (docs_in es) (k.now, r)) r x (lookup (same_ref k) es) (λ u. docs_in-insert es k r x u) t

  -- a row is added: the set of its id is taken out, gets the row's leaves, and is stored again
  pub row_added : (es mid new : List (Bor Text × IndexSet (Bor Text) S)) (k l : Bor Text) (id : Text) (r : List Text) (empty x : IndexSet (Bor Text) S) (o : Option (IndexSet (Bor Text) S)) (known : List Text)
      → k.now ≡ id → l.now ≡ id → o ≡ lookup (same_ref k) es → known ≡ texts_or_none o → texts_in x.keys ≡ add_revs known r
      → mid ≡ insert_entry same_ref es k empty → new ≡ insert_entry same_ref mid l x → docs_in new ≡ add_row (docs_in es) (id, r)
  row_added es mid new k l id r empty x o known k_is l_is o_is known_is x_is mid_is new_is =
      let same : k.now ≡ l.now = k_is ∙ sym l_is in
      let lookups : lookup (same_ref k) es ≡ lookup (same_ref l) es = ap (λ (t : Text). lookup (λ (b : Bor Text). bytes_eq t b.now) es) same in
      let texts : texts_in x.keys ≡ add_revs (texts_or_none (lookup (same_ref l) es)) r = x_is ∙ ap (λ (ts : List Text). add_revs ts r) (known_is ∙ ap texts_or_none (o_is ∙ lookups)) in
      ap docs_in new_is ∙ ap (λ (m : List (Bor Text × IndexSet (Bor Text) S)). docs_in (insert_entry same_ref m l x)) mid_is
      ∙ inserted_again es k l empty x same ∙ docs_in-insert es l r x texts ∙ ap (λ (t : Text). add_row (docs_in es) (t, r)) l_is

-- ---- what is copied, by index

docs-snoc : (ds : List DocLeaves) (d : DocLeaves) → docs_view (ds ++ d ∷ []) ≡ docs_view ds ++ doc_view d ∷ []
docs-snoc [] d = refl
docs-snoc (x ∷ xs) d = ap (λ vs. doc_view x ∷ vs) (docs-snoc xs d)

-- a document more is copied
pub copied-next : {S : Type 0} (es : List (Bor Text × IndexSet (Bor Text) S)) (i : ℕ) (k : Bor Text) (x : IndexSet (Bor Text) S) (d : DocLeaves) (old new : List DocLeaves) (all : List DocView)
    → Some (k, x) ≡ slice_get es i → doc_view d ≡ (k.now, texts_in x.keys) → new ≡ old ++ d ∷ []
    → docs_view old ++ docs_in (drop i es) ≡ all → docs_view new ++ docs_in (drop (i + 1) es) ≡ all
copied-next {S} es i k x d old new all entry d_is new_is before =
    let rest : List DocView = docs_in (drop (i + 1) es) in
    ap (λ (ds : List DocLeaves). docs_view ds ++ rest) new_is ∙ ap (λ (vs : List DocView). vs ++ rest) (docs-snoc old d)
    ∙ append_assoc (docs_view old) (doc_view d ∷ []) rest ∙ ap (λ (v : DocView). docs_view old ++ v ∷ rest) d_is
    ∙ ap (λ (l : List (Bor Text × IndexSet (Bor Text) S)). docs_view old ++ docs_in l) (sym (at_entry es i (k, x) (sym entry))) ∙ before

prepend-first : (xs : List DocView) (x : DocView) (o : Option (List DocView)) → prepend (xs ++ x ∷ []) o ≡ prepend xs (with_first (Some x) o)
prepend-first xs x None = refl
prepend-first xs x (Some ys) = ap Some (append_assoc xs (x ∷ []) ys)

-- a document more is read
pub each_missing-next : (es : List (Bor Text × Bor (Value Global))) (i : ℕ) (k : Bor Text) (v : Bor (Value Global)) (d : DocLeaves) (old new : List DocLeaves) (all : Option (List DocView))
    → Some (k, v) ≡ slice_get es i → Some (doc_view d) ≡ missing_at (k.now, value_view v.now) → new ≡ old ++ d ∷ []
    → prepend (docs_view old) (each_missing (values_in (drop i es))) ≡ all → prepend (docs_view new) (each_missing (values_in (drop (i + 1) es))) ≡ all
each_missing-next es i k v d old new all entry d_is new_is before =
    let rest : Option (List DocView) = each_missing (values_in (drop (i + 1) es)) in
    ap (λ (ds : List DocLeaves). prepend (docs_view ds) rest) new_is ∙ ap (λ (vs : List DocView). prepend vs rest) (docs-snoc old d)
    ∙ prepend-first (docs_view old) (doc_view d) rest ∙ ap (λ (m : Option DocView). prepend (docs_view old) (with_first m rest)) d_is
    ∙ ap (λ (l : List (Bor Text × Bor (Value Global))). prepend (docs_view old) (each_missing (values_in l))) (sym (at_entry es i (k, v) (sym entry))) ∙ before

-- a member that is no document
pub each_missing-stops : (es : List (Bor Text × Bor (Value Global))) (i : ℕ) (k : Bor Text) (v : Bor (Value Global)) (old : List DocView) (all : Option (List DocView))
    → Some (k, v) ≡ slice_get es i → None ≡ missing_at (k.now, value_view v.now) → prepend old (each_missing (values_in (drop i es))) ≡ all → None ≡ all
each_missing-stops es i k v old all entry none before =
    let rest : Option (List DocView) = each_missing (values_in (drop (i + 1) es)) in
    ap (λ (m : Option DocView). prepend old (with_first m rest)) none
    ∙ ap (λ (l : List (Bor Text × Bor (Value Global))). prepend old (each_missing (values_in l))) (sym (at_entry es i (k, v) (sym entry))) ∙ before
