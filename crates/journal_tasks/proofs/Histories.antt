-- The stored revisions of documents, after one line more.
use Rattle.proof_prelude.proofs.{◌≡◌, ℕ, ◌+◌, Bool, true, false, not, if◌then◌else◌, List, [], ◌∷◌, ◌++◌, filter, filter-append, flat_map-append, fold, map, map-append, Option, bytes_eq, Global, String, string_bytes, Vec, inl, inr, refl, sym, ap, ap₂, ◌∙◌, cases_Bool, cond-true, cond-false, append_assoc, append-nil, or_parts, list_any, lookup}
use Rattle.std.proofs.lemmas.List.Sums.{fold-append}
use Rattle.std.specs.String.{string_eq}
use Rattle.indexmap.specs.IndexMap.{insert_entry}
use Rattle.journal_lines.specs.Entries.{EntryView, entry_in}
use Rattle.journal_lines.specs.Leafs.{HeadView}
use Rattle.journal_lines.specs.declared.leaf.Leaf.{Leaf}
use Rattle.journal_tasks.specs.{HistoriesView, IsConflicting, add_entry_head, add_head, add_history, counted_as, distinct, head_of, heads_in, heads_of, heads_view, histories_of, histories_view, is_wrong, is_wrong_entry, leaves_or_none, put_at, value_at}
use Rattle.journal_tasks.proofs.Counts.{count_line, not_not}
use Rattle.journal_tasks.proofs.Documents.{any_distinct, distinct_push, eq_sym, once_fold, text_same}
use Rattle.journal_tasks.proofs.Stated.{docs_at, docs_by, docs_put, put_again}
use Rattle.journal_tasks.specs.declared.count.Count.{Count}
use Rattle.journal_tasks.specs.declared.conflicts.Conflicts.{Conflicts}

-- ---- the stored documents

abbrev Entries : Type 0
Entries = List (String Global × Vec Leaf Global)

abbrev pub doc_heads : String Global × Vec Leaf Global → List ℕ × List HeadView
doc_heads entry = (string_bytes entry.0, heads_view entry.1.items)

inserted : (es : Entries) (k : String Global) (v : Vec Leaf Global) → map doc_heads (insert_entry string_eq es k v) ≡ put_at (map doc_heads es) (string_bytes k) (heads_view v.items)
inserted [] k v = refl
inserted (e ∷ es) k v =
    elim (cases_Bool (bytes_eq (string_bytes k) (string_bytes e.0))) [
      | inl hit ↦ rw hit refl
      | inr miss ↦ rw miss (ap (λ (z : HistoriesView). doc_heads e ∷ z) (inserted es k v))
    ]

found : (es : Entries) (k : String Global) → heads_view (leaves_or_none (lookup (string_eq k) es)) ≡ value_at [] (map doc_heads es) (string_bytes k)
found [] k = refl
found (e ∷ es) k =
    elim (cases_Bool (bytes_eq (string_bytes k) (string_bytes e.0))) [
      | inl hit ↦ rw hit refl
      | inr miss ↦ rw miss (found es k)
    ]

-- the revisions of a document are taken out and put back
pub history_added : (es mid new : Entries) (k k' : String Global) (none after : Vec Leaf Global) (took : List Leaf) (old : Option (Vec Leaf Global)) (head : HeadView) → string_bytes k ≡ head.0 → string_bytes k' ≡ head.0 → none.items ≡ []
    → old ≡ lookup (string_eq k) es → mid ≡ insert_entry string_eq es k none → took ≡ leaves_or_none old → heads_view after.items ≡ add_head (heads_view took) head → new ≡ insert_entry string_eq mid k' after → map doc_heads new ≡ add_history (map doc_heads es) head
history_added es mid new k k' none after took old head e e' empty o m t a n =
    let docs = map doc_heads es in
    ap (map doc_heads) n ∙ inserted mid k' after
    ∙ ap₂ (λ (z : HistoriesView) (x : List ℕ). put_at z x (heads_view after.items)) (ap (map doc_heads) m ∙ inserted es k none ∙ ap (λ x. put_at docs x (heads_view none.items)) e) e'
    ∙ put_again docs head.0 (heads_view none.items) (heads_view after.items)
    ∙ ap (put_at docs head.0) (a ∙ ap (λ (z : List Leaf). add_head (heads_view z) head) (t ∙ ap leaves_or_none o) ∙ ap (λ (z : List HeadView). add_head z head) (found es k) ∙ ap (λ x. add_head (value_at [] docs x) head) e)

-- ---- the documents after one head more

one_more : (b : Bool) (before : List HeadView) (head : HeadView) → fold add_head [] (before ++ (if b then head ∷ [] else [])) ≡ (if b then add_head (fold add_head [] before) head else fold add_head [] before)
one_more true before head = fold-append add_head [] before (head ∷ [])
one_more false before head = ap (fold add_head []) (append-nil before)

heads_push : (heads : List HeadView) (head : HeadView) (d : List ℕ) → heads_of (heads ++ head ∷ []) d ≡ (if bytes_eq d head.0 then add_head (heads_of heads d) head else heads_of heads d)
heads_push heads head d =
    ap (fold add_head []) (filter-append (λ (h : HeadView). bytes_eq d h.0) heads (head ∷ [])) ∙ one_more (bytes_eq d head.0) (filter (λ (h : HeadView). bytes_eq d h.0) heads) head

none_of : (heads : List HeadView) (id : List ℕ) → list_any (bytes_eq id) (map (λ (h : HeadView). h.0) heads) ≡ false → filter (λ (h : HeadView). bytes_eq id h.0) heads ≡ []
none_of [] id h = refl
none_of (head ∷ heads) id h =
    let p = or_parts (bytes_eq id head.0) (list_any (bytes_eq id) (map (λ (h : HeadView). h.0) heads)) h in
    cond-false (bytes_eq id head.0) (head ∷ filter (λ (h : HeadView). bytes_eq id h.0) heads) (filter (λ (h : HeadView). bytes_eq id h.0) heads) p.0 ∙ none_of heads id p.1

stored_at : (heads : List HeadView) (id : List ℕ) → value_at [] (histories_of heads) id ≡ heads_of heads id
stored_at heads id =
    let names = map (λ (h : HeadView). h.0) heads in
    docs_at [] (heads_of heads) (distinct names) id ∙ elim (cases_Bool (list_any (bytes_eq id) (distinct names))) [
      | inl hit ↦ cond-true (list_any (bytes_eq id) (distinct names)) (heads_of heads id) [] hit
      | inr miss ↦ cond-false (list_any (bytes_eq id) (distinct names)) (heads_of heads id) [] miss ∙ sym (ap (fold add_head []) (none_of heads id (sym (any_distinct names id) ∙ miss)))
    ]

history_push : (heads : List HeadView) (head : HeadView) → histories_of (heads ++ head ∷ []) ≡ add_history (histories_of heads) head
history_push heads head =
    let names = map (λ (h : HeadView). h.0) heads in
    let f = heads_of heads in
    let f' = heads_of (heads ++ head ∷ []) in
    ap (λ z. docs_by f' (distinct z)) (map-append (λ (h : HeadView). h.0) heads (head ∷ [])) ∙ ap (docs_by f') (distinct_push names head.0)
    ∙ docs_put f f' head.0 (add_head (value_at [] (histories_of heads) head.0) head) (distinct names)
    (λ d miss. heads_push heads head d ∙ cond-false (bytes_eq d head.0) (add_head (f d) head) (f d) (eq_sym d head.0 ∙ miss))
    (heads_push heads head head.0 ∙ cond-true (bytes_eq head.0 head.0) (add_head (f head.0) head) (f head.0) (text_same head.0) ∙ ap (λ (z : List HeadView). add_head z head) (sym (stored_at heads head.0)))
    (once_fold [] names tt)

histories_more : (heads more : List HeadView) → histories_of (heads ++ more) ≡ fold add_history (histories_of heads) more
histories_more heads [] = ap histories_of (append-nil heads)
histories_more heads (head ∷ more) =
    ap histories_of (sym (append_assoc heads (head ∷ []) more)) ∙ histories_more (heads ++ head ∷ []) more ∙ ap (λ (z : HistoriesView). fold add_history z more) (history_push heads head)

heads_line : (lines : List (List ℕ)) (line : List ℕ) → heads_in (lines ++ line ∷ []) ≡ heads_in lines ++ head_of (entry_in line)
heads_line lines line =
    let f : List ℕ → List HeadView = λ z. head_of (entry_in z) in
    flat_map-append f lines (line ∷ []) ∙ ap (λ (z : List HeadView). heads_in lines ++ z) (append-nil (f line))

-- the task over one line
pub conflict_line : (lines : List (List ℕ)) (text line added : List ℕ) (old new : Conflicts) (after : Count) (right : Bool) (e : EntryView) → e ≡ entry_in line → IsConflicting lines text old → after ≡ record { lines = old.count.lines + 1; wrong = old.count.wrong } → right ≡ not (is_wrong_entry e)
    → histories_view new.docs ≡ add_entry_head (histories_view old.docs) e → new.count ≡ counted_as (not right) after → added ≡ [] → IsConflicting (lines ++ line ∷ []) (text ++ added) new
conflict_line lines text line added old new after right e is k a r d n t = record {
  counting = count_line is_wrong lines line old.count after new.count (not right) k.counting a (ap not r ∙ not_not (is_wrong_entry e) ∙ ap is_wrong_entry is) n;
  docs_are = d ∙ ap₂ add_entry_head k.docs_are is ∙ sym (histories_more (heads_in lines) (head_of (entry_in line))) ∙ ap histories_of (sym (heads_line lines line));
  text_is = ap (λ z. text ++ z) t ∙ append-nil text ∙ k.text_is;
}
