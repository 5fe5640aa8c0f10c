-- The task `compare` over one line, and at the end of the input.
use Rattle.proof_prelude.proofs.{◌≡◌, ℕ, ◌+◌, Bool, true, false, ◌||◌, ◌&&◌, not, if◌then◌else◌, List, [], ◌∷◌, ◌++◌, length, length-map, map, flat_map, flat_map-append, Option, Some, option_or, is_some, unwrap_or, bytes_eq, inl, inr, refl, sym, ap, ap₂, subst, ◌∙◌, fun_ext, cases_Bool, cond-true, cond-false, append-nil, or_left, or_right, or-false, list_any, list_any-append}
use Rattle.journal_lines.specs.Docs.{DocsView, add_pair, docs_view}
use Rattle.journal_lines.specs.Entries.{EntryView, entry_in}
use Rattle.journal_tasks.specs.{HasCompared, IsComparing, IsCounting, add_leaves, compared, compared_by, counted_as, failed_end, first_part, has_leaf, has_rev, has_second_part, ids_in, is_empty_line, is_wrong, is_wrong_entry, leaves_in, list_flags, listed, named_leaves, names_id, revs_at, second_part, wrong_line}
use Rattle.journal_tasks.proofs.Asked.{leaves_in-push}
use Rattle.journal_tasks.proofs.Counts.{count_end, count_line, not_not}
use Rattle.journal_tasks.proofs.Halves.{first_all, first_break, first_done, first_push, flags_first, flags_second, flags_separator, has_second_push, second_break, second_done, second_open}
use Rattle.journal_tasks.proofs.Lookups.{leaf_stored, rev_added, some_added, some_stored}
use Rattle.journal_tasks.specs.declared.compare.Compare.{Compare}
use Rattle.journal_tasks.specs.declared.count.Count.{Count}

-- ---- a line of the first list

not_named : (id other : List ℕ) (revs : List (List ℕ)) → bytes_eq other id ≡ false → list_any (λ (leaf : List ℕ × List ℕ). bytes_eq other leaf.0) (map (λ rev. (id, rev)) revs) ≡ false
not_named id other [] h = refl
not_named id other (rev ∷ revs) h = ap₂ (λ a b. a || b) h (not_named id other revs h)

pub ids_named : (ds mid new : DocsView) (id : List ℕ) (revs : List (List ℕ)) → mid ≡ add_leaves ds (map (λ rev. (id, rev)) revs) → ((other : List ℕ) → revs_at new other ≡ (if bytes_eq other id then Some (unwrap_or (revs_at mid other) []) else revs_at mid other))
    → (other : List ℕ) → is_some (revs_at new other) ≡ (is_some (revs_at ds other) || list_any (bytes_eq other) (id ∷ []))
ids_named ds mid new id revs m n other =
    let before = is_some (revs_at ds other) in
    elim (cases_Bool (bytes_eq other id)) [
      | inl y ↦ ap is_some (n other ∙ cond-true (bytes_eq other id) (Some (unwrap_or (revs_at mid other) [])) (revs_at mid other) y) ∙ sym (or_right before (bytes_eq other id || false) (or_left (bytes_eq other id) false y))
      | inr miss ↦ ap is_some (n other ∙ cond-false (bytes_eq other id) (Some (unwrap_or (revs_at mid other) [])) (revs_at mid other) miss) ∙ ap (λ z. is_some (revs_at z other)) m ∙ some_stored ds (map (λ rev. (id, rev)) revs) other
          ∙ ap (λ b. before || b) (not_named id other revs miss ∙ sym (ap (λ b. b || false) miss))
    ]

unwrapped : (b : Bool) (o : Option (List (List ℕ))) → unwrap_or (if b then Some (unwrap_or o []) else o) [] ≡ unwrap_or o []
unwrapped true o = refl
unwrapped false o = refl

pub leaves_named : (ds mid new : DocsView) (id : List ℕ) (revs : List (List ℕ)) → mid ≡ add_leaves ds (map (λ rev. (id, rev)) revs) → ((other : List ℕ) → revs_at new other ≡ (if bytes_eq other id then Some (unwrap_or (revs_at mid other) []) else revs_at mid other))
    → (other rev : List ℕ) → has_rev new other rev ≡ (has_rev ds other rev || has_leaf (map (λ rev. (id, rev)) revs) other rev)
leaves_named ds mid new id revs m n other rev =
    ap (λ z. list_any (bytes_eq rev) (unwrap_or z [])) (n other) ∙ ap (list_any (bytes_eq rev)) (unwrapped (bytes_eq other id) (revs_at mid other)) ∙ ap (λ z. has_rev z other rev) m ∙ leaf_stored ds (map (λ rev. (id, rev)) revs) other rev

pub ids_pair : (ds new : DocsView) (id rev other : List ℕ) → new ≡ add_pair ds id rev → is_some (revs_at new other) ≡ (is_some (revs_at ds other) || list_any (bytes_eq other) (id ∷ []))
ids_pair ds new id rev other n = ap (λ z. is_some (revs_at z other)) n ∙ some_added ds id rev other ∙ ap (λ b. is_some (revs_at ds other) || b) (sym (or-false (bytes_eq other id)))

pub leaves_pair : (ds new : DocsView) (id r other rev : List ℕ) → new ≡ add_pair ds id r → has_rev new other rev ≡ (has_rev ds other rev || has_leaf ((id, r) ∷ []) other rev)
leaves_pair ds new id r other rev n = ap (λ z. has_rev z other rev) n ∙ rev_added ds id r other rev ∙ ap (λ b. has_rev ds other rev || b) (sym (or-false (bytes_eq other id && bytes_eq rev r)))

names_push : (f : List (List ℕ)) (line id : List ℕ) → names_id (f ++ line ∷ []) id ≡ (names_id f id || list_any (bytes_eq id) (ids_in (entry_in line)))
names_push f line id =
    ap (list_any (bytes_eq id)) (flat_map-append (λ z. ids_in (entry_in z)) f (line ∷ []) ∙ ap (λ z. flat_map (λ z. ids_in (entry_in z)) f ++ z) (append-nil (ids_in (entry_in line))))
    ∙ list_any-append (bytes_eq id) (flat_map (λ z. ids_in (entry_in z)) f) (ids_in (entry_in line))

leaf_push : (f : List (List ℕ)) (line id rev : List ℕ) → has_leaf (leaves_in (f ++ line ∷ [])) id rev ≡ (has_leaf (leaves_in f) id rev || has_leaf (listed (entry_in line)) id rev)
leaf_push f line id rev =
    ap (λ z. has_leaf z id rev) (leaves_in-push f line) ∙ list_any-append (λ (leaf : List ℕ × List ℕ). bytes_eq id leaf.0 && bytes_eq rev leaf.1) (leaves_in f) (listed (entry_in line))

pub compare_first : (documents : Bool) (lines : List (List ℕ)) (text line : List ℕ) (old new : Compare) (after : Count) (right : Bool) (e : EntryView) → IsComparing documents lines text old → old.in_second ≡ false → is_empty_line line ≡ false → e ≡ entry_in line
    → after ≡ record { lines = old.count.lines + 1; wrong = old.count.wrong } → right ≡ not (is_wrong_entry e) → new.count ≡ counted_as (not right) after → new.documents ≡ old.documents → new.in_second ≡ old.in_second
    → ((id : List ℕ) → is_some (revs_at (docs_view new.docs) id) ≡ (is_some (revs_at (docs_view old.docs) id) || list_any (bytes_eq id) (ids_in e)))
    → ((id rev : List ℕ) → has_rev (docs_view new.docs) id rev ≡ (has_rev (docs_view old.docs) id rev || has_leaf (listed e) id rev)) → IsComparing documents (lines ++ line ∷ []) (text ++ []) new
compare_first documents lines text line old new after right e k closed full is a r c o i d l =
    let before = sym k.part ∙ closed in
    let f = first_part lines in
    let first = first_push lines line before full in
    let ended : has_second_part (lines ++ line ∷ []) ≡ false = has_second_push lines line ∙ ap₂ (λ a b. a || b) before full in
    let wrong : not right ≡ is_wrong line = ap not r ∙ not_not (is_wrong_entry e) ∙ ap is_wrong_entry is in
    record {
      counting = subst (λ z. IsCounting (λ wrong. wrong) z new.count) (sym (flags_first is_wrong is_wrong lines line before full)) (count_line (λ wrong. wrong) (list_flags lines) (is_wrong line) old.count after new.count (is_wrong line) k.counting a refl (c ∙ ap (λ b. counted_as b after) wrong));
      documents_is = o ∙ k.documents_is;
      part = i ∙ closed ∙ sym ended;
      ids_are = λ id. d id ∙ ap₂ (λ a b. a || b) (k.ids_are id) (ap (λ z. list_any (bytes_eq id) (ids_in z)) is) ∙ sym (names_push f line id) ∙ ap (λ z. names_id z id) (sym first);
      leaves_are = λ id rev. l id rev ∙ ap₂ (λ a b. a || b) (k.leaves_are id rev) (ap (λ z. has_leaf (listed z) id rev) is) ∙ sym (leaf_push f line id rev) ∙ ap (λ z. has_leaf (leaves_in z) id rev) (sym first);
      text_is = append-nil text ∙ k.text_is ∙ ap (flat_map (compared documents f)) (second_open lines before) ∙ sym (ap (flat_map (compared documents (first_part (lines ++ line ∷ [])))) (second_open (lines ++ line ∷ []) ended));
    }

pub compare_separator : (documents : Bool) (lines : List (List ℕ)) (text line : List ℕ) (old new : Compare) → IsComparing documents lines text old → old.in_second ≡ false → is_empty_line line ≡ true → new.count ≡ record { lines = old.count.lines + 1; wrong = old.count.wrong } → new.documents ≡ old.documents
    → new.in_second ≡ true → new.docs ≡ old.docs → IsComparing documents (lines ++ line ∷ []) (text ++ []) new
compare_separator documents lines text line old new k closed none c o i d =
    let before = sym k.part ∙ closed in
    let f = first_part lines in
    let first = first_break lines line before none in
    record {
      counting = subst (λ z. IsCounting (λ wrong. wrong) z new.count) (sym (flags_separator is_wrong is_wrong lines line before none)) (count_line (λ wrong. wrong) (list_flags lines) false old.count new.count new.count false k.counting c refl refl);
      documents_is = o ∙ k.documents_is;
      part = i ∙ sym (has_second_push lines line ∙ ap₂ (λ a b. a || b) before none);
      ids_are = λ id. ap (λ z. is_some (revs_at (docs_view z) id)) d ∙ k.ids_are id ∙ ap (λ z. names_id z id) (sym first);
      leaves_are = λ id rev. ap (λ z. has_rev (docs_view z) id rev) d ∙ k.leaves_are id rev ∙ ap (λ z. has_leaf (leaves_in z) id rev) (sym first);
      text_is = append-nil text ∙ k.text_is ∙ ap (flat_map (compared documents f)) (second_open lines before) ∙ sym (ap (flat_map (compared documents (first_part (lines ++ line ∷ [])))) (second_break lines line before none));
    }

-- ---- a line of the second list

pub compare_second : (documents : Bool) (lines : List (List ℕ)) (text line added : List ℕ) (old new : Compare) (after : Count) (right : Bool) (e : EntryView) → IsComparing documents lines text old → old.in_second ≡ true → e ≡ entry_in line → after ≡ record { lines = old.count.lines + 1; wrong = old.count.wrong }
    → right ≡ not (is_wrong_entry e) → new.count ≡ counted_as (not right) after → new.documents ≡ old.documents → new.in_second ≡ old.in_second → new.docs ≡ old.docs
    → added ≡ flat_map (compared_by old.documents (λ id. is_some (revs_at (docs_view old.docs) id)) (has_rev (docs_view old.docs))) (named_leaves e) → IsComparing documents (lines ++ line ∷ []) (text ++ added) new
compare_second documents lines text line added old new after right e k opened is a r c o i d t =
    let before = sym k.part ∙ opened in
    let f = first_part lines in
    let first = first_done lines line before in
    let second = second_done lines line before in
    let wrong : not right ≡ is_wrong line = ap not r ∙ not_not (is_wrong_entry e) ∙ ap is_wrong_entry is in
    let knows : (λ id. is_some (revs_at (docs_view old.docs) id)) ≡ names_id f = fun_ext k.ids_are in
    let has : has_rev (docs_view old.docs) ≡ has_leaf (leaves_in f) = fun_ext (λ id. fun_ext (k.leaves_are id)) in
    let printed : added ≡ compared documents f line =
    t ∙ ap (λ z. flat_map (compared_by z (λ id. is_some (revs_at (docs_view old.docs) id)) (has_rev (docs_view old.docs))) (named_leaves e)) k.documents_is ∙ ap (λ z. flat_map (compared_by documents z (has_rev (docs_view old.docs))) (named_leaves e)) knows
    ∙ ap (λ z. flat_map (compared_by documents (names_id f) z) (named_leaves e)) has ∙ ap (λ z. flat_map (compared_by documents (names_id f) (has_leaf (leaves_in f))) (named_leaves z)) is in
    record {
      counting = subst (λ z. IsCounting (λ wrong. wrong) z new.count) (sym (flags_second is_wrong is_wrong lines line before)) (count_line (λ wrong. wrong) (list_flags lines) (is_wrong line) old.count after new.count (is_wrong line) k.counting a refl (c ∙ ap (λ b. counted_as b after) wrong));
      documents_is = o ∙ k.documents_is;
      part = i ∙ opened ∙ sym (has_second_push lines line ∙ ap (λ b. b || is_empty_line line) before);
      ids_are = λ id. ap (λ z. is_some (revs_at (docs_view z) id)) d ∙ k.ids_are id ∙ ap (λ z. names_id z id) (sym first);
      leaves_are = λ id rev. ap (λ z. has_rev (docs_view z) id rev) d ∙ k.leaves_are id rev ∙ ap (λ z. has_leaf (leaves_in z) id rev) (sym first);
      text_is = ap₂ (λ x y. x ++ y) k.text_is (printed ∙ sym (append-nil (compared documents f line))) ∙ sym (flat_map-append (compared documents f) (second_part lines) (line ∷ []))
          ∙ ap₂ (λ x y. flat_map (compared documents x) y) (sym first) (sym second);
    }

-- ---- the end

flags_length : (lines : List (List ℕ)) → has_second_part lines ≡ false → length (list_flags lines) ≡ length lines
flags_length lines h =
    ap (λ b. length (map is_wrong (first_part lines) ++ (if b then false ∷ map is_wrong (second_part lines) else []))) h ∙ ap length (append-nil (map is_wrong (first_part lines))) ∙ length-map (first_part lines) is_wrong ∙ ap length (first_all lines h)

pub compare_early : (documents : Bool) (lines : List (List ℕ)) (text rest added : List ℕ) (old new : Compare) → IsComparing documents lines text old → old.in_second ≡ false → new.count.wrong ≡ option_or (failed_end old.count.wrong old.count.lines rest) (Some old.count.lines) → added ≡ [] → HasCompared documents lines rest (text ++ added) new
compare_early documents lines text rest added old new k closed w t =
    let before = sym k.part ∙ closed in
    record {
      text_is = ap (λ z. text ++ z) t ∙ append-nil text ∙ k.text_is;
      wrong = w ∙ ap₂ (λ x y. option_or x (Some y)) (count_end (λ wrong. wrong) (list_flags lines) rest old.count (failed_end old.count.wrong old.count.lines rest) k.counting refl) (k.counting.lines_is ∙ flags_length lines before)
          ∙ sym (cond-false (has_second_part lines) (wrong_line (λ wrong. wrong) (list_flags lines) rest) (option_or (wrong_line (λ wrong. wrong) (list_flags lines) rest) (Some (length lines))) before);
    }
