-- The table of `lacks` lines.
use Rattle.proof_prelude.proofs.{◌≡◌, ℕ, ◌+◌, Bool, true, false, ◌||◌, not, if◌then◌else◌, is_some, codes, List, [], ◌∷◌, ◌++◌, length, arith, filter, filter-append, drop, map, map-append, slice_get, Option, None, Some, bytes_eq, Global, String, string_bytes, Vec, inl, inr, refl, sym, ap, ap₂, ◌∙◌, cases_Bool, cond-true, cond-false, append-nil, append_assoc, or_parts, or-false, list_any, list_any-append, true≢false}
use Rattle.std.specs.String.{string_eq}
use Rattle.std.proofs.lemmas.List.Sums.{fold-append}
use Rattle.indexmap.specs.IndexMap.{insert_entry, shift_remove_entry}
use Rattle.journal_lines.specs.Entries.{EntryView, entry_in, leaf_or_wrong, lacks_or_leaf, state_or_other, state_or_wrong, state, lacks, leaf, wrong}
use Rattle.journal_lines.specs.Leafs.{HeadView, line_head}
use Rattle.journal_lines.specs.Lists.{LeavesView, leaves_in}
use Rattle.journal_lines.specs.Texts.{after}
use Rattle.journal_tasks.specs.{is_told_of, is_told, lacks_line_of, lacks_text, noted, noted_all, noted_by, open_lacks, put_at, tells, texts_in, without}
use Rattle.journal_tasks.proofs.Documents.{eq_sym, same_text}
use Rattle.journal_tasks.proofs.Lookups.{at_entry}

abbrev Table : Type 0
Table = List (List ℕ × List ℕ)

abbrev Entries : Type 0
Entries = List (String Global × Vec ℕ Global)

abbrev line_view : String Global × Vec ℕ Global → List ℕ × List ℕ
line_view entry = (string_bytes entry.0, entry.1.items)

-- ---- one entry

removed : (es : Entries) (id : List ℕ) → map line_view (shift_remove_entry (λ (k : String Global). bytes_eq id (string_bytes k)) es) ≡ without id (map line_view es)
removed [] id = refl
removed (e ∷ es) id =
    elim (cases_Bool (bytes_eq id (string_bytes e.0))) [
      | inl hit ↦ rw hit refl
      | inr miss ↦ rw miss (ap (λ (z : Table). line_view e ∷ z) (removed es id))
    ]

pub line_removed : (es new : Entries) (id : List ℕ) → new ≡ shift_remove_entry (λ (k : String Global). bytes_eq id (string_bytes k)) es → map line_view new ≡ without id (map line_view es)
line_removed es new id e = ap (map line_view) e ∙ removed es id

inserted : (es : Entries) (k : String Global) (v : Vec ℕ Global) → map line_view (insert_entry string_eq es k v) ≡ put_at (map line_view es) (string_bytes k) v.items
inserted [] k v = refl
inserted (e ∷ es) k v =
    elim (cases_Bool (bytes_eq (string_bytes k) (string_bytes e.0))) [
      | inl hit ↦ rw hit refl
      | inr miss ↦ rw miss (ap (λ (z : Table). line_view e ∷ z) (inserted es k v))
    ]

pub line_put : (old mid new : Entries) (k : String Global) (v : Vec ℕ Global) (id line : List ℕ) → map line_view mid ≡ without id (map line_view old) → string_bytes k ≡ id → v.items ≡ line → new ≡ insert_entry string_eq mid k v → map line_view new ≡ put_at (without id (map line_view old)) id line
line_put old mid new k v id line m i l n = ap (map line_view) n ∙ inserted mid k v ∙ ap (λ (z : Table). put_at z (string_bytes k) v.items) m ∙ ap₂ (λ (x y : List ℕ). put_at (without id (map line_view old)) x y) i l

pub line_written : (es : Entries) (i : ℕ) (k : String Global) (v : Vec ℕ Global) (line old mid new all : List ℕ) → Some (k, v) ≡ slice_get es i → line ≡ v.items → mid ≡ old ++ line → new ≡ mid ++ codes "\n" → old ++ lacks_text (map line_view (drop i es)) ≡ all → new ++ lacks_text (map line_view (drop (i + 1) es)) ≡ all
line_written es i k v line old mid new all entry l m n before =
    let rest = lacks_text (map line_view (drop (i + 1) es)) in
    ap (λ z. z ++ rest) (n ∙ ap (λ z. z ++ codes "\n") (m ∙ ap (λ z. old ++ z) l) ∙ append_assoc old v.items (codes "\n")) ∙ append_assoc old (v.items ++ codes "\n") rest
    ∙ ap (λ (z : Entries). old ++ lacks_text (map line_view z)) (sym (at_entry es i (k, v) (sym entry))) ∙ before

-- ---- lines that are not told

none_is : (o : Option (List ℕ)) → is_some o ≡ false → o ≡ None
none_is None h = refl
none_is (Some x) h = absurd (true≢false h)

by_head : (line : List ℕ) (o : Option HeadView) (t : Table) → noted_by line (leaf_or_wrong o) t ≡ t
by_head line None t = refl
by_head line (Some head) t = refl

by_state : (line : List ℕ) (o : Option LeavesView) → noted_by line (state_or_wrong o) [] ≡ []
by_state line None = refl
by_state line (Some leaves) = refl

no_lacks : (line : List ℕ) (o : Option (List ℕ)) → after (codes "lacks ") line ≡ None → noted_by line (state_or_other line o) [] ≡ []
no_lacks line (Some rest) h = by_state line (leaves_in rest)
no_lacks line None h = ap (λ o. noted_by line (lacks_or_leaf line o) []) h ∙ by_head line (line_head line) []

-- the table is empty, and the line is no `lacks` line
pub noted_none : (line : List ℕ) (b : Bool) (t : Table) → b ≡ is_some (after (codes "lacks ") line) → b ≡ false → t ≡ [] → t ≡ noted t line
noted_none line b t e f n = n ∙ sym (ap (λ (z : Table). noted z line) n ∙ no_lacks line (after (codes "state ") line) (none_is (after (codes "lacks ") line) (sym e ∙ f)))

pub noted_untold : (line : List ℕ) (t : Table) → is_told line ≡ false → noted t line ≡ t
noted_untold line t h =
    let p = or_parts (is_some (after (codes "state ") line)) (is_some (after (codes "lacks ") line)) h in
    ap (λ o. noted_by line (state_or_other line o) t) (none_is (after (codes "state ") line) p.0) ∙ ap (λ o. noted_by line (lacks_or_leaf line o) t) (none_is (after (codes "lacks ") line) p.1) ∙ by_head line (line_head line) t

-- ---- the lines of a block

pub noted_push : (lines : List (List ℕ)) (line : List ℕ) (t : Table) → noted_all (lines ++ line ∷ []) t ≡ noted (noted_all lines t) line
noted_push lines line t = fold-append noted t lines (line ∷ [])

pub kept_told : (old new : List (Vec ℕ Global)) (v : Vec ℕ Global) (line : List ℕ) (t : Table) → new ≡ old ++ v ∷ [] → v.items ≡ line → noted_all (texts_in new) t ≡ noted (noted_all (texts_in old) t) line
kept_told old new v line t n i =
    ap (λ (z : List (Vec ℕ Global)). noted_all (texts_in z) t) n ∙ ap (λ z. noted_all z t) (map-append (λ (x : Vec ℕ Global). x.items) old (v ∷ []) ∙ ap (λ (z : List ℕ). texts_in old ++ z ∷ []) i) ∙ noted_push (texts_in old) line t

-- ---- the open `lacks` lines after one line more

abbrev left_by : List ℕ → Table → Table
left_by line t = filter (λ row. not (tells row.0 line)) t

abbrev untold_in : List (List ℕ) → Table → Table
untold_in lines t = filter (λ row. not (list_any (tells row.0) lines)) t

neither : (a b : Bool) (x : List ℕ × List ℕ) (line : List ℕ) (xs ys : Table) → tells x.0 line ≡ b → xs ≡ filter (λ row. not (tells row.0 line)) ys → (if not (a || b) then x ∷ xs else xs) ≡ filter (λ row. not (tells row.0 line)) (if not a then x ∷ ys else ys)
neither true b x line xs ys h e = e
neither false true x line xs ys h e = e ∙ sym (cond-false (not (tells x.0 line)) (x ∷ left_by line ys) (left_by line ys) (ap not h))
neither false false x line xs ys h e = ap (λ (z : Table). x ∷ z) e ∙ sym (cond-true (not (tells x.0 line)) (x ∷ left_by line ys) (left_by line ys) (ap not h))

untold_push : (lines : List (List ℕ)) (line : List ℕ) (t : Table) → untold_in (lines ++ line ∷ []) t ≡ left_by line (untold_in lines t)
untold_push lines line [] = refl
untold_push lines line (x ∷ t) =
    ap (λ b. if not b then x ∷ untold_in (lines ++ line ∷ []) t else untold_in (lines ++ line ∷ []) t) (list_any-append (tells x.0) lines (line ∷ []) ∙ ap (λ b. list_any (tells x.0) lines || b) (or-false (tells x.0 line)))
    ∙ neither (list_any (tells x.0) lines) (tells x.0 line) x line (untold_in (lines ++ line ∷ []) t) (untold_in lines t) refl (untold_push lines line t)

all_left : (t : Table) → filter (λ (row : List ℕ × List ℕ). not false) t ≡ t
all_left [] = refl
all_left (x ∷ t) = ap (λ (z : Table). x ∷ z) (all_left t)

open_push : (lines : List (List ℕ)) (line : List ℕ) → open_lacks (lines ++ line ∷ []) ≡ left_by line (open_lacks lines) ++ lacks_line_of line (entry_in line)
open_push [] line = append-nil (untold_in [] (lacks_line_of line (entry_in line))) ∙ all_left (lacks_line_of line (entry_in line))
open_push (x ∷ lines) line =
    ap₂ (λ (a b : Table). a ++ b) (untold_push lines line (lacks_line_of x (entry_in x))) (open_push lines line) ∙ sym (append_assoc (left_by line (untold_in lines (lacks_line_of x (entry_in x)))) (left_by line (open_lacks lines)) (lacks_line_of line (entry_in line)))
    ∙ ap (λ (z : Table). z ++ lacks_line_of line (entry_in line)) (sym (filter-append (λ row. not (tells row.0 line)) (untold_in lines (lacks_line_of x (entry_in x))) (open_lacks lines)))

abbrev has_doc : List ℕ → Table → Bool
has_doc id t = list_any (λ row. bytes_eq id row.0) t

abbrev Alone : Table → Type 0
Alone [] = Unit {0}
Alone (x ∷ t) = (has_doc x.0 t ≡ false) × Alone t

one_absent : (b : Bool) (id : List ℕ) (x : List ℕ × List ℕ) → bytes_eq x.0 id ≡ false → has_doc id (if b then x ∷ [] else []) ≡ false
one_absent true id x h = ap (λ c. c || false) (eq_sym id x.0 ∙ h)
one_absent false id x h = refl

entry_absent : (lines : List (List ℕ)) (line id : List ℕ) (e : EntryView) → is_told_of id e ≡ false → has_doc id (untold_in lines (lacks_line_of line e)) ≡ false
entry_absent lines line id (state leaves) h = refl
entry_absent lines line id (lacks leaves) h = one_absent (not (list_any (tells leaves.1) lines)) id (leaves.1, line) h
entry_absent lines line id (leaf head) h = refl
entry_absent lines line id wrong h = refl

open_absent : (lines : List (List ℕ)) (id : List ℕ) → list_any (tells id) lines ≡ false → has_doc id (open_lacks lines) ≡ false
open_absent [] id h = refl
open_absent (x ∷ lines) id h =
    let p = or_parts (tells id x) (list_any (tells id) lines) h in
    list_any-append (λ (row : List ℕ × List ℕ). bytes_eq id row.0) (untold_in lines (lacks_line_of x (entry_in x))) (open_lacks lines) ∙ ap₂ (λ a b. a || b) (entry_absent lines x id (entry_in x) p.0) (open_absent lines id p.1)

alone_one : (lines : List (List ℕ)) (b : Bool) (x : List ℕ × List ℕ) → list_any (tells x.0) lines ≡ b → Alone (open_lacks lines) → Alone ((if not b then x ∷ [] else []) ++ open_lacks lines)
alone_one lines true x h a = a
alone_one lines false x h a = (open_absent lines x.0 h, a)

alone_entry : (lines : List (List ℕ)) (line : List ℕ) (e : EntryView) → Alone (open_lacks lines) → Alone (untold_in lines (lacks_line_of line e) ++ open_lacks lines)
alone_entry lines line (state leaves) a = a
alone_entry lines line (lacks leaves) a = alone_one lines (list_any (tells leaves.1) lines) (leaves.1, line) refl a
alone_entry lines line (leaf head) a = a
alone_entry lines line wrong a = a

open_alone : (lines : List (List ℕ)) → Alone (open_lacks lines)
open_alone [] = tt
open_alone (x ∷ lines) = alone_entry lines x (entry_in x) (open_alone lines)

none_left : (id : List ℕ) (t : Table) → has_doc id t ≡ false → filter (λ row. not (bytes_eq id row.0)) t ≡ t
none_left id [] h = refl
none_left id (x ∷ t) h =
    let p = or_parts (bytes_eq id x.0) (has_doc id t) h in
    cond-true (not (bytes_eq id x.0)) (x ∷ filter (λ row. not (bytes_eq id row.0)) t) (filter (λ row. not (bytes_eq id row.0)) t) (ap not p.0) ∙ ap (λ (z : Table). x ∷ z) (none_left id t p.1)

without_is : (id : List ℕ) (t : Table) → Alone t → without id t ≡ filter (λ row. not (bytes_eq id row.0)) t
without_is id [] a = refl
without_is id (x ∷ t) (apart, a) =
    let rest = filter (λ (row : List ℕ × List ℕ). not (bytes_eq id row.0)) t in
    elim (cases_Bool (bytes_eq id x.0)) [
      | inl hit ↦ cond-true (bytes_eq id x.0) t (x ∷ without id t) hit ∙ sym (none_left id t (ap (λ z. has_doc z t) (same_text id x.0 hit) ∙ apart)) ∙ sym (cond-false (not (bytes_eq id x.0)) (x ∷ rest) rest (ap not hit))
      | inr miss ↦ cond-false (bytes_eq id x.0) t (x ∷ without id t) miss ∙ ap (λ (z : Table). x ∷ z) (without_is id t a) ∙ sym (cond-true (not (bytes_eq id x.0)) (x ∷ rest) rest (ap not miss))
    ]

without_none : (id : List ℕ) (t : Table) → Alone t → has_doc id (without id t) ≡ false
without_none id [] a = refl
without_none id (x ∷ t) (apart, a) =
    elim (cases_Bool (bytes_eq id x.0)) [
      | inl hit ↦ ap (has_doc id) (cond-true (bytes_eq id x.0) t (x ∷ without id t) hit) ∙ ap (λ z. has_doc z t) (same_text id x.0 hit) ∙ apart
      | inr miss ↦ ap (has_doc id) (cond-false (bytes_eq id x.0) t (x ∷ without id t) miss) ∙ ap₂ (λ b c. b || c) miss (without_none id t a)
    ]

put_absent : (id line : List ℕ) (t : Table) → has_doc id t ≡ false → put_at t id line ≡ t ++ (id, line) ∷ []
put_absent id line [] h = refl
put_absent id line (x ∷ t) h =
    let p = or_parts (bytes_eq id x.0) (has_doc id t) h in
    cond-false (bytes_eq id x.0) ((x.0, line) ∷ t) (x ∷ put_at t id line) p.0 ∙ ap (λ (z : Table). x ∷ z) (put_absent id line t p.1)

noted_is : (line : List ℕ) (e : EntryView) (t : Table) → Alone t → noted_by line e t ≡ filter (λ row. not (is_told_of row.0 e)) t ++ lacks_line_of line e
noted_is line (state leaves) t a = without_is leaves.1 t a ∙ sym (append-nil (filter (λ (row : List ℕ × List ℕ). not (bytes_eq leaves.1 row.0)) t))
noted_is line (lacks leaves) t a = put_absent leaves.1 line (without leaves.1 t) (without_none leaves.1 t a) ∙ ap (λ (z : Table). z ++ (leaves.1, line) ∷ []) (without_is leaves.1 t a)
noted_is line (leaf head) t a = sym (append-nil (filter (λ (row : List ℕ × List ℕ). not false) t) ∙ all_left t)
noted_is line wrong t a = sym (append-nil (filter (λ (row : List ℕ × List ℕ). not false) t) ∙ all_left t)

pub open_more : (lines : List (List ℕ)) (line : List ℕ) → open_lacks (lines ++ line ∷ []) ≡ noted (open_lacks lines) line
open_more lines line = open_push lines line ∙ sym (noted_is line (entry_in line) (open_lacks lines) (open_alone lines))

-- the open lines after the lines of a block
pub open_block : (lines block : List (List ℕ)) → open_lacks (lines ++ block) ≡ noted_all block (open_lacks lines)
open_block lines [] = ap open_lacks (append-nil lines)
open_block lines (line ∷ block) = ap open_lacks (sym (append_assoc lines (line ∷ []) block)) ∙ open_block (lines ++ line ∷ []) block ∙ ap (noted_all block) (open_more lines line)

-- nothing is stored
pub none_stored : (es : Entries) → length es ≡ 0 → map line_view es ≡ []
none_stored [] h = refl
none_stored (e ∷ es) h = absurd (omega arith)
