-- The last states of documents, after one line more.
use Rattle.proof_prelude.proofs.{◌≡◌, ℕ, ◌+◌, Bool, true, false, ◌||◌, not, if◌then◌else◌, List, [], ◌∷◌, ◌++◌, flat_map, flat_map-append, map, map-append, Option, None, Some, option_or, bytes_eq, inl, inr, refl, sym, ap, ap₂, subst, ◌∙◌, fun_ext, cases_Bool, cond-true, cond-false, append-nil, or_parts, false≢true, list_any, list_any-append, fold}
use Rattle.std.proofs.lemmas.List.Sums.{fold-append}
use Rattle.journal_core.specs.{IsAt, Place, is_sum, next, place_after}
use Rattle.journal_core.proofs.{next_damaged, place_more}
use Rattle.journal_lines.specs.Docs.{add_rev}
use Rattle.journal_lines.specs.Entries.{EntryView, entry_in, state, lacks, leaf, wrong}
use Rattle.journal_lines.specs.Leafs.{HeadView}
use Rattle.journal_lines.specs.Lists.{LeavesView}
use Rattle.journal_tasks.specs.{IsReading, StateView, counted_as, distinct, entries_of, head_in, head_read, is_wrong, is_wrong_entry, is_wrong_line, last_state, no_state, place_of, put_at, rev_about, state_about, state_at, state_by, state_of, stated, stated_by, stated_ids, states_of, states_view, stored_revs, value_at, with_rev}
use Rattle.journal_tasks.proofs.Counts.{count_line}
use Rattle.journal_tasks.proofs.Documents.{Once, any_distinct, eq_sym, once_fold, same_text, text_same}
use Rattle.journal_tasks.specs.declared.count.Count.{Count}
use Rattle.journal_tasks.specs.declared.journal.Journal.{Journal}

-- ---- documents with values

abbrev pub docs_by : {A : Type 0} → (List ℕ → A) → List (List ℕ) → List (List ℕ × A)
docs_by f ids = map (λ d. (d, f d)) ids

same_docs : {A : Type 0} (f f' : List ℕ → A) (id : List ℕ) (ids : List (List ℕ)) → ((d : List ℕ) → bytes_eq id d ≡ false → f' d ≡ f d) → list_any (bytes_eq id) ids ≡ false → docs_by f' ids ≡ docs_by f ids
same_docs f f' id [] e h = refl
same_docs {A} f f' id (d ∷ ds) e h =
    let p = or_parts (bytes_eq id d) (list_any (bytes_eq id) ds) h in
    ap₂ (λ (x : A) (z : List (List ℕ × A)). (d, x) ∷ z) (e d p.0) (same_docs f f' id ds e p.1)

put_there : {A : Type 0} (f f' : List ℕ → A) (id : List ℕ) (v : A) (ids : List (List ℕ)) → ((d : List ℕ) → bytes_eq id d ≡ false → f' d ≡ f d) → f' id ≡ v → Once ids → list_any (bytes_eq id) ids ≡ true → docs_by f' ids ≡ put_at (docs_by f ids) id v
put_there f f' id v [] e g o h = absurd (false≢true h)
put_there {A} f f' id v (d ∷ ds) e g (apart, o) h =
    elim (cases_Bool (bytes_eq id d)) [
      | inl hit ↦ ap₂ (λ (x : A) (z : List (List ℕ × A)). (d, x) ∷ z) (ap f' (sym (same_text id d hit)) ∙ g) (same_docs f f' id ds e (ap (λ z. list_any (bytes_eq z) ds) (same_text id d hit) ∙ apart))
          ∙ sym (cond-true (bytes_eq id d) ((d, v) ∷ docs_by f ds) ((d, f d) ∷ put_at (docs_by f ds) id v) hit)
      | inr miss ↦ ap₂ (λ (x : A) (z : List (List ℕ × A)). (d, x) ∷ z) (e d miss) (put_there f f' id v ds e g o (ap (λ b. b || list_any (bytes_eq id) ds) (sym miss) ∙ h))
          ∙ sym (cond-false (bytes_eq id d) ((d, v) ∷ docs_by f ds) ((d, f d) ∷ put_at (docs_by f ds) id v) miss)
    ]

put_new : {A : Type 0} (f : List ℕ → A) (id : List ℕ) (v : A) (ids : List (List ℕ)) → list_any (bytes_eq id) ids ≡ false → docs_by f ids ++ (id, v) ∷ [] ≡ put_at (docs_by f ids) id v
put_new f id v [] h = refl
put_new {A} f id v (d ∷ ds) h =
    let p = or_parts (bytes_eq id d) (list_any (bytes_eq id) ds) h in
    ap (λ (z : List (List ℕ × A)). (d, f d) ∷ z) (put_new f id v ds p.1) ∙ sym (cond-false (bytes_eq id d) ((d, v) ∷ docs_by f ds) ((d, f d) ∷ put_at (docs_by f ds) id v) p.0)

-- the documents after one gets another value
pub docs_put : {A : Type 0} (f f' : List ℕ → A) (id : List ℕ) (v : A) (ids : List (List ℕ)) → ((d : List ℕ) → bytes_eq id d ≡ false → f' d ≡ f d) → f' id ≡ v → Once ids → docs_by f' (add_rev ids id) ≡ put_at (docs_by f ids) id v
docs_put {A} f f' id v ids e g o =
    elim (cases_Bool (list_any (bytes_eq id) ids)) [
      | inl hit ↦ ap (docs_by f') (cond-true (list_any (bytes_eq id) ids) ids (ids ++ id ∷ []) hit) ∙ put_there f f' id v ids e g o hit
      | inr miss ↦ ap (docs_by f') (cond-false (list_any (bytes_eq id) ids) ids (ids ++ id ∷ []) miss) ∙ map-append (λ d. (d, f' d)) ids (id ∷ [])
          ∙ ap₂ (λ (z : List (List ℕ × A)) (x : A). z ++ (id, x) ∷ []) (same_docs f f' id ids e miss) g ∙ put_new f id v ids miss
    ]

pub docs_at : {A : Type 0} (none : A) (f : List ℕ → A) (ids : List (List ℕ)) (id : List ℕ) → value_at none (docs_by f ids) id ≡ (if list_any (bytes_eq id) ids then f id else none)
docs_at none f [] id = refl
docs_at none f (d ∷ ds) id =
    elim (cases_Bool (bytes_eq id d)) [
      | inl hit ↦ rw hit (ap f (sym (same_text id d hit)))
      | inr miss ↦ rw miss (docs_at none f ds id)
    ]

-- a document gets a value twice
pub put_again : {A : Type 0} (docs : List (List ℕ × A)) (id : List ℕ) (a b : A) → put_at (put_at docs id a) id b ≡ put_at docs id b
put_again [] id a b = rw (text_same id) refl
put_again {A} (d ∷ ds) id a b =
    elim (cases_Bool (bytes_eq id d.0)) [
      | inl hit ↦ rw (hit, hit) refl
      | inr miss ↦ rw (miss, miss) (ap (λ (z : List (List ℕ × A)). d ∷ z) (put_again ds id a b))
    ]

-- ---- the states after one line more

pub or_shift : {A : Type 0} (a b c : Option A) → option_or (option_or a b) c ≡ option_or a (option_or b c)
or_shift None b c = refl
or_shift (Some x) b c = refl

pub or_none : {A : Type 0} (a : Option A) → option_or a None ≡ a
or_none None = refl
or_none (Some x) = refl

last_push : (es : List EntryView) (e : EntryView) (id : List ℕ) → last_state (es ++ e ∷ []) id ≡ option_or (state_about id e) (last_state es id)
last_push [] e id = sym (or_none (state_about id e))
last_push (x ∷ es) e id = ap (λ o. option_or o (state_about id x)) (last_push es e id) ∙ or_shift (state_about id e) (last_state es id) (state_about id x)

ids_push : (es : List EntryView) (e : EntryView) → stated_ids (es ++ e ∷ []) ≡ fold add_rev (stated_ids es) (stated e)
ids_push es e = ap distinct (flat_map-append stated es (e ∷ []) ∙ ap (λ z. flat_map stated es ++ z) (append-nil (stated e))) ∙ fold-append add_rev [] (flat_map stated es) (stated e)

revs_push : (es : List EntryView) (e : EntryView) (id : List ℕ) → stored_revs (es ++ e ∷ []) id ≡ fold add_rev (stored_revs es id) (rev_about id e)
revs_push es e id = ap distinct (flat_map-append (rev_about id) es (e ∷ []) ∙ ap (λ z. flat_map (rev_about id) es ++ z) (append-nil (rev_about id e))) ∙ fold-append add_rev [] (flat_map (rev_about id) es) (rev_about id e)

state_push : (es : List EntryView) (e : EntryView) (id : List ℕ) → state_of (es ++ e ∷ []) id ≡ state_by (option_or (state_about id e) (last_state es id)) (fold add_rev (stored_revs es id) (rev_about id e))
state_push es e id = ap₂ state_by (last_push es e id) (revs_push es e id)

unstated : (es : List EntryView) (id : List ℕ) → list_any (bytes_eq id) (flat_map stated es) ≡ false → (last_state es id ≡ None) × (flat_map (rev_about id) es ≡ [])
unstated [] id h = (refl, refl)
unstated (e ∷ es) id h =
    let p = or_parts (list_any (bytes_eq id) (stated e)) (list_any (bytes_eq id) (flat_map stated es)) (sym (list_any-append (bytes_eq id) (stated e) (flat_map stated es)) ∙ h) in
    let u = unstated es id p.1 in
    let w = here e p.0 in
    (ap₂ option_or u.0 w.0, ap₂ (λ (a b : List (List ℕ)). a ++ b) w.1 u.1) where
      here : (e : EntryView) → list_any (bytes_eq id) (stated e) ≡ false → (state_about id e ≡ None) × (rev_about id e ≡ [])
      here (state leaves) k = (cond-false (bytes_eq id leaves.1) (Some leaves) None (or_parts (bytes_eq id leaves.1) false k).0, refl)
      here (lacks leaves) k = (refl, refl)
      here (leaf head) k = (refl, cond-false (bytes_eq id head.0) (head.1.0 ∷ []) [] (or_parts (bytes_eq id head.0) false k).0)
      here wrong k = (refl, refl)

new_state : (es : List EntryView) (id : List ℕ) → list_any (bytes_eq id) (stated_ids es) ≡ false → state_of es id ≡ no_state
new_state es id h =
    let u = unstated es id (sym (any_distinct (flat_map stated es) id) ∙ h) in
    ap₂ state_by u.0 (ap distinct u.1)

state_known : (es : List EntryView) (id : List ℕ) → state_at (states_of es) id ≡ state_of es id
state_known es id =
    docs_at no_state (state_of es) (stated_ids es) id ∙ elim (cases_Bool (list_any (bytes_eq id) (stated_ids es))) [
      | inl hit ↦ cond-true (list_any (bytes_eq id) (stated_ids es)) (state_of es id) no_state hit
      | inr miss ↦ cond-false (list_any (bytes_eq id) (stated_ids es)) (state_of es id) no_state miss ∙ sym (new_state es id miss)
    ]

once_ids : (es : List EntryView) → Once (stated_ids es)
once_ids es = once_fold [] (flat_map stated es) tt

rev_more : (o : Option LeavesView) (stored : List (List ℕ)) (rev : List ℕ) → state_by o (add_rev stored rev) ≡ with_rev rev (state_by o stored)
rev_more None stored rev = refl
rev_more (Some named) stored rev = refl

same_states : (es : List EntryView) (e : EntryView) → stated e ≡ [] → ((id : List ℕ) → state_about id e ≡ None) → ((id : List ℕ) → rev_about id e ≡ []) → states_of (es ++ e ∷ []) ≡ states_of es
same_states es e none about rev =
    ap (docs_by (state_of (es ++ e ∷ []))) (ids_push es e ∙ ap (fold add_rev (stated_ids es)) none)
    ∙ ap (λ (f : List ℕ → StateView). docs_by f (stated_ids es)) (fun_ext (λ id. state_push es e id ∙ ap₂ (λ a b. state_by (option_or a (last_state es id)) (fold add_rev (stored_revs es id) b)) (about id) (rev id)))

named_push : (es : List EntryView) (leaves : LeavesView) → states_of (es ++ state leaves ∷ []) ≡ put_at (states_of es) leaves.1 (leaves.0, leaves.2, true)
named_push es leaves =
    let e = state leaves in
    ap (docs_by (state_of (es ++ e ∷ []))) (ids_push es e)
    ∙ docs_put (state_of es) (state_of (es ++ e ∷ [])) leaves.1 (leaves.0, leaves.2, true) (stated_ids es)
    (λ d miss. state_push es e d ∙ ap (λ o. state_by (option_or o (last_state es d)) (stored_revs es d)) (cond-false (bytes_eq d leaves.1) (Some leaves) None (eq_sym d leaves.1 ∙ miss)))
    (state_push es e leaves.1 ∙ ap (λ o. state_by (option_or o (last_state es leaves.1)) (stored_revs es leaves.1)) (cond-true (bytes_eq leaves.1 leaves.1) (Some leaves) None (text_same leaves.1)))
    (once_ids es)

leaf_push : (es : List EntryView) (head : HeadView) → states_of (es ++ leaf head ∷ []) ≡ put_at (states_of es) head.0 (with_rev head.1.0 (state_at (states_of es) head.0))
leaf_push es head =
    let e = leaf head in
    let id = head.0 in
    let rev = head.1.0 in
    ap (docs_by (state_of (es ++ e ∷ []))) (ids_push es e)
    ∙ docs_put (state_of es) (state_of (es ++ e ∷ [])) id (with_rev rev (state_at (states_of es) id)) (stated_ids es)
    (λ d miss. state_push es e d ∙ ap (λ z. state_by (last_state es d) (fold add_rev (stored_revs es d) z)) (cond-false (bytes_eq d id) (rev ∷ []) [] (eq_sym d id ∙ miss)))
    (state_push es e id ∙ ap (λ z. state_by (last_state es id) (fold add_rev (stored_revs es id) z)) (cond-true (bytes_eq id id) (rev ∷ []) [] (text_same id)) ∙ rev_more (last_state es id) (stored_revs es id) rev ∙ ap (with_rev rev) (sym (state_known es id)))
    (once_ids es)

pub states_push : (es : List EntryView) (e : EntryView) → states_of (es ++ e ∷ []) ≡ stated_by e (states_of es)
states_push es (state leaves) = named_push es leaves
states_push es (lacks leaves) = same_states es (lacks leaves) refl (λ id. refl) (λ id. refl)
states_push es (leaf head) = leaf_push es head
states_push es wrong = same_states es wrong refl (λ id. refl) (λ id. refl)

entries_push : (lines : List (List ℕ)) (line : List ℕ) → entries_of (lines ++ line ∷ []) ≡ entries_of lines ++ (if is_sum line then [] else entry_in line ∷ [])
entries_push lines line =
    let f = λ (z : List ℕ). if is_sum z then [] else entry_in z ∷ [] in
    flat_map-append f lines (line ∷ []) ∙ ap (λ z. entries_of lines ++ z) (append-nil (f line))

by_sum : (sum : Bool) (es : List EntryView) (e : EntryView) → states_of (es ++ (if sum then [] else e ∷ [])) ≡ (if sum then states_of es else stated_by e (states_of es))
by_sum true es e = ap states_of (append-nil es)
by_sum false es e = states_push es e

states_line : (lines : List (List ℕ)) (line : List ℕ) → states_of (entries_of (lines ++ line ∷ [])) ≡ (if is_sum line then states_of (entries_of lines) else stated_by (entry_in line) (states_of (entries_of lines)))
states_line lines line = ap states_of (entries_push lines line) ∙ by_sum (is_sum line) (entries_of lines) (entry_in line)

-- ---- the place after one line more

place_push : (unverified : Bool) (lines : List (List ℕ)) (line : List ℕ) → place_of unverified (lines ++ line ∷ []) ≡ (if unverified then place_of unverified lines else next (place_of unverified lines) line)
place_push true lines line = refl
place_push false lines line = place_more lines line

whole_at : (place : Place) (line : List ℕ) (b : Bool) → place.whole ≡ b → (next place line).whole ≡ true → place.whole ≡ true
whole_at place line true w h = w
whole_at place line false w h = ap (λ (p : Place). p.whole) (sym (next_damaged place line w)) ∙ h

-- no damage so far
pub whole_before : (unverified : Bool) (lines : List (List ℕ)) (line : List ℕ) → (place_of unverified (lines ++ line ∷ [])).whole ≡ true → (place_of unverified lines).whole ≡ true
whole_before true lines line h = refl
whole_before false lines line h = whole_at (place_after lines) line (place_after lines).whole refl (ap (λ (p : Place). p.whole) (sym (place_more lines line)) ∙ h)

-- ---- a journal, after one line more

-- a line is checked
abbrev pub Verified : List ℕ → Bool → Journal → Journal → Type 0
Verified line right old new =
    (lines : List (List ℕ)) → IsAt old.blocks (place_of old.unverified lines) → IsAt new.blocks (place_of old.unverified (lines ++ line ∷ [])) × (right ≡ (place_of old.unverified (lines ++ line ∷ [])).whole)

verified : (unverified : Bool) (lines : List (List ℕ)) (line : List ℕ) (old new : Journal) (right : Bool) → IsReading unverified lines old → Verified line right old new → IsAt new.blocks (place_of unverified (lines ++ line ∷ [])) × (right ≡ (place_of unverified (lines ++ line ∷ [])).whole)
verified unverified lines line old new right k v =
    let P : Bool → Type 0 = λ u. IsAt old.blocks (place_of u lines) → IsAt new.blocks (place_of u (lines ++ line ∷ [])) × (right ≡ (place_of u (lines ++ line ∷ [])).whole) in
    subst P k.unverified_is (v lines) k.place

reading_more : (unverified : Bool) (lines : List (List ℕ)) (line : List ℕ) (old new : Journal) (after : Count) (right : Bool) → IsReading unverified lines old → Verified line right old new → right ≡ true → new.unverified ≡ old.unverified → new.damaged ≡ old.damaged
    → after ≡ record { lines = old.count.lines + 1; wrong = old.count.wrong } → new.count ≡ counted_as (is_wrong_line line) after → states_view new.states ≡ (if is_sum line then states_view old.states else stated_by (entry_in line) (states_view old.states))
    → IsReading unverified (lines ++ line ∷ []) new
reading_more unverified lines line old new after right k v r u d a n s =
    let at = verified unverified lines line old new right k v in
    let whole : (place_of unverified (lines ++ line ∷ [])).whole ≡ true = sym at.1 ∙ r in
    let before = whole_before unverified lines line whole in
    record {
      unverified_is = u ∙ k.unverified_is;
      place = at.0;
      damaged_is = d ∙ k.damaged_is ∙ ap not (before ∙ sym whole);
      counting = λ w. count_line is_wrong_line lines line old.count after new.count (is_wrong_line line) (k.counting before) a refl n;
      states_are = λ w. s ∙ ap (λ z. if is_sum line then z else stated_by (entry_in line) z) (k.states_are before) ∙ sym (states_line lines line);
    }

read_as : (place : Place) (line : List ℕ) → place.whole ≡ true → head_read place line ≡ (if is_sum line then None else head_in (entry_in line))
read_as place line w = cond-true place.whole (if is_sum line then None else head_in (entry_in line)) None w

-- a line that ends a block
pub reading_sum : (unverified : Bool) (lines : List (List ℕ)) (line : List ℕ) (old new : Journal) (right sum : Bool) → IsReading unverified lines old → Verified line right old new → right ≡ true → sum ≡ is_sum line → sum ≡ true → new.unverified ≡ old.unverified → new.damaged ≡ old.damaged
    → new.count ≡ record { lines = old.count.lines + 1; wrong = old.count.wrong } → states_view new.states ≡ states_view old.states → IsReading unverified (lines ++ line ∷ []) new × (None ≡ head_read (place_of unverified (lines ++ line ∷ [])) line)
reading_sum unverified lines line old new right sum k v r e t u d n s =
    let is : is_sum line ≡ true = sym e ∙ t in
    let at = verified unverified lines line old new right k v in (
      reading_more unverified lines line old new new.count right k v r u d n (ap (λ (b : Bool). counted_as b new.count) (sym (cond-true (is_sum line) false (is_wrong line) is))) (s ∙ sym (cond-true (is_sum line) (states_view old.states) (stated_by (entry_in line) (states_view old.states)) is)),
      sym (read_as (place_of unverified (lines ++ line ∷ [])) line (sym at.1 ∙ r) ∙ cond-true (is_sum line) None (head_in (entry_in line)) is),
    )

-- a line that does not end a block
pub reading_body : (unverified : Bool) (lines : List (List ℕ)) (line : List ℕ) (old new : Journal) (after : Count) (right sum : Bool) (e : EntryView) (head : Option HeadView) → IsReading unverified lines old → Verified line right old new → right ≡ true → sum ≡ is_sum line → sum ≡ false → e ≡ entry_in line → new.unverified ≡ old.unverified → new.damaged ≡ old.damaged
    → after ≡ record { lines = old.count.lines + 1; wrong = old.count.wrong } → new.count ≡ counted_as (is_wrong_entry e) after → states_view new.states ≡ stated_by e (states_view old.states) → head ≡ head_in e → IsReading unverified (lines ++ line ∷ []) new × (head ≡ head_read (place_of unverified (lines ++ line ∷ [])) line)
reading_body unverified lines line old new after right sum e head k v r s f is u d a n m h =
    let body : is_sum line ≡ false = sym s ∙ f in
    let at = verified unverified lines line old new right k v in (
      reading_more unverified lines line old new after right k v r u d a (n ∙ ap (λ z. counted_as (is_wrong_entry z) after) is ∙ ap (λ (b : Bool). counted_as b after) (sym (cond-false (is_sum line) false (is_wrong line) body)))
          (m ∙ ap (λ z. stated_by z (states_view old.states)) is ∙ sym (cond-false (is_sum line) (states_view old.states) (stated_by (entry_in line) (states_view old.states)) body)),
      h ∙ ap head_in is ∙ sym (read_as (place_of unverified (lines ++ line ∷ [])) line (sym at.1 ∙ r) ∙ cond-false (is_sum line) None (head_in (entry_in line)) body),
    )
