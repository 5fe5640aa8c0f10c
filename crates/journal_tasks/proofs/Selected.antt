-- The task `select`.
use Rattle.proof_prelude.proofs.{◌≡◌, ℕ, ◌+◌, ◌-◌, ◌<◌, ◌≤◌, suc, Bool, true, false, ◌||◌, ◌&&◌, not, nat_eq, nat_lt, if◌then◌else◌, is_none, codes, List, [], ◌∷◌, ◌++◌, length, length-append, drop, map, slice_get, Option, None, Some, option_map, option_or, bytes_eq, cond, Global, String, string_bytes, inl, inr, refl, sym, ap, ap₂, subst, ◌∙◌, fun_ext, cases_Bool, cond-true, cond-false, append-nil, append_assoc, or_assoc, or-false, or_right, true≢false, list_any, lookup, list_any-append, arith, zero, eqb-true, lt-ltb, ltb-true, ltb-false, HashMap, UpdatesBy, hash_map_updates_text}
use Rattle.std.specs.String.{string_eq}
use Rattle.indexmap.specs.IndexMap.{get_by_text}
use Rattle.indexmap.specs.IndexSet.{insert_key}
use Rattle.sha2.specs.Hashers.{Holds256}
use Rattle.sha2.specs.Sha256.{sha256}
use Rattle.line_reader.specs.{joined}
use Rattle.line_reader.proofs.{joined-append}
use Rattle.journal_core.specs.{IsAt, Place, first_index, is_confirmed, is_sum}
use Rattle.journal_lines.specs.Entries.{EntryView, entry_in, state, lacks, leaf, wrong}
use Rattle.journal_lines.specs.Leafs.{HeadView}
use Rattle.journal_lines.specs.Lists.{texts_of}
use Rattle.journal_tasks.specs.{Choice, HasSelected, IsClosed, IsOpening, IsReading, IsSelecting, IsStage, StateView, choice_of, chosen, entries_of, first_copy, has_head, has_number, head_in, head_read, is_chosen, is_copy_damaged, is_entry, is_number, is_number_of, lacks_number, last_number, leaf_number, lines_at, noted_number, number_at, other_hash, is_wrong_line, place_of, printed, prints, second_copy, selected_leaves, selected_revs, selected_text, state_view, states_of, states_view, text_number, wrong_in}
use Rattle.journal_tasks.proofs.Lookups.{at_entry}
use Rattle.journal_tasks.proofs.Stated.{whole_before}
use Rattle.journal_tasks.proofs.Documents.{eq_sym, same_text}
use Rattle.journal_tasks.specs.declared.journal.Journal.{Journal}
use Rattle.journal_tasks.specs.declared.select.Select.{Select}
use Rattle.journal_tasks.specs.declared.state_map.State.{State}

-- ---- the two copies

length_line : (line : List ℕ) (lines : List (List ℕ)) → length (joined (line ∷ lines)) ≡ length line + 1 + length (joined lines)
length_line line lines = length-append line (10 ∷ joined lines) ∙ omega arith

pub positive : (n : ℕ) → 0 < n → nat_eq n 0 ≡ false
positive n h = elim (cases_Bool (nat_eq n 0)) [ inl none ↦ let e : n ≡ 0 = eqb-true n 0 none in absurd (omega arith) | inr some ↦ some ]

copies_more : (size : ℕ) (line : List ℕ) (lines : List (List ℕ)) → 0 < size → (first_copy size (line ∷ lines) ≡ line ∷ first_copy (size - (length line + 1)) lines) × (second_copy size (line ∷ lines) ≡ second_copy (size - (length line + 1)) lines)
copies_more size line lines h =
    let some = positive size h in
    (cond-false (nat_eq size 0) [] (line ∷ first_copy (size - (length line + 1)) lines) some, cond-false (nat_eq size 0) (line ∷ lines) (second_copy (size - (length line + 1)) lines) some)

pub copies_open : (size : ℕ) (lines : List (List ℕ)) → length (joined lines) < size → (first_copy size lines ≡ lines) × (second_copy size lines ≡ [])
copies_open size [] h = (refl, refl)
copies_open size (line ∷ lines) h =
    let m = copies_more size line lines (omega arith) in
    let r = copies_open (size - (length line + 1)) lines (omega (arith, length_line line lines)) in
    (m.0 ∙ ap (λ (z : List (List ℕ)). line ∷ z) r.0, m.1 ∙ r.1)

-- the line that ends the first copy
pub copies_last : (size : ℕ) (lines : List (List ℕ)) (line : List ℕ) → length (joined lines) < size → (first_copy size (lines ++ line ∷ []) ≡ lines ++ line ∷ []) × (second_copy size (lines ++ line ∷ []) ≡ [])
copies_last size [] line h = copies_more size line [] (omega arith)
copies_last size (l ∷ lines) line h =
    let m = copies_more size l (lines ++ line ∷ []) (omega arith) in
    let r = copies_last (size - (length l + 1)) lines line (omega (arith, length_line l lines)) in
    (m.0 ∙ ap (λ (z : List (List ℕ)). l ∷ z) r.0, m.1 ∙ r.1)

-- a line after the first copy
pub copies_done : (size : ℕ) (lines : List (List ℕ)) (line : List ℕ) → size ≤ length (joined lines) → (first_copy size (lines ++ line ∷ []) ≡ first_copy size lines) × (second_copy size (lines ++ line ∷ []) ≡ second_copy size lines ++ line ∷ [])
copies_done zero [] line h = (refl, refl)
copies_done (suc n) [] line h = absurd (omega arith)
copies_done zero (l ∷ lines) line h = (refl, refl)
copies_done (suc n) (l ∷ lines) line h =
    let size = suc n in
    let m = copies_more size l (lines ++ line ∷ []) (omega arith) in
    let o = copies_more size l lines (omega arith) in
    let r = copies_done (size - (length l + 1)) lines line (omega (arith, length_line l lines)) in
    (m.0 ∙ ap (λ (z : List (List ℕ)). l ∷ z) r.0 ∙ sym o.0, m.1 ∙ r.1 ∙ ap (λ (z : List (List ℕ)). z ++ line ∷ []) (sym o.1))

-- ---- the numbers of the leaves

last_push : (test : List ℕ → Bool) (before : ℕ) (lines : List (List ℕ)) (line : List ℕ) → last_number test before (lines ++ line ∷ []) ≡ (if test line then Some (before + length lines + 1) else last_number test before lines)
last_push test before [] line = elim (cases_Bool (test line)) [ inl hit ↦ rw hit (ap Some (omega arith)) | inr miss ↦ rw miss refl ]
last_push test before (l ∷ lines) line =
    let here = if test l then Some (before + 1) else None in
    ap (λ o. option_or o here) (last_push test (before + 1) lines line) ∙ elim (cases_Bool (test line)) [
      | inl hit ↦ rw hit (ap Some (omega arith))
      | inr miss ↦ rw miss refl
    ]

entry_head : (id rev : List ℕ) (e : EntryView) (number : ℕ) (before : Option ℕ) → (if is_entry id rev e then Some number else before) ≡ noted_number (head_in e) number id rev before
entry_head id rev (state leaves) number before = refl
entry_head id rev (lacks leaves) number before = refl
entry_head id rev (leaf head) number before = refl
entry_head id rev wrong number before = refl

line_head : (sum : Bool) (id rev : List ℕ) (e : EntryView) (number : ℕ) (before : Option ℕ) → (if (if sum then false else is_entry id rev e) then Some number else before) ≡ noted_number (if sum then None else head_in e) number id rev before
line_head true id rev e number before = refl
line_head false id rev e number before = entry_head id rev e number before

-- the number of a leaf after one line more
pub number_noted : (place : Place) (lines : List (List ℕ)) (line id rev : List ℕ) (head : Option HeadView) (number : ℕ) → place.whole ≡ true → head ≡ head_read place line → number ≡ length lines + 1 → noted_number head number id rev (leaf_number lines id rev) ≡ leaf_number (lines ++ line ∷ []) id rev
number_noted place lines line id rev head number w h n =
    let before = leaf_number lines id rev in
    ap₂ (λ x y. noted_number x y id rev before) (h ∙ cond-true place.whole (if is_sum line then None else head_in (entry_in line)) None w) n ∙ sym (line_head (is_sum line) id rev (entry_in line) (length lines + 1) before)
    ∙ sym (last_push (has_head id rev) 0 lines line ∙ ap (λ z. if has_head id rev line then Some z else before) (omega arith))

-- ---- the selected leaves

pub any_more : (a b rest all : Bool) → (a || (b || rest)) ≡ all → ((a || b) || rest) ≡ all
any_more a b rest all e = or_assoc a b rest ∙ e

abbrev Entries : Type 0
Entries = List (String Global × State)

abbrev pub state_entry : String Global × State → List ℕ × StateView
state_entry entry = (string_bytes entry.0, state_view entry.1)

-- the leaves of one document and of the documents after it
pub leaves_from : (several : Bool) (only : Option (List ℕ)) (es : Entries) (i : ℕ) (k : String Global) (s : State) (id : List ℕ) (revs : List (String Global)) → Some (k, s) ≡ slice_get es i → id ≡ string_bytes k → revs ≡ s.revs.items
    → selected_leaves several only (map state_entry (drop i es)) ≡ selected_revs several only id (texts_of revs) ++ selected_leaves several only (map state_entry (drop (i + 1) es))
leaves_from several only es i k s id revs entry a b =
    let rest = selected_leaves several only (map state_entry (drop (i + 1) es)) in
    ap (λ (l : Entries). selected_leaves several only (map state_entry l)) (at_entry es i (k, s) (sym entry)) ∙ ap₂ (λ (x : List ℕ) (y : List (String Global)). selected_revs several only x (texts_of y) ++ rest) (sym a) (sym b)

lacks_append : (f : List ℕ → List ℕ → Option ℕ) (xs ys : List (List ℕ × List ℕ)) → lacks_number f (xs ++ ys) ≡ (lacks_number f xs || lacks_number f ys)
lacks_append f xs ys = list_any-append (λ (leaf : List ℕ × List ℕ). is_none (f leaf.0 leaf.1)) xs ys

number_append : (f : List ℕ → List ℕ → Option ℕ) (xs ys : List (List ℕ × List ℕ)) (n : ℕ) → is_number_of f (xs ++ ys) n ≡ (is_number_of f xs n || is_number_of f ys n)
number_append f xs ys n = list_any-append (λ (leaf : List ℕ × List ℕ). is_number n (f leaf.0 leaf.1)) xs ys

-- a document more is selected
pub lacks_on : (f : List ℕ → List ℕ → Option ℕ) (several : Bool) (only : Option (List ℕ)) (es : Entries) (i : ℕ) (k : String Global) (s : State) (id : List ℕ) (revs : List (String Global)) (before more all : Bool) → Some (k, s) ≡ slice_get es i → id ≡ string_bytes k → revs ≡ s.revs.items
    → more ≡ lacks_number f (selected_revs several only id (texts_of revs)) → (before || lacks_number f (selected_leaves several only (map state_entry (drop i es)))) ≡ all → ((before || more) || lacks_number f (selected_leaves several only (map state_entry (drop (i + 1) es)))) ≡ all
lacks_on f several only es i k s id revs before more all entry a b m e =
    let rest = selected_leaves several only (map state_entry (drop (i + 1) es)) in
    any_more before more (lacks_number f rest) all (ap (λ c. before || (c || lacks_number f rest)) m ∙ ap (λ c. before || c) (sym (ap (lacks_number f) (leaves_from several only es i k s id revs entry a b) ∙ lacks_append f (selected_revs several only id (texts_of revs)) rest)) ∙ e)

pub number_on : (f : List ℕ → List ℕ → Option ℕ) (several : Bool) (only : Option (List ℕ)) (es : Entries) (i : ℕ) (k : String Global) (s : State) (id : List ℕ) (revs : List (String Global)) (n : ℕ) (before after all : Bool) → Some (k, s) ≡ slice_get es i → id ≡ string_bytes k → revs ≡ s.revs.items
    → after ≡ (before || is_number_of f (selected_revs several only id (texts_of revs)) n) → (before || is_number_of f (selected_leaves several only (map state_entry (drop i es))) n) ≡ all → (after || is_number_of f (selected_leaves several only (map state_entry (drop (i + 1) es))) n) ≡ all
number_on f several only es i k s id revs n before after all entry a b m e =
    let rest = selected_leaves several only (map state_entry (drop (i + 1) es)) in
    let here = selected_revs several only id (texts_of revs) in
    ap (λ c. c || is_number_of f rest n) m ∙ any_more before (is_number_of f here n) (is_number_of f rest n) all (ap (λ c. before || c) (sym (ap (λ z. is_number_of f z n) (leaves_from several only es i k s id revs entry a b) ∙ number_append f here rest n)) ∙ e)

-- ---- the printed lines

at_push : (test : ℕ → Bool) (before : ℕ) (lines : List (List ℕ)) (line : List ℕ) → lines_at test before (lines ++ line ∷ []) ≡ lines_at test before lines ++ (if test (before + length lines + 1) then line ++ codes "\n" else [])
at_push test before [] line = append-nil (if test (before + 1) then line ++ codes "\n" else []) ∙ ap (λ n. if test n then line ++ codes "\n" else []) (omega arith)
at_push test before (l ∷ lines) line =
    let front = if test (before + 1) then l ++ codes "\n" else [] in
    ap (λ z. front ++ z) (at_push test (before + 1) lines line ∙ ap (λ n. lines_at test (before + 1) lines ++ (if test n then line ++ codes "\n" else [])) (omega arith))
    ∙ sym (append_assoc front (lines_at test (before + 1) lines) (if test (before + length (l ∷ lines) + 1) then line ++ codes "\n" else []))

by_prints : (b test : Bool) (text line : List ℕ) → (if b then text ++ (if test then line else []) else []) ≡ (if b then text else []) ++ (if b && test then line else [])
by_prints true test text line = refl
by_prints false test text line = refl

pub printed_push : (choice : Choice) (first second : List (List ℕ)) (line : List ℕ) → printed choice first (second ++ line ∷ []) ≡ printed choice first second ++ (if prints choice first && is_chosen choice first (length second + 1) then line ++ codes "\n" else [])
printed_push choice first second line =
    ap (λ z. if prints choice first then z else []) (at_push (is_chosen choice first) 0 second line ∙ ap (λ n. lines_at (is_chosen choice first) 0 second ++ (if is_chosen choice first n then line ++ codes "\n" else [])) (omega arith))
    ∙ by_prints (prints choice first) (is_chosen choice first (length second + 1)) (lines_at (is_chosen choice first) 0 second) (line ++ codes "\n")

abbrev nil : List ℕ
nil = []

none_printed : (b : Bool) → (if b then nil else nil) ≡ nil
none_printed true = refl
none_printed false = refl

printed_none : (choice : Choice) (first second : List (List ℕ)) → second ≡ [] → printed choice first second ≡ []
printed_none choice first second e = ap (printed choice first) e ∙ none_printed (prints choice first)

pub text_open : (choice : Choice) (lines : List (List ℕ)) → second_copy choice.size lines ≡ [] → [] ≡ selected_text choice lines
text_open choice lines e = sym (printed_none choice (first_copy choice.size lines) (second_copy choice.size lines) e)

-- ---- the stages

-- the first copy is not complete
pub stage_open : (choice : Choice) (lines : List (List ℕ)) (task : Select) → length (joined lines) < choice.size → IsOpening choice lines task → IsStage (nat_lt (length (joined lines)) choice.size) choice lines task
stage_open choice lines task h k = subst (λ (b : Bool). IsStage b choice lines task) (sym (lt-ltb (length (joined lines)) choice.size h)) k

pub stage_closed : (choice : Choice) (lines : List (List ℕ)) (task : Select) → choice.size ≤ length (joined lines) → IsClosed choice (first_copy choice.size lines) (second_copy choice.size lines) task → IsStage (nat_lt (length (joined lines)) choice.size) choice lines task
stage_closed choice lines task h k = subst (λ (b : Bool). IsStage b choice lines task) (sym (not_below (length (joined lines)) choice.size h)) k where
  not_below : (m n : ℕ) → n ≤ m → nat_lt m n ≡ false
  not_below m n h = elim (cases_Bool (nat_lt m n)) [ inl below ↦ let l : m < n = ltb-true m n below in absurd (omega arith) | inr above ↦ above ]

in_first : (b : Bool) (m n : ℕ) (choice : Choice) (lines : List (List ℕ)) (task : Select) → nat_lt m n ≡ b → IsStage b choice lines task → is_none task.first ≡ true → (m < n) × IsOpening choice lines task
in_first true m n choice lines task e k f = (ltb-true m n e, k)
in_first false m n choice lines task e k f = absurd (true≢false (sym f ∙ ap is_none k.first_is))

pub is_open : (choice : Choice) (lines : List (List ℕ)) (task : Select) → IsStage (nat_lt (length (joined lines)) choice.size) choice lines task → is_none task.first ≡ true → (length (joined lines) < choice.size) × IsOpening choice lines task
is_open choice lines task k f = in_first (nat_lt (length (joined lines)) choice.size) (length (joined lines)) choice.size choice lines task refl k f

in_second : (b : Bool) (m n : ℕ) (choice : Choice) (lines : List (List ℕ)) (task : Select) → nat_lt m n ≡ b → IsStage b choice lines task → is_none task.first ≡ false → (n ≤ m) × IsClosed choice (first_copy choice.size lines) (second_copy choice.size lines) task
in_second true m n choice lines task e k f = absurd (true≢false (sym (ap is_none k.first_is) ∙ f))
in_second false m n choice lines task e k f = (ltb-false m n e, k)

pub is_closed : (choice : Choice) (lines : List (List ℕ)) (task : Select) → IsStage (nat_lt (length (joined lines)) choice.size) choice lines task → is_none task.first ≡ false → (choice.size ≤ length (joined lines)) × IsClosed choice (first_copy choice.size lines) (second_copy choice.size lines) task
is_closed choice lines task k f = in_second (nat_lt (length (joined lines)) choice.size) (length (joined lines)) choice.size choice lines task refl k f

-- ---- a line of the first copy

not_equal : (m n : ℕ) → m < n → nat_eq m n ≡ false
not_equal m n h = elim (cases_Bool (nat_eq m n)) [ inl same ↦ let e : m ≡ n = eqb-true m n same in absurd (omega arith) | inr other ↦ other ]

pub opening_more : (choice : Choice) (lines : List (List ℕ)) (line : List ℕ) (old mid : Select) (head : Option HeadView) → IsOpening choice lines old → choice_of mid.size mid.filter ≡ choice_of old.size old.filter
    → ((u : Bool) (ls : List (List ℕ)) → IsReading u ls old.journal → IsReading u (ls ++ line ∷ []) mid.journal × (head ≡ head_read (place_of u (ls ++ line ∷ [])) line))
    → ((id rev : List ℕ) → number_at mid.numbers id rev ≡ noted_number head mid.journal.count.lines id rev (number_at old.numbers id rev)) → mid.bytes ≡ old.bytes + length line + 1
    → ((bytes : List ℕ) → Holds256 old.hasher bytes → Holds256 mid.hasher (bytes ++ (line ++ 10 ∷ []))) → mid.first ≡ old.first → mid.selected.keys ≡ old.selected.keys → mid.damaged ≡ old.damaged → mid.seconds ≡ old.seconds → IsOpening choice (lines ++ line ∷ []) mid
opening_more choice lines line old mid head k same read noted bytes hash f s d n =
    let r = read choice.unverified lines k.reading in
    let joins : joined (lines ++ line ∷ []) ≡ joined lines ++ (line ++ 10 ∷ []) = joined-append lines line in
    record {
      choice_is = same ∙ k.choice_is;
      reading = r.0;
      numbers_are = λ w id rev.
          noted id rev ∙ ap (noted_number head mid.journal.count.lines id rev) (k.numbers_are (whole_before choice.unverified lines line w) id rev)
          ∙ number_noted (place_of choice.unverified (lines ++ line ∷ [])) lines line id rev head mid.journal.count.lines w r.1 ((r.0.counting w).lines_is ∙ length-append lines (line ∷ []));
      bytes = bytes ∙ omega (arith, k.bytes, ap length joins, length-append (joined lines) (line ++ 10 ∷ []), length-append line (10 ∷ []));
      hashed = subst (Holds256 mid.hasher) (sym joins) (hash (joined lines) k.hashed);
      first_is = f ∙ k.first_is;
      none_selected = s ∙ k.none_selected;
      damaged_is = d ∙ k.damaged_is;
      seconds_is = n ∙ k.seconds_is;
    }

pub first_step : (choice : Choice) (lines : List (List ℕ)) (text line : List ℕ) (old mid new : Select) → IsSelecting choice lines text old → is_none old.first ≡ true
    → ((c : Choice) (ls : List (List ℕ)) → IsOpening c ls mid → first_copy c.size ls ≡ ls → second_copy c.size ls ≡ [] → IsSelecting c ls [] new) → (IsOpening choice lines old → IsOpening choice (lines ++ line ∷ []) mid) → IsSelecting choice (lines ++ line ∷ []) (text ++ []) new
first_step choice lines text line old mid new k f ends more =
    let o = is_open choice lines old k.stage f in
    let last = copies_last choice.size lines line o.0 in
    let none : text ≡ [] = k.text_is ∙ sym (text_open choice lines (copies_open choice.size lines o.0).1) in
    subst (λ z. IsSelecting choice (lines ++ line ∷ []) z new) (sym (append-nil text ∙ none)) (ends choice (lines ++ line ∷ []) (more o.1) last.0 last.1)

-- ---- the end of the first copy

-- more lines are left
pub first_goes_on : (choice : Choice) (lines : List (List ℕ)) (task : Select) → task.bytes < task.size → IsOpening choice lines task → second_copy choice.size lines ≡ [] → IsSelecting choice lines [] task
first_goes_on choice lines task h k s =
    let size : task.size ≡ choice.size = ap (λ (c : Choice). c.size) k.choice_is in
    record { stage = stage_open choice lines task (omega (arith, k.bytes, size)) k; text_is = text_open choice lines s }

confirmed_whole : (place : Place) (b : Bool) → not (b && is_confirmed place) ≡ false → place.whole ≡ true
confirmed_whole place b h = whole place.whole b (nat_eq (length (joined place.held)) 0) h where
  whole : (w b n : Bool) → not (b && (w && n)) ≡ false → w ≡ true
  whole true b n h = refl
  whole false true n h = absurd (true≢false h)
  whole false false n h = absurd (true≢false h)

abbrev pub stored_leaves : Select → List (List ℕ × List ℕ)
stored_leaves task = selected_leaves task.filter.several (option_map string_bytes task.filter.id) (states_view task.journal.states)

-- the lines to print are selected
abbrev pub Selects : Select → Select → Type 0
Selects old new =
    ((n : ℕ) → has_number new.selected n ≡ (has_number old.selected n || is_number_of (number_at old.numbers) (stored_leaves old) n)) × (new.lacks ≡ lacks_number (number_at old.numbers) (stored_leaves old))

pub first_ends : (choice : Choice) (lines : List (List ℕ)) (old new : Select) (hash : List ℕ) (intact : Bool) → IsOpening choice lines old → first_copy choice.size lines ≡ lines → second_copy choice.size lines ≡ [] → old.size ≤ old.bytes → new.first ≡ Some hash
    → ((bytes : List ℕ) → Holds256 old.hasher bytes → hash ≡ sha256 bytes) → Holds256 new.hasher [] → new.journal ≡ old.journal → choice_of new.size new.filter ≡ choice_of old.size old.filter → new.seconds ≡ old.seconds → new.damaged ≡ not intact
    → ((u : Bool) (ls : List (List ℕ)) → IsReading u ls old.journal → intact ≡ (nat_eq old.bytes old.size && is_confirmed (place_of u ls))) → (intact ≡ true → Selects old new) → IsSelecting choice lines [] new
first_ends choice lines old new hash intact k f s above first hashed empty journal same seconds damaged is sel =
    let size : old.size ≡ choice.size = ap (λ (c : Choice). c.size) k.choice_is in
    let intact_is : not intact ≡ is_copy_damaged choice lines = ap not (is choice.unverified lines k.reading) ∙ ap₂ (λ m n. not (nat_eq m n && is_confirmed (place_of choice.unverified lines))) k.bytes size in
    let right : is_copy_damaged choice lines ≡ false → intact ≡ true = λ d. not_false intact (intact_is ∙ d) in
    let whole : is_copy_damaged choice lines ≡ false → (place_of choice.unverified lines).whole ≡ true = λ d. confirmed_whole (place_of choice.unverified lines) (nat_eq (length (joined lines)) choice.size) d in
    let numbers : is_copy_damaged choice lines ≡ false → number_at old.numbers ≡ leaf_number lines = λ d. fun_ext (λ id. fun_ext (λ rev. k.numbers_are (whole d) id rev)) in
    let leaves : is_copy_damaged choice lines ≡ false → stored_leaves old ≡ chosen choice lines = λ d.
    ap (selected_leaves old.filter.several (option_map string_bytes old.filter.id)) (k.reading.states_are (whole d)) ∙ ap (λ (c : Choice). selected_leaves c.several c.only (states_of (entries_of lines))) k.choice_is in
    let closed : IsClosed choice lines [] new = record {
      choice_is = same ∙ k.choice_is;
      reading = subst (IsReading choice.unverified lines) (sym journal) k.reading;
      first_is = first ∙ ap Some (hashed (joined lines) k.hashed);
      hashed = empty;
      seconds_is = seconds ∙ k.seconds_is;
      damaged_is = damaged ∙ intact_is;
      selected_are = λ d n.
          (sel (right d)).0 n ∙ ap (λ (z : List ℕ). list_any (nat_eq n) z || is_number_of (number_at old.numbers) (stored_leaves old) n) k.none_selected ∙ ap₂ (λ (x : List ℕ → List ℕ → Option ℕ) (y : List (List ℕ × List ℕ)). is_number_of x y n) (numbers d) (leaves d);
      lacks_is = λ d. (sel (right d)).1 ∙ ap₂ (λ (x : List ℕ → List ℕ → Option ℕ) (y : List (List ℕ × List ℕ)). lacks_number x y) (numbers d) (leaves d);
    } in
    record {
      stage = stage_closed choice lines new (omega (arith, k.bytes, size)) (subst (λ z. IsClosed choice (first_copy choice.size lines) z new) (sym s) (subst (λ z. IsClosed choice z [] new) (sym f) closed));
      text_is = text_open choice lines s;
    } where
      not_false : (b : Bool) → not b ≡ false → b ≡ true
      not_false true h = refl
      not_false false h = absurd (true≢false h)

-- ---- a line of the second copy

or_nothing : {A : Type 0} (o : Option A) → option_or o None ≡ o
or_nothing None = refl
or_nothing (Some x) = refl

wrong_is : (unverified : Bool) (lines : List (List ℕ)) (journal : Journal) → IsReading unverified lines journal → (place_of unverified lines).whole ≡ true → journal.count.wrong ≡ wrong_in lines []
wrong_is unverified lines journal k w = (k.counting w).wrong_is ∙ ap (option_map suc) (sym (or_nothing (first_index is_wrong_line lines)))

prints_is : (damaged : Bool) (o o' : Option ℕ) (has has' : Bool) → (damaged ≡ false → o ≡ o') → (damaged ≡ false → has ≡ has') → (not damaged && is_none o && has) ≡ ((not damaged && is_none o') && has')
prints_is true o o' has has' w h = refl
prints_is false o o' has has' w h = ap₂ (λ x y. is_none x && y) (w refl) (h refl)

pub second_step : (choice : Choice) (lines : List (List ℕ)) (text line added : List ℕ) (old new : Select) (shows : Bool) → IsSelecting choice lines text old → is_none old.first ≡ false → choice_of new.size new.filter ≡ choice_of old.size old.filter → new.journal ≡ old.journal → new.first ≡ old.first
    → ((bytes : List ℕ) → Holds256 old.hasher bytes → Holds256 new.hasher (bytes ++ (line ++ 10 ∷ []))) → new.seconds ≡ old.seconds + 1 → new.damaged ≡ old.damaged → new.selected ≡ old.selected → new.lacks ≡ old.lacks
    → shows ≡ (not new.damaged && is_none new.journal.count.wrong && has_number new.selected new.seconds) → added ≡ (if shows then line ++ codes "\n" else []) → IsSelecting choice (lines ++ line ∷ []) (text ++ added) new
second_step choice lines text line added old new shows k some same journal first hash seconds damaged selected missing is a =
    let o = is_closed choice lines old k.stage some in
    let c = o.1 in
    let f = first_copy choice.size lines in
    let s = second_copy choice.size lines in
    let done = copies_done choice.size lines line o.0 in
    let count : new.seconds ≡ length s + 1 = seconds ∙ ap (λ n. n + 1) c.seconds_is in
    let closed : IsClosed choice f (s ++ line ∷ []) new = record {
      choice_is = same ∙ c.choice_is;
      reading = subst (IsReading choice.unverified f) (sym journal) c.reading;
      first_is = first ∙ c.first_is;
      hashed = subst (Holds256 new.hasher) (sym (joined-append s line)) (hash (joined s) c.hashed);
      seconds_is = count ∙ sym (length-append s (line ∷ []));
      damaged_is = damaged ∙ c.damaged_is;
      selected_are = λ d n. ap (λ z. has_number z n) selected ∙ c.selected_are d n;
      lacks_is = λ d. missing ∙ c.lacks_is d;
    } in
    let whole : is_copy_damaged choice f ≡ false → (place_of choice.unverified f).whole ≡ true = λ d. confirmed_whole (place_of choice.unverified f) (nat_eq (length (joined f)) choice.size) d in
    let shown : shows ≡ (prints choice f && is_chosen choice f (length s + 1)) =
    is ∙ ap (λ b. not b && is_none new.journal.count.wrong && has_number new.selected new.seconds) closed.damaged_is
    ∙ prints_is (is_copy_damaged choice f) new.journal.count.wrong (wrong_in f []) (has_number new.selected new.seconds) (is_chosen choice f (length s + 1)) (λ d. wrong_is choice.unverified f new.journal closed.reading (whole d)) (λ d. closed.selected_are d new.seconds ∙ ap (is_chosen choice f) count) in
    record {
      stage = stage_closed choice (lines ++ line ∷ []) new (omega (arith, o.0, ap length (joined-append lines line), length-append (joined lines) (line ++ 10 ∷ [])))
          (subst (λ z. IsClosed choice (first_copy choice.size (lines ++ line ∷ [])) z new) (sym done.1) (subst (λ z. IsClosed choice z (s ++ line ∷ []) new) (sym done.0) closed));
      text_is = ap₂ (λ (x y : List ℕ). x ++ y) k.text_is (a ∙ ap (λ b. if b then line ++ codes "\n" else []) shown) ∙ sym (printed_push choice f s line) ∙ ap₂ (λ x y. printed choice x y) (sym done.0) (sym done.1);
    }

-- ---- the end

at_end : (b : Bool) (choice : Choice) (lines : List (List ℕ)) (text rest : List ℕ) (old new : Select) (hash : List ℕ) → nat_lt (length (joined lines)) choice.size ≡ b → IsStage b choice lines old → text ≡ selected_text choice lines → new.damaged ≡ (old.damaged || is_none old.first) → new.differs ≡ other_hash old.first hash rest
    → ((bytes : List ℕ) → Holds256 old.hasher bytes → hash ≡ sha256 bytes) → new.journal ≡ old.journal → new.lacks ≡ old.lacks → HasSelected choice lines rest (text ++ []) new
at_end true choice lines text rest old new hash e k t damaged differs hashed journal missing =
    let below : length (joined lines) < choice.size = ltb-true (length (joined lines)) choice.size e in
    let f = (copies_open choice.size lines below).0 in
    let is : is_copy_damaged choice (first_copy choice.size lines) ≡ true = ap (is_copy_damaged choice) f ∙ ap (λ b. not (b && is_confirmed (place_of choice.unverified lines))) (not_equal (length (joined lines)) choice.size below) in
    record {
      text_is = append-nil text ∙ t;
      damaged = damaged ∙ ap₂ (λ a b. a || b) k.damaged_is (ap is_none k.first_is) ∙ sym is;
      place = subst (λ z. IsAt new.journal.blocks (place_of choice.unverified z)) (sym f) (subst (λ (z : Journal). IsAt z.blocks (place_of choice.unverified lines)) (sym journal) k.reading.place);
      wrong = λ d. absurd (true≢false (sym is ∙ d));
      differs = λ d. absurd (true≢false (sym is ∙ d));
      lacks = λ d. absurd (true≢false (sym is ∙ d));
    }
at_end false choice lines text rest old new hash e k t damaged differs hashed journal missing =
    let f = first_copy choice.size lines in
    let s = second_copy choice.size lines in
    let none : is_none old.first ≡ false = ap is_none k.first_is in
    record {
      text_is = append-nil text ∙ t;
      damaged = damaged ∙ ap₂ (λ a b. a || b) k.damaged_is none ∙ or-false (is_copy_damaged choice f);
      place = subst (λ (z : Journal). IsAt z.blocks (place_of choice.unverified f)) (sym journal) k.reading.place;
      wrong = λ d. ap (λ (z : Journal). z.count.wrong) journal ∙ wrong_is choice.unverified f old.journal k.reading (confirmed_whole (place_of choice.unverified f) (nat_eq (length (joined f)) choice.size) d);
      differs = λ d. differs ∙ ap (λ o. other_hash o hash rest) k.first_is ∙ ap (λ z. other_hash (Some (sha256 (joined f))) z rest) (hashed (joined s) k.hashed);
      lacks = λ d. missing ∙ k.lacks_is d;
    }

pub select_end : (choice : Choice) (lines : List (List ℕ)) (text rest added : List ℕ) (old new : Select) (hash : List ℕ) → IsSelecting choice lines text old → added ≡ [] → new.damaged ≡ (old.damaged || is_none old.first) → new.differs ≡ other_hash old.first hash rest
    → ((bytes : List ℕ) → Holds256 old.hasher bytes → hash ≡ sha256 bytes) → new.journal ≡ old.journal → new.lacks ≡ old.lacks → HasSelected choice lines rest (text ++ added) new
select_end choice lines text rest added old new hash k a damaged differs hashed journal missing =
    subst (λ z. HasSelected choice lines rest (text ++ z) new) (sym a) (at_end (nat_lt (length (joined lines)) choice.size) choice lines text rest old new hash refl k.stage k.text_is damaged differs hashed journal missing)

-- nothing is read
pub select_none : (choice : Choice) (task : Select) → choice_of task.size task.filter ≡ choice → IsReading choice.unverified [] task.journal → ((id rev : List ℕ) → number_at task.numbers id rev ≡ None) → task.bytes ≡ 0 → Holds256 task.hasher [] → task.first ≡ None → task.selected.keys ≡ [] → task.damaged ≡ false → task.seconds ≡ 0 → IsOpening choice [] task
select_none choice task c r n b h f s d z = record {
  choice_is = c;
  reading = r;
  numbers_are = λ w id rev. n id rev;
  bytes = b;
  hashed = h;
  first_is = f;
  none_selected = s;
  damaged_is = d;
  seconds_is = z;
}

pub none_numbered : {S T : Type 0} (m : HashMap (String Global) (HashMap (String Global) ℕ T) S) → m.entries ≡ [] → (id rev : List ℕ) → number_at m id rev ≡ None
none_numbered {S} {T} m e id rev = ap (λ (es : List (String Global × HashMap (String Global) ℕ T)). text_number (lookup (λ (k : String Global). bytes_eq id (string_bytes k)) es) rev) e

-- ---- the numbers

text_put : {T : Type 0} (old new : HashMap (String Global) ℕ T) (key : String Global) (n : ℕ) → UpdatesBy string_eq (string_eq key) old new (Some n) → (rev : List ℕ) → get_by_text new rev ≡ cond (bytes_eq (string_bytes key) rev) (Some n) (get_by_text old rev)
text_put old new key n u rev = hash_map_updates_text (string_bytes key) old new (Some n) u rev

-- the number of a leaf is stored
pub number_put : {S T : Type 0} (old mid new : HashMap (String Global) (HashMap (String Global) ℕ T) S) (k k' r : String Global) (empty before lines : HashMap (String Global) ℕ T) (n : ℕ) (id rev : List ℕ) → string_bytes k ≡ string_bytes k' → UpdatesBy string_eq (string_eq k) old mid (Some empty)
    → ((x : List ℕ) → get_by_text before x ≡ text_number (get_by_text old (string_bytes k)) x) → UpdatesBy string_eq (string_eq r) before lines (Some n) → UpdatesBy string_eq (string_eq k') mid new (Some lines)
    → number_at new id rev ≡ (if bytes_eq id (string_bytes k') && bytes_eq rev (string_bytes r) then Some n else number_at old id rev)
number_put {S} {T} old mid new k k' r empty before lines n id rev e u b w v =
    let a = string_bytes k' in
    let outer : get_by_text new id ≡ cond (bytes_eq a id) (Some lines) (get_by_text mid id) = hash_map_updates_text a mid new (Some lines) v id in
    let inner : get_by_text mid id ≡ cond (bytes_eq a id) (Some empty) (get_by_text old id) = hash_map_updates_text (string_bytes k) old mid (Some empty) u id ∙ ap (λ z. cond (bytes_eq z id) (Some empty) (get_by_text old id)) e in
    elim (cases_Bool (bytes_eq a id)) [
      | inl hit ↦ ap (λ (o : Option (HashMap (String Global) ℕ T)). text_number o rev) (outer ∙ cond-true (bytes_eq a id) (Some lines) (get_by_text mid id) hit) ∙ text_put before lines r n w rev
          ∙ ap (λ z. cond (bytes_eq (string_bytes r) rev) (Some n) z) (b rev ∙ ap (λ z. number_at old z rev) (e ∙ same_text a id hit))
          ∙ ap (λ c. cond c (Some n) (number_at old id rev)) (eq_sym (string_bytes r) rev ∙ sym (ap (λ c. c && bytes_eq rev (string_bytes r)) (eq_sym id a ∙ hit)))
      | inr miss ↦ ap (λ (o : Option (HashMap (String Global) ℕ T)). text_number o rev) (outer ∙ cond-false (bytes_eq a id) (Some lines) (get_by_text mid id) miss ∙ inner ∙ cond-false (bytes_eq a id) (Some empty) (get_by_text old id) miss)
          ∙ sym (ap (λ c. if c && bytes_eq rev (string_bytes r) then Some n else number_at old id rev) (eq_sym id a ∙ miss))
    ]

-- a number is added to a set
pub number_inserted : (ks : List ℕ) (v n : ℕ) → list_any (nat_eq n) (insert_key nat_eq ks v) ≡ (list_any (nat_eq n) ks || nat_eq n v)
number_inserted ks v n =
    elim (cases_Bool (list_any (nat_eq v) ks)) [
      | inl hit ↦ ap (list_any (nat_eq n)) (cond-true (list_any (nat_eq v) ks) ks (ks ++ v ∷ []) hit) ∙ known hit
      | inr miss ↦ ap (list_any (nat_eq n)) (cond-false (list_any (nat_eq v) ks) ks (ks ++ v ∷ []) miss) ∙ list_any-append (nat_eq n) ks (v ∷ []) ∙ ap (λ b. list_any (nat_eq n) ks || b) (or-false (nat_eq n v))
    ] where
      known : list_any (nat_eq v) ks ≡ true → list_any (nat_eq n) ks ≡ (list_any (nat_eq n) ks || nat_eq n v)
      known hit =
          elim (cases_Bool (nat_eq n v)) [
            | inl same ↦ ap (λ z. list_any (nat_eq z) ks) (eqb-true n v same) ∙ hit ∙ sym (or_right (list_any (nat_eq n) ks) (nat_eq n v) same)
            | inr other ↦ sym (ap (λ b. list_any (nat_eq n) ks || b) other ∙ or-false (list_any (nat_eq n) ks))
          ]
