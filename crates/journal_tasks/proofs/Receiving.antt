-- The task `received` over one line, and at the end of the input.
use Rattle.proof_prelude.proofs.{◌≡◌, ℕ, Bool, true, false, ◌||◌, ◌&&◌, ◌+◌, not, if◌then◌else◌, is_none, codes, List, [], ◌∷◌, ◌++◌, map, flat_map, Option, None, Some, refl, sym, ap, ap₂, subst, ◌∙◌, fun_ext, cond-true, cond-false, false≢true, list_any, flat_map-append, map-append, append-nil, append_assoc}
use Rattle.journal_lines.specs.Entries.{EntryView, entry_in}
use Rattle.journal_lines.specs.Leafs.{HeadView}
use Rattle.journal_lines.specs.Lists.{LeavesView, leaves_view}
use Rattle.journal_tasks.specs.{HasReceived, IsCounting, IsReceiving, answered_by, counted_as, doc_at, doc_of, failed_end, first_part, has_second_part, head_of, heads_in, is_answer, is_empty, is_empty_line, is_stored, is_unnamed, lacks_any, lacks_by, missing_in, named, passed_line, passed_on, received_leaves, requested_by, requested_in, second_part, told, told_by, told_in, told_of, wrong_flags, wrong_received}
use Rattle.journal_tasks.proofs.Counts.{count_end, count_line}
use Rattle.journal_tasks.proofs.Halves.{first_break, first_done, first_push, has_second_push, second_break, second_done, second_open}
use Rattle.journal_tasks.proofs.Requested.{answer_stored, line_doc, missing_is, request_docs, response_docs}
use Rattle.journal_tasks.specs.declared.count.Count.{Count}
use Rattle.journal_tasks.specs.declared.received.Received.{Received}

not_not : (b : Bool) → not (not b) ≡ b
not_not true = refl
not_not false = refl

-- ---- the flags of the lines

abbrev flags : List (List ℕ) → List (List ℕ) → Bool → List Bool
flags request response both =
    map (λ line. is_unnamed (entry_in line)) request ++ (if both then false ∷ map (λ line. not (is_answer (requested_in request) (entry_in line))) response else [])

flags_by : (f f' s s' : List (List ℕ)) (b b' : Bool) → f ≡ f' → s ≡ s' → b ≡ b' → flags f s b ≡ flags f' s' b'
flags_by f f' s s' b b' e g h = ap (λ z. flags z s b) e ∙ ap (λ z. flags f' z b) g ∙ ap (λ z. flags f' s' z) h

flags_request : (lines : List (List ℕ)) (line : List ℕ) → has_second_part lines ≡ false → is_empty_line line ≡ false → wrong_flags (lines ++ line ∷ []) ≡ wrong_flags lines ++ is_unnamed (entry_in line) ∷ []
flags_request lines line h e =
    let f = first_part lines in
    let s = second_part lines in
    let r = λ (z : List ℕ). is_unnamed (entry_in z) in
    flags_by (first_part (lines ++ line ∷ [])) (f ++ line ∷ []) (second_part (lines ++ line ∷ [])) (second_part (lines ++ line ∷ [])) (has_second_part (lines ++ line ∷ [])) false (first_push lines line h e) refl (has_second_push lines line ∙ ap₂ (λ a b. a || b) h e)
    ∙ append-nil (map r (f ++ line ∷ [])) ∙ map-append r f (line ∷ []) ∙ ap (λ z. z ++ r line ∷ []) (sym (flags_by f f s s (has_second_part lines) false refl refl h ∙ append-nil (map r f)))

flags_break : (lines : List (List ℕ)) (line : List ℕ) → has_second_part lines ≡ false → is_empty_line line ≡ true → wrong_flags (lines ++ line ∷ []) ≡ wrong_flags lines ++ false ∷ []
flags_break lines line h e =
    let f = first_part lines in
    let s = second_part lines in
    flags_by (first_part (lines ++ line ∷ [])) f (second_part (lines ++ line ∷ [])) [] (has_second_part (lines ++ line ∷ [])) true (first_break lines line h e) (second_break lines line h e) (has_second_push lines line ∙ ap₂ (λ a b. a || b) h e)
    ∙ ap (λ z. z ++ false ∷ []) (sym (flags_by f f s s (has_second_part lines) false refl refl h ∙ append-nil (map (λ (z : List ℕ). is_unnamed (entry_in z)) f)))

flags_response : (lines : List (List ℕ)) (line : List ℕ) → has_second_part lines ≡ true → wrong_flags (lines ++ line ∷ []) ≡ wrong_flags lines ++ not (is_answer (requested_in (first_part lines)) (entry_in line)) ∷ []
flags_response lines line h =
    let f = first_part lines in
    let s = second_part lines in
    let front = map (λ (z : List ℕ). is_unnamed (entry_in z)) f in
    let g = λ (z : List ℕ). not (is_answer (requested_in f) (entry_in z)) in
    flags_by (first_part (lines ++ line ∷ [])) f (second_part (lines ++ line ∷ [])) (s ++ line ∷ []) (has_second_part (lines ++ line ∷ [])) true (first_done lines line h) (second_done lines line h) (has_second_push lines line ∙ ap (λ b. b || is_empty_line line) h)
    ∙ ap (λ z. front ++ false ∷ z) (map-append g s (line ∷ [])) ∙ sym (append_assoc front (false ∷ map g s) (g line ∷ [])) ∙ ap (λ z. z ++ g line ∷ []) (sym (flags_by f f s s (has_second_part lines) true refl refl h))

-- ---- one line

heads_open : (lines : List (List ℕ)) → has_second_part lines ≡ false → heads_in (second_part lines) ≡ []
heads_open lines h = ap heads_in (second_open lines h)

passed_as : (only : Bool) (f f' s s' : List (List ℕ)) → f ≡ f' → s ≡ s' → flat_map (passed_line only (requested_in f)) s ≡ flat_map (passed_line only (requested_in f')) s'
passed_as only f f' s s' e g = ap (λ z. flat_map (passed_line only (requested_in z)) s) e ∙ ap (λ z. flat_map (passed_line only (requested_in f')) z) g

docs_as : (f f' s s' : List (List ℕ)) (id : List ℕ) → f ≡ f' → s ≡ s' → doc_of (requested_in f) (heads_in s) id ≡ doc_of (requested_in f') (heads_in s') id
docs_as f f' s s' id e g = ap (λ z. doc_of (requested_in z) (heads_in s) id) e ∙ ap (λ z. doc_of (requested_in f') (heads_in z) id) g

requested_more : (f : List (List ℕ)) (line : List ℕ) → requested_in (f ++ line ∷ []) ≡ requested_in f ++ named (entry_in line)
requested_more f line = flat_map-append (λ z. named (entry_in z)) f (line ∷ []) ∙ ap (λ z. requested_in f ++ z) (append-nil (named (entry_in line)))

heads_more : (s : List (List ℕ)) (line : List ℕ) → heads_in (s ++ line ∷ []) ≡ heads_in s ++ head_of (entry_in line)
heads_more s line = flat_map-append (λ z. head_of (entry_in z)) s (line ∷ []) ∙ ap (λ z. heads_in s ++ z) (append-nil (head_of (entry_in line)))

pub request_step : (only : Bool) (lines : List (List ℕ)) (text line : List ℕ) (old new : Received) (after : Count) (right : Bool) (e : EntryView) → IsReceiving only lines text old → old.in_response ≡ false → is_empty_line line ≡ false → e ≡ entry_in line
    → after ≡ record { lines = old.count.lines + 1; wrong = old.count.wrong } → right ≡ not (is_unnamed e) → new.count ≡ counted_as (not right) after → new.only_lacks ≡ old.only_lacks → new.in_response ≡ old.in_response → map leaves_view new.lines.items ≡ map leaves_view old.lines.items ++ named e
    → ((id : List ℕ) → doc_at new.docs id ≡ requested_by e (doc_at old.docs) id) → IsReceiving only (lines ++ line ∷ []) (text ++ []) new
request_step only lines text line old new after right e k closed full is a r c o i l d =
    let before = sym k.part ∙ closed in
    let f = first_part lines in
    let first = first_push lines line before full in
    let ended : has_second_part (lines ++ line ∷ []) ≡ false = has_second_push lines line ∙ ap₂ (λ a b. a || b) before full in
    let second : second_part (lines ++ line ∷ []) ≡ second_part lines = second_open (lines ++ line ∷ []) ended ∙ sym (second_open lines before) in
    let wrong : not right ≡ is_unnamed (entry_in line) = ap not r ∙ not_not (is_unnamed e) ∙ ap is_unnamed is in
    let stored : doc_at old.docs ≡ doc_of (requested_in f) [] = fun_ext (λ id. k.docs_are id ∙ ap (λ z. doc_of (requested_in f) z id) (heads_open lines before)) in
    record {
      counting = subst (λ z. IsCounting (λ wrong. wrong) z new.count) (sym (flags_request lines line before full)) (count_line (λ wrong. wrong) (wrong_flags lines) (is_unnamed (entry_in line)) old.count after new.count (is_unnamed (entry_in line)) k.counting a refl (c ∙ ap (λ b. counted_as b after) wrong));
      only_is = o ∙ k.only_is;
      part = i ∙ closed ∙ sym ended;
      lines_are = l ∙ ap₂ (λ x y. x ++ y) k.lines_are (ap named is) ∙ sym (requested_more f line) ∙ ap requested_in (sym first);
      docs_are = λ id. d id ∙ ap (λ z. requested_by e z id) stored ∙ sym (request_docs (requested_in f) e id) ∙ ap (λ z. doc_of (requested_in f ++ named z) [] id) is ∙ ap (λ z. doc_of z [] id) (sym (requested_more f line))
          ∙ ap (λ z. doc_of (requested_in (f ++ line ∷ [])) z id) (sym (ap heads_in second ∙ heads_open lines before)) ∙ ap (λ z. doc_of (requested_in z) (heads_in (second_part (lines ++ line ∷ []))) id) (sym first);
      text_is = append-nil text ∙ k.text_is ∙ ap (λ z. flat_map (passed_line only (requested_in f)) z) (second_open lines before) ∙ ap (λ z. flat_map (passed_line only (requested_in (first_part (lines ++ line ∷ [])))) z) (sym (second ∙ second_open lines before));
    }

pub break_step : (only : Bool) (lines : List (List ℕ)) (text line : List ℕ) (old new : Received) → IsReceiving only lines text old → old.in_response ≡ false → is_empty_line line ≡ true → new.count ≡ record { lines = old.count.lines + 1; wrong = old.count.wrong } → new.only_lacks ≡ old.only_lacks → new.in_response ≡ true → new.lines ≡ old.lines
    → new.docs ≡ old.docs → IsReceiving only (lines ++ line ∷ []) (text ++ []) new
break_step only lines text line old new k closed none c o i l d =
    let before = sym k.part ∙ closed in
    let f = first_part lines in
    let first = first_break lines line before none in
    let second : second_part lines ≡ second_part (lines ++ line ∷ []) = second_open lines before ∙ sym (second_break lines line before none) in
    record {
      counting = subst (λ z. IsCounting (λ wrong. wrong) z new.count) (sym (flags_break lines line before none)) (count_line (λ wrong. wrong) (wrong_flags lines) false old.count new.count new.count false k.counting c refl refl);
      only_is = o ∙ k.only_is;
      part = i ∙ sym (has_second_push lines line ∙ ap₂ (λ a b. a || b) before none);
      lines_are = ap (λ z. map leaves_view z.items) l ∙ k.lines_are ∙ ap requested_in (sym first);
      docs_are = λ id. ap (λ z. doc_at z id) d ∙ k.docs_are id ∙ docs_as f (first_part (lines ++ line ∷ [])) (second_part lines) (second_part (lines ++ line ∷ [])) id (sym first) second;
      text_is = append-nil text ∙ k.text_is ∙ passed_as only f (first_part (lines ++ line ∷ [])) (second_part lines) (second_part (lines ++ line ∷ [])) (sym first) second;
    }

pub response_step : (only : Bool) (lines : List (List ℕ)) (text line added : List ℕ) (old new : Received) (after : Count) (known : Bool) (e : EntryView) → IsReceiving only lines text old → old.in_response ≡ true → e ≡ entry_in line → after ≡ record { lines = old.count.lines + 1; wrong = old.count.wrong }
    → known ≡ is_stored e (doc_at old.docs) → new.count ≡ counted_as (not known) after → new.only_lacks ≡ old.only_lacks → new.in_response ≡ old.in_response → new.lines ≡ old.lines → ((id : List ℕ) → doc_at new.docs id ≡ answered_by e (doc_at old.docs) id)
    → added ≡ (if known && not old.only_lacks then line ++ codes "\n" else []) → IsReceiving only (lines ++ line ∷ []) (text ++ added) new
response_step only lines text line added old new after known e k opened is a s c o i l d t =
    let before = sym k.part ∙ opened in
    let f = first_part lines in
    let req = requested_in f in
    let heads = heads_in (second_part lines) in
    let first = first_done lines line before in
    let second = second_done lines line before in
    let stored : doc_at old.docs ≡ doc_of req heads = fun_ext k.docs_are in
    let is_known : known ≡ is_answer req (entry_in line) = s ∙ ap (is_stored e) stored ∙ answer_stored req heads e ∙ ap (is_answer req) is in
    record {
      counting = subst (λ z. IsCounting (λ wrong. wrong) z new.count) (sym (flags_response lines line before)) (count_line (λ wrong. wrong) (wrong_flags lines) (not (is_answer req (entry_in line))) old.count after new.count (not (is_answer req (entry_in line))) k.counting a refl (c ∙ ap (λ b. counted_as (not b) after) is_known));
      only_is = o ∙ k.only_is;
      part = i ∙ opened ∙ sym (has_second_push lines line ∙ ap (λ b. b || is_empty_line line) before);
      lines_are = ap (λ z. map leaves_view z.items) l ∙ k.lines_are ∙ ap requested_in (sym first);
      docs_are = λ id. d id ∙ ap (λ z. answered_by e z id) stored ∙ sym (response_docs req heads e id) ∙ ap (λ z. doc_of req (heads ++ head_of z) id) is ∙ ap (λ z. doc_of req z id) (sym (heads_more (second_part lines) line))
          ∙ docs_as f (first_part (lines ++ line ∷ [])) (second_part lines ++ line ∷ []) (second_part (lines ++ line ∷ [])) id (sym first) (sym second);
      text_is = ap₂ (λ x y. x ++ y) k.text_is (t ∙ ap₂ (λ a b. if a && not b then line ++ codes "\n" else []) is_known k.only_is) ∙ ap (λ z. passed_on only lines ++ z) (sym (append-nil (passed_line only req line)))
          ∙ sym (flat_map-append (passed_line only req) (second_part lines) (line ∷ [])) ∙ passed_as only f (first_part (lines ++ line ∷ [])) (second_part lines ++ line ∷ []) (second_part (lines ++ line ∷ [])) (sym first) (sym second);
    }

-- ---- the end

each_same : {A : Type 0} (all before : List LeavesView) (join : LeavesView → List A) (join' : LeavesView → List A) (rest : List LeavesView) → ((b : List LeavesView) (l : LeavesView) (after : List LeavesView) → all ≡ b ++ l ∷ after → join l ≡ join' l) → all ≡ before ++ rest
    → flat_map join rest ≡ flat_map join' rest
each_same all before join join' [] f e = refl
each_same all before join join' (l ∷ rest) f e = ap₂ (λ x y. x ++ y) (f before l rest e) (each_same all (before ++ l ∷ []) join join' rest f (e ∙ sym (append_assoc before (l ∷ []) rest)))

any_same : (all before : List LeavesView) (test test' : LeavesView → Bool) (rest : List LeavesView) → ((b : List LeavesView) (l : LeavesView) (after : List LeavesView) → all ≡ b ++ l ∷ after → test l ≡ test' l) → all ≡ before ++ rest → list_any test rest ≡ list_any test' rest
any_same all before test test' [] f e = refl
any_same all before test test' (l ∷ rest) f e = ap₂ (λ x y. x || y) (f before l rest e) (any_same all (before ++ l ∷ []) test test' rest f (e ∙ sym (append_assoc before (l ∷ []) rest)))

told_is : (only : Bool) (heads : List HeadView) (b : List LeavesView) (l : LeavesView) (after : List LeavesView) → told_by only (doc_of (b ++ l ∷ after) heads l.1) l ≡ told only heads l
told_is only heads b l after = ap (λ d. told_by only d l) (line_doc b after l heads) ∙ ap (λ z. told_of only (received_leaves heads l.1) z l) (missing_is b after l heads)

lacks_is : (heads : List HeadView) (b : List LeavesView) (l : LeavesView) (after : List LeavesView) → lacks_by (doc_of (b ++ l ∷ after) heads l.1) l ≡ not (is_empty (missing_in heads l))
lacks_is heads b l after = ap (λ d. lacks_by d l) (line_doc b after l heads) ∙ ap (λ z. not (is_empty z)) (missing_is b after l heads)

all_told : (only : Bool) (lines : List (List ℕ)) (text : List ℕ) (task : Received) → IsReceiving only lines text task → flat_map (λ leaves. told_by task.only_lacks (doc_at task.docs leaves.1) leaves) (map leaves_view task.lines.items) ≡ told_in only lines
all_told only lines text task k =
    let req = requested_in (first_part lines) in
    let heads = heads_in (second_part lines) in
    ap (flat_map (λ leaves. told_by task.only_lacks (doc_at task.docs leaves.1) leaves)) k.lines_are
    ∙ each_same req [] (λ leaves. told_by task.only_lacks (doc_at task.docs leaves.1) leaves) (told only heads) req (λ b l after e. ap₂ (λ x y. told_by x y l) k.only_is (k.docs_are l.1 ∙ ap (λ z. doc_of z heads l.1) e) ∙ told_is only heads b l after) refl

all_lacks : (only : Bool) (lines : List (List ℕ)) (text : List ℕ) (task : Received) → IsReceiving only lines text task → list_any (λ leaves. lacks_by (doc_at task.docs leaves.1) leaves) (map leaves_view task.lines.items) ≡ lacks_any lines
all_lacks only lines text task k =
    let req = requested_in (first_part lines) in
    let heads = heads_in (second_part lines) in
    ap (list_any (λ leaves. lacks_by (doc_at task.docs leaves.1) leaves)) k.lines_are
    ∙ any_same req [] (λ leaves. lacks_by (doc_at task.docs leaves.1) leaves) (λ leaves. not (is_empty (missing_in heads leaves))) req (λ b l after e. ap (λ y. lacks_by y l) (k.docs_are l.1 ∙ ap (λ z. doc_of z heads l.1) e) ∙ lacks_is heads b l after) refl

right_not : (o : Option ℕ) → is_none o ≡ false → o ≡ None → ⊥
right_not None e h = absurd (false≢true (sym e))
right_not (Some n) e h = false≢true (ap is_none h)

wrong_is : (only : Bool) (lines : List (List ℕ)) (text rest : List ℕ) (task : Received) (wrong : Option ℕ) → IsReceiving only lines text task → wrong ≡ failed_end task.count.wrong task.count.lines rest → wrong ≡ wrong_received lines rest
wrong_is only lines text rest task wrong k w = count_end (λ wrong. wrong) (wrong_flags lines) rest task.count wrong k.counting w

pub received_wrong : (only : Bool) (lines : List (List ℕ)) (text rest added : List ℕ) (old new : Received) (is_right : Bool) → added ≡ [] → IsReceiving only lines text old → new.count.wrong ≡ failed_end old.count.wrong old.count.lines rest → is_right ≡ is_none new.count.wrong → is_right ≡ false → HasReceived only lines rest (text ++ added) new
received_wrong only lines text rest added old new is_right e k w r f =
    let is = wrong_is only lines text rest old new.count.wrong k w in
    let bad : is_none new.count.wrong ≡ false = sym r ∙ f in
    record {
      text_is = ap₂ (λ x y. x ++ y) k.text_is (e ∙ sym (cond-false (is_none (wrong_received lines rest)) (told_in only lines) [] (ap is_none (sym is) ∙ bad)));
      wrong = is;
      lacks = λ h. absurd (right_not new.count.wrong bad h);
    }

pub received_right : (only : Bool) (lines : List (List ℕ)) (text rest added : List ℕ) (old new : Received) (is_right lacks : Bool) → IsReceiving only lines text old → new.count.wrong ≡ failed_end old.count.wrong old.count.lines rest → is_right ≡ is_none new.count.wrong → is_right ≡ true
    → added ≡ flat_map (λ leaves. told_by old.only_lacks (doc_at old.docs leaves.1) leaves) (map leaves_view old.lines.items) → lacks ≡ list_any (λ leaves. lacks_by (doc_at old.docs leaves.1) leaves) (map leaves_view old.lines.items) → new.lacks ≡ lacks → HasReceived only lines rest (text ++ added) new
received_right only lines text rest added old new is_right lacks k w r f t l n =
    let is = wrong_is only lines text rest old new.count.wrong k w in
    record {
      text_is = ap₂ (λ x y. x ++ y) k.text_is (t ∙ all_told only lines text old k ∙ sym (cond-true (is_none (wrong_received lines rest)) (told_in only lines) [] (ap is_none (sym is) ∙ sym r ∙ f)));
      wrong = is;
      lacks = λ h. n ∙ l ∙ all_lacks only lines text old k;
    }
