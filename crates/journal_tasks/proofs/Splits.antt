-- The task `parts` over one line.
use Rattle.proof_prelude.proofs.{◌≡◌, ℕ, Bool, true, false, ◌+◌, Result, Ok, Err, OnOk, List, [], ◌∷◌, ◌++◌, length, length-append, flat_map, flat_map-append, refl, sym, ap, ap₂, ◌∙◌, append-nil, arith, cond-true, cond-false}
use Rattle.std.proofs.lemmas.List.Sums.{fold-append}
use Rattle.line_reader.specs.Lines.{joined}
use Rattle.line_reader.proofs.Reading.{joined-append}
use Rattle.journal_tasks.specs.{IsSplitting, fits, has_space, part_text, printed_part, split, with_line}
use Rattle.journal_tasks.proofs.Counts.{count_line}
use Rattle.journal_tasks.specs.declared.parts.Parts.{Parts}

-- five facts about the result of a call that did not fail
pub on_all : {T E A B C D F P : Type 0} (r : Result T E) → (A → B → C → D → F → P) → OnOk r A → OnOk r B → OnOk r C → OnOk r D → OnOk r F → OnOk r P
on_all (Ok x) f a b c d e = f a b c d e
on_all (Err x) f a b c d e = tt

split_push : (limit : ℕ × ℕ) (lines : List (List ℕ)) (line : List ℕ) → split limit (lines ++ line ∷ []) ≡ with_line limit (split limit lines) line
split_push limit lines line = fold-append (with_line limit) ([], []) lines (line ∷ [])

space_is : (limit : ℕ × ℕ) (lines : List (List ℕ)) (text line : List ℕ) (old : Parts) (space : Bool) → IsSplitting limit lines text old → space ≡ has_space (old.most_bytes, old.most_lines) old.lines (length old.part.items) (length line) → fits limit (split limit lines).1 line ≡ space
space_is limit lines text line old space k r =
    sym (r ∙ ap₂ (λ x y. has_space (x, y) old.lines (length old.part.items) (length line)) k.most_bytes_is k.most_lines_is ∙ ap (λ z. has_space limit z (length old.part.items) (length line)) k.lines_are
    ∙ ap (λ z. has_space limit (length (split limit lines).1) (length z) (length line)) k.part_is)

count_more : (lines : List (List ℕ)) (line : List ℕ) → length (lines ++ line ∷ []) ≡ length lines + 1
count_more lines line = omega (arith, length-append lines (line ∷ []))

-- the last part takes the line
pub split_same : (limit : ℕ × ℕ) (lines : List (List ℕ)) (text line added : List ℕ) (old new : Parts) (space : Bool) → IsSplitting limit lines text old → space ≡ has_space (old.most_bytes, old.most_lines) old.lines (length old.part.items) (length line) → space ≡ true
    → new.count ≡ record { lines = old.count.lines + 1; wrong = old.count.wrong } → new.most_bytes ≡ old.most_bytes → new.most_lines ≡ old.most_lines → new.part.items ≡ old.part.items ++ (line ++ 10 ∷ []) → new.lines ≡ old.lines + 1 → added ≡ [] → IsSplitting limit (lines ++ line ∷ []) (text ++ added) new
split_same limit lines text line added old new space k r hit n b l p c t =
    let s = split limit lines in
    let more : split limit (lines ++ line ∷ []) ≡ (s.0, s.1 ++ line ∷ []) =
    split_push limit lines line ∙ cond-true (fits limit s.1 line) (s.0, s.1 ++ line ∷ []) (s.0 ++ s.1 ∷ [], line ∷ []) (space_is limit lines text line old space k r ∙ hit) in
    record {
      counting = count_line (λ line. false) lines line old.count new.count new.count false k.counting n refl refl;
      most_bytes_is = b ∙ k.most_bytes_is;
      most_lines_is = l ∙ k.most_lines_is;
      lines_are = c ∙ ap (λ z. z + 1) k.lines_are ∙ sym (count_more s.1 line) ∙ ap (λ z. length z.1) (sym more);
      part_is = p ∙ ap (λ z. z ++ (line ++ 10 ∷ [])) k.part_is ∙ sym (joined-append s.1 line) ∙ ap (λ z. joined z.1) (sym more);
      text_is = ap (λ z. text ++ z) t ∙ append-nil text ∙ k.text_is ∙ ap (λ z. flat_map printed_part z.0) (sym more);
    }

-- the line begins a new part
pub split_next : (limit : ℕ × ℕ) (lines : List (List ℕ)) (text line added : List ℕ) (old mid new : Parts) (space : Bool) → IsSplitting limit lines text old → space ≡ has_space (old.most_bytes, old.most_lines) old.lines (length old.part.items) (length line) → space ≡ false
    → new.count ≡ record { lines = old.count.lines + 1; wrong = old.count.wrong } → new.most_bytes ≡ old.most_bytes → new.most_lines ≡ old.most_lines → added ≡ part_text old.lines old.part.items → mid.part.items ≡ [] → mid.lines ≡ 0
    → new.part.items ≡ mid.part.items ++ (line ++ 10 ∷ []) → new.lines ≡ mid.lines + 1 → IsSplitting limit (lines ++ line ∷ []) (text ++ added) new
split_next limit lines text line added old mid new space k r miss n b l t e z p c =
    let s = split limit lines in
    let more : split limit (lines ++ line ∷ []) ≡ (s.0 ++ s.1 ∷ [], line ∷ []) =
    split_push limit lines line ∙ cond-false (fits limit s.1 line) (s.0, s.1 ++ line ∷ []) (s.0 ++ s.1 ∷ [], line ∷ []) (space_is limit lines text line old space k r ∙ miss) in
    let printed : added ≡ printed_part s.1 = t ∙ ap₂ part_text k.lines_are k.part_is in
    record {
      counting = count_line (λ line. false) lines line old.count new.count new.count false k.counting n refl refl;
      most_bytes_is = b ∙ k.most_bytes_is;
      most_lines_is = l ∙ k.most_lines_is;
      lines_are = c ∙ ap (λ x. x + 1) z ∙ ap (λ x. length x.1) (sym more);
      part_is = p ∙ ap (λ x. x ++ (line ++ 10 ∷ [])) e ∙ ap (λ x. joined x.1) (sym more);
      text_is = ap₂ (λ x y. x ++ y) k.text_is (printed ∙ sym (append-nil (printed_part s.1))) ∙ sym (flat_map-append printed_part s.0 (s.1 ∷ [])) ∙ ap (λ x. flat_map printed_part x.0) (sym more);
    }
