-- The task `lacking` over one line.
use Rattle.proof_prelude.proofs.{◌≡◌, ℕ, ◌+◌, Bool, true, false, ◌||◌, not, List, [], ◌∷◌, ◌++◌, refl, sym, ap, ap₂, subst, ◌∙◌, append-nil, append_assoc}
use Rattle.line_reader.specs.Lines.{joined}
use Rattle.line_reader.proofs.Reading.{joined-append}
use Rattle.journal_lines.specs.Docs.{docs_view}
use Rattle.journal_lines.specs.Entries.{EntryView, entry_in}
use Rattle.journal_tasks.specs.{IsCounting, IsLacking, add_leaves, counted_as, diffed_flags, docs_of, first_part, has_second_part, is_empty_line, is_wrong, is_wrong_entry, leaves_in, listed, second_part}
use Rattle.journal_tasks.proofs.Asked.{leaves_in-push}
use Rattle.journal_tasks.proofs.Counts.{count_line, not_not}
use Rattle.journal_tasks.proofs.Documents.{docs_more}
use Rattle.journal_tasks.proofs.Halves.{first_break, first_done, first_push, flags_first, flags_second, flags_separator, has_second_push, second_break, second_done, second_open}
use Rattle.journal_tasks.specs.declared.count.Count.{Count}
use Rattle.journal_tasks.specs.declared.lacking.Lacking.{Lacking}

abbrev never : List ℕ → Bool
never line = false

pub lacking_first : (lines : List (List ℕ)) (text line : List ℕ) (old new : Lacking) (after : Count) (right : Bool) (e : EntryView) → IsLacking lines text old → old.in_response ≡ false → is_empty_line line ≡ false → e ≡ entry_in line → after ≡ record { lines = old.count.lines + 1; wrong = old.count.wrong }
    → right ≡ not (is_wrong_entry e) → new.count ≡ counted_as (not right) after → docs_view new.docs ≡ add_leaves (docs_view old.docs) (listed e) → new.in_response ≡ old.in_response → new.response ≡ old.response → new.refused ≡ old.refused → IsLacking (lines ++ line ∷ []) (text ++ []) new
lacking_first lines text line old new after right e k closed full is a r c d i p u =
    let before = sym k.part ∙ closed in
    let f = first_part lines in
    let ended : has_second_part (lines ++ line ∷ []) ≡ false = has_second_push lines line ∙ ap₂ (λ a b. a || b) before full in
    let wrong : not right ≡ is_wrong line = ap not r ∙ not_not (is_wrong_entry e) ∙ ap is_wrong_entry is in
    record {
      counting = subst (λ z. IsCounting (λ wrong. wrong) z new.count) (sym (flags_first is_wrong never lines line before full)) (count_line (λ wrong. wrong) (diffed_flags lines) (is_wrong line) old.count after new.count (is_wrong line) k.counting a refl (c ∙ ap (λ b. counted_as b after) wrong));
      part = i ∙ closed ∙ sym ended;
      docs_are = d ∙ ap₂ add_leaves k.docs_are (ap listed is) ∙ sym (docs_more (leaves_in f) (listed (entry_in line))) ∙ ap docs_of (sym (leaves_in-push f line)) ∙ ap (λ z. docs_of (leaves_in z)) (sym (first_push lines line before full));
      response_is = ap (λ z. z.items) p ∙ k.response_is ∙ ap joined (second_open lines before) ∙ sym (ap joined (second_open (lines ++ line ∷ []) ended));
      refused_is = u ∙ k.refused_is;
      text_is = append-nil text ∙ k.text_is;
    }

pub lacking_separator : (lines : List (List ℕ)) (text line : List ℕ) (old new : Lacking) → IsLacking lines text old → old.in_response ≡ false → is_empty_line line ≡ true → new.count ≡ record { lines = old.count.lines + 1; wrong = old.count.wrong } → new.docs ≡ old.docs → new.in_response ≡ true → new.response ≡ old.response
    → new.refused ≡ old.refused → IsLacking (lines ++ line ∷ []) (text ++ []) new
lacking_separator lines text line old new k closed none c d i p u =
    let before = sym k.part ∙ closed in
    record {
      counting = subst (λ z. IsCounting (λ wrong. wrong) z new.count) (sym (flags_separator is_wrong never lines line before none)) (count_line (λ wrong. wrong) (diffed_flags lines) false old.count new.count new.count false k.counting c refl refl);
      part = i ∙ sym (has_second_push lines line ∙ ap₂ (λ a b. a || b) before none);
      docs_are = ap docs_view d ∙ k.docs_are ∙ ap (λ z. docs_of (leaves_in z)) (sym (first_break lines line before none));
      response_is = ap (λ z. z.items) p ∙ k.response_is ∙ ap joined (second_open lines before) ∙ sym (ap joined (second_break lines line before none));
      refused_is = u ∙ k.refused_is;
      text_is = append-nil text ∙ k.text_is;
    }

pub lacking_response : (lines : List (List ℕ)) (text line : List ℕ) (old new : Lacking) → IsLacking lines text old → old.in_response ≡ true → new.count ≡ record { lines = old.count.lines + 1; wrong = old.count.wrong } → new.docs ≡ old.docs → new.in_response ≡ old.in_response → new.response.items ≡ (old.response.items ++ line) ++ 10 ∷ []
    → new.refused ≡ old.refused → IsLacking (lines ++ line ∷ []) (text ++ []) new
lacking_response lines text line old new k opened c d i p u =
    let before = sym k.part ∙ opened in
    let s = second_part lines in
    record {
      counting = subst (λ z. IsCounting (λ wrong. wrong) z new.count) (sym (flags_second is_wrong never lines line before)) (count_line (λ wrong. wrong) (diffed_flags lines) false old.count new.count new.count false k.counting c refl refl);
      part = i ∙ opened ∙ sym (has_second_push lines line ∙ ap (λ b. b || is_empty_line line) before);
      docs_are = ap docs_view d ∙ k.docs_are ∙ ap (λ z. docs_of (leaves_in z)) (sym (first_done lines line before));
      response_is = p ∙ append_assoc old.response.items line (10 ∷ []) ∙ ap (λ z. z ++ (line ++ 10 ∷ [])) k.response_is ∙ sym (joined-append s line) ∙ ap joined (sym (second_done lines line before));
      refused_is = u ∙ k.refused_is;
      text_is = append-nil text ∙ k.text_is;
    }
