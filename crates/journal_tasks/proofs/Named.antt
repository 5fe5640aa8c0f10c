-- The task `name` over one line, and at the end of the input.
use Rattle.proof_prelude.proofs.{◌≡◌, ℕ, Bool, ◌+◌, not, List, [], ◌∷◌, ◌++◌, flat_map-append, string_bytes, sym, ap, ap₂, ◌∙◌, append-nil}
use Rattle.journal_lines.specs.Entries.{EntryView, entry_in}
use Rattle.journal_tasks.specs.{HasNamed, IsNaming, counted_as, failed_end, is_wrong, is_wrong_entry, leaves_in, listed, name_line, name_lines}
use Rattle.journal_tasks.proofs.Asked.{leaves_in-push}
use Rattle.journal_tasks.proofs.Counts.{count_end, count_line, not_not}
use Rattle.journal_tasks.specs.declared.count.Count.{Count}
use Rattle.journal_tasks.specs.declared.name.Name.{Name}

pub named_step : (word : List ℕ) (lines : List (List ℕ)) (text line added : List ℕ) (old new : Name) (after : Count) (right : Bool) (e : EntryView) → IsNaming word lines text old → e ≡ entry_in line → after ≡ record { lines = old.count.lines + 1; wrong = old.count.wrong } → right ≡ not (is_wrong_entry e)
    → added ≡ name_lines (string_bytes old.word) (listed e) → new.word ≡ old.word → new.count ≡ counted_as (not right) after → IsNaming word (lines ++ line ∷ []) (text ++ added) new
named_step word lines text line added old new after right e k is a r t w n = record {
  counting = count_line is_wrong lines line old.count after new.count (not right) k.counting a (ap not r ∙ not_not (is_wrong_entry e) ∙ ap is_wrong_entry is) n;
  word_is = ap string_bytes w ∙ k.word_is;
  text_is = ap₂ (λ x y. x ++ y) k.text_is (t ∙ ap₂ name_lines k.word_is (ap listed is)) ∙ sym (flat_map-append (name_line word) (leaves_in lines) (listed (entry_in line))) ∙ ap (name_lines word) (sym (leaves_in-push lines line));
}

pub named_end : (word : List ℕ) (lines : List (List ℕ)) (text rest added : List ℕ) (old new : Name) → IsNaming word lines text old → new.count.wrong ≡ failed_end old.count.wrong old.count.lines rest → added ≡ [] → HasNamed word lines rest (text ++ added) new
named_end word lines text rest added old new k w t = record {
  text_is = ap (λ z. text ++ z) t ∙ append-nil text ∙ k.text_is;
  wrong = count_end is_wrong lines rest old.count new.count.wrong k.counting w;
}
