-- The task `diff` over one line.
use Rattle.proof_prelude.proofs.{◌≡◌, ℕ, Bool, ◌+◌, not, List, [], ◌∷◌, ◌++◌, sym, ap, ap₂, ◌∙◌, append-nil}
use Rattle.journal_lines.specs.Docs.{docs_view}
use Rattle.journal_lines.specs.Entries.{EntryView, entry_in}
use Rattle.journal_tasks.specs.{IsDiffing, add_leaves, counted_as, docs_of, is_wrong, is_wrong_entry, leaves_in, listed}
use Rattle.journal_tasks.proofs.Asked.{leaves_in-push}
use Rattle.journal_tasks.proofs.Counts.{count_line, not_not}
use Rattle.journal_tasks.proofs.Documents.{docs_more}
use Rattle.journal_tasks.specs.declared.count.Count.{Count}
use Rattle.journal_tasks.specs.declared.diff.Diff.{Diff}

pub diff_line : (lines : List (List ℕ)) (text line added : List ℕ) (old new : Diff) (after : Count) (right : Bool) (e : EntryView) → e ≡ entry_in line → IsDiffing lines text old → after ≡ record { lines = old.count.lines + 1; wrong = old.count.wrong } → right ≡ not (is_wrong_entry e)
    → docs_view new.docs ≡ add_leaves (docs_view old.docs) (listed e) → new.count ≡ counted_as (not right) after → added ≡ [] → IsDiffing (lines ++ line ∷ []) (text ++ added) new
diff_line lines text line added old new after right e is k a r d n t = record {
  counting = count_line is_wrong lines line old.count after new.count (not right) k.counting a (ap not r ∙ not_not (is_wrong_entry e) ∙ ap is_wrong_entry is) n;
  docs_are = d ∙ ap₂ add_leaves k.docs_are (ap listed is) ∙ sym (docs_more (leaves_in lines) (listed (entry_in line))) ∙ ap docs_of (sym (leaves_in-push lines line));
  text_is = ap (λ z. text ++ z) t ∙ append-nil text ∙ k.text_is;
}
