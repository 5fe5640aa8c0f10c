-- The lines of the rows so far are appended.
use Rattle.proof_prelude.proofs.{◌≡◌, ◌++◌, map, take}
use Rattle.journal_lines.specs.Lists.{leaves_view}
use Rattle.journal_responses.specs.Pages.{rows_text}
use Rattle.journal_responses.proofs.page.push_rows.Given as goal

abbrev pub invariant-loop-row : goal.invariant-loop-row
invariant-loop-row l = l.text.items ≡ l.fn.text.items ++ rows_text l.several (map leaves_view (take l.row-index l.rows))
