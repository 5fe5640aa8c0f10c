-- What is read and what is left are all revisions.
use Rattle.proof_prelude.proofs.{◌≡◌, drop}
use Rattle.json.specs.Value.{items_view}
use Rattle.journal_lines.specs.Lists.{texts_of}
use Rattle.journal_lines.specs.Lists.{prepend, each_item}
use Rattle.journal_responses.specs.Pages.{rev_in}
use Rattle.journal_responses.proofs.page.revs_of.Given as goal

abbrev pub invariant-loop-change : goal.invariant-loop-change
invariant-loop-change l =
    prepend (texts_of l.revs.items) (each_item rev_in (items_view (drop l.change-index l.change-items))) ≡ each_item rev_in (items_view l.change-items)
