-- Defines the lines of a journal, as specified in docs/PROFILE.md, "Journals".
use Rattle.std.specs.Prelude.{ℕ, List, Option, None, Some, codes}
use Rattle.journal_lines.specs.Texts.{after}
use Rattle.journal_lines.specs.Lists.{LeavesView, leaves_in, leaves_view}
use Rattle.journal_lines.specs.Leafs.{HeadView, head_view, line_head}
use Rattle.journal_lines.specs.declared.entry.Entry.{Entry}
use Rattle.journal_lines.specs.declared.entry.Entry.TheVariants as entries

-- The content of a journal line: a document's leaves (`state`), a document's requested leaves (`lacks`), or a
-- document's id, ancestry and deleted flag (`leaf`). The content is `wrong` if the journal line has neither a list of
-- leaves nor a document.
pub data EntryView : Type 0 where
  state : LeavesView → EntryView
  lacks : LeavesView → EntryView
  leaf : HeadView → EntryView
  wrong : EntryView

abbrev pub entry_view : Entry → EntryView
entry_view (entries.State leaves) = state (leaves_view leaves)
entry_view (entries.Lacks leaves) = lacks (leaves_view leaves)
entry_view (entries.Leaf head) = leaf (head_view head)
entry_view entries.Wrong = wrong

abbrev pub state_or_wrong : Option LeavesView → EntryView
state_or_wrong None = wrong
state_or_wrong (Some leaves) = state leaves

abbrev pub lacks_or_wrong : Option LeavesView → EntryView
lacks_or_wrong None = wrong
lacks_or_wrong (Some leaves) = lacks leaves

abbrev pub leaf_or_wrong : Option HeadView → EntryView
leaf_or_wrong None = wrong
leaf_or_wrong (Some head) = leaf head

abbrev pub lacks_or_leaf : List ℕ → Option (List ℕ) → EntryView
lacks_or_leaf line (Some rest) = lacks_or_wrong (leaves_in rest)
lacks_or_leaf line None = leaf_or_wrong (line_head line)

abbrev pub state_or_other : List ℕ → Option (List ℕ) → EntryView
state_or_other line (Some rest) = state_or_wrong (leaves_in rest)
state_or_other line None = lacks_or_leaf line (after (codes "lacks ") line)

-- The content of a journal line. A line that begins with `state` or `lacks`, followed by a blank, either lists leaves
-- or is `wrong`. A line that does not begin with `state ` or `lacks ` has a document or is `wrong`.
abbrev pub entry_in : List ℕ → EntryView
entry_in line = state_or_other line (after (codes "state ") line)
