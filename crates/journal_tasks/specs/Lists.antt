-- Defines the leaves that a list names, as specified in docs/PROFILE.md, "Journals".
use Rattle.std.specs.Prelude.{ℕ, Bool, true, false, List, [], ◌∷◌, map, flat_map}
use Rattle.journal_lines.specs.Entries.{EntryView, entry_in, state, lacks, leaf, wrong}

-- The leaves that one line of a list names, each with the id of the leaf's document.
abbrev pub listed : EntryView → List (List ℕ × List ℕ)
listed (state leaves) = map (λ rev. (leaves.1, rev)) leaves.2
listed (lacks leaves) = map (λ rev. (leaves.1, rev)) leaves.2
listed (leaf head) = (head.0, head.1.0) ∷ []
listed wrong = []

-- The leaves in all lines of a list of leaves, in order, each with the id of its document.
abbrev pub leaves_in : List (List ℕ) → List (List ℕ × List ℕ)
leaves_in lines = flat_map (λ line. listed (entry_in line)) lines

abbrev pub is_wrong_entry : EntryView → Bool
is_wrong_entry (state leaves) = false
is_wrong_entry (lacks leaves) = false
is_wrong_entry (leaf head) = false
is_wrong_entry wrong = true

-- Whether a line has none of the forms that a line of a list may have.
abbrev pub is_wrong : List ℕ → Bool
is_wrong line = is_wrong_entry (entry_in line)
