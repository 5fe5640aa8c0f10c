use Rattle.proof_prelude.proofs.{◌≡◌, ℕ, ◌+◌, ◌*◌, ◌≤◌, length}
use Rattle.json.specs.Json.{items, members, value, parse_map}
use Rattle.serde_json.specs.Data.{no_members}
use Rattle.serde_json.specs.Read.{converted, of_items, of_members}
use Rattle.json_values.specs.{line_items, line_members, AreItemsPlain, AreMembersPlain, Narrows, IsRising, entries_of}
use Rattle.json_values.proofs.{items_onto}
use Rattle.json_values.proofs.values.+read.Given as goal

abbrev pub decreases-read_value : goal.decreases-read_value
decreases-read_value l = 4 * l.depth + 2

abbrev pub decreases-read_no_text : goal.decreases-read_no_text
decreases-read_no_text l = 4 * l.depth + 1

abbrev pub decreases-read_other : goal.decreases-read_other
decreases-read_other l = 4 * l.depth

abbrev pub decreases-read_items : goal.decreases-read_items
decreases-read_items l = 4 * l.depth + 3

abbrev pub decreases-read_members : goal.decreases-read_members
decreases-read_members l = 4 * l.depth + 3

-- the items so far, followed by the rest of the list
abbrev pub invariant-read_items-items : goal.invariant-read_items-items
invariant-read_items-items l =
    (turns : ℕ) × (length l.reader.tokens ≤ turns) × (length l.reader.tokens ≤ length l.initial.reader.tokens)
    × (converted of_items (items (value l.depth) (length l.initial.reader.tokens) l.initial.reader.tokens)
    ≡ parse_map (items_onto l.found.items) (converted of_items (items (value l.depth) turns l.reader.tokens)))
    × Narrows l.initial.reader.plain l.reader.plain × AreItemsPlain l.reader.plain (line_items l.found.items)

abbrev pub decreases-read_items-items : goal.decreases-read_items-items
decreases-read_items-items l = length l.reader.tokens

-- the remaining members are inserted into those so far
abbrev pub invariant-read_members-members : goal.invariant-read_members-members
invariant-read_members-members l =
    (turns : ℕ) × (length l.reader.tokens ≤ turns) × (length l.reader.tokens ≤ length l.initial.reader.tokens)
    × (converted (λ ms. of_members ms no_members) (members (value l.depth) (length l.initial.reader.tokens) l.initial.reader.tokens)
    ≡ converted (λ ms. of_members ms (line_members (entries_of l.found))) (members (value l.depth) turns l.reader.tokens)) × IsRising (entries_of l.found)
    × Narrows l.initial.reader.plain l.reader.plain × AreMembersPlain l.reader.plain (line_members (entries_of l.found))

abbrev pub decreases-read_members-members : goal.decreases-read_members-members
decreases-read_members-members l = length l.reader.tokens
