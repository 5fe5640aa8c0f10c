-- Defines the contents of the lines of a script's output, as specified in docs/PROFILE.md, "Answers" and "Pictures".
use Rattle.std.specs.Prelude.{◌≡◌, ℕ, List, [], ◌∷◌, ◌++◌, Bool, true, false, codes, map, string_bytes}
use Rattle.std.specs.Str.{IsUtf8}
use Rattle.rev_core.specs.Rev.{RevId}
use Rattle.rev_core.specs.Text.{rev_text}
use Rattle.rev_core.specs.Ancestry.{FallsByOne}
use Rattle.output_parser.specs.Words.{lacks, named, IsNumber, IsRevs}
use Rattle.output_parser.specs.Columns.{IsRow}
use Rattle.output_parser.specs.Logs.{IsLog, Logged, logged}
use Rattle.output_parser.specs.Undrawn.{is_undrawn}
use Rattle.output_parser.specs.declared.told.Finding.{Finding}
use Rattle.output_parser.specs.declared.told.Finding.TheVariants as findings
use Rattle.output_parser.specs.declared.told.Table.{Table}
use Rattle.output_parser.specs.declared.told.Told.{Told}
use Rattle.output_parser.specs.declared.told.Told.TheVariants as told

-- A line `doc ID winner REV leaves N revs N`. The id is the text between `doc` and the last six words, because an id
-- may contain blanks.
pub record IsDocLine (line id : List ℕ) (count : ℕ) : Type 0 where
  pub winner : List ℕ
  pub leaves : List ℕ
  pub revs : List ℕ
  pub winner_word : lacks 32 winner ≡ true
  pub leaves_word : lacks 32 leaves ≡ true
  pub revs_word : lacks 32 revs ≡ true
  pub form : line ≡ codes "doc " ++ (((id ++ named (codes " winner") winner) ++ named (codes " leaves") leaves)
      ++ named (codes " revs") revs)
  pub counted : IsNumber leaves count
  pub utf8 : IsUtf8 id

abbrev pub state_text : Bool → List ℕ
state_text true = codes "live "
state_text false = codes "deleted "

-- The parts of a line `leaf REV live REVS` or `leaf REV deleted REVS`.
pub record LeafParts (line own : List ℕ) (live : Bool) (list : List ℕ) : Type 0 where
  pub word : lacks 32 own ≡ true
  pub form : line ≡ codes "leaf " ++ (own ++ 32 ∷ (state_text live ++ list))

-- The list `revs` begins with a revision whose text is `own`.
abbrev pub BeginsWith : List ℕ → List RevId → Type 0
BeginsWith own [] = ⊥
BeginsWith own (r ∷ rest) = own ≡ rev_text r

-- A `leaf` line, in which the list of revisions is an ancestry that begins with the leaf.
pub record IsLeafLine (line : List ℕ) (live : Bool) (revs : List RevId) : Type 0 where
  pub own : List ℕ
  pub list : List ℕ
  pub parts : LeafParts line own live list
  pub listed : IsRevs list revs
  pub falls : FallsByOne revs
  pub begins : BeginsWith own revs

-- The parts of a line that consists of a keyword, a blank, an id, a blank and a list of revisions.
pub record ListedParts (word line id list : List ℕ) : Type 0 where
  pub lacks_blank : lacks 32 list ≡ true
  pub form : line ≡ word ++ (id ++ 32 ∷ list)
  pub utf8 : IsUtf8 id

pub record IsListed (word line id : List ℕ) (revs : List RevId) : Type 0 where
  pub list : List ℕ
  pub parts : ListedParts word line id list
  pub listed : IsRevs list revs

-- The first word of a line `missing ID REVS`, `contradicts ID REV` or `differs ID REVS`, with the blank after this
-- word.
abbrev pub finding_text : Finding → List ℕ
finding_text findings.Missing = codes "missing "
finding_text findings.Contradicts = codes "contradicts "
finding_text findings.Differs = codes "differs "

-- The line is not an output line of `compare` with the given finding: missing, contradicting or differing revisions.
abbrev pub NoFinding : List ℕ → Finding → Type 0
NoFinding line finding = (id : List ℕ) (revs : List RevId) → IsListed (finding_text finding) line id revs → ⊥

abbrev pub NoRow : List ℕ → Table → Type 0
NoRow line table = (name numbers : List ℕ) → IsRow table line name numbers → ⊥

abbrev pub NoLog : List ℕ → Type 0
NoLog line = (id : List ℕ) (entries : List Logged) → IsLog line id entries → ⊥

-- The line has neither a format of `show` nor the format of `conflicts`.
abbrev pub NoTree : List ℕ → Type 0
NoTree line =
    ((id : List ℕ) (count : ℕ) → IsDocLine line id count → ⊥) × ((live : Bool) (revs : List RevId) → IsLeafLine line live revs → ⊥)
    × ((id : List ℕ) (revs : List RevId) → IsListed (codes "conflict ") line id revs → ⊥)

-- The line is not a line of `compare` about a document, not a line of numbers, and not a log.
abbrev pub NoMore : List ℕ → Type 0
NoMore line = ((finding : Finding) → NoFinding line finding) × ((table : Table) → NoRow line table) × NoLog line

-- The contents of a line of a script's output, if the line does not describe a document's tree.
abbrev pub TellsMore : List ℕ → Told → Type 0
TellsMore line (told.Document id count) = ⊥
TellsMore line (told.Leaf live revs) = ⊥
TellsMore line (told.Conflict id revs) = ⊥
TellsMore line (told.Found f) = IsListed (finding_text f.finding) line (string_bytes f.id) f.revs.items
TellsMore line (told.Row r) = IsRow r.table line (string_bytes r.name) r.numbers.items
TellsMore line (told.Log l) = IsLog line (string_bytes l.id) (map logged l.entries.items)
TellsMore line told.Other = NoMore line × (is_undrawn line ≡ true)
TellsMore line told.Unknown = NoMore line × (is_undrawn line ≡ false)

-- The contents of a line of a script's output. A line that is not drawn is `Other` if it begins as an output line, and
-- otherwise `Unknown`.
abbrev pub Tells : List ℕ → Told → Type 0
Tells line (told.Document id count) = IsDocLine line (string_bytes id) count
Tells line (told.Leaf live revs) = IsLeafLine line live revs.items
Tells line (told.Conflict id revs) = IsListed (codes "conflict ") line (string_bytes id) revs.items
Tells line (told.Found f) = IsListed (finding_text f.finding) line (string_bytes f.id) f.revs.items
Tells line (told.Row r) = IsRow r.table line (string_bytes r.name) r.numbers.items
Tells line (told.Log l) = IsLog line (string_bytes l.id) (map logged l.entries.items)
Tells line told.Other = NoTree line × NoMore line × (is_undrawn line ≡ true)
Tells line told.Unknown = NoTree line × NoMore line × (is_undrawn line ≡ false)
