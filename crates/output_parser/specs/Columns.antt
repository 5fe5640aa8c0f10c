-- Defines the lines of numbers in a script's output, as specified in docs/PROFILE.md, "Answers".
use Rattle.std.specs.Prelude.{◌≡◌, ℕ, List, [], ◌∷◌, ◌++◌, true, codes, reverse}
use Rattle.std.specs.Str.{IsUtf8}
use Rattle.output_parser.specs.Words.{lacks, named, InTurn, IsNumber}
use Rattle.output_parser.specs.declared.told.Column.{Column}
use Rattle.output_parser.specs.declared.told.Column.TheVariants as columns
use Rattle.output_parser.specs.declared.told.Table.{Table}
use Rattle.output_parser.specs.declared.told.Table.TheVariants as tables

-- The caption of a column in a line of numbers, without the blank between the caption and the number.
abbrev pub column_text : Column → List ℕ
column_text columns.ComparedDocuments = codes "compared"
column_text columns.ComparedLeaves = codes " documents"
column_text columns.ComparedMissing = codes " leaves missing"
column_text columns.Contradicting = codes " contradicting"
column_text columns.Differing = codes " differing"
column_text columns.Seq = codes " seq"
column_text columns.Life = codes " life"
column_text columns.Documents = codes " documents"
column_text columns.Deleted = codes " deleted"
column_text columns.Leaves = codes " leaves"
column_text columns.Conflicts = codes " conflicts"
column_text columns.Revisions = codes " revisions"
column_text columns.Sessions = codes " sessions"
column_text columns.From = codes " from"
column_text columns.To = codes " to"
column_text columns.Checked = codes " checked"
column_text columns.Found = codes " found"
column_text columns.Read = codes " read"
column_text columns.Written = codes " written"
column_text columns.Failed = codes " failed"

-- The columns of a line of numbers, in order, given the kind of the line.
abbrev pub columns_of : Table → List Column
columns_of tables.Compared =
    columns.ComparedDocuments ∷ columns.ComparedLeaves ∷ columns.ComparedMissing ∷ columns.Contradicting ∷ columns.Differing ∷ []
columns_of tables.Info =
    columns.Seq ∷ columns.Life ∷ columns.Documents ∷ columns.Deleted ∷ columns.Leaves ∷ columns.Conflicts ∷ columns.Revisions
    ∷ columns.Sessions ∷ []
columns_of tables.Session =
    columns.From ∷ columns.To ∷ columns.Checked ∷ columns.Found ∷ columns.Read ∷ columns.Written ∷ columns.Failed ∷ []

-- The text `text` is `front` followed by the column `column` with the number n.
pub record EndsIn (column : Column) (n : ℕ) (front text : List ℕ) : Type 0 where
  pub word : List ℕ
  pub lacks_blank : lacks 32 word ≡ true
  pub form : text ≡ front ++ named (column_text column) word
  pub number : IsNumber word n

-- The text `text` is `front` followed by the columns of the list `columns`. The list `numbers` has the number of each
-- column, at the column's index. The lists `columns` and `numbers` are in reverse order: the first item of each list is
-- for the last column of the text.
abbrev pub Ends : List Column → List ℕ → List ℕ → List ℕ → Type 0
Ends columns numbers front text = InTurn EndsIn columns numbers front text

-- The text `front` before the columns of a line of numbers. This text is `info DB uuid U`, `session S`, or empty.
abbrev pub IsFront : Table → List ℕ → List ℕ → Type 0
IsFront tables.Compared name front = (front ≡ []) × (name ≡ [])
IsFront tables.Info name front = (uuid : List ℕ) × (front ≡ (codes "info " ++ name) ++ named (codes " uuid") uuid) × (lacks 32 uuid ≡ true)
IsFront tables.Session name front = front ≡ codes "session " ++ name

-- A line of numbers about a comparison, a database, or a session. A comparison's line is `compared N documents N leaves
-- missing N contradicting N differing N`. A database's line is `info DB uuid U seq N life N documents N deleted N
-- leaves N conflicts N revisions N sessions N`. A session's line is `session S from N to N checked N found N read N
-- written N failed N`.
pub record IsRow (table : Table) (line name : List ℕ) (numbers : List ℕ) : Type 0 where
  pub front : List ℕ
  pub ends : Ends (reverse (columns_of table)) (reverse numbers) front line
  pub is_front : IsFront table name front
  pub utf8 : IsUtf8 name
