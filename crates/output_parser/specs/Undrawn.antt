-- Defines the lines of a script's output that are not drawn, as specified in docs/PROFILE.md, "Answers" and "Pictures".
use Rattle.std.specs.Prelude.{ℕ, ◌||◌, ◌&&◌, nat_eq, List, Bool, not, if◌then◌else◌, codes}
use Rattle.std.specs.List.{starts_with}
use Rattle.std.specs.Str.{bytes_eq}
use Rattle.output_parser.specs.declared.told.Told.{Told}
use Rattle.output_parser.specs.declared.told.Told.TheVariants as told

-- Whether the line begins with the text `word`.
abbrev pub begins : List ℕ → List ℕ → Bool
begins line word = starts_with nat_eq line word

-- Whether the line begins with the first word of an output line about a database, such as `made`, `edited` or
-- `conflicts`.
abbrev pub is_of_changes : List ℕ → Bool
is_of_changes line =
    begins line (codes "made ") || begins line (codes "there ") || begins line (codes "loaded ")
    || begins line (codes "same ") || begins line (codes "edited ") || begins line (codes "change ")
    || begins line (codes "last ") || begins line (codes "backed ") || begins line (codes "restored ")
    || begins line (codes "conflicts ")

-- Whether the line begins as a line about a session or an audit, or as an error line. The line `clean` of the command
-- `audit` counts as a line about an audit, but a longer line that begins with `clean` does not count.
abbrev pub is_of_sessions : List ℕ → Bool
is_of_sessions line =
    bytes_eq line (codes "clean") || begins line (codes "progress ") || begins line (codes "stopped ")
    || begins line (codes "hole ") || begins line (codes "denied ") || begins line (codes "contradicted ")
    || begins line (codes "ledger ") || begins line (codes "refused ")

-- Whether the line begins like the JSON text of a document, and not like a log, whose id begins with `_local/`.
abbrev pub is_document : List ℕ → Bool
is_document line = begins line (codes "{\"_id\":\"") && not (begins line (codes "{\"_id\":\"_local/"))

-- Whether the line begins like an output line of `couch_replicate` that is not shown in pictures.
abbrev pub is_undrawn : List ℕ → Bool
is_undrawn line = is_of_changes line || is_of_sessions line || is_document line

-- The parsed form of a line, if pictures do not show the line. The parsed form is `Other` if the line can be output of
-- `couch_replicate` (`is_undrawn`), and otherwise `Unknown`.
abbrev pub other_of : List ℕ → Told
other_of line = if is_undrawn line then told.Other else told.Unknown
