-- Defines the task that a command line of `couch_lines` names, as specified in docs/PROFILE.md, "Options of
-- `couch_lines`".
use Rattle.std.specs.Prelude.{◌≡◌, ◌^◌, ◌<◌, ℕ, ◌&&◌, ◌||◌, ◌==◌, nat_lt, nat_le, length, List, Bool, Option, Some, None, option_map, codes, string_bytes, true, false}
use Rattle.std.specs.List.{list_all}
use Rattle.std.specs.Str.Parse.{without_leading_plus, IsNumeral, digits_value}
use Rattle.clap.specs.Words.{App, HasKind, Rule, fault_of, first_of, one_of, matches_of, new_rule, with_rule}
use Rattle.clap.specs.declared.builder.action.ArgAction.TheVariants.{Set}
use Rattle.cli_common.specs.Words.{IsFlag, flag_option, hidden_option, program_app}
use Rattle.couch_lines.specs.declared.tasks.Named.{Named}
use Rattle.couch_lines.specs.declared.tasks.Named.TheVariants as named
use Rattle.couch_lines.specs.declared.tasks.Task.{Task}
use Rattle.couch_lines.specs.declared.tasks.Task.TheVariants.{Load, Ids, Diff, Leaves, Bulk, Trees}
use Rattle.couch_lines.specs.declared.options.NoTask.{NoTask}
use Rattle.couch_lines.specs.declared.options.NoTask.TheVariants.{Words, Unknown, Wrong, Memory}

-- Whether a byte is an ASCII letter, a digit, `-` or `_`.
abbrev pub is_name_byte : ℕ → Bool
is_name_byte b =
    nat_le 97 b && nat_le b 122 || nat_le 65 b && nat_le b 90 || nat_le 48 b && nat_le b 57 || b == 45 || b == 95

-- Whether a string is the name of a database: 1 to 32 ASCII letters, digits, `-` or `_`.
abbrev pub is_name : List ℕ → Bool
is_name text = nat_lt 0 (length text) && nat_le (length text) 32 && list_all is_name_byte text

-- The number of items per request body: the number that the given text represents, or the default `absent` if there is
-- no text.
abbrev pub IsSize : ℕ → Option (List ℕ) → ℕ → Type 0
IsSize absent None n = n ≡ absent
IsSize absent (Some text) n =
    IsNumeral 10 (without_leading_plus text) × (digits_value 10 (without_leading_plus text) < 2 ^ 64)
    × (n ≡ digits_value 10 (without_leading_plus text)) × (0 < n)

abbrev pub IsNamed : Option (List ℕ) → List ℕ → Type 0
IsNamed word db = (word ≡ Some db) × (is_name db ≡ true)

-- The command-line argument that names a task of `couch_lines`.
abbrev pub word_of : Named → List ℕ
word_of named.Load = codes "load"
word_of named.Ids = codes "ids"
word_of named.Diff = codes "diff"
word_of named.Leaves = codes "leaves"
word_of named.Bulk = codes "bulk"
word_of named.Trees = codes "trees"

-- The optional argument `word` is absent, or is the name of a database.
abbrev pub IsNamedOrNone : Option (List ℕ) → Option (List ℕ) → Type 0
IsNamedOrNone word None = word ≡ None
IsNamedOrNone word (Some db) = IsNamed word db

-- The task of `couch_lines` with the name `named`, the argument `word`, and the flags `whole` and `svg`.
abbrev pub Fits : Named → Option (List ℕ) → Bool → Bool → Task → Type 0
Fits named.Load word whole svg (Load db w) = IsNamed word (string_bytes db) × (w ≡ whole) × (svg ≡ false)
Fits named.Load word whole svg (Ids n) = ⊥
Fits named.Load word whole svg (Diff n) = ⊥
Fits named.Load word whole svg (Leaves db) = ⊥
Fits named.Load word whole svg (Bulk n w) = ⊥
Fits named.Load word whole svg (Trees db s) = ⊥
Fits named.Ids word whole svg (Load db w) = ⊥
Fits named.Ids word whole svg (Ids n) = IsSize 0 word n × (whole ≡ false) × (svg ≡ false)
Fits named.Ids word whole svg (Diff n) = ⊥
Fits named.Ids word whole svg (Leaves db) = ⊥
Fits named.Ids word whole svg (Bulk n w) = ⊥
Fits named.Ids word whole svg (Trees db s) = ⊥
Fits named.Diff word whole svg (Load db w) = ⊥
Fits named.Diff word whole svg (Ids n) = ⊥
Fits named.Diff word whole svg (Diff n) = IsSize 0 word n × (whole ≡ false) × (svg ≡ false)
Fits named.Diff word whole svg (Leaves db) = ⊥
Fits named.Diff word whole svg (Bulk n w) = ⊥
Fits named.Diff word whole svg (Trees db s) = ⊥
Fits named.Leaves word whole svg (Load db w) = ⊥
Fits named.Leaves word whole svg (Ids n) = ⊥
Fits named.Leaves word whole svg (Diff n) = ⊥
Fits named.Leaves word whole svg (Leaves db) = IsNamed word (string_bytes db) × (whole ≡ false) × (svg ≡ false)
Fits named.Leaves word whole svg (Bulk n w) = ⊥
Fits named.Leaves word whole svg (Trees db s) = ⊥
Fits named.Bulk word whole svg (Load db w) = ⊥
Fits named.Bulk word whole svg (Ids n) = ⊥
Fits named.Bulk word whole svg (Diff n) = ⊥
Fits named.Bulk word whole svg (Leaves db) = ⊥
Fits named.Bulk word whole svg (Bulk n w) = IsSize 1000 word n × (w ≡ whole) × (svg ≡ false)
Fits named.Bulk word whole svg (Trees db s) = ⊥
Fits named.Trees word whole svg (Load db w) = ⊥
Fits named.Trees word whole svg (Ids n) = ⊥
Fits named.Trees word whole svg (Diff n) = ⊥
Fits named.Trees word whole svg (Leaves db) = ⊥
Fits named.Trees word whole svg (Bulk n w) = ⊥
Fits named.Trees word whole svg (Trees db s) = IsNamedOrNone word (option_map string_bytes db) × (whole ≡ false) × (s ≡ svg)

-- The task that the arguments and flags of a command line select. The first argument is the name of the task, and there
-- is no third argument.
abbrev pub Asks : Option (List ℕ) → Option (List ℕ) → Option (List ℕ) → Bool → Bool → Task → Type 0
Asks word second third whole svg task = (n : Named) × (word ≡ Some (word_of n)) × (third ≡ None) × Fits n second whole svg task

-- ---- arguments without a task

-- The reason why task n cannot be built from the argument `word` and the flags `whole` and `svg`. The reason is `Wrong`
-- only if the task n does not take the argument `word` and the flags `whole` and `svg`. The reason `Memory` means that
-- an allocation failed, and may occur with any argument `word`.
abbrev pub FitsNone : Named → Option (List ℕ) → Bool → Bool → NoTask → Type 0
FitsNone n word whole svg (Words error) = ⊥
FitsNone n word whole svg Unknown = ⊥
FitsNone n word whole svg (Wrong m) = (m ≡ n) × ((t : Task) → Fits n word whole svg t → ⊥)
FitsNone n word whole svg Memory = Unit {0}

-- The reason why task n does not accept an argument. The reason is `Wrong` only if the argument is absent or is not a
-- database name. The reason `Memory` means that an allocation failed, and may occur with any argument `word`.
abbrev pub NamesNone : Named → Option (List ℕ) → NoTask → Type 0
NamesNone n word (Words error) = ⊥
NamesNone n word Unknown = ⊥
NamesNone n word (Wrong m) = (m ≡ n) × ((db : List ℕ) → IsNamed word db → ⊥)
NamesNone n word Memory = Unit {0}

-- The reason why the arguments of a command line name no task. The reason is `Unknown` only if the first argument is
-- not the name of a task. The reason is `Wrong` only if the first argument names a task that does not accept the
-- remaining arguments and flags. The reason `Memory` means that an allocation failed, and may occur with any arguments.
abbrev pub AskNothing : Option (List ℕ) → Option (List ℕ) → Option (List ℕ) → Bool → Bool → NoTask → Type 0
AskNothing word second third whole svg (Words error) = ⊥
AskNothing word second third whole svg Unknown = (n : Named) → word ≡ Some (word_of n) → ⊥
AskNothing word second third whole svg (Wrong n) =
    (word ≡ Some (word_of n)) × (third ≡ None → (t : Task) → Fits n second whole svg t → ⊥)
AskNothing word second third whole svg Memory = Unit {0}

-- ---- the command line

-- The `clap` rule of the first argument of `couch_lines`. The argument is required.
abbrev pub task_word : Rule
task_word = record (new_rule (codes "task")) { action = Some Set; value_names = 1; required = true }

-- The `clap` rule of the second argument of `couch_lines`.
abbrev pub second_word : Rule
second_word = record (new_rule (codes "of")) { action = Some Set; value_names = 1 }

-- The command line of `couch_lines`. The `clap` rules accept a third argument, so that the program, not `clap`, prints
-- the error message.
abbrev pub command_line : App
command_line =
    with_rule (with_rule (with_rule (with_rule (with_rule (program_app (codes "couch_lines")) task_word) second_word)
    (hidden_option (codes "further"))) (flag_option (codes "whole"))) (flag_option (codes "svg"))

-- The texts of a command line's arguments and flags name the task `task`.
abbrev pub SaysBy : (List ℕ → Option (List ℕ)) → Option (List ℕ) → Option (List ℕ) → Task → Type 0
SaysBy text flag drawn task =
    (whole : Bool) × (svg : Bool) × IsFlag flag whole × IsFlag drawn svg
    × Asks (text (codes "task")) (text (codes "of")) (text (codes "further")) whole svg task

-- The reason why the texts of a command line's arguments and flags name no task.
abbrev pub RefusesBy : (List ℕ → Option (List ℕ)) → Option (List ℕ) → Option (List ℕ) → NoTask → Type 0
RefusesBy text flag drawn why =
    (whole : Bool) × (svg : Bool) × IsFlag flag whole × IsFlag drawn svg
    × AskNothing (text (codes "task")) (text (codes "of")) (text (codes "further")) whole svg why

-- The text of an argument of the command line, if the argument is present.
abbrev pub text_said : List (List ℕ) → List ℕ → Option (List ℕ)
text_said words id = first_of id (matches_of command_line words)

abbrev pub flag_said : List (List ℕ) → List ℕ → Option (List ℕ)
flag_said words id = one_of id (matches_of command_line words)

-- The task `task` is the task that the arguments of the command line describe.
abbrev pub Says : List (List ℕ) → Task → Type 0
Says words task = SaysBy (text_said words) (flag_said words (codes "whole")) (flag_said words (codes "svg")) task

abbrev pub Refused : List (List ℕ) → NoTask → Type 0
Refused words why = RefusesBy (text_said words) (flag_said words (codes "whole")) (flag_said words (codes "svg")) why

-- The reason why the program runs no task, which is an error of `clap`, a command line that names no task, or a failed
-- allocation.
abbrev pub Refuses : List (List ℕ) → NoTask → Type 0
Refuses words (Words error) = HasKind (fault_of command_line words) error
Refuses words Unknown = Refused words Unknown
Refuses words (Wrong n) = Refused words (Wrong n)
Refuses words Memory = Unit {0}
