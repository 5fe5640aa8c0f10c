-- Defines the command line of the program `couch_journal`, and what `clap` reads from it.
use Rattle.std.specs.Prelude.{◌≡◌, ℕ, List, [], Option, Some, option_map, codes, unwrap_or, true}
use Rattle.clap.specs.Words.{App, HasKind, Rule, fault_of, first_of, one_of, matches_of, new_rule, with_rule}
use Rattle.clap.specs.declared.builder.action.ArgAction.TheVariants.{Set}
use Rattle.cli_common.specs.Words.{IsFlag, flag_option, hidden_option, program_app}
use Rattle.couch_journal.specs.declared.options.NoTask.{NoTask}
use Rattle.couch_journal.specs.declared.options.NoTask.TheVariants.{Words, Unknown, Memory}
use Rattle.couch_journal.specs.declared.options.Options.{Options}

-- The `clap` rule of the argument that names the task. The argument is required.
abbrev pub task_word : Rule
task_word = record (new_rule (codes "task")) { action = Some Set; value_names = 1; required = true }

-- The `clap` rule of an option with a string value.
abbrev pub text_option : List ℕ → Rule
text_option name = record (new_rule name) { long = Some name; action = Some Set; value_names = 1 }

-- The command line `app` with the program's three positional arguments added.
abbrev pub with_arguments : App → App
with_arguments app =
    with_rule (with_rule (with_rule app task_word) (hidden_option (codes "first"))) (hidden_option (codes "second"))

-- The command line `app` with the program's six options added, namely `at`, `doc`, `several`, `lacks`, `documents` and
-- `unverified`.
abbrev pub with_options : App → App
with_options app = with_rule (with_rule (with_rule (with_rule (with_rule (with_rule
    app (text_option (codes "at"))) (text_option (codes "doc"))) (flag_option (codes "several")))
    (flag_option (codes "lacks"))) (flag_option (codes "documents"))) (flag_option (codes "unverified"))

-- The command line of the program.
abbrev pub command_line : App
command_line = with_options (with_arguments (program_app (codes "couch_journal")))

-- Each field of the options o has the value of one argument or option of the command line. The functions `text` and
-- `flag` return the optional text of the argument or option with a given name.
pub record AreGiven (text flag : List ℕ → Option (List ℕ)) (o : Options) : Type 0 where
  pub task : o.task.now ≡ unwrap_or (text (codes "task")) []
  pub first : option_map (λ s. s.now) o.first ≡ text (codes "first")
  pub second : option_map (λ s. s.now) o.second ≡ text (codes "second")
  pub at : option_map (λ s. s.now) o.at ≡ text (codes "at")
  pub doc : option_map (λ s. s.now) o.doc ≡ text (codes "doc")
  pub several : IsFlag (flag (codes "several")) o.several
  pub lacks : IsFlag (flag (codes "lacks")) o.lacks
  pub documents : IsFlag (flag (codes "documents")) o.documents
  pub unverified : IsFlag (flag (codes "unverified")) o.unverified

-- The options o have the values that `clap` reads from the command line `words`, whose first argument is the program's
-- name.
abbrev pub Says : List (List ℕ) → Options → Type 0
Says words o = AreGiven (λ id. first_of id (matches_of command_line words)) (λ id. one_of id (matches_of command_line words)) o

-- The reason why `clap` reads no values from the command line `words`: an error that `clap` reports, or a failed
-- allocation.
abbrev pub Refuses : List (List ℕ) → NoTask → Type 0
Refuses words (Words error) = HasKind (fault_of command_line words) error
Refuses words Unknown = ⊥
Refuses words Memory = Unit {0}
