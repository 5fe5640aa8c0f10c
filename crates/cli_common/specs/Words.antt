-- Defines the parts of a command line and their parsed values, as specified in docs/PROFILE.md, "Options" and "Options
-- of `couch_lines`".
use Rattle.std.specs.Prelude.{◌≡◌, ℕ, List, Bool, Option, Some, None, codes, true, false}
use Rattle.clap.specs.Words.{App, Rule, first_of, first_value, found_of, matches_of, new_app, new_rule, one_of, one_text}
use Rattle.clap.specs.Simple.{on_top}
use Rattle.clap.specs.declared.builder.action.ArgAction.TheVariants.{Set, SetTrue}
use Rattle.clap.specs.declared.parser.matches.ArgMatches.{ArgMatches}

-- The `clap` definition of a program that has an option for the program's version, but no arguments.
abbrev pub program_app : List ℕ → App
program_app name = on_top (λ s. record s { has_version = true }) (new_app name)

-- The definition, for `clap`, of a command-line option without a value, such as `--quiet`.
abbrev pub flag_option : List ℕ → Rule
flag_option name = record (new_rule name) { long = Some name; action = Some SetTrue }

-- The definition, for `clap`, of a positional command-line argument (an argument without an option name).
abbrev pub hidden_option : List ℕ → Rule
hidden_option name = record (new_rule name) { action = Some Set }

-- The value `flag` says whether an option without a value is set. An option is set if `clap` stores the text `true` for
-- it, and unset if `clap` stores `false` or no text.
abbrev pub IsFlag : Option (List ℕ) → Bool → Type 0
IsFlag text flag =
    ((text ≡ None) → flag ≡ false) × ((text ≡ Some (codes "true")) → flag ≡ true)
    × ((text ≡ Some (codes "false")) → flag ≡ false)

-- The value m is the result of parsing the command line `words` with `clap`. The methods `get_str`, `get_one` and
-- `get_flag` of the parsing result m give an argument's first value in the command line `words`.
abbrev pub IsFound : App → List (List ℕ) → ArgMatches → Type 0
IsFound line words m =
    (first_value (found_of m) ≡ λ id. first_of id (matches_of line words))
    × (one_text (found_of m) ≡ λ id. one_of id (matches_of line words))
