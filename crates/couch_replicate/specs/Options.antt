-- Defines the options of `couch_replicate` and their values, as specified in docs/PROFILE.md, "Options".
use Rattle.std.specs.Prelude.{◌≡◌, ◌^◌, ◌<◌, ℕ, List, Bool, Option, Some, None, codes, option_map, string_bytes, true, false}
use Rattle.std.specs.Str.Parse.{without_leading_plus, IsNumeral, digits_value}
use Rattle.clap.specs.Words.{App, HasKind, Rule, fault_of, first_of, one_of, matches_of, new_rule, with_rule}
use Rattle.clap.specs.declared.builder.action.ArgAction.TheVariants.{Set}
use Rattle.clap.specs.declared.builder.value_parser.ValueParser.TheVariants as vp
use Rattle.cli_common.specs.Words.{IsFlag, flag_option, hidden_option, program_app}
use Rattle.script_databases.specs.declared.settings.Settings.{Settings}
use Rattle.couch_replicate.specs.declared.options.NoSettings.{NoSettings}
use Rattle.couch_replicate.specs.declared.options.Options.{Options}
use Rattle.couch_replicate.specs.declared.options.NoSettings.TheVariants.{Words, NoNumber, File, Memory}

-- The `clap` rule of the option `--deny`.
abbrev pub deny_option : Rule
deny_option = record (new_rule (codes "deny")) { long = Some (codes "deny"); action = Some Set; value_names = 1 }

-- The `clap` rule of an option with an integer value below 2 ^ 64.
abbrev pub number_option : List ℕ → Rule
number_option name =
    record (new_rule name)
    { long = Some name; action = Some Set; value_names = 1; parser = Some (vp.Unsigned 0 18446744073709551615) }

-- The `clap` definition of the command line of the program `couch_replicate`.
abbrev pub options : App
options = with_rule (with_rule (with_rule (with_rule (with_rule (with_rule (with_rule (with_rule (with_rule
    (program_app (codes "couch_replicate")) deny_option) (number_option (codes "seed"))) (number_option (codes "at"))) (number_option (codes "workers")))
    (number_option (codes "batch"))) (flag_option (codes "quiet"))) (flag_option (codes "explain")))
    (flag_option (codes "progress"))) (hidden_option (codes "file"))

-- The number n is the value of the option's text, or the option's default if the option is absent.
abbrev pub IsNumber : Option (List ℕ) → ℕ → ℕ → Type 0
IsNumber None default n = n ≡ default
IsNumber (Some text) default n =
    IsNumeral 10 (without_leading_plus text) × (digits_value 10 (without_leading_plus text) < 2 ^ 64)
    × (n ≡ digits_value 10 (without_leading_plus text))

-- The settings s have the values that the texts of the options give, and the command line has no positional argument.
abbrev pub AreSettings : (List ℕ → Option (List ℕ)) → (List ℕ → Option (List ℕ)) → Settings → Type 0
AreSettings text number s =
    (text (codes "file") ≡ None) × (option_map string_bytes s.deny ≡ text (codes "deny")) × IsNumber (number (codes "seed")) 0 s.seed
    × IsNumber (number (codes "at")) 0 s.at
    × IsNumber (number (codes "workers")) 4 s.workers × IsNumber (number (codes "batch")) 500 s.batch
    × IsFlag (number (codes "quiet")) s.quiet

-- The record o has the settings that the command line gives. Two Booleans of o say whether the command line has
-- `--explain` and `--progress`.
abbrev pub AreOptions : (List ℕ → Option (List ℕ)) → (List ℕ → Option (List ℕ)) → Options → Type 0
AreOptions text number o = AreSettings text number o.settings
    × IsFlag (number (codes "explain")) o.explain × IsFlag (number (codes "progress")) o.progress

-- The options o have the values that the command line `words` gives.
abbrev pub Says : List (List ℕ) → Options → Type 0
Says words o = AreOptions (λ id. first_of id (matches_of options words)) (λ id. one_of id (matches_of options words)) o

-- ---- arguments without settings

-- The reason why the program cannot compute its settings from the texts of the options. If the reason is `NoNumber`, no
-- settings fit the texts of the options (`AreSettings`). If the reason is `File`, the command line has a positional
-- argument. If the reason is `Memory`, an allocation failed.
abbrev pub SetNothing : (List ℕ → Option (List ℕ)) → (List ℕ → Option (List ℕ)) → NoSettings → Type 0
SetNothing text number (Words error) = ⊥
SetNothing text number NoNumber = (s : Settings) → AreSettings text number s → ⊥
SetNothing text number File = text (codes "file") ≡ None → ⊥
SetNothing text number Memory = Unit {0}

-- The reason why the program cannot compute its options from the arguments `words`. If the reason is `Words`, `clap`
-- returned an error. If the reason is `NoNumber`, no value of the type `Options` fits the arguments (`Says`). If the
-- reason is `File`, the command line has a positional argument. If the reason is `Memory`, an allocation failed.
abbrev pub Refuses : List (List ℕ) → NoSettings → Type 0
Refuses words (Words error) = HasKind (fault_of options words) error
Refuses words NoNumber = (o : Options) → Says words o → ⊥
Refuses words File = first_of (codes "file") (matches_of options words) ≡ None → ⊥
Refuses words Memory = Unit {0}
