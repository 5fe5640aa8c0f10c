-- Defines the options of the command line, and the values of the options, as specified in docs/PROFILE.md, "Options of
-- `couch_relay`".
use Rattle.std.specs.Prelude.{◌≡◌, ℕ, List, [], Option, Some, None, codes, unwrap_or, true}
use Rattle.clap.specs.Words.{App, HasKind, Rule, fault_of, first_of, one_of, matches_of, new_rule, with_rule}
use Rattle.clap.specs.declared.builder.action.ArgAction.TheVariants.{Set}
use Rattle.clap.specs.declared.builder.value_parser.ValueParser.TheVariants as vp
use Rattle.cli_common.specs.Words.{IsFlag, flag_option, program_app}
use Rattle.couch_relay.specs.declared.options.NoOptions.{NoOptions}
use Rattle.couch_relay.specs.declared.options.NoOptions.TheVariants.{Words, NoNumber, Memory}
use Rattle.couch_relay.specs.declared.options.Options.{Options}
use Rattle.couch_relay.specs.Frames.{IsNumber}
use Rattle.relay_core.specs.Messages.{Text}

-- ---- the command line

-- The `clap` rule of a required positional argument.
abbrev pub argument : Text → Rule
argument name = record (new_rule name) { action = Some Set; required = true }

-- The `clap` rule of an option with an integer value below 2 ^ 64.
abbrev pub number_option : Text → Rule
number_option name =
    record (new_rule name)
    { long = Some name; action = Some Set; value_names = 1; parser = Some (vp.Unsigned 0 18446744073709551615) }

-- The `clap` rule of an option with a string value.
abbrev pub text_option : Text → Rule
text_option name = record (new_rule name) { long = Some name; action = Some Set; value_names = 1 }

-- The command line `app` with the arguments SOURCE, TARGET and SESSION added.
abbrev pub with_arguments : App → App
with_arguments app =
    with_rule (with_rule (with_rule app (argument (codes "SOURCE"))) (argument (codes "TARGET"))) (argument (codes "SESSION"))

-- The command line `app` with the numeric options `--batch`, `--carry` and `--every` added.
abbrev pub with_numbers : App → App
with_numbers app =
    with_rule (with_rule (with_rule app (number_option (codes "batch"))) (number_option (codes "carry")))
    (number_option (codes "every"))

-- The given command line, extended by the options for the feed, the filter and the selection.
abbrev pub with_options : App → App
with_options app = with_rule (with_rule (with_rule (with_rule (with_rule (with_rule
    app (flag_option (codes "continuous"))) (flag_option (codes "progress"))) (text_option (codes "filter")))
    (text_option (codes "query"))) (text_option (codes "salt"))) (flag_option (codes "choice"))

-- The command line of the program.
abbrev pub command_line : App
command_line = with_options (with_numbers (with_arguments (program_app (codes "couch_relay"))))

-- ---- option values

-- If an option has a text, the text is a decimal numeral with the value n. If an option has no text, n is the number
-- `default`.
abbrev pub IsValue : Option Text → ℕ → ℕ → Type 0
IsValue None default n = n ≡ default
IsValue (Some text) default n = IsNumber 64 text n

-- Each field of the options o has the value that the text of one argument or option represents. The functions `text`
-- and `number` return the text of an option, given the option's name.
pub record AreGiven (text number : Text → Option Text) (o : Options) : Type 0 where
  pub source : o.source.now ≡ unwrap_or (text (codes "SOURCE")) []
  pub target : o.target.now ≡ unwrap_or (text (codes "TARGET")) []
  pub session_id : o.session_id.now ≡ unwrap_or (text (codes "SESSION")) []
  pub batch : IsValue (number (codes "batch")) 500 o.batch
  pub carry : IsValue (number (codes "carry")) 500 o.carry
  pub every : IsValue (number (codes "every")) 10 o.every
  pub continuous : IsFlag (number (codes "continuous")) o.continuous
  pub progress : IsFlag (number (codes "progress")) o.progress
  pub filter : o.filter.now ≡ unwrap_or (text (codes "filter")) []
  pub query : o.query.now ≡ unwrap_or (text (codes "query")) []
  pub salt : o.salt.now ≡ unwrap_or (text (codes "salt")) []
  pub choice : IsFlag (number (codes "choice")) o.choice

-- The options have the values that `clap` reads from the arguments. The first argument is the program's name.
abbrev pub Says : List Text → Options → Type 0
Says words o = AreGiven (λ id. first_of id (matches_of command_line words)) (λ id. one_of id (matches_of command_line words)) o

-- The reason why no options can be made from the command line's arguments. If the reason is `Words`, the error in
-- `Words` says that `clap` rejects the arguments, or that an allocation failed (`HasKind`). The variant `NoNumber` says
-- that no value of `Options` matches the command line's arguments. The variant `Memory` says that an allocation failed.
abbrev pub Refuses : List Text → NoOptions → Type 0
Refuses words (Words error) = HasKind (fault_of command_line words) error
Refuses words NoNumber = (o : Options) → Says words o → ⊥
Refuses words Memory = Unit {0}
