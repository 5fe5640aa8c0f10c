-- Defines which task a command line of `couch_journal` names.
use Rattle.std.specs.Prelude.{◌≡◌, ◌^◌, ◌<◌, ◌⊎◌, ℕ, ◌&&◌, ◌||◌, not, List, Bool, true, false, if◌then◌else◌, Option, Some, None, is_some, codes}
use Rattle.std.specs.Borrow.{Bor}
use Rattle.std.specs.Str.Parse.{without_leading_plus, IsNumeral, digits_value}
use Rattle.couch_journal.specs.declared.options.Options.{Options}
use Rattle.couch_journal.specs.declared.tasks.Named.{Named}
use Rattle.couch_journal.specs.declared.tasks.Named.TheVariants as named
use Rattle.couch_journal.specs.declared.tasks.Task.{Task}
use Rattle.couch_journal.specs.declared.tasks.Task.TheVariants as tasks

-- The command-line argument that selects a task, for example `page` for the task `Page`.
abbrev pub word_of : Named → List ℕ
word_of named.Page = codes "page"
word_of named.Ask = codes "ask"
word_of named.Diff = codes "diff"
word_of named.Lacking = codes "lacking"
word_of named.Received = codes "received"
word_of named.Parts = codes "parts"
word_of named.Refused = codes "refused"
word_of named.Seal = codes "seal"
word_of named.Confirm = codes "confirm"
word_of named.States = codes "states"
word_of named.Select = codes "select"
word_of named.Conflicts = codes "conflicts"
word_of named.Name = codes "name"
word_of named.Compare = codes "compare"
word_of named.Info = codes "info"

-- The number of arguments that a task takes.
abbrev pub arguments_of : Named → ℕ
arguments_of named.Parts = 2
arguments_of named.Seal = 2
arguments_of named.Select = 1
arguments_of named.Name = 1
arguments_of other = 0

-- Whether a task takes the option `--at`.
abbrev pub takes_at : Named → Bool
takes_at named.Confirm = true
takes_at other = false

-- Whether a task takes the option `--doc`.
abbrev pub takes_doc : Named → Bool
takes_doc named.Select = true
takes_doc other = false

-- Whether a task takes the option `--several`.
abbrev pub takes_several : Named → Bool
takes_several named.Page = true
takes_several named.Select = true
takes_several other = false

-- Whether a task takes the option `--lacks`.
abbrev pub takes_lacks : Named → Bool
takes_lacks named.Received = true
takes_lacks other = false

-- Whether a task takes the option `--documents`.
abbrev pub takes_documents : Named → Bool
takes_documents named.Compare = true
takes_documents other = false

-- Whether a task takes the option `--unverified`.
abbrev pub takes_unverified : Named → Bool
takes_unverified named.States = true
takes_unverified named.Select = true
takes_unverified other = false

-- Whether the command line has (`given`) an option that the task does not take.
abbrev pub is_other : Bool → Bool → Bool
is_other given taken = given && not taken

-- Whether a command line has an option that its task does not take.
abbrev pub has_other_option : Named → Options → Bool
has_other_option n o =
    is_other (is_some o.at) (takes_at n) || is_other (is_some o.doc) (takes_doc n) || is_other o.several (takes_several n)
    || is_other o.lacks (takes_lacks n) || is_other o.documents (takes_documents n)
    || is_other o.unverified (takes_unverified n)

-- The number of arguments that a command line gives after the name of the task.
abbrev pub arguments_given : Options → ℕ
arguments_given o = if is_some o.second then 2 else if is_some o.first then 1 else 0

-- The given argument is the number n in decimal, with or without a leading plus sign, and n has at most 64 bits.
abbrev pub IsNumber : Option (Bor (List ℕ)) → ℕ → Type 0
IsNumber None n = ⊥
IsNumber (Some text) n =
    IsNumeral 10 (without_leading_plus text.now) × (digits_value 10 (without_leading_plus text.now) < 2 ^ 64)
    × (n ≡ digits_value 10 (without_leading_plus text.now))

-- The task with the name n, and with the parsed arguments and options o, is the task `task`.
abbrev pub Fits : Named → Options → Task → Type 0
Fits named.Page o task = task ≡ tasks.Page o.several
Fits named.Ask o task = task ≡ tasks.Ask
Fits named.Diff o task = task ≡ tasks.Diff
Fits named.Lacking o task = task ≡ tasks.Lacking
Fits named.Received o task = task ≡ tasks.Received o.lacks
Fits named.Parts o task =
    (bytes lines : ℕ) × IsNumber o.first bytes × IsNumber o.second lines × (task ≡ tasks.Parts bytes lines)
Fits named.Refused o task = task ≡ tasks.Refused
Fits named.Seal o task =
    (chain seq : Bor (List ℕ)) × (o.first ≡ Some chain) × (o.second ≡ Some seq) × (task ≡ tasks.Seal chain seq)
Fits named.Confirm o task = task ≡ tasks.Confirm o.at
Fits named.States o task = task ≡ tasks.States o.unverified
Fits named.Select o task = (size : ℕ) × IsNumber o.first size × (task ≡ tasks.Select size)
Fits named.Conflicts o task = task ≡ tasks.Conflicts
Fits named.Name o task = (word : Bor (List ℕ)) × (o.first ≡ Some word) × (task ≡ tasks.Name word)
Fits named.Compare o task = task ≡ tasks.Compare o.documents
Fits named.Info o task = task ≡ tasks.Info

-- The task with the name n takes the arguments and options in o. The value `task` is the task named n, built from the
-- parsed arguments and options in o (`Fits`).
abbrev pub Takes : Named → Options → Task → Type 0
Takes n o task = (has_other_option n o ≡ false) × (arguments_given o ≡ arguments_of n) × Fits n o task

-- In the parsed command line o, the argument `o.task` names the task `task`, which takes the remaining arguments and
-- the options.
abbrev pub IsTaskOf : Options → Task → Type 0
IsTaskOf o task = (n : Named) × (o.task.now ≡ word_of n) × Takes n o task

-- The parsed command line o names no task, or has arguments and options that the named task does not take.
abbrev pub IsTaskless : Options → Type 0
IsTaskless o =
    ((n : Named) → o.task.now ≡ word_of n → ⊥)
    ⊎ ((n : Named) × (o.task.now ≡ word_of n) × ((task : Task) → Takes n o task → ⊥))
