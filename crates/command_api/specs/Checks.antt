-- Defines functions for checks that are made in order, as specified in docs/PROFILE.md, "Order of checks".
use Rattle.std.specs.Prelude.{Option, Result, Ok, Err}
use Rattle.rev_core.specs.Checks.{or_refused}
use Rattle.script_databases.specs.declared.refusal.Refusal.{Refusal}
use Rattle.script_databases.specs.declared.refusal.Refusal.TheVariants as why

-- A required member of a command, or `BadCommand` if the member is missing or has another type.
abbrev pub needed : {A : Type 0} → Option A → Result A Refusal
needed x = or_refused why.BadCommand x

-- Like Rust's `Result::map`: the function f is applied to the value of an `Ok` result, and an error is unchanged.
abbrev pub seen_as : {A B : Type 0} → (A → B) → Result A Refusal → Result B Refusal
seen_as f (Ok x) = Ok (f x)
seen_as f (Err why) = Err why
