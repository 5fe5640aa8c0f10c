-- Defines sequences of checks. Each check passes a value on to the next check, or gives an error.
use Rattle.std.specs.Prelude.{Bool, true, false, ⊤, Option, Some, None, Result, Ok, Err}

-- Like Rust's `Result::and_then`: the check f is applied to the value of the previous check. If the previous check
-- failed, its error is the result.
infixl 10 ◌>>=◌
abbrev pub ◌>>=◌ : {A B E : Type 0} → Result A E → (A → Result B E) → Result B E
Ok x >>= f = f x
Err e >>= f = Err e

-- The result of a check that gives the error e if its test is true.
abbrev pub refused_if : {E : Type 0} → Bool → E → Result ⊤ E
refused_if true e = Err e
refused_if false e = Ok tt

-- The value of an option, or the error e if there is no value.
abbrev pub or_refused : {A E : Type 0} → E → Option A → Result A E
or_refused e None = Err e
or_refused e (Some x) = Ok x

-- The given result, but with the error e in place of any error.
abbrev pub named : {A E F : Type 0} → F → Result A E → Result A F
named e (Ok x) = Ok x
named e (Err why) = Err e
