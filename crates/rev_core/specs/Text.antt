-- Defines the syntax of revision ids, as specified in docs/PROFILE.md, "Revision id text".
use Rattle.std.specs.Prelude.{ℕ, ◌+◌, ◌-◌, ◌*◌, ◌^◌, Bool, ◌&&◌, List, ◌∷◌, ◌++◌, ◌==◌, nat_le, nat_lt, slice_index, take, drop, fold, Option, Some, None, Result, Ok, Err, if◌then◌else◌}
use Rattle.std.specs.List.{list_all, position}
use Rattle.std.specs.Fmt.{decimal}
use Rattle.rev_core.specs.Sig.{is_sig}
use Rattle.rev_core.specs.Rev.{RevId}
use Rattle.rev_core.specs.declared.fault.RevFault.{RevFault}
use Rattle.rev_core.specs.declared.fault.RevFault.TheVariants as faults

abbrev pub is_digit : ℕ → Bool
is_digit c = nat_le 48 c && nat_le c 57

-- The number that results from appending the decimal digit c to the number n.
abbrev pub with_digit : ℕ → ℕ → ℕ
with_digit n c = n * 10 + (c - 48)

-- The number that a string of decimal digits denotes.
abbrev pub value_of : List ℕ → ℕ
value_of digits = fold with_digit 0 digits

-- Whether a string is a generation: 1 to 2^32 - 1 in decimal, without leading zeros.
abbrev pub is_generation : List ℕ → Bool
is_generation text = nat_le 49 (slice_index text 0) && list_all is_digit text && nat_lt (value_of text) (2 ^ 32)

-- The generation that a string denotes, or `None` if the string is not a generation.
abbrev pub generation_read : List ℕ → Option ℕ
generation_read text = if is_generation text then Some (value_of text) else None

abbrev pub is_dash : ℕ → Bool
is_dash c = c == 45

-- The revision id that has the parsed generation, and has the string after the `-` as its signature. If the generation
-- or the signature is invalid, the result is the error of the first invalid part.
abbrev pub with_sig : Option ℕ → List ℕ → Result RevId RevFault
with_sig None text = Err faults.BadGeneration
with_sig (Some n) text = if is_sig text then Ok (record { generation = n; sig = text }) else Err faults.BadSig

-- The result of parsing a string as a revision id, if the string is split at index i.
abbrev pub cut_at : List ℕ → Option ℕ → Result RevId RevFault
cut_at text None = Err faults.BadGeneration
cut_at text (Some i) = with_sig (generation_read (take i text)) (drop (i + 1) text)

-- The result of parsing a string as a revision id. The string is split at its first `-`.
abbrev pub rev_read : List ℕ → Result RevId RevFault
rev_read text = cut_at text (position is_dash text)

-- The string of a revision id: the generation in decimal, `-`, and the signature.
abbrev pub rev_text : RevId → List ℕ
rev_text r = decimal r.generation ++ 45 ∷ r.sig
