-- Defines document ids, as specified in docs/PROFILE.md, "Document ids".
use Rattle.std.specs.Prelude.{ℕ, Bool, false, ◌&&◌, not, List, [], ◌∷◌, length, ◌==◌, nat_lt, nat_eq, codes, Result, Ok, Err, if◌then◌else◌}
use Rattle.std.specs.List.{starts_with}
use Rattle.doc_json.specs.declared.fault.DocFault.{DocFault}
use Rattle.doc_json.specs.declared.fault.DocFault.TheVariants as faults

-- Whether a string begins with `_`.
abbrev pub is_special : List ℕ → Bool
is_special [] = false
is_special (c ∷ rest) = c == 95

-- Whether a string is `_design/` and at least one more character.
abbrev pub is_design : List ℕ → Bool
is_design text = starts_with nat_eq text (codes "_design/") && nat_lt 8 (length text)

-- The result of parsing a document id.
abbrev pub doc_id_read : List ℕ → Result (List ℕ) DocFault
doc_id_read text =
    if length text == 0 then Err faults.NoId
    else (if is_special text && not (is_design text) then Err faults.ReservedId else Ok text)
