-- Defines the revision id that a local edit creates, as specified in docs/PROFILE.md, "Ids of local edits". The hash
-- MD5 is specified in RFC 1321.
use Rattle.std.specs.Prelude.{ℕ, ◌+◌, ◌^◌, Bool, true, false, List, [], ◌∷◌, ◌++◌, Option, Some, None, Result, Ok, Err, if◌then◌else◌, nat_lt, codes}
use Rattle.md5.specs.Md5.{md5}
use Rattle.hex.specs.Hex.{encode_lower}
use Rattle.rev_core.specs.Rev.{RevId}
use Rattle.rev_core.specs.Text.{rev_text}
use Rattle.rev_core.specs.declared.fault.RevFault.{RevFault}
use Rattle.rev_core.specs.declared.fault.RevFault.TheVariants as faults

-- The generation of a new revision: 1 if there is no parent, else the parent's generation plus 1.
abbrev pub next_generation : Option RevId → ℕ
next_generation None = 1
next_generation (Some parent) = parent.generation + 1

-- The string of the parent's revision id, or an empty string if there is no parent.
abbrev pub parent_text : Option RevId → List ℕ
parent_text None = []
parent_text (Some parent) = rev_text parent

-- The string `deleted` if the deleted flag is set, else the string `live`.
abbrev pub kind_text : Bool → List ℕ
kind_text true = codes "deleted"
kind_text false = codes "live"

-- The bytes of an edit that are hashed: the parent's string, then `live` or `deleted`, then the body, separated by line
-- feeds.
abbrev pub edit_text : Option RevId → Bool → List ℕ → List ℕ
edit_text parent deleted body = parent_text parent ++ 10 ∷ (kind_text deleted ++ 10 ∷ body)

-- The signature of an edit: the hexadecimal digits of the MD5 of the edit's bytes.
unfoldable pub edit_sig : Option RevId → Bool → List ℕ → List ℕ
edit_sig parent deleted body = encode_lower (md5 (edit_text parent deleted body))

-- The revision id of an edit, or `GenerationFull` if the parent has the greatest generation.
abbrev pub edit_rev : Option RevId → Bool → List ℕ → Result RevId RevFault
edit_rev parent deleted body =
    if nat_lt (next_generation parent) (2 ^ 32) then Ok
    (record { generation = next_generation parent; sig = edit_sig parent deleted body }) else Err faults.GenerationFull
