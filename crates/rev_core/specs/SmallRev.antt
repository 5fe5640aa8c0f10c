-- Defines which revisions have signatures that a `SmallRev` stores in a heap block.
use Rattle.std.specs.Prelude.{ℕ, Bool, cond, length, nat_lt}
use Rattle.rev_core.specs.Rev.{RevId}

-- Whether the signature of revision r has more than 32 bytes.
abbrev pub is_long : RevId → Bool
is_long r = nat_lt 32 (length r.sig)

-- The number of heap blocks (0 or 1) of a `SmallRev` that stores the revision r.
abbrev pub blocks_of : RevId → ℕ
blocks_of r = cond (is_long r) 1 0
