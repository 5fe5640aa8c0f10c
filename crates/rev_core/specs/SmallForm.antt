-- Defines the revision id that the private fields of a `SmallRev` represent. No public contract uses the definitions of
-- this file.
use Rattle.std.specs.Prelude.{◌≡◌, ◌≤◌, ◌++◌, take, replicate}
use Rattle.rev_core.specs.Rev.{RevId}
use Rattle.rev_core.specs.Sig.{padded}
use Rattle.rev_core.specs.declared.small_rev.Form.{Form}
use Rattle.rev_core.specs.declared.small_rev.Form.TheVariants.{Inline, Long}

-- The revision id that the private fields of a `SmallRev` represent.
abbrev pub rev_of : Form → RevId
rev_of (Inline len generation bytes) = record { generation = generation; sig = take len bytes }
rev_of (Long generation block) = record { generation = generation; sig = block.value }

-- An array of 32 bytes stores a signature of `len` bytes, followed by zeros.
abbrev pub IsSmall : Form → Type 0
IsSmall (Inline len generation bytes) = (len ≤ 32) × (bytes ++ replicate 32 0 ≡ padded (take len bytes))
IsSmall (Long generation block) = Unit {0}
