-- Defines which revision ids are stored as compact revisions without a heap block.
use Rattle.std.specs.Prelude.{Option, Some, None, if◌then◌else◌}
use Rattle.rev_core.specs.Rev.{RevId}
use Rattle.rev_core.specs.ShortSig.{is_short}

-- The revision id r, or `None` if the signature of r is not short.
abbrev pub short_of : RevId → Option RevId
short_of r = if is_short r.sig then Some r else None
