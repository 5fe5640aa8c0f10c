-- Defines revision ids and their order, as specified in docs/PROFILE.md, "Revision ids", and in CouchDB, "Replication
-- and conflict model".
use Rattle.std.specs.Prelude.{◌≡◌, ℕ, ◌≤◌, ◌<◌, ◌^◌, true, List}
use Rattle.std.specs.declared.cmp.Ordering.{Ordering}
use Rattle.std.specs.Ordering.{nat_cmp, ordering_then}
use Rattle.std.specs.Cmp.Lexicographic.{slice_cmp}
use Rattle.rev_core.specs.Sig.{is_sig}

-- A revision id: its generation, and the bytes of its signature.
pub record RevId : Type 0 where
  pub generation : ℕ
  pub sig : List ℕ

-- A valid revision id has a generation from 1 to 2^32 - 1 and a valid signature.
pub record IsRev (r : RevId) : Type 0 where
  pub low : 1 ≤ r.generation
  pub high : r.generation < 2 ^ 32
  pub sig : is_sig r.sig ≡ true

-- The order of revisions: by generation, then by signature in ASCII order.
abbrev pub rev_cmp : RevId → RevId → Ordering
rev_cmp a b = ordering_then (nat_cmp a.generation b.generation) (slice_cmp nat_cmp a.sig b.sig)
