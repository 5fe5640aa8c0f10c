-- Defines the audit of a replication, as specified in docs/PROFILE.md, "Audit" and "Covered leaves".
use Rattle.std.specs.Prelude.{◌≡◌, ℕ, true, Option, Some, None}
use Rattle.rev_core.specs.Rev.{RevId}
use Rattle.rev_tree.specs.declared.origin.SessionId.{SessionId}
use Rattle.repl_log.specs.declared.replication.RepId.{RepId}
use Rattle.doc_json.specs.Chosen.{Choice}
use Rattle.couch_base.specs.Lists.{Among}
use Rattle.couch_base.specs.Database.{DatabaseValue}
use Rattle.couch_base.specs.Feed.{RowValue, chosen_feed}
use Rattle.repl_peer.specs.peer.Peer.{PeerValue}
use Rattle.repl_peer.specs.peer.Covered.{Leaf, covers, first_uncovered}
use Rattle.repl_peer.specs.logs.Checkpoint.{rep_between, checkpoint_between}
use Rattle.repl_target.specs.declared.auditing.found.Audit.{Audit}
use Rattle.repl_target.specs.declared.auditing.found.Audit.TheVariants.{Clean, Hole}

-- The first leaf that the target does not cover, among the leaves of the source's selected feed up to sequence n.
abbrev pub hole_under : PeerValue → PeerValue → Choice → ℕ → Option Leaf
hole_under source target chosen n = first_uncovered target (chosen_feed chosen source.db 0 n)

-- The first leaf that the target does not cover, among the leaves of the source's selected feed up to a checkpoint. The
-- value is `None` if there is no checkpoint.
abbrev pub hole_at : PeerValue → PeerValue → Choice → Option (SessionId × ℕ) → Option Leaf
hole_at source target chosen None = None
hole_at source target chosen (Some checkpoint) = hole_under source target chosen checkpoint.1

-- The first leaf that the target does not cover, among the leaves of the source's selected feed up to the common
-- checkpoint.
abbrev pub hole_between : PeerValue → PeerValue → RepId → Option Leaf
hole_between source target rep = hole_at source target rep.chosen (checkpoint_between source target rep)

abbrev pub audit_answer : PeerValue → PeerValue → Choice → Option Leaf
audit_answer source target chosen = hole_between source target (rep_between source target chosen)

-- The leaf that the result of an audit names, or `None` if the result is `Clean`.
abbrev pub hole_of : Audit → Option Leaf
hole_of Clean = None
hole_of (Hole seq id rev) = Some (record { seq = seq; id = id; rev = rev })

-- ---- meaning

-- The target covers each leaf of a database's selected feed at or below sequence n.
abbrev pub CoversFeedOf : Choice → DatabaseValue → PeerValue → ℕ → Type 0
CoversFeedOf chosen db target n =
    (row : RowValue) → Among row (chosen_feed chosen db 0 n) → (leaf : RevId) → Among leaf row.leaves
    → covers target row.id leaf ≡ true

-- The target covers each leaf of the source's selected feed at or below sequence n.
abbrev pub CoversFeed : PeerValue → PeerValue → Choice → ℕ → Type 0
CoversFeed source target chosen n = CoversFeedOf chosen source.db target n

-- If a common checkpoint exists, the target covers each leaf of the source's selected feed up to the checkpoint.
abbrev pub IsAudited : PeerValue → PeerValue → Choice → Type 0
IsAudited source target chosen =
    (s : SessionId) (n : ℕ) → checkpoint_between source target (rep_between source target chosen) ≡ Some (s, n)
    → CoversFeed source target chosen n
