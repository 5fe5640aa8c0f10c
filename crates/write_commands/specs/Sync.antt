-- Defines the command `sync`, as specified in docs/PROFILE.md, "Command lines" and "Answers".
use Rattle.std.specs.Prelude.{◌≡◌, ◌⊎◌, ℕ, false, List, [], ◌∷◌, ◌++◌, codes, Option, None, unwrap_or, Result, Ok, Err}
use Rattle.serde_json.specs.Data.{Data}
use Rattle.serde_json.specs.Find.{as_bool}
use Rattle.script_engine.specs.Serving.{Told, Answering, MayTell}
use Rattle.script_databases.specs.Consistent.{IsConsistent, MeetsAfter}
use Rattle.script_databases.specs.Databases.{State}
use Rattle.script_databases.specs.Refusals.{name_of}
use Rattle.script_databases.specs.declared.refusal.Refusal.{Refusal}
use Rattle.rev_core.specs.Checks.{◌>>=◌}
use Rattle.command_api.specs.Checks.{needed}
use Rattle.command_api.specs.Members.{as_texts, as_uuid, as_whole, name_at, optional, if_only}
use Rattle.write_commands.specs.Replicate.{ReplicateAsk, ReportsReplication, IsCoveredBy, IsDone, MayFail, replicate_asked}
use Rattle.write_commands.specs.declared.replicate.Ending.{Ending}
use Rattle.rev_tree.specs.declared.origin.SessionId.{SessionId}
use Rattle.doc_json.specs.Chosen.{Choice}
use Rattle.write_commands.specs.declared.replicate.Options.{Options}
use Rattle.write_commands.specs.declared.sync.BothWays.{BothWays}
use Rattle.write_commands.specs.declared.sync.Shared.{Shared}

-- ---- its parameters

-- The parameters of `sync`, which replicates in both directions between two databases.
pub record SyncAsk : Type 0 where
  pub there : ReplicateAsk
  pub back : ReplicateAsk

abbrev pub sync_asked : BothWays → SyncAsk
sync_asked ask = record { there = replicate_asked ask.there; back = replicate_asked ask.back }

-- The parameters that both directions of a `sync` line have. An absent parameter is `None`, but `alone` is false if
-- absent.
abbrev pub shared_in : Data → Result Shared Refusal
shared_in d = do
  workers ← needed (optional as_whole (codes "workers") d)
  batch ← needed (optional as_whole (codes "batch") d)
  at ← needed (optional as_whole (codes "at") d)
  alone ← needed (optional as_bool (codes "alone") d)
  Ok (record { workers = workers; batch = batch; at = at; alone = unwrap_or alone false })

-- The parameters of one direction of `sync`. Each direction of `sync` has no limit on its number of windows, and prints
-- no progress.
abbrev pub way_options : Shared → Option ℕ → Options
way_options shared session = record {
  session = session;
  alone = shared.alone;
  workers = shared.workers;
  batch = shared.batch;
  at = shared.at;
  stop_after = None;
  progress = false;
}

-- The parameters of one direction of `sync`, as parameters of a `replicate` line.
abbrev pub way : List ℕ → List ℕ → Option (List (List ℕ)) → Options → ReplicateAsk
way source target doc_ids options = record { source = source; target = target; doc_ids = doc_ids; options = options }

abbrev pub sync_keys : List (List ℕ)
sync_keys =
    codes "do" ∷ codes "a" ∷ codes "b" ∷ codes "doc_ids" ∷ codes "there" ∷ codes "back" ∷ codes "workers" ∷ codes "batch"
    ∷ codes "at" ∷ codes "alone" ∷ []

abbrev pub sync_in : Data → Result SyncAsk Refusal
sync_in d = do
  a ← needed (name_at (codes "a") d)
  b ← needed (name_at (codes "b") d)
  doc_ids ← needed (optional as_texts (codes "doc_ids") d)
  there ← needed (optional as_uuid (codes "there") d)
  back ← needed (optional as_uuid (codes "back") d)
  shared ← shared_in d
  needed (if_only sync_keys d (record {
    there = way a b doc_ids (way_options shared there);
    back = way b a doc_ids (way_options shared back);
  }))

-- ---- its result

-- The result of `sync` if the first direction succeeded: the outputs of both directions in order, or the second
-- direction's error.
abbrev pub both_told : List ℕ → Told → Told
both_told text (Ok more) = Ok (text ++ more)
both_told text (Err name) = Err name

-- The result of `sync`, given the result of the forward direction. The reverse direction follows, unless the forward
-- direction failed. Between the forward direction and the reverse direction, all databases of the script are
-- consistent.
abbrev pub SyncsBack : State → SyncAsk → Told → Told → State → Type 0
SyncsBack mid ask (Ok text) told new =
    IsConsistent mid × (second : Told) × MayTell ReportsReplication mid ask.back second new
    × (told ≡ both_told text second)
SyncsBack mid ask (Err name) told new = (told ≡ Err name) × (new ≡ mid)

-- The results that `sync` may have: the results of two `replicate` lines, one for each direction, in order.
abbrev pub Syncs : Answering State SyncAsk
Syncs old ask told new =
    (first : Told) × (mid : State) × MayTell ReportsReplication old ask.there first mid × SyncsBack mid ask first told new

-- ---- the guarantee of `sync`, as specified in docs/PROFILE.md, "Tied databases"

-- The guarantee for a `sync` line. If a `sync` line succeeds, each direction has the guarantee of a `replicate` line
-- (`IsCoveredBy`), and all databases are consistent between the forward direction and the reverse direction. If both
-- directions printed `session`, the two databases have the guarantees of `MeetsAfter`. The error of a failed `sync` line
-- is an error that `MayFail` lists for the forward or the reverse direction.
abbrev pub IsMet : State → State → SyncAsk → Told → Type 0
IsMet old new ask (Ok text) =
    (mid : State) × (first : List ℕ) × (second : List ℕ) × (session : SessionId) × (session' : SessionId)
    × (ending : Ending) × (ending' : Ending) × (chosen : Choice) × (chosen' : Choice)
    × (text ≡ first ++ second) × IsConsistent mid
    × IsCoveredBy mid ask.there first session ending chosen × IsCoveredBy new ask.back second session' ending' chosen'
    × (IsDone ending → IsDone ending' → MeetsAfter old new ask.there.source ask.there.target chosen chosen')
IsMet old new ask (Err name) =
    (refusal : Refusal) × (name ≡ name_of refusal) × (MayFail ask.there refusal ⊎ MayFail ask.back refusal)
