-- Defines replication by one thread, as specified in docs/PROFILE.md, "Replication by one thread", and in CouchDB,
-- "Replication Protocol".
use Rattle.std.specs.Prelude.{◌≡◌, ◌⊎◌, ℕ, zero, suc, ◌==◌, ◌<◌, Bool, true, false, ◌&&◌, nat_lt, nat_le, if◌then◌else◌, [], Option, Some, None, Result, Ok, Err}
use Rattle.std.specs.declared.alloc.AllocError.{AllocError}
use Rattle.rev_core.specs.Rev.{RevId}
use Rattle.rev_tree.specs.Tree.{leaves, SameRevisions}
use Rattle.rev_tree.specs.declared.origin.SessionId.{SessionId}
use Rattle.doc_json.specs.Document.{Document}
use Rattle.doc_json.specs.Chosen.{Choice, is_chosen}
use Rattle.couch_base.specs.Database.{Id, DatabaseValue, tree_of}
use Rattle.couch_base.specs.Feed.{RowValue, WindowValue, chosen_feed, page}
use Rattle.couch_base.specs.Lists.{Among}
use Rattle.couch_base.specs.Messages.{ParcelValue, revs_diff, open_revs}
use Rattle.repl_log.specs.declared.replication.RepId.{RepId}
use Rattle.repl_log.specs.Counts.{AddUp}
use Rattle.repl_log.specs.Entry.{EntryValue}
use Rattle.repl_peer.specs.peer.Peer.{PeerValue, SessionValue, session_in, entry_of}
use Rattle.repl_peer.specs.peer.Covered.{covers}
use Rattle.repl_peer.specs.session.Sessions.{report_of, session_answer, begin_answer, after_begin, append_answer, after_append, after_record, conclude_answer, after_conclude}
use Rattle.repl_peer.specs.session.Settling.{SettleGives}
use Rattle.repl_peer.specs.logs.Logs.{after_put_entry}
use Rattle.repl_peer.specs.logs.Checkpoint.{rep_between, checkpoint_between}
use Rattle.repl_peer.specs.declared.session.beginning.Beginning.{Beginning}
use Rattle.repl_peer.specs.declared.session.beginning.Scope.{Scope}
use Rattle.repl_peer.specs.declared.fault.Report.{Report}
use Rattle.repl_peer.specs.declared.fault.Settled.{Settled}
use Rattle.repl_peer.specs.declared.fault.TargetFault.{TargetFault}
use Rattle.repl_peer.specs.declared.fault.TargetFault.TheVariants as faults
use Rattle.repl_target.specs.declared.replication.Plan.{Plan}

-- ---- before a session begins

-- Whether `batch`, the maximum number of rows of a window, is valid: from 1 to 10,000.
abbrev pub is_batch : ℕ → Bool
is_batch n = nat_le 1 n && nat_le n 10000

-- The result of checking a replication's plan, for databases with the UUIDs `source` and `target`.
abbrev pub plan_answer : ℕ → ℕ → Plan → Result (Unit {0}) TargetFault
plan_answer source target plan =
    if is_batch plan.batch then (if source == target then Err faults.SamePeer else Ok tt)
    else Err faults.BadBatch

-- The base of a new session: the session of the common checkpoint, if there is one.
abbrev pub base_at : Option (SessionId × ℕ) → Option SessionId
base_at None = None
base_at (Some checkpoint) = Some checkpoint.0

abbrev pub start_at : Option (SessionId × ℕ) → ℕ
start_at None = 0
start_at (Some checkpoint) = checkpoint.1

-- The common checkpoint of a replication from the source to the target.
abbrev pub checkpoint_of : PeerValue → PeerValue → Choice → Option (SessionId × ℕ)
checkpoint_of source target chosen = checkpoint_between source target (rep_between source target chosen)

abbrev pub start_between : PeerValue → PeerValue → Choice → ℕ
start_between source target chosen = start_at (checkpoint_of source target chosen)

-- The scope of a new session at the target: its replication id, the source's life number, its base and its goal. A new
-- session's base is the session of the common checkpoint, and a new session's goal is the source's update sequence.
abbrev pub scope_between : PeerValue → PeerValue → Choice → Scope
scope_between source target chosen = record {
  rep = rep_between source target chosen;
  life = source.db.life;
  base = base_at (checkpoint_of source target chosen);
  goal = source.db.update_seq;
}

abbrev pub beginning_between : PeerValue → PeerValue → Choice → Beginning
beginning_between source target chosen =
    record { scope = scope_between source target chosen; start = start_between source target chosen }

abbrev pub begins_answer : PeerValue → PeerValue → Plan → Result (Unit {0}) TargetFault
begins_answer source target plan = begin_answer target plan.session (beginning_between source target plan.chosen)

abbrev pub after_begins : PeerValue → PeerValue → Plan → PeerValue
after_begins source target plan = after_begin target plan.session (beginning_between source target plan.chosen) plan.at

-- ---- windows

-- The state of a replication before the next window: the sequence up to which the replication has read the source's
-- feed, and the target.
pub record Reading : Type 0 where
  pub since : ℕ
  pub target : PeerValue

-- The next window of the source's feed above sequence `since`, with the rows of selected documents.
abbrev pub next_window : DatabaseValue → Plan → ℕ → WindowValue
next_window source plan since = page source since source.update_seq plan.batch plan.chosen

-- The parcel that the source returns for window w and target p: the source's documents for the leaves of w that p
-- lacks.
abbrev pub parcel_for : DatabaseValue → PeerValue → WindowValue → ParcelValue
parcel_for source p w = open_revs source (revs_diff p.db w)

-- The target p appends the window w to the plan's session, and then settles the parcel `parcel`. Settling returns
-- `result`, and leaves the target in the state q.
abbrev pub StoresAndSettles : (Document → Bool) → Plan → PeerValue → WindowValue → ParcelValue
    → Result Settled TargetFault → PeerValue → Type 0
StoresAndSettles refuses plan p w parcel result q =
    (append_answer p plan.session w ≡ Ok tt)
    × SettleGives refuses (after_append p plan.session w) plan.session parcel result q

-- The next window of the source's feed is read, stored and settled.
pub record Carries (refuses : Document → Bool) (source : DatabaseValue) (plan : Plan) (before after : Reading) : Type 0
  where
    pub due : before.since < source.update_seq
    pub window : WindowValue
    pub read : window ≡ next_window source plan before.since
    pub settled : Settled
    pub settles : StoresAndSettles refuses plan before.target window (parcel_for source before.target window)
        (Ok settled) after.target
    pub reached : after.since ≡ window.hi

-- Reading, storing or settling the next window fails. Either an allocation fails before the target changes, or the
-- session does not store the window, or settling the window fails.
abbrev pub WindowRefused : (Document → Bool) → DatabaseValue → Plan → Reading → TargetFault → PeerValue → Type 0
WindowRefused refuses source plan before why q =
    (why ≡ faults.Memory) × (q ≡ before.target)
    ⊎ (append_answer before.target plan.session (next_window source plan before.since) ≡ Err why) × (q ≡ before.target)
    ⊎ StoresAndSettles refuses plan before.target (next_window source plan before.since)
    (parcel_for source before.target (next_window source plan before.since)) (Err why) q

-- Whether a plan allows another window after n windows.
abbrev pub has_left : Option ℕ → ℕ → Bool
has_left None n = true
has_left (Some stop_after) n = nat_lt n stop_after

-- Whether a replication must read another window after n windows.
abbrev pub is_due : DatabaseValue → Plan → ℕ → ℕ → Bool
is_due source plan n since = nat_lt since source.update_seq && has_left plan.stop_after n

-- Exactly n windows are read in order, and each window is stored and settled before the next window is read.
abbrev pub Reads : (Document → Bool) → DatabaseValue → Plan → ℕ → Reading → Reading → Type 0
Reads refuses source plan zero from to = to ≡ from
Reads refuses source plan (suc n) from to =
    (before : Reading) × Reads refuses source plan n from before × (is_due source plan n before.since ≡ true)
    × Carries refuses source plan before to

-- The windows of a replication are read, stored and settled in order. Reading ends when no further window is due
-- (`is_due`).
abbrev pub ReadsAll : (Document → Bool) → DatabaseValue → Plan → Reading → PeerValue → Type 0
ReadsAll refuses source plan from target' =
    (n : ℕ) × (now : Reading) × Reads refuses source plan n from now × (is_due source plan n now.since ≡ false)
    × (target' ≡ now.target)

-- The windows of a replication are read, stored and settled in order, until a window fails.
abbrev pub ReadsUntil : (Document → Bool) → DatabaseValue → Plan → Reading → TargetFault → PeerValue → Type 0
ReadsUntil refuses source plan from why target' =
    (n : ℕ) × (now : Reading) × Reads refuses source plan n from now × (is_due source plan n now.since ≡ true)
    × WindowRefused refuses source plan now why target'

-- ---- the end

-- The state of the target p after a call of `conclude` for the plan's session. If the call of `conclude` fails, a call
-- of `record` follows, and the state is the one after both calls.
abbrev pub closed_as : PeerValue → Plan → Result Report TargetFault → PeerValue
closed_as p plan (Ok report) = after_conclude p plan.session plan.at
closed_as p plan (Err fault) = after_record (after_conclude p plan.session plan.at) plan.session plan.at

abbrev pub closed : PeerValue → Plan → PeerValue
closed p plan = closed_as p plan (conclude_answer p plan.session)

-- The state of the source after a call that puts an entry into the log of a replication. If the entry is older than the
-- stored entry, or an allocation fails, the source is unchanged.
abbrev pub PutsOver : PeerValue → RepId → EntryValue → Result (Unit {0}) AllocError → PeerValue → Type 0
PutsOver source rep entry (Ok done) source' = source' ≡ after_put_entry source rep entry
PutsOver source rep entry (Err refused) source' = source' ≡ source

-- The result of a replication after its windows: the result of concluding the session, or `Memory` if an allocation at
-- the source failed.
abbrev pub told_by : Result Report TargetFault → Result (Unit {0}) AllocError → Result Report TargetFault
told_by concluded (Ok done) = concluded
told_by concluded (Err refused) = Err faults.Memory

-- The target records the session first, and then the source stores the entry of the target's session.
pub record Closes (source target : PeerValue) (plan : Plan) (result : Result Report TargetFault)
    (source' target' : PeerValue) : Type 0 where
  pub at_target : target' ≡ closed target plan
  pub entry : EntryValue
  pub told : session_answer target' plan.session (λ s. Ok (entry_of s)) ≡ Ok entry
  pub put : Result (Unit {0}) AllocError
  pub at_source : PutsOver source (rep_between source target' plan.chosen) entry put source'
  pub answer : result ≡ told_by (conclude_answer target plan.session) put

-- ---- a replication

abbrev pub first_reading : PeerValue → PeerValue → Plan → Reading
first_reading source target plan =
    record { since = start_between source target plan.chosen; target = after_begins source target plan }

-- The result of a replication by one thread, and the source and target after the replication.
pub data Replicates (refuses : Document → Bool) (source target : PeerValue) (plan : Plan) : Result Report TargetFault
    → PeerValue → PeerValue → Type 0 where
  -- The plan of a replication is not valid for the source and the target.
  not_planned : {why : TargetFault} → plan_answer source.db.uuid target.db.uuid plan ≡ Err why
      → Replicates refuses source target plan (Err why) source target
  -- An allocation fails before the session begins, or the session cannot begin.
  no_memory : plan_answer source.db.uuid target.db.uuid plan ≡ Ok tt
      → Replicates refuses source target plan (Err faults.Memory) source target
  not_begun : {why : TargetFault} → plan_answer source.db.uuid target.db.uuid plan ≡ Ok tt → begins_answer source target plan ≡ Err why
      → Replicates refuses source target plan (Err why) source target
  -- A replication fails because reading, storing or settling a window fails.
  cut : {why : TargetFault} {target' : PeerValue} → plan_answer source.db.uuid target.db.uuid plan ≡ Ok tt
      → begins_answer source target plan ≡ Ok tt
      → ReadsUntil refuses source.db plan (first_reading source target plan) why target'
      → Replicates refuses source target plan (Err why) source target'
  -- All windows of the replication are read.
  ended : {result : Result Report TargetFault} {source' target' : PeerValue} (read : PeerValue)
      → plan_answer source.db.uuid target.db.uuid plan ≡ Ok tt → begins_answer source target plan ≡ Ok tt
      → ReadsAll refuses source.db plan (first_reading source target plan) read
      → Closes source read plan result source' target' → Replicates refuses source target plan result source' target'

-- ---- meaning

-- The target covers each leaf of the source's selected feed above sequence n.
abbrev pub CoversFrom : PeerValue → PeerValue → Choice → ℕ → Type 0
CoversFrom source target chosen n =
    (row : RowValue) → Among row (chosen_feed chosen source.db n source.db.update_seq) → (leaf : RevId) → Among leaf row.leaves
    → covers target row.id leaf ≡ true

-- The report describes the plan's session at the target. The session of a successful replication began at the common
-- checkpoint and has the source's life. The session has recorded its goal, the source's update sequence.
pub record IsReported (source target target' : PeerValue) (plan : Plan) (report : Report) : Type 0 where
  pub session : SessionValue
  pub held : session_in target'.sessions plan.session ≡ Some session
  pub is : report ≡ report_of session
  pub scope : session.scope ≡ scope_between source target plan.chosen
  pub start : report.start ≡ start_between source target plan.chosen
  pub recorded : report.recorded ≡ source.db.update_seq
  pub counts : AddUp report.counts

-- Peer p has no documents and no sessions.
abbrev pub IsEmpty : PeerValue → Type 0
IsEmpty p = (p.db.docs ≡ []) × (p.sessions ≡ [])

-- A document has the same revisions, parents and contents of leaves in two databases, and therefore the same leaves in
-- the same order.
abbrev pub SameDocument : DatabaseValue → DatabaseValue → Id → Type 0
SameDocument a b id =
    SameRevisions (tree_of a.docs id) (tree_of b.docs id) × (leaves (tree_of a.docs id) ≡ leaves (tree_of b.docs id))

-- Each selected document is the same in databases a and b.
abbrev pub SameDocuments : Choice → DatabaseValue → DatabaseValue → Type 0
SameDocuments chosen a b = (id : Id) → is_chosen chosen id ≡ true → SameDocument a b id
