-- Defines a world (two peers, the messages between them, and backups) and the effect of each step on a world, as
-- specified in docs/PROFILE.md, "Worlds".
--
-- A replication exchanges messages: pages of the source's feed, requests for what the target lacks, parcels of
-- documents, and log entries. Messages between two databases may be late, repeated, reordered or lost. Besides two
-- peers, a world has every message that was sent and not lost, and backups of the source. A step is one call on a peer,
-- with any of the messages in transit. A message stays in transit when a step uses it, so later steps can use the
-- message in any order. Restoring a backup raises the life (a number) of the source's database. A crash deletes all
-- messages, but does not change the peers and the backups. Every exchange of messages between the two databases is a
-- list of steps, even if other clients write to the databases during the exchange. Because every exchange of messages
-- is a list of steps, a guarantee for all lists of steps also holds for every exchange of messages.
use Rattle.std.specs.Prelude.{◌≡◌, ◌⊎◌, ℕ, ◌==◌, ◌≤◌, List, [], ◌∷◌, ◌++◌, Bool, if◌then◌else◌, Option, Some, None, IfSome, Result, Ok, Err, take, slice_get}
use Rattle.rev_tree.specs.declared.origin.SessionId.{SessionId}
use Rattle.doc_json.specs.Document.{Document}
use Rattle.doc_json.specs.Chosen.{Choice}
use Rattle.couch_base.specs.Feed.{WindowValue, page_answer}
use Rattle.couch_base.specs.Messages.{AskedValue, ParcelValue, revs_diff, open_revs}
use Rattle.couch_base.specs.declared.fault.BaseFault.{BaseFault}
use Rattle.repl_log.specs.declared.replication.RepId.{RepId}
use Rattle.repl_log.specs.Entry.{EntryValue}
use Rattle.repl_peer.specs.peer.Peer.{PeerValue, SessionValue, entry_of}
use Rattle.repl_peer.specs.peer.Writing.{after_load, after_edit}
use Rattle.repl_peer.specs.session.Sessions.{session_answer, after_begin, after_append, after_record, after_conclude, conclude_answer}
use Rattle.repl_peer.specs.session.Settling.{after_settle}
use Rattle.repl_peer.specs.logs.Logs.{source_log, target_log, after_put_entry}
use Rattle.repl_target.specs.replication.Calls.{after_some, most_settled}
use Rattle.repl_target.specs.replication.Replication.{base_at, start_at}
use Rattle.repl_peer.specs.peer.Backups.{BackupValue, backup_answer, after_restore}
use Rattle.repl_log.specs.Log.{common}
use Rattle.repl_peer.specs.logs.Checkpoint.{rep_between}
use Rattle.repl_peer.specs.declared.session.beginning.Beginning.{Beginning}
use Rattle.repl_peer.specs.declared.fault.TargetFault.{TargetFault}
use Rattle.repl_world.specs.declared.fault.WorldFault.{WorldFault}
use Rattle.repl_world.specs.declared.fault.WorldFault.TheVariants.{SamePeer}
use Rattle.repl_world.specs.declared.step.Step.{Step}
use Rattle.repl_world.specs.declared.step.Step.TheVariants.{EditSource, EditTarget, LoadSource, ThirdParty, ReadLog, Begin, Page, Append, Diff, Fetch, Settle, Record, Conclude, PutEntry, Backup, Restore, Crash}
use Rattle.repl_world.specs.Bags.{BagValue, empty_bag, with_window, with_asked, with_parcel, with_log, told, told_where}

-- A world: two peers, the selection of their replication, the messages in transit, and the backups of the source.
pub record WorldValue : Type 0 where
  pub source : PeerValue
  pub target : PeerValue
  pub chosen : Choice
  pub bag : BagValue
  pub backups : List BackupValue

-- ---- a new world

abbrev pub new_world : PeerValue → PeerValue → Choice → WorldValue
new_world source target chosen = record {
  source = source;
  target = target;
  chosen = chosen;
  bag = empty_bag;
  backups = [];
}

-- The result of `World::new`: the error `SamePeer` if source and target have the same UUID, and otherwise the new
-- `World`.
abbrev pub new_answer : {F : Type 0} → F × PeerValue → F × PeerValue → Choice → Result ((F × F) × WorldValue) WorldFault
new_answer source target chosen =
    if source.1.db.uuid == target.1.db.uuid then Err SamePeer
    else Ok ((source.0, target.0), new_world source.1 target.1 chosen)

-- The replication id from the source to the target of world w.
abbrev pub rep_of : WorldValue → RepId
rep_of w = rep_between w.source w.target w.chosen

-- ---- effects of steps

abbrev pub paged : WorldValue → Result WindowValue BaseFault → WorldValue
paged w (Ok x) = record w { bag = with_window w.bag x }
paged w (Err fault) = w

abbrev pub appends : WorldValue → SessionId → Option WindowValue → WorldValue
appends w session None = w
appends w session (Some x) = record w { target = after_append w.target session x }

abbrev pub differs : WorldValue → ℕ → Option WindowValue → WorldValue
differs w place None = w
differs w place (Some x) = record w { bag = with_asked w.bag (place, revs_diff w.target.db x) }

abbrev pub fetches : WorldValue → Option (ℕ × AskedValue) → WorldValue
fetches w None = w
fetches w (Some a) = record w { bag = with_parcel w.bag (a.0, open_revs w.source.db a.1) }

abbrev pub settles : (Document → Bool) → WorldValue → SessionId → Option (ℕ × ParcelValue) → WorldValue
settles refuses w session None = w
settles refuses w session (Some p) = record w { target = after_settle refuses w.target session p.1 }

-- The effect of a `Settle` step that runs out of memory after it has settled at most n documents of a parcel. The
-- settled documents are the first documents of the parcel. A failed `Settle` step settles n documents, or fewer if the
-- step would settle fewer with enough memory.
abbrev pub stops : (Document → Bool) → WorldValue → SessionId → ℕ → Option (ℕ × ParcelValue) → WorldValue
stops refuses w session n None = w
stops refuses w session n (Some p) = record w { target = after_some refuses w.target session p.1 n }

-- The log entry that describes the current state of a session of the target.
abbrev pub entry_in : PeerValue → SessionId → Result EntryValue TargetFault
entry_in p session = session_answer p session (λ (s : SessionValue). Ok (entry_of s))

-- The effect of a `Record` step, which records a session at the target and adds the session's new log entry to the
-- messages in transit.
abbrev pub records : WorldValue → SessionId → ℕ → WorldValue
records w session at =
    let now = after_record w.target session at in
    record w { target = now; bag = told w.bag (entry_in now session) }

-- The effect of a `Conclude` step, which concludes a session at the target. If the target concludes the session without
-- an error, the session's log entry is added to the messages in transit.
abbrev pub concludes : WorldValue → SessionId → ℕ → WorldValue
concludes w session at =
    let now = after_conclude w.target session at in
    record w { target = now; bag = told_where (conclude_answer w.target session) w.bag (entry_in now session) }

abbrev pub puts : WorldValue → Option EntryValue → WorldValue
puts w None = w
puts w (Some e) = record w { source = after_put_entry w.source (rep_of w) e }

abbrev pub crashed : WorldValue → WorldValue
crashed w = record w { bag = empty_bag }

-- The source's current log of the replication, with the current life (a number that each restore raises) of the
-- source's database.
abbrev pub log_of_source : WorldValue → ℕ × List EntryValue
log_of_source w = (w.source.db.life, source_log w.source (rep_of w))

abbrev pub reads_log : WorldValue → WorldValue
reads_log w = record w { bag = with_log w.bag (log_of_source w) }

-- The common checkpoint, if it exists, of the source's log `log` and the target's log. The log `log` is a message in
-- transit.
abbrev pub agreed : WorldValue → List EntryValue → Option (SessionId × ℕ)
agreed w log = common log (target_log w.target (rep_of w))

-- The parameters of a new session of the target. A new session begins at the common checkpoint of the target's log and
-- the source's log. The source's log is the message `log`, which is in transit. The new session gets its life (the
-- incarnation of the source's database) from the message `log`.
abbrev pub beginning_in : WorldValue → ℕ → ℕ × List EntryValue → Beginning
beginning_in w goal log = record {
  scope = record { rep = rep_of w; life = log.0; base = base_at (agreed w log.1); goal = goal };
  start = start_at (agreed w log.1);
}

abbrev pub begins : WorldValue → SessionId → ℕ → ℕ → Option (ℕ × List EntryValue) → WorldValue
begins w session goal at None = w
begins w session goal at (Some log) = record w { target = after_begin w.target session (beginning_in w goal log) at }

-- The effect of a `Backup` step. If the source can make the backup, the step adds the backup to the list of backups. If
-- the backup fails, the step changes nothing.
abbrev pub backs_up : WorldValue → Result BackupValue TargetFault → WorldValue
backs_up w (Ok b) = record w { backups = w.backups ++ b ∷ [] }
backs_up w (Err fault) = w

abbrev pub restores : WorldValue → Option BackupValue → WorldValue
restores w None = w
restores w (Some b) = record w { source = after_restore w.source b }

abbrev pub happens : (Document → Bool) → WorldValue → Step → WorldValue
happens refuses w (EditSource id parent deleted body) = record w { source = after_edit w.source id parent deleted body }
happens refuses w (EditTarget id parent deleted body) = record w { target = after_edit w.target id parent deleted body }
happens refuses w (LoadSource doc) = record w { source = after_load w.source doc }
happens refuses w (ThirdParty doc) = record w { target = after_load w.target doc }
happens refuses w ReadLog = reads_log w
happens refuses w (Begin session log goal at) = begins w session goal at (slice_get w.bag.logs log)
happens refuses w (Page since goal limit) = paged w (page_answer w.source.db since goal limit w.chosen)
happens refuses w (Append session window) = appends w session (slice_get w.bag.windows window)
happens refuses w (Diff window) = differs w window (slice_get w.bag.windows window)
happens refuses w (Fetch asked) = fetches w (slice_get w.bag.asked asked)
happens refuses w (Settle session parcel) = settles refuses w session (slice_get w.bag.parcels parcel)
happens refuses w (Record session at) = records w session at
happens refuses w (Conclude session at) = concludes w session at
happens refuses w (PutEntry entry) = puts w (slice_get w.bag.entries entry)
happens refuses w Backup = backs_up w (backup_answer w.source)
happens refuses w (Restore backup) = restores w (slice_get w.backups backup)
happens refuses w Crash = crashed w

-- The state of the peers, messages and backups after a list of steps.
abbrev pub run : (Document → Bool) → WorldValue → List Step → WorldValue
run refuses w [] = w
run refuses w (step ∷ steps) = run refuses (happens refuses w step) steps

-- ---- failed allocations

-- If an allocation fails in a `Settle` step, the state after the step is `now`. The failed `Settle` step either has no
-- effect, or has settled the parcel's first n documents, for a number n.
abbrev pub IsStopped : (Document → Bool) → WorldValue → SessionId → Option (ℕ × ParcelValue) → WorldValue → Type 0
IsStopped refuses w session parcel now =
    (now ≡ w)
    ⊎ (n : ℕ) × IfSome parcel (λ (p : ℕ × ParcelValue). n ≤ most_settled refuses w.target session p.1)
    × (now ≡ stops refuses w session n parcel)

-- If an allocation fails in a step, the state after the step is `now`. If an allocation fails in a step other than
-- `Settle`, the step has no effect.
abbrev pub CutShort : (Document → Bool) → WorldValue → Step → WorldValue → Type 0
CutShort refuses w (Settle session parcel) now = IsStopped refuses w session (slice_get w.bag.parcels parcel) now
CutShort refuses w step now = now ≡ w

-- An allocation fails in one of the steps of a list, and `now` is the state afterwards. The steps before the failed
-- step have their complete effects, and the failed step has an effect that `CutShort` allows.
abbrev pub StoppedIn : (Document → Bool) → WorldValue → List Step → WorldValue → Type 0
StoppedIn refuses w steps now =
    (k : ℕ) × (step : Step) × (slice_get steps k ≡ Some step) × CutShort refuses (run refuses w (take k steps)) step now
