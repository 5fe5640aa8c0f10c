-- Defines the facts about windows, parcels and counts that hold after the workers of a run have ended (docs/PROFILE.md,
-- "The pool").
use Rattle.std.specs.Prelude.{◌≡◌, ◌⊎◌, ℕ, length, sum, Option, None, Some, IfSome}
use Rattle.crossbeam_channel.specs.Claims.{view}
use Rattle.pool_workers.specs.Faults.{AllowsOn, Allows}
use Rattle.pool_workers.specs.declared.gate.Place.{Place}
use Rattle.pool_workers.specs.declared.threads.Ended.{Ended}
use Rattle.pool_workers.specs.Workers.{amounts, names}
use Rattle.pool_workers.specs.declared.fault.Halt.{Halt}
use Rattle.pool_workers.specs.declared.fault.Halt.TheVariants.{CountFull}
use Rattle.pool_workers.specs.declared.gather.FetchedAll.{FetchedAll}
use Rattle.pool_workers.specs.declared.gather.WrittenAll.{WrittenAll}
use Rattle.pool_workers.specs.declared.parcels.ParcelView.{ParcelView}
use Rattle.pool_workers.specs.declared.windows.WindowView.{WindowView}

-- The facts about a run's fetchers that hold after all fetchers have ended. If no fetcher was stopped, the fetchers
-- have counted exactly the sent parcels and the documents of the sent parcels. If no fetcher was stopped, the fetchers
-- sent exactly one parcel for each window that they took, with the number of the window.
abbrev pub FetchedKnows : WindowView → ParcelView → FetchedAll → Type 0
FetchedKnows w p t =
    t.stopped ≡ None → (sum t.counts.items ≡ amounts p.sent) × (t.sent ≡ length p.sent) × (w.taken ≡ names p.sent)

-- The facts about a run's writers that hold after all writers have ended. If no writer was stopped, the writers have
-- counted all received parcels and all documents of these parcels.
abbrev pub WrittenKnows : ParcelView → ℕ → WrittenAll → Type 0
WrittenKnows p amount t = t.stopped ≡ None → (amount ≡ amounts p.got) × (t.got ≡ length p.got)

-- The reason h why a worker stopped early is `CountFull`, or is one of the optional reasons a and b.
abbrev pub IsOneOf : Option Halt → Option Halt → Halt → Type 0
IsOneOf a b h = (a ≡ Some h) ⊎ ((b ≡ Some h) ⊎ (h ≡ CountFull))

module _ {S L : Type 0} where
  -- After all workers have ended, the caller's thread has all 1,024 parts of the ghost right to use each channel. The
  -- caller's thread also has each writer's part of the ghost count of settled documents.
  abbrev pub IsWhole : ℕ → Ended S L → Type 0
  IsWhole workers e = ((view e.windows).parts ≡ 1024) × ((view e.parcels).parts ≡ 1024) × (e.all.parts ≡ workers)

  -- The counts of the fetchers and writers agree with the sent and received parcels, as `FetchedKnows` and
  -- `WrittenKnows` state.
  abbrev pub Tells : Ended S L → Type 0
  Tells e =
      FetchedKnows (view e.windows) (view e.parcels) e.fetched × WrittenKnows (view e.parcels) e.all.amount e.written

  -- Each worker (reader, fetcher or writer) halted only for a reason that `AllowsOn` lists. Only a writer may halt
  -- because a count on the progress board would exceed its maximum (`BoardFull`).
  abbrev pub StopsWhere : Type 0 → (Place → Type 0) → Ended S L → Type 0
  StopsWhere may_fill may_stop e =
      IfSome e.read (Allows may_stop) × IfSome e.fetched.stopped (Allows may_stop)
      × IfSome e.written.stopped (AllowsOn may_fill may_stop)
