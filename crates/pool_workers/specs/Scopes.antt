-- Defines which rights, counts and seats the threads of a run have at their start, as specified in docs/PROFILE.md,
-- "The pool". This file also defines what the caller's thread knows after all threads have ended.
use Rattle.std.specs.Prelude.{◌≡◌, ◌+◌, ◌-◌, ◌<◌, ◌≤◌, ◌++◌, ℕ, List, [], length, Option, IfSome, option_to_list, vec_len, vec_capacity}
use Rattle.crossbeam_channel.specs.Claims.{view, IsSeatAt}
use Rattle.crossbeam_channel.specs.Ends.{sends_on}
use Rattle.progress_board.specs.declared.board.Board.{Board}
use Rattle.progress_board.specs.declared.seat.BoardSeat.{BoardSeat}
use Rattle.pool_workers.specs.declared.channels.Channels.{Channels}
use Rattle.pool_workers.specs.declared.gate.Place.{Place}
use Rattle.pool_workers.specs.declared.threads.Ended.{Ended}
use Rattle.pool_workers.specs.declared.threads.Owned.{Owned}
use Rattle.pool_workers.specs.declared.gather.Rest.{Rest}
use Rattle.pool_workers.specs.declared.worker.Roles.{Roles}
use Rattle.pool_workers.specs.declared.worker.Worker.{Worker}
use Rattle.pool_workers.specs.Boards.{MayFill, AreSeats, AreBack, HaveShown}
use Rattle.pool_workers.specs.Faults.{AllowsOn, Allows}
use Rattle.pool_workers.specs.Gathered.{FetchedKnows, WrittenKnows, IsWhole, Tells, StopsWhere}
use Rattle.pool_workers.specs.Idle.{fetchers_in, writers_in, seat_of}
use Rattle.pool_workers.specs.Parcels.{parcel_view}
use Rattle.pool_workers.specs.Windows.{window_view}

-- What the caller's thread has before it starts the workers: rights to use channels, ghost counts and seats. The ghost
-- right to use a channel has 1,024 parts. The caller's thread has all parts of the right to use each channel, and the
-- channels are unused. The ghost count of settled documents has one part for each writer. Before the workers start, the
-- caller's thread has all parts of the ghost count of settled documents, and this count is 0. The caller's thread has
-- an empty list `counts`, with capacity for one number from each fetcher. If the run has a progress board, the caller's
-- thread has a seat (an access token to the progress board) for each writer.
pub record IsReady {S L : Type 0} (channels : Channels S) (board : Option Board) (workers : ℕ) (o : Owned S L) : Type 0
  where
    pub counts : (o.counts.items ≡ []) × (workers ≤ vec_capacity o.counts)
    pub windows : IsSeatAt (sends_on channels.to_fetchers) o.windows × (view o.windows ≡ window_view 1024 1 0 [])
    pub parcels : IsSeatAt (sends_on channels.to_writers) o.parcels × (view o.parcels ≡ parcel_view 1024 [] [])
    pub all : (o.all.parts ≡ workers) × (o.all.amount ≡ 0)
    pub seats : AreSeats board 0 workers o.seats.items

-- The channel rights, ghost counts, seats and results that the caller's thread has after the workers have ended. The
-- caller's thread has all seats (access tokens to the progress board) that it had before it started the workers. If all
-- workers were started, the caller's thread has all 1,024 parts of the ghost right to use each channel. If all workers
-- were started, the caller's thread also has all parts of the ghost count of settled documents. If all workers were
-- started, the caller's thread knows the workers' counts, and the reasons why workers halted.
pub record HaveEnded {S L : Type 0} (channels : Channels S) (board : Option Board) (may_stop : Place → Type 0)
    (workers : ℕ) (given : List BoardSeat) (ended : Option (Ended S L)) (seats : List BoardSeat) : Type 0 where
  pub window_seat : IfSome ended (λ e. IsSeatAt (sends_on channels.to_fetchers) e.windows)
  pub parcel_seat : IfSome ended (λ e. IsSeatAt (sends_on channels.to_writers) e.parcels)
  pub whole : IfSome ended (IsWhole workers)
  pub tells : IfSome ended Tells
  pub halted : IfSome ended (StopsWhere (MayFill board) may_stop)
  pub back : AreBack board given seats
  pub shown : IfSome ended (λ e. HaveShown board e.all.amount e.written.stopped given seats)

-- The state of the caller's thread while workers run. The number of running fetchers is `fetchers`, the number of
-- running writers is `writers`, and the running workers have the seats `held`. The value r holds all rights, counts and
-- seats that are not with a running worker, and the results of the ended workers.
pub record HasRest {S L : Type 0} (channels : Channels S) (board : Option Board) (may_stop : Place → Type 0)
    (workers : ℕ) (given : List BoardSeat) (fetchers writers : ℕ) (held : List BoardSeat) (r : Rest S L) : Type 0 where
  pub window_seat : IsSeatAt (sends_on channels.to_fetchers) r.windows
  pub window_parts : (0 < (view r.windows).parts) × ((view r.windows).parts + fetchers ≡ 1024)
  pub parcel_seat : IsSeatAt (sends_on channels.to_writers) r.parcels
  pub parcel_parts : (0 < (view r.parcels).parts) × ((view r.parcels).parts + (fetchers + writers) ≡ 1024)
  pub all : r.all.parts + writers ≡ workers
  pub counts : vec_len r.fetched.counts + fetchers ≤ vec_capacity r.fetched.counts
  pub tells : FetchedKnows (view r.windows) (view r.parcels) r.fetched × WrittenKnows (view r.parcels) r.all.amount r.written
  pub halted : IfSome r.fetched.stopped (Allows may_stop) × IfSome r.written.stopped (AllowsOn (MayFill board) may_stop)
  pub back : AreBack board given (r.seats.items ++ held)
  pub shown : HaveShown board r.all.amount r.written.stopped given (r.seats.items ++ held)
  pub room : length (r.seats.items ++ held) ≤ vec_capacity r.seats

-- The state of the caller's thread after it has started the workers with numbers below `number`, if all these workers
-- still run. No window has been read, and no document has been settled.
pub record IsStarting {S L : Type 0} (channels : Channels S) (board : Option Board) (may_stop : Place → Type 0)
    (roles : Roles) (given : List BoardSeat) (number fetchers writers : ℕ) (held : List BoardSeat) (r : Rest S L)
    : Type 0 where
  pub rest : HasRest channels board may_stop roles.workers given fetchers writers held r
  pub few_fetchers : fetchers ≤ number - roles.alone
  pub few_writers : writers ≤ number
  pub seated : AreSeats board number roles.workers r.seats.items
  pub unread : view r.windows ≡ window_view (view r.windows).parts 1 0 []
  pub unsettled : r.all.amount ≡ 0
  pub uncounted : (vec_len r.fetched.counts ≡ 0) × (roles.workers ≤ vec_capacity r.fetched.counts)

-- The caller's thread has started the workers below the given number, and may start the next one.
abbrev pub MayStart : {S L : Type 0} → Channels S → Option Board → (Place → Type 0) → Roles → ℕ → Rest S L → Type 0
MayStart channels board may_stop roles number r =
    (given : List BoardSeat) × (held : List BoardSeat) × (fetchers : ℕ) × (writers : ℕ)
    × IsStarting channels board may_stop roles given number fetchers writers held r

-- The caller's thread starts the worker w, whose number is `number`. The state of the caller's thread is r before it
-- starts w, and t after it has started w.
abbrev pub HasStarted : {S L : Type 0} → Channels S → Option Board → (Place → Type 0) → Roles → ℕ → Rest S L → Rest S L
    → Worker S L → Type 0
HasStarted channels board may_stop roles number r t w =
    (given : List BoardSeat) (held : List BoardSeat) (fetchers : ℕ) (writers : ℕ)
    → IsStarting channels board may_stop roles given number fetchers writers held r
    → IsStarting channels board may_stop roles given (number + 1) (fetchers + fetchers_in w) (writers + writers_in w)
    (option_to_list (seat_of w) ++ held) t

-- Worker number `number` runs on the caller's thread, because its own thread could not be created. The state of the
-- caller's thread is r before the worker runs, and t after the worker has ended.
abbrev pub HasReturned : {S L : Type 0} → Channels S → Option Board → (Place → Type 0) → Roles → ℕ → Rest S L
    → Rest S L → Type 0
HasReturned channels board may_stop roles number r t =
    (given : List BoardSeat) (held : List BoardSeat) (fetchers : ℕ) (writers : ℕ)
    → IsStarting channels board may_stop roles given number fetchers writers held r
    → HasRest channels board may_stop roles.workers given fetchers writers held t
