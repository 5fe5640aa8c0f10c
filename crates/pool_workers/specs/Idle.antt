-- Defines what is known about a worker between two of its turns, as specified in docs/PROFILE.md, "The pool".
use Rattle.std.specs.Prelude.{◌≡◌, ℕ, [], Option, None, IfSome}
use Rattle.crossbeam_channel.specs.Claims.{IsSeatAt}
use Rattle.crossbeam_channel.specs.Ends.{sends_on}
use Rattle.progress_board.specs.declared.board.Board.{Board}
use Rattle.progress_board.specs.declared.seat.BoardSeat.{BoardSeat}
use Rattle.pool_workers.specs.declared.channels.Channels.{Channels}
use Rattle.pool_workers.specs.declared.fetcher.Fetcher.{Fetcher}
use Rattle.pool_workers.specs.declared.gate.Place.{Place}
use Rattle.pool_workers.specs.declared.worker.Worker.{Worker}
use Rattle.pool_workers.specs.declared.worker.Worker.TheVariants.{Fetches, Writes, Both}
use Rattle.pool_workers.specs.declared.writer.Writer.{Writer}
use Rattle.pool_workers.specs.Boards.{MayFill, IsSeated}
use Rattle.pool_workers.specs.Faults.{AllowsOn, Allows}
use Rattle.pool_workers.specs.Workers.{FetcherKnows, WriterKnows, WriterShows}

-- The fetcher f may use both channels, and has no window in progress. If f was stopped, `Allows` lists the reason.
pub record IsIdleFetcher {S : Type 0} (channels : Channels S) (may_stop : Place → Type 0) (f : Fetcher S) : Type 0 where
  pub windows : IsSeatAt (sends_on channels.to_fetchers) f.windows
  pub parcels : IsSeatAt (sends_on channels.to_writers) f.parcels
  pub knows : FetcherKnows [] f
  pub halted : IfSome f.stopped (Allows may_stop)

-- The writer w may use the channel of parcels, and has no parcel in progress. If the writer w was stopped, `AllowsOn`
-- lists the reason why it was stopped. If the run has a progress board, w has a seat of this board.
pub record IsIdleWriter {S L : Type 0} (channels : Channels S) (board : Option Board) (may_stop : Place → Type 0)
    (w : Writer S L) : Type 0 where
  pub parcels : IsSeatAt (sends_on channels.to_writers) w.parcels
  pub knows : WriterKnows [] w
  pub halted : IfSome w.stopped (AllowsOn (MayFill board) may_stop)
  pub seated : IsSeated board w.seat

-- The worker's fetcher and the worker's writer are idle: they have no window or parcel in progress.
abbrev pub IsIdle : {S L : Type 0} → Channels S → Option Board → (Place → Type 0) → Worker S L → Type 0
IsIdle channels board may_stop (Fetches f) = IsIdleFetcher channels may_stop f
IsIdle channels board may_stop (Writes w) = IsIdleWriter channels board may_stop w
IsIdle channels board may_stop (Both f w) =
    IsIdleFetcher channels may_stop f × IsIdleWriter channels board may_stop w

-- The number of a worker's fetchers: 1 if the worker fetches parcels, otherwise 0.
abbrev pub fetchers_in : {S L : Type 0} → Worker S L → ℕ
fetchers_in (Fetches f) = 1
fetchers_in (Writes w) = 0
fetchers_in (Both f w) = 1

-- The number of a worker's writers: 1 if the worker writes documents, otherwise 0.
abbrev pub writers_in : {S L : Type 0} → Worker S L → ℕ
writers_in (Fetches f) = 0
writers_in (Writes w) = 1
writers_in (Both f w) = 1

-- The seat (access token to the progress board) of a worker's writer.
abbrev pub seat_of : {S L : Type 0} → Worker S L → Option BoardSeat
seat_of (Fetches f) = None
seat_of (Writes w) = w.seat
seat_of (Both f w) = w.seat

-- A worker that started with the seat `given` shows its writer's progress on the progress board (`WriterShows`). If a
-- worker has no writer, the optional seat `given` is `None`.
abbrev pub Shows : {S L : Type 0} → Option Board → Option BoardSeat → Worker S L → Type 0
Shows board given (Fetches f) = given ≡ None
Shows board given (Writes w) = WriterShows board given w
Shows board given (Both f w) = WriterShows board given w

-- What is known about a worker that started as `given` and is now r.
pub record Keeps {S L : Type 0} (channels : Channels S) (board : Option Board) (may_stop : Place → Type 0)
    (given r : Worker S L) : Type 0 where
  pub idle : IsIdle channels board may_stop r
  pub fetchers : fetchers_in r ≡ fetchers_in given
  pub writers : writers_in r ≡ writers_in given
  pub shows : Shows board (seat_of given) r
