-- Defines properties of a progress board's seats (access tokens). Contracts use these properties, which are specified
-- in docs/PROFILE.md, "The progress board".
use Rattle.std.specs.Prelude.{◌≡◌, ◌+◌, ◌<◌, ◌≤◌, ℕ, Bool, true, not, ◌&&◌, List, Option, Some, None, if◌then◌else◌, length, nat_lt, nat_le, replicate, slice_index, slice_index_or, sum}
use Rattle.atomic_table.specs.Seated.{TableId}
use Rattle.progress_board.specs.declared.rule.SeatView.{SeatView}
use Rattle.progress_board.specs.declared.board.Board.{Board}
use Rattle.progress_board.specs.declared.seat.BoardSeat.{BoardSeat}
use Rattle.progress_board.specs.declared.fault.BoardFault.{BoardFault}
use Rattle.progress_board.specs.declared.fault.BoardFault.TheVariants as faults
use Rattle.progress_board.specs.Rule.{most}

-- The seat s (an access token) belongs to the progress board b.
abbrev pub CameWith : Board → BoardSeat → Type 0
CameWith b s = (s.place.table_id ≡ b.table.shared.table_id) × (length s.place.me.0.reads ≡ b.workers)

-- ---- the sums of a seat's lower bounds of all read counters, and of all settled counters

abbrev pub seen_read : BoardSeat → ℕ
seen_read s = sum s.place.me.0.reads

abbrev pub seen_settled : BoardSeat → ℕ
seen_settled s = sum s.place.me.0.settles

-- The state of a seat (an access token for a progress board) has a lower bound of each counter of the board. The lower
-- bounds in a seat come from the counters' values that the seat has loaded or stored. For each counter, the lower bound
-- in the seat state v is at most the lower bound in the seat state w.
abbrev pub IsLater : SeatView → SeatView → Type 0
IsLater v w =
    ((j : ℕ) → slice_index v.reads j ≤ slice_index w.reads j)
    × ((j : ℕ) → slice_index v.settles j ≤ slice_index w.settles j)

-- The seats s and t (access tokens for a progress board) have the same worker, and the same values of this worker's
-- counters.
abbrev pub SameSeat : BoardSeat → BoardSeat → Type 0
SameSeat s t = (t.works ≡ s.works) × (t.number ≡ s.number) × (t.read ≡ s.read) × (t.settled ≡ s.settled)

-- If seat s belongs to a worker, the worker's settled counter is at most `settled`, and the worker's read counter is at
-- most `read`.
abbrev pub SeesItself : BoardSeat → ℕ → ℕ → Type 0
SeesItself s settled read = s.works ≡ true → (s.settled ≤ settled) × (s.read ≤ read)

-- ---- errors

-- The error of an addition of n to the read counter of seat s, or `None` if the addition succeeds.
abbrev pub read_refusal : BoardSeat → ℕ → Option BoardFault
read_refusal s n =
    if not s.works then Some faults.NotWorker else (if nat_lt most (s.read + n) then Some faults.BoardFull else None)

-- The error of an addition of n to the settled counter of seat s, or `None` if the addition succeeds.
abbrev pub settled_refusal : BoardSeat → ℕ → Option BoardFault
settled_refusal s n =
    if not s.works then Some faults.NotWorker
    else (if nat_lt s.read (s.settled + n) then Some faults.AheadOfRead else None)

-- Whether the number of workers and the number of viewers are valid: each must be from 1 to 64.
abbrev pub are_seats : ℕ → ℕ → Bool
are_seats workers viewers = nat_le 1 workers && nat_le workers 64 && nat_le 1 viewers && nat_le viewers 64

-- The error of a call that fails to create a progress board. The error is `Memory` if the numbers of workers and
-- viewers are valid, and `BadSeats` if one of these numbers is not valid.
abbrev pub new_fault : ℕ → ℕ → BoardFault
new_fault workers viewers = if are_seats workers viewers then faults.Memory else faults.BadSeats

-- ---- new seats

-- The seat s (an access token for the table `table`) is new, and has index i in the list of the table's seats. The
-- table `table` has the counters of k workers. The seat s belongs to worker i if i is less than the number n of
-- workers' seats, and otherwise to a viewer.
abbrev pub IsSeat : TableId → ℕ → ℕ → ℕ → BoardSeat → Type 0
IsSeat table k n i s =
    (s.place.table_id ≡ table) × (s.works ≡ nat_lt i n) × (i < n → s.number ≡ i) × (s.read ≡ 0) × (s.settled ≡ 0)
    × (s.place.me.0.reads ≡ replicate k 0) × (s.place.me.0.settles ≡ replicate k 0)

abbrev pub SeatsAre : TableId → ℕ → ℕ → List BoardSeat → Type 0
SeatsAre table k n seats = (i : ℕ) (d : BoardSeat) → i < length seats → IsSeat table k n i (slice_index_or seats i d)

-- The seat s is seat number i of a new board b. The first seats of a new board are the workers' seats, ordered by the
-- workers' numbers, and the viewers' seats follow. On a new board, no worker has added documents to its counters, and
-- no seat has loaded a counter's value.
pub record IsNew (b : Board) (i : ℕ) (s : BoardSeat) : Type 0 where
  pub came : CameWith b s
  pub works : s.works ≡ nat_lt i b.workers
  pub number : i < b.workers → s.number ≡ i
  pub own : (s.read ≡ 0) × (s.settled ≡ 0)
  pub seen : (seen_read s ≡ 0) × (seen_settled s ≡ 0)

abbrev pub AreNew : Board → List BoardSeat → Type 0
AreNew b seats = (i : ℕ) (d : BoardSeat) → i < length seats → IsNew b i (slice_index_or seats i d)
