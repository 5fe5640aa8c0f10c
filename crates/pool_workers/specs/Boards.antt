-- Defines what a run of the pool shows on a progress board, as specified in docs/PROFILE.md, "The pool".
use Rattle.std.specs.Prelude.{◌≡◌, ◌+◌, ◌<◌, ◌≤◌, ℕ, true, List, [], ◌∷◌, ◌++◌, Option, None, Some, Result, Ok, Err, length, option_to_list}
use Rattle.std.specs.List.{All}
use Rattle.progress_board.specs.Seats.{CameWith, seen_read, seen_settled}
use Rattle.progress_board.specs.Rule.{most}
use Rattle.progress_board.specs.declared.board.Board.{Board}
use Rattle.progress_board.specs.declared.seat.BoardSeat.{BoardSeat}
use Rattle.pool_workers.specs.Sums.{total}
use Rattle.pool_workers.specs.declared.fault.Halt.{Halt}

-- The value s is a seat (an access token) of the progress board b, and belongs to a worker.
abbrev pub WorksAt : Board → BoardSeat → Type 0
WorksAt b s = CameWith b s × (s.works ≡ true)

-- The counters of the worker with the seat s are 0. The seat s also has a lower bound of each counter of the board, and
-- all these bounds are 0.
abbrev pub HasNothing : BoardSeat → Type 0
HasNothing s = (s.read ≡ 0) × (s.settled ≡ 0) × (seen_read s ≡ 0) × (seen_settled s ≡ 0)

-- Seats s and t belong to the same worker of board b, and t's counters are not lower than the counters of s.
abbrev pub IsRisen : Board → BoardSeat → BoardSeat → Type 0
IsRisen b s t = WorksAt b t × (t.number ≡ s.number) × (s.read ≤ t.read) × (s.settled ≤ t.settled)

-- The list `now` has the seats of the list `given`, in the same order, and no counter of a seat has fallen.
abbrev pub AreRisen : Board → List BoardSeat → List BoardSeat → Type 0
AreRisen b [] [] = Unit {0}
AreRisen b (s ∷ given) (t ∷ now) = IsRisen b s t × AreRisen b given now
AreRisen b given now = ⊥

-- The sum of the numbers of documents that the seats of a list show as read.
abbrev pub read_on : List BoardSeat → ℕ
read_on seats = total (λ (s : BoardSeat). s.read) seats

abbrev pub settled_on : List BoardSeat → ℕ
settled_on seats = total (λ (s : BoardSeat). s.settled) seats

-- From the seats `given` to the seats `now`, both the sum of the read counters and the sum of the settled counters grow
-- by n.
abbrev pub HaveRisenBy : ℕ → List BoardSeat → List BoardSeat → Type 0
HaveRisenBy n given now = (read_on now ≡ read_on given + n) × (settled_on now ≡ settled_on given + n)

-- ---- an optional board

-- A run may return `BoardFull` only if it has a board.
abbrev pub MayFill : Option Board → Type 0
MayFill None = ⊥
MayFill (Some b) = Unit {0}

-- If the run has a progress board, each seat in the list `seats` is a worker's seat of this board. If the run has no
-- progress board, the list `seats` is empty.
abbrev pub AreSeated : Option Board → List BoardSeat → Type 0
AreSeated None seats = seats ≡ []
AreSeated (Some b) seats = All (WorksAt b) seats

-- If the run has a progress board, each seat in the list `seats` is a worker's seat of this board. If the run has a
-- progress board, `seats` has at least `workers` - `out` seats, one for each writer that has not started. If the run
-- has no progress board, the list `seats` is empty.
abbrev pub AreSeats : Option Board → ℕ → ℕ → List BoardSeat → Type 0
AreSeats None out workers seats = seats ≡ []
AreSeats (Some b) out workers seats = (workers ≤ length seats + out) × All (WorksAt b) seats

-- The list `now` has the seats of the list `given`, in the same order, and no counter of a seat has fallen. If the run
-- has no progress board, the lists `given` and `now` are empty.
abbrev pub AreBack : Option Board → List BoardSeat → List BoardSeat → Type 0
AreBack None given now = (given ≡ []) × (now ≡ [])
AreBack (Some b) given now = AreRisen b given now

-- If the run has a progress board, the sum of the settled counters grows by n from the seats `given` to the seats
-- `now`. If the run has a progress board and no writer was stopped, the sum of the read counters also grows by n.
abbrev pub HaveShown : Option Board → ℕ → Option Halt → List BoardSeat → List BoardSeat → Type 0
HaveShown None n stopped given now = Unit {0}
HaveShown (Some b) n stopped given now =
    (settled_on now ≡ settled_on given + n) × (stopped ≡ None → read_on now ≡ read_on given + n)

-- ---- a writer's seat

abbrev pub IsSeated : Option Board → Option BoardSeat → Type 0
IsSeated None None = Unit {0}
IsSeated (Some b) (Some s) = WorksAt b s
IsSeated board seat = ⊥

-- A writer's optional seat (access token to the progress board) changes from s to t, and the seat's read counter grows
-- by n documents. If the run has no progress board, the optional seats s and t are equal.
abbrev pub HasRead : Option Board → ℕ → Option BoardSeat → Option BoardSeat → Type 0
HasRead None n s t = t ≡ s
HasRead (Some b) n (Some s) (Some t) =
    WorksAt b t × (t.number ≡ s.number) × (t.read ≡ s.read + n) × (t.settled ≡ s.settled)
HasRead (Some b) n s t = ⊥

-- The writer has a seat s, and reading n more documents would raise the seat's read counter above its maximum.
abbrev pub IsFullFor : ℕ → Option BoardSeat → Type 0
IsFullFor n None = ⊥
IsFullFor n (Some s) = most < s.read + n

-- If a writer has the seat s and settles n more documents, the seat's settled counter stays at or below the seat's read
-- counter.
abbrev pub HasRoom : Option Board → ℕ → Option BoardSeat → Type 0
HasRoom (Some b) n (Some s) = s.settled + n ≤ s.read
HasRoom board n seat = Unit {0}

-- A writer's seat changes from s to t while a count of settled documents changes from a to z. The seat's settled
-- counter grows by z - a, as much as the count. If the run has no progress board, the optional seats s and t are equal.
abbrev pub HasSettled : Option Board → ℕ → ℕ → Option BoardSeat → Option BoardSeat → Type 0
HasSettled None a z s t = t ≡ s
HasSettled (Some b) a z (Some s) (Some t) =
    WorksAt b t × (t.number ≡ s.number) × (t.read ≡ s.read) × (t.settled + a ≡ s.settled + z)
HasSettled (Some b) a z s t = ⊥

-- A writer's seat changes from s to t while a count of settled documents changes from a to z. The seat's settled
-- counter grows by z - a, as much as the count. The read counter of the changed seat t is at least the read counter of
-- the original seat s. If the writer was not stopped, the seat's read counter also grows by z - a. If the run has no
-- progress board, the optional seats s and t are equal.
abbrev pub HasWritten : Option Board → ℕ → ℕ → Option Halt → Option BoardSeat → Option BoardSeat → Type 0
HasWritten None a z stopped s t = t ≡ s
HasWritten (Some b) a z stopped (Some s) (Some t) =
    WorksAt b t × (t.number ≡ s.number) × (s.read ≤ t.read) × (t.settled + a ≡ s.settled + z)
    × (stopped ≡ None → t.read + a ≡ s.read + z)
HasWritten (Some b) a z stopped s t = ⊥

-- The reason to end early (`Halt`) that a failed step of a writer returned, or `None` if the step succeeded.
abbrev pub halt_in : Result (Unit {0}) Halt → Option Halt
halt_in (Ok done) = None
halt_in (Err halt) = Some halt

-- ---- seats in use

-- The seats that the function f returns for the elements of a list, in reverse order of the elements.
abbrev pub held : {X : Type 0} → (X → Option BoardSeat) → List X → List BoardSeat
held f [] = []
held f (x ∷ xs) = held f xs ++ option_to_list (f x)
