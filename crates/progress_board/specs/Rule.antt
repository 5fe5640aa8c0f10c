-- Defines the rule that the counters of a progress board obey. Defines what a seat (an access token for the board)
-- knows about the counters after each step, as specified in docs/PROFILE.md, "The progress board".
use Rattle.std.specs.Prelude.{◌≡◌, ◌+◌, ◌<◌, ◌≤◌, ℕ, Bool, true, false, List, length, max, replicate, slice_index, slice_set}
use mathlib.Core.Option.{some}
use lib.ListN.{get_elem?}
use Rattle.progress_board.specs.declared.rule.SeatView.{SeatView}

-- The greatest value that a counter of the board may have.
abbrev pub most : ℕ
most = 9007199254740991

abbrev pub seat_view : Bool → Bool → ℕ → List ℕ → List ℕ → SeatView
seat_view deals works number reads settles =
    record { deals = deals; works = works; number = number; reads = reads; settles = settles }

-- The state of a board's dealer after the dealer has created the seats of n workers. A dealer creates the seats of a
-- progress board. The board has k workers, and a seat is an access token for the board's counters.
abbrev pub dealer : ℕ → ℕ → SeatView
dealer k n = seat_view true false n (replicate k 0) (replicate k 0)

-- The state of a board's dealer just after the dealer has created a worker's seat. The dealer is the value that creates
-- the board's seats.
abbrev pub dealt : SeatView → SeatView
dealt v = seat_view v.deals v.works (v.number + 1) v.reads v.settles

-- The state of a new seat (an access token for a progress board) of a worker: the lower bound of each counter is 0.
abbrev pub hired : SeatView → SeatView
hired v = seat_view false true v.number (replicate (length v.reads) 0) (replicate (length v.reads) 0)

-- The state of a new seat (an access token for a progress board) of a viewer: the lower bound of each counter is 0.
abbrev pub viewer : SeatView → SeatView
viewer v = seat_view false false 0 (replicate (length v.reads) 0) (replicate (length v.reads) 0)

-- The state of a worker's seat (an access token for a progress board) after the worker has added n to its read counter.
abbrev pub added_read : SeatView → ℕ → SeatView
added_read v n =
    seat_view v.deals v.works v.number (slice_set v.reads v.number (slice_index v.reads v.number + n)) v.settles

abbrev pub added_settled : SeatView → ℕ → SeatView
added_settled v n =
    seat_view v.deals v.works v.number v.reads (slice_set v.settles v.number (slice_index v.settles v.number + n))

-- A seat (an access token for a progress board) loads worker i's read counter, which has the value n. The load changes
-- the seat's state from v to w. Before a seat loads the value n of a read counter, the seat's lower bound of the
-- counter is at most n. After the seat has loaded the read counter's value n, the seat's lower bound of the counter is
-- n. If a seat loads a counter of the seat's own worker, the seat's lower bound is equal to the loaded value n already
-- before the load.
abbrev pub SeesRead : SeatView → ℕ → ℕ → SeatView → Type 0
SeesRead v i n w =
    (w ≡ seat_view v.deals v.works v.number (slice_set v.reads i n) v.settles)
    × (slice_index v.reads i ≤ n) × (n ≤ most) × (v.works ≡ true → v.number ≡ i → n ≡ slice_index v.reads i)

-- A seat (an access token for a progress board) loads worker i's settled counter, which has the value n. The load
-- changes the seat's state from v to w. Before a seat loads the value n of a settled counter, the seat's lower bound of
-- the counter is at most n. After the seat has loaded the settled counter's value n, the seat's lower bound of the
-- counter is n. After a seat has loaded the value n of a worker's settled counter, the seat's lower bound of this
-- worker's read counter is at least n. If a seat loads a counter of the seat's own worker, the seat's lower bound is
-- equal to the loaded value n already before the load.
abbrev pub SeesSettled : SeatView → ℕ → ℕ → SeatView → Type 0
SeesSettled v i n w =
    (w ≡ seat_view v.deals v.works v.number (slice_set v.reads i (max (slice_index v.reads i) n))
    (slice_set v.settles i n))
    × (slice_index v.settles i ≤ n) × (n ≤ most) × (v.works ≡ true → v.number ≡ i → n ≡ slice_index v.settles i)

-- A progress board has k workers, and `words` has the values of the board's counters. All that the seat v (an access
-- token for the board) stores about these values is true.
pub record Fits (k : ℕ) (words : List ℕ) (v : SeatView) : Type 0 where
  pub read_size : length v.reads ≡ k
  pub settle_size : length v.settles ≡ k
  pub read_bound : (j : ℕ) → j < k → slice_index v.reads j ≤ slice_index words j
  pub settle_bound : (j : ℕ) → j < k → slice_index v.settles j ≤ slice_index words (k + j)
  pub own : v.works ≡ true
      → (v.number < k) × (slice_index v.reads v.number ≡ slice_index words v.number)
      × (slice_index v.settles v.number ≡ slice_index words (k + v.number))
  pub fresh : v.deals ≡ true
      → (v.works ≡ false)
      × ((j : ℕ) → v.number ≤ j → j < k → (slice_index words j ≡ 0) × (slice_index words (k + j) ≡ 0))

-- Each worker's settled counter is at most the worker's read counter.
abbrev pub InOrder : ℕ → List ℕ → Type 0
InOrder k words = (j : ℕ) → j < k → (slice_index words (k + j) ≤ slice_index words j) × (slice_index words j ≤ most)

-- The invariant of a progress board. No worker's settled counter exceeds the worker's read counter. What each seat (an
-- access token for the board) stores about the counters is true. The numbers of the workers' seats are distinct. The
-- number of a worker's seat is less than the number that a dealer gives to the next worker's seat. A board has at most
-- one dealer (the value that creates the board's seats).
pub record Kept (k : ℕ) (words : List ℕ) (views : List SeatView) : Type 0 where
  pub size : length words ≡ k + k
  pub order : InOrder k words
  pub fits : (id : ℕ) (v : SeatView) → get_elem? views id ≡ some v → Fits k words v
  pub apart : (a b : ℕ) (u v : SeatView) → get_elem? views a ≡ some u → get_elem? views b ≡ some v → u.works ≡ true
      → v.works ≡ true → u.number ≡ v.number → a ≡ b
  pub below : (a b : ℕ) (u v : SeatView) → get_elem? views a ≡ some u → get_elem? views b ≡ some v → u.deals ≡ true
      → v.works ≡ true → v.number < u.number
  pub one : (a b : ℕ) (u v : SeatView) → get_elem? views a ≡ some u → get_elem? views b ≡ some v → u.deals ≡ true
      → v.deals ≡ true → a ≡ b

-- ---- new views

-- The view v of a new seat (an access token for a board with k workers): the lower bound of each counter is 0. The
-- Boolean `works` says whether the seat belongs to a worker, and `number` is the seat's number.
abbrev pub IsFresh : ℕ → Bool → ℕ → SeatView → Type 0
IsFresh k works number v =
    (v.works ≡ works) × (v.number ≡ number) × (v.reads ≡ replicate k 0) × (v.settles ≡ replicate k 0)

abbrev pub AllZero : List ℕ → Type 0
AllZero xs = (j : ℕ) → slice_index xs j ≡ 0
