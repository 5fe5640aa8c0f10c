-- Defines what a worker of a run knows between two messages, as specified in docs/PROFILE.md, "The pool".
use Rattle.std.specs.Prelude.{◌≡◌, ◌+◌, ℕ, List, [], ◌∷◌, ◌++◌, map, length, Option, None, option_to_list}
use Rattle.crossbeam_channel.specs.Claims.{view}
use Rattle.progress_board.specs.declared.board.Board.{Board}
use Rattle.progress_board.specs.declared.seat.BoardSeat.{BoardSeat}
use Rattle.pool_workers.specs.Boards.{AreBack, HaveShown}
use Rattle.pool_workers.specs.Sums.{weigh}
use Rattle.pool_workers.specs.Parcels.{parcel_view}
use Rattle.pool_workers.specs.Windows.{window_view}
use Rattle.pool_workers.specs.declared.fetcher.Fetcher.{Fetcher}
use Rattle.pool_workers.specs.declared.writer.Writer.{Writer}

-- The sum of the amounts a of all pairs (n, a) in a list.
abbrev pub amounts : List (ℕ × ℕ) → ℕ
amounts xs = weigh (λ n a. a) xs

-- The first number of each pair in a list.
abbrev pub names : List (ℕ × ℕ) → List ℕ
names xs = map (λ (x : ℕ × ℕ). x.0) xs

-- The facts about a fetcher's counts, windows and parcels that hold between the handling of two messages. If a fetcher
-- was not stopped, the fetcher's count is the number of documents of the parcels that the fetcher sent. If a fetcher
-- was not stopped, it sent a parcel for each window that it took, except for the windows `in_hand`, which are in
-- progress.
abbrev pub FetcherKnows : {S : Type 0} → List ℕ → Fetcher S → Type 0
FetcherKnows in_hand f =
    (view f.windows ≡ window_view 1 0 0 (view f.windows).taken)
    × (view f.parcels ≡ parcel_view 1 (view f.parcels).sent [])
    × (f.sent ≡ length (view f.parcels).sent)
    × (f.stopped ≡ None → (f.fetched ≡ amounts (view f.parcels).sent)
    × ((view f.windows).taken ≡ names (view f.parcels).sent ++ in_hand))

-- What a fetcher knows when it has counted a parcel, and has not sent the parcel yet.
abbrev pub HasCounted : {S : Type 0} → ℕ × ℕ → Fetcher S → Type 0
HasCounted x f =
    (view f.windows ≡ window_view 1 0 0 (view f.windows).taken)
    × (view f.parcels ≡ parcel_view 1 (view f.parcels).sent [])
    × (f.sent ≡ length (view f.parcels).sent)
    × (f.stopped ≡ None)
    × (f.fetched ≡ amounts (view f.parcels).sent + x.1)
    × ((view f.windows).taken ≡ names (view f.parcels).sent ++ x.0 ∷ [])

-- The facts about a writer's counts and received parcels that hold between the handling of two messages. The parcels
-- `in_hand` are received but not yet settled. If a writer was not stopped, it has counted each received parcel except
-- the parcels `in_hand`. If a writer was not stopped, its share of the ghost count of settled documents is the number
-- of documents in the counted parcels.
abbrev pub WriterKnows : {S L : Type 0} → List (ℕ × ℕ) → Writer S L → Type 0
WriterKnows in_hand w =
    (view w.parcels ≡ parcel_view 1 [] (view w.parcels).got)
    × (w.share.parts ≡ 1)
    × (w.stopped ≡ None → (w.got + length in_hand ≡ length (view w.parcels).got)
    × (w.share.amount + amounts in_hand ≡ amounts (view w.parcels).got))

-- Since the writer started with the seat `given`, the seat's settled counter has grown by the number of documents that
-- the writer settled (`HaveShown`). If the writer was not stopped, the seat's read counter has also grown by the number
-- of documents that the writer settled.
abbrev pub WriterShows : {S L : Type 0} → Option Board → Option BoardSeat → Writer S L → Type 0
WriterShows board given w =
    AreBack board (option_to_list given) (option_to_list w.seat)
    × HaveShown board w.share.amount w.stopped (option_to_list given) (option_to_list w.seat)
