-- What a run shows while it runs, from what its writers' seats show.
use Rattle.proof_prelude.proofs.{◌≡◌, ℕ, List, [], ◌∷◌, ◌++◌, Option, None, Some, All, sym, subst, All-push, All-pop}
use Rattle.progress_board.specs.{Board, BoardSeat}
use Rattle.pool_workers.specs.{AreSeated, AreBack, HaveShown}
use Rattle.pool_workers.proofs.Boarding.{back_same, shown_none}

-- a property of each element holds for the last one and for the others
pub all_popped : {X : Type 0} (xs ys : List X) (x : X) (P : X → Type 0) → xs ≡ ys ++ x ∷ [] → All P xs → All P ys × P x
all_popped xs ys x P e h = All-pop P xs ys (Some x) e h

pub all_pushed : {X : Type 0} (xs ys : List X) (x : X) (P : X → Type 0) → All P xs → P x → ys ≡ xs ++ x ∷ [] → All P ys
all_pushed xs ys x P h p pushed = subst (All P) (sym pushed) (All-push P xs x h p)

pub back_is : (board : Option Board) (given now : List BoardSeat) → AreSeated board given → given ≡ now → AreBack board given now
back_is board given now h e = subst (AreBack board given) e (back_same board given h)

pub shown_start : (board : Option Board) (n : ℕ) (xs : List BoardSeat) → n ≡ 0 → HaveShown board n None xs xs
shown_start board n xs e = subst (λ m. HaveShown board m None xs xs) (sym e) (shown_none board xs)
