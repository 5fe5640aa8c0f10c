-- What a run shows at its end, from what its writers' seats show.
use Rattle.proof_prelude.proofs.{◌≡◌, ℕ, List, Option, None, Some, Result, Ok, Err, IfOk, IfSome, refl, sym, subst}
use Rattle.progress_board.specs.{Board, BoardSeat}
use Rattle.repl_peer.specs.{Report}
use Rattle.pool_workers.specs.{HaveRisenBy, HaveShown, Halt, PoolFault}

pub shown_end : {E : Type 0} (board : Option Board) (given now last : List BoardSeat) (ended : Option E) (e : E) (amount : E → ℕ) (stopped : E → Option Halt) (n : ℕ) → IfSome ended (λ x. HaveShown board (amount x) (stopped x) given now)
    → ended ≡ Some e → stopped e ≡ None → amount e ≡ n → last ≡ now → HaveShown board n None given last
shown_end board given now last ended e amount stopped n h is free sum same =
    let at : HaveShown board (amount e) (stopped e) given now = subst (λ o. IfSome o (λ x. HaveShown board (amount x) (stopped x) given now)) is h in
    subst (HaveShown board n None given) (sym same) (subst (λ m. HaveShown board m None given now) sum (subst (λ o. HaveShown board (amount e) o given now) free at))

pub risen_by : (b : Board) (given now : List BoardSeat) (outcome : Result Report PoolFault) → IfOk outcome (λ report. HaveShown (Some b) report.counts.read None given now) → IfOk outcome (λ report. HaveRisenBy report.counts.read given now)
risen_by b given now (Ok report) h = (h.1 refl, h.0)
risen_by b given now (Err why) h = tt
