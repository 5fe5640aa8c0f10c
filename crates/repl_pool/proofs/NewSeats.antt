-- The seats of a new board, for callers of the pool.
use Rattle.proof_prelude.proofs.{◌≡◌, ◌+◌, ◌++◌, List, [], ◌∷◌, length, slice_index_or, ap, ◌∙◌, subst, arith, length-append, get_or-append_seam, get_or_append_left}
use Rattle.progress_board.specs.{AreNew, IsNew, Board, BoardSeat}

-- ---- seats taken from the end

-- the remaining seats are as the board was created with them
pub new_left : (b : Board) (seats rest last : List BoardSeat) → AreNew b seats → seats ≡ rest ++ last → AreNew b rest
new_left b seats rest last new e i d lt =
    let l : length seats ≡ length rest + length last = ap (length {A = BoardSeat}) e ∙ length-append rest last in
    subst (IsNew b i) (ap (λ (xs : List BoardSeat). slice_index_or xs i d) e ∙ get_or_append_left rest last d i lt) (new i d (omega (arith, l, lt)))

-- so is the seat that was taken
pub new_taken : (b : Board) (seats rest : List BoardSeat) (taken : BoardSeat) → AreNew b seats → seats ≡ rest ++ taken ∷ [] → IsNew b (length rest) taken
new_taken b seats rest taken new e =
    let l : length seats ≡ length rest + 1 = ap (length {A = BoardSeat}) e ∙ length-append rest (taken ∷ []) in
    subst (IsNew b (length rest)) (ap (λ (xs : List BoardSeat). slice_index_or xs (length rest) taken) e ∙ get_or-append_seam rest taken [] taken) (new (length rest) taken (omega (arith, l)))
