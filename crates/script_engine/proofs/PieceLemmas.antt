-- Output in pieces.
use Rattle.proof_prelude.proofs.{◌≡◌, ℕ, List, [], ◌++◌, Option, Some, None, Result, Ok, Err, refl, sym, append-nil, OnErr}
use Rattle.script_engine.specs.{text_with}

-- its first piece, and the rest
pub text_with-piece : {R : Type 0} (left : R → List ℕ) (piece : List ℕ) (rest : Option R) → text_with left piece rest ≡ piece ++ text_with left [] rest
text_with-piece left piece None = sym (append-nil piece)
text_with-piece left piece (Some r) = refl

-- the state after an error
pub on_err : {T E P Q : Type 0} (r : Result T E) → (P → Q) → OnErr r P → OnErr r Q
on_err (Ok x) f h = h
on_err (Err e) f h = f h
