use Rattle.proof_prelude.proofs.{Appends-trans}
use Rattle.line_reader.proofs.{on_err}
use Rattle.line_reader.proofs.whole.read_all.Goals as goal

pub returns-in_err-extend_from_slice-clause-err : goal.returns-in_err-extend_from_slice-clause-err
returns-in_err-extend_from_slice-clause-err g c =
    on_err c.from_residual-in_err-extend_from_slice.result
    (_, Appends-trans _ _ _ _ _ c.loop-more.invariant.took c.in-Ok.ensures.took)
