-- A prefix of the rest has been written, and no call has failed.
use Rattle.proof_prelude.proofs.{◌≡◌, ◌<◌, ◌++◌, ℕ, List, length, Appends}
use Rattle.script_engine.proofs.lines.write_rest.Given as goal

abbrev pub invariant-loop-more : goal.invariant-loop-more
invariant-loop-more g l =
    let S = g.S.Serve in
    let W = g.W.ScriptWrite in
    record {
      fits : S.fits l.server l.rest;
      left : 0 < length (S.left l.server l.rest);
      written : (front : List ℕ) × Appends (W.held l.fn.writer) (W.held l.writer) front × (S.left l.server l.fn.rest ≡ front ++ S.left l.server l.rest);
      counted : W.failures l.writer ≡ W.failures l.fn.writer;
    }

abbrev pub decreases-loop-more : goal.decreases-loop-more
decreases-loop-more g l = length (g.S.Serve.left l.server l.rest)
