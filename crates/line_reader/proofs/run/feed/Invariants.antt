-- The lines that end in a prefix of the bytes have been run.
use Rattle.proof_prelude.proofs.{◌≡◌, ◌++◌, ℕ, List, Option, length}
use Rattle.line_reader.specs.{HasRun}
use Rattle.line_reader.proofs.run.feed.Given as goal

abbrev pub invariant-loop-end : goal.invariant-loop-end
invariant-loop-end g l =
    let steps = g.T.LineTask.steps in
    let W = g.W.ScriptWrite in
    (front : List ℕ) × (l.bytes ≡ front ++ l.rest)
    × ((start : _) (held : Option (List ℕ)) (taken : List ℕ) → HasRun steps start held taken l.fn.task l.fn.progress.begun.items (W.held l.fn.writer)
    → HasRun steps start held (taken ++ front) l.task l.progress.begun.items (W.held l.writer))
    × (W.failures l.writer ≡ W.failures l.fn.writer)

abbrev pub decreases-loop-end : goal.decreases-loop-end
decreases-loop-end g l = length l.rest
