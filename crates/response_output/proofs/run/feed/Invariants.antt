-- A prefix of the bytes was read, and its contents are written.
use Rattle.proof_prelude.proofs.{◌≡◌, ◌++◌, ℕ, List, length}
use Rattle.response_parser.specs.State.{State}
use Rattle.response_parser.specs.{front_length_of, front_of, state_of}
use Rattle.response_output.specs.{words_of_wording, Feeds, Tracks}
use Rattle.response_output.proofs.run.feed.Given as goal

abbrev pub invariant-loop-rest : goal.invariant-loop-rest
invariant-loop-rest g l =
    let W = g.W.ScriptWrite in
    (read : List ℕ) × (l.bytes ≡ read ++ l.rest)
    × ((s : State) → (part : List ℕ) → Tracks s (state_of l.fn.reading) (front_of l.fn.front) (front_length_of l.fn.front) (words_of_wording l.fn.wording) part
    → Feeds s (words_of_wording l.fn.wording) part read (state_of l.reading) (front_of l.front) (front_length_of l.front) (words_of_wording l.wording) (W.held l.fn.writer) (W.held l.writer))
    × (W.failures l.writer ≡ W.failures l.fn.writer)

abbrev pub decreases-loop-rest : goal.decreases-loop-rest
decreases-loop-rest g l = length l.rest
