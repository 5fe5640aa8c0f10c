-- What was read so far is responses, and their contents are written.
use Rattle.proof_prelude.proofs.{◌≡◌, ◌-◌, ℕ, List, [], Some, false, Appends}
use Rattle.response_parser.specs.State.{State}
use Rattle.response_parser.specs.{front_length_of, front_of, is_refused, state_of}
use Rattle.script_engine.specs.{HasRead, AreChunks, max_reads}
use Rattle.response_output.specs.{words_of_wording, Tracks}
use Rattle.response_output.proofs.{Ran}
use Rattle.response_output.proofs.run.run_chunks.Given as goal

abbrev pub invariant-loop-more : goal.invariant-loop-more
invariant-loop-more g l =
    let R = g.R.ScriptRead in
    let W = g.W.ScriptWrite in
    record {
      so_far : (s : State) × (part : List ℕ) × Tracks s (state_of l.reading) (front_of l.front) (front_length_of l.front) (words_of_wording l.wording) part
          × Ran l.fn.reading.wanted (words_of_wording l.fn.wording) s (words_of_wording l.wording) part (R.left l.fn.reader) (R.left l.reader) (W.held l.fn.writer) (W.held l.writer)
          × ((input : List ℕ) × Appends (R.taken l.fn.reader) (R.taken l.reader) input
          × Ran l.fn.reading.wanted (words_of_wording l.fn.wording) s (words_of_wording l.wording) part (Some input) (Some []) (W.held l.fn.writer) (W.held l.writer));
      going : is_refused (state_of l.reading).place ≡ false;
      chunks : AreChunks l.chunks;
      reads : HasRead l.chunks.turns (R.reads l.fn.reader) (R.reads l.reader) (R.failures l.fn.reader) (R.failures l.reader);
      writer : W.failures l.writer ≡ W.failures l.fn.writer;
    }

abbrev pub decreases-loop-more : goal.decreases-loop-more
decreases-loop-more g l = max_reads - l.chunks.turns
