-- What was read has been run, and its text is written.
use Rattle.proof_prelude.proofs.{◌≡◌, ◌-◌, ℕ, List, Appends, Consumes}
use Rattle.script_engine.specs.{HasRead, AreChunks, max_reads}
use Rattle.line_reader.specs.{HasRun}
use Rattle.line_reader.proofs.run.run_task.Given as goal

abbrev pub invariant-loop-more : goal.invariant-loop-more
invariant-loop-more g l =
    let R = g.R.ScriptRead in
    let W = g.W.ScriptWrite in
    record {
      taken : List ℕ;
      consumes : Consumes (R.left l.fn.reader) (R.left l.reader) taken;
      took : Appends (R.taken l.fn.reader) (R.taken l.reader) taken;
      run : HasRun g.T.LineTask.steps l.fn.task (W.held l.fn.writer) taken l.task l.progress.begun.items (W.held l.writer);
      chunks : AreChunks l.chunks;
      reads : HasRead l.chunks.turns (R.reads l.fn.reader) (R.reads l.reader) (R.failures l.fn.reader) (R.failures l.reader);
      writer : W.failures l.writer ≡ W.failures l.fn.writer;
    }

abbrev pub decreases-loop-more : goal.decreases-loop-more
decreases-loop-more g l = max_reads - l.chunks.turns
