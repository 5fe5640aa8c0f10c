-- What was read has been run, and its output is written.
use Rattle.proof_prelude.proofs.{◌≡◌, ◌≤◌, ◌-◌, false, vec_capacity}
use Rattle.script_engine.specs.{HasRead, AreChunks, max_reads, has_line_end, place_of}
use Rattle.script_engine.proofs.{Took}
use Rattle.script_engine.proofs.lines.run_lines.Given as goal

abbrev pub invariant-loop-script : goal.invariant-loop-script
invariant-loop-script g l =
    let S = g.S.Serve in
    let R = g.R.ScriptRead in
    let W = g.W.ScriptWrite in
    record {
      took : Took S.answers l.fn.server (place_of l.server l.script) (R.left l.fn.reader) (R.left l.reader) (R.taken l.fn.reader) (R.taken l.reader) (W.held l.fn.writer) (W.held l.writer) l.chunks.turns;
      begun : has_line_end l.script.begun.items ≡ false;
      chunks : AreChunks l.chunks;
      reads : HasRead l.chunks.turns (R.reads l.fn.reader) (R.reads l.reader) (R.failures l.fn.reader) (R.failures l.reader);
      room : 128 ≤ vec_capacity l.script.refusal;
      writer : W.failures l.writer ≡ W.failures l.fn.writer;
    }

abbrev pub decreases-loop-script : goal.decreases-loop-script
decreases-loop-script g l = max_reads - l.chunks.turns
