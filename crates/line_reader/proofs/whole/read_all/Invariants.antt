-- The bytes are those that were read.
use Rattle.proof_prelude.proofs.{◌-◌, Appends, Consumes}
use Rattle.script_engine.specs.{HasRead, AreChunks, max_reads}
use Rattle.line_reader.proofs.whole.read_all.Given as goal

abbrev pub invariant-loop-more : goal.invariant-loop-more
invariant-loop-more g l =
    let R = g.R.ScriptRead in
    record {
      consumes : Consumes (R.left l.fn.reader) (R.left l.reader) l.bytes.items;
      took : Appends (R.taken l.fn.reader) (R.taken l.reader) l.bytes.items;
      chunks : AreChunks l.chunks;
      reads : HasRead l.chunks.turns (R.reads l.fn.reader) (R.reads l.reader) (R.failures l.fn.reader) (R.failures l.reader);
    }

abbrev pub decreases-loop-more : goal.decreases-loop-more
decreases-loop-more g l = max_reads - l.chunks.turns
