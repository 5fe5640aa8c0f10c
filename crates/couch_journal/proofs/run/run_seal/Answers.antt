use Rattle.proof_prelude.proofs.{subst₂}
use Rattle.journal_core.specs.{HasSealedPart}
use Rattle.couch_journal.proofs.run.run_seal.Goals as goal

pub returns-in-Err-clause-ran : goal.returns-in-Err-clause-ran
returns-in-Err-clause-ran g c =
    subst₂ (λ chain seq. HasSealedPart chain seq (g.R.ScriptRead.ended c.seal_block.new.reader) (g.R.ScriptRead.taken c.args.reader.now) (g.R.ScriptRead.taken c.seal_block.new.reader) (g.W.ScriptWrite.held c.args.writer.now) (g.W.ScriptWrite.held c.seal_block.new.writer))
    c.as_bytes.ensures.value c.as_bytes-2.ensures.value c.in-Err.ensures.stopped
