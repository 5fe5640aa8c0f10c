use Rattle.proof_prelude.proofs.{Some, Ok, Err, ap}
use Rattle.rev_core.specs.{◌>>=◌}
use Rattle.json_values.specs.{line_view}
use Rattle.doc_json.specs.{doc_read}
use Rattle.envelope_reads.proofs.{doc_spares, failed_read, given_spares}
use Rattle.envelope_reads.proofs.read.read_spared.Goals as goal

pub returns-in-Ok-clause-ok : goal.returns-in-Ok-clause-ok
returns-in-Ok-clause-ok c = ap (λ r. r >>= λ doc. Ok (Some doc)) c.in-Ok.ensures

pub returns-in-Err : goal.returns-in-Err
returns-in-Err c = record {
  ok = tt;
  err = failed_read (line_view c.args.part.now) c.in-Err.why c.in-Err.ensures;
  spared = given_spares (Err c.in-Err.why) (doc_read (line_view c.args.part.now)) (doc_spares (line_view c.args.part.now) c.requires) c.in-Err.ensures;
}
