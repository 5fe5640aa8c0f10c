use Rattle.proof_prelude.proofs.{inl}
use Rattle.couch_journal.proofs.{response_read, response_refused}
use Rattle.couch_journal.proofs.run.read_response.Goals as goal

pub returns-in-Ok-clause-ok : goal.returns-in-Ok-clause-ok
returns-in-Ok-clause-ok c = response_read c.args.response c.args.body.now c.args.text.now.items c.show.new.text.items _ c.show.result c.in-Ok.ensures.ok c.show.ensures.ok

pub returns-in-Ok-clause-err : goal.returns-in-Ok-clause-err
returns-in-Ok-clause-err c = response_refused c.args.response c.args.body.now _ c.show.result c.in-Ok.ensures.ok c.show.ensures.err c.show.ensures.said

pub returns-clause-err : goal.returns-clause-err
returns-clause-err c = inl c.in-Err.ensures.err
