use Rattle.response_output.specs.{words_of_wording}
use Rattle.response_output.proofs.{Finishes-breaks, Finishes-end}
use Rattle.response_output.proofs.run.finish.Goals as goal

pub returns-in-Ok-clause-finishes : goal.returns-in-Ok-clause-finishes
returns-in-Ok-clause-finishes g c = λ s part t. Finishes-end (c.in-Ok.ensures.ok s part t) (g.W.ScriptWrite.held c.end.new.writer) c.end.result c.end.ensures.ends

pub returns-in-Err-clause-finishes : goal.returns-in-Err-clause-finishes
returns-in-Err-clause-finishes g c = λ s part t. Finishes-breaks s (words_of_wording c.args.wording.now) part _ _ c.in-Err.fault (c.in-Err.ensures.err s part t)
