use Rattle.repl_log.specs.{time_text-date}
use Rattle.repl_log.proofs.written.write_log.Goals as goal

pub returns-in_default-clause-times : goal.returns-in_default-clause-times
returns-in_default-clause-times c = time_text-date

pub returns-clause-times : goal.returns-clause-times
returns-clause-times c = time_text-date

pub returns-in_err-whole_log-clause-times : goal.returns-in_err-whole_log-clause-times
returns-in_err-whole_log-clause-times c = time_text-date
