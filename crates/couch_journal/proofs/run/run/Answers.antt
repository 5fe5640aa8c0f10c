use Rattle.couch_journal.proofs.{task_ran}
use Rattle.couch_journal.specs.declared.tasks.Task.TheVariants as tasks
use Rattle.couch_journal.proofs.run.run.Goals as goal

pub returns-in-Page-clause-ran : goal.returns-in-Page-clause-ran
returns-in-Page-clause-ran g c = task_ran c.args.task.now (tasks.Page c.in-Page.several) c.args.options.now _ _ _ _ _ c.run_response.result c.in-Page.is c.run_response.ensures.ran

pub returns-in-Refused-clause-ran : goal.returns-in-Refused-clause-ran
returns-in-Refused-clause-ran g c = task_ran c.args.task.now (tasks.Refused) c.args.options.now _ _ _ _ _ c.run_response-in-Refused.result c.in-Refused.is c.run_response-in-Refused.ensures.ran

pub returns-in-Info-clause-ran : goal.returns-in-Info-clause-ran
returns-in-Info-clause-ran g c = task_ran c.args.task.now (tasks.Info) c.args.options.now _ _ _ _ _ c.run_response-in-Info.result c.in-Info.is c.run_response-in-Info.ensures.ran

pub returns-in-Seal-clause-ran : goal.returns-in-Seal-clause-ran
returns-in-Seal-clause-ran g c = task_ran c.args.task.now (tasks.Seal c.in-Seal.chain c.in-Seal.seq) c.args.options.now _ _ _ _ _ c.run_seal.result c.in-Seal.is c.run_seal.ensures.ran

pub returns-in-Ask-clause-ran : goal.returns-in-Ask-clause-ran
returns-in-Ask-clause-ran g c = task_ran c.args.task.now (tasks.Ask) c.args.options.now _ _ _ _ _ c.run_ask.result c.in-Ask.is c.run_ask.ensures.ran

pub returns-in-Confirm-clause-ran : goal.returns-in-Confirm-clause-ran
returns-in-Confirm-clause-ran g c = task_ran c.args.task.now (tasks.Confirm c.in-Confirm.at) c.args.options.now _ _ _ _ _ c.run_confirm.result c.in-Confirm.is c.run_confirm.ensures.ran

pub returns-in-States-clause-ran : goal.returns-in-States-clause-ran
returns-in-States-clause-ran g c = task_ran c.args.task.now (tasks.States c.in-States.unverified) c.args.options.now _ _ _ _ _ c.run_states.result c.in-States.is c.run_states.ensures.ran

pub returns-in-Select-clause-ran : goal.returns-in-Select-clause-ran
returns-in-Select-clause-ran g c = task_ran c.args.task.now (tasks.Select c.in-Select.size) c.args.options.now _ _ _ _ _ c.run_select.result c.in-Select.is c.run_select.ensures.ran

pub returns-in-Received-clause-ran : goal.returns-in-Received-clause-ran
returns-in-Received-clause-ran g c = task_ran c.args.task.now (tasks.Received c.in-Received.only_lacks) c.args.options.now _ _ _ _ _ c.run_received.result c.in-Received.is c.run_received.ensures.ran

pub returns-in-Lacking-clause-ran : goal.returns-in-Lacking-clause-ran
returns-in-Lacking-clause-ran g c = task_ran c.args.task.now (tasks.Lacking) c.args.options.now _ _ _ _ _ c.run_lacking.result c.in-Lacking.is c.run_lacking.ensures.ran

pub returns-in-Diff-clause-ran : goal.returns-in-Diff-clause-ran
returns-in-Diff-clause-ran g c = task_ran c.args.task.now (tasks.Diff) c.args.options.now _ _ _ _ _ c.run_diff.result c.in-Diff.is c.run_diff.ensures.ran

pub returns-in-Parts-clause-ran : goal.returns-in-Parts-clause-ran
returns-in-Parts-clause-ran g c = task_ran c.args.task.now (tasks.Parts c.in-Parts.bytes c.in-Parts.lines) c.args.options.now _ _ _ _ _ c.run_parts.result c.in-Parts.is c.run_parts.ensures.ran

pub returns-in-Name-clause-ran : goal.returns-in-Name-clause-ran
returns-in-Name-clause-ran g c = task_ran c.args.task.now (tasks.Name c.in-Name.word) c.args.options.now _ _ _ _ _ c.run_name.result c.in-Name.is c.run_name.ensures.ran

pub returns-in-Compare-clause-ran : goal.returns-in-Compare-clause-ran
returns-in-Compare-clause-ran g c = task_ran c.args.task.now (tasks.Compare c.in-Compare.documents) c.args.options.now _ _ _ _ _ c.run_compare.result c.in-Compare.is c.run_compare.ensures.ran

pub returns-in-Conflicts-clause-ran : goal.returns-in-Conflicts-clause-ran
returns-in-Conflicts-clause-ran g c = task_ran c.args.task.now (tasks.Conflicts) c.args.options.now _ _ _ _ _ c.run_conflicts.result c.in-Conflicts.is c.run_conflicts.ensures.ran
