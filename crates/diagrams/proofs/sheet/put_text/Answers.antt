use Rattle.proof_prelude.proofs.{chars}
use Rattle.diagrams.proofs.{escaped_shown, seen_shown}
use Rattle.diagrams.proofs.sheet.put_text.Goals as goal

pub returns-clause-seen : goal.returns-clause-seen
returns-clause-seen c = seen_shown c.args.form (chars c.args.text.now)

pub returns-clause-escaped : goal.returns-clause-escaped
returns-clause-escaped c = escaped_shown (chars c.args.text.now)

pub returns-in_err-push_shown-clause-seen : goal.returns-in_err-push_shown-clause-seen
returns-in_err-push_shown-clause-seen c = seen_shown c.args.form (chars c.args.text.now)

pub returns-in_err-push_shown-clause-escaped : goal.returns-in_err-push_shown-clause-escaped
returns-in_err-push_shown-clause-escaped c = escaped_shown (chars c.args.text.now)
