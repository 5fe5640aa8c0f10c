use Rattle.proof_prelude.proofs.{sym, ap, ◌∙◌, unwrap_or, option_copied}
use Rattle.rev_tree.specs.{merge_answer, no_revisions}
use Rattle.couch_base.proofs.{new_changes}
use Rattle.couch_base.proofs.database.answer_in.Goals as goal

pub returns-in-None : goal.returns-in-None
returns-in-None c =
    sym (ap (λ o. merge_answer (unwrap_or (option_copied o) no_revisions) c.args.ancestry.now) c.in-None.is ∙ new_changes c.args.ancestry.now c.revs-revs.ensures.ancestry)
