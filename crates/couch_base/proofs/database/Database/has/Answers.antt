use Rattle.proof_prelude.proofs.{is_some, sym, ap, ◌∙◌, unwrap_or, option_copied, get-empty}
use Rattle.rev_core.specs.{rev_cmp}
use Rattle.rev_tree.specs.{has, no_revisions}
use Rattle.couch_base.proofs.database.Database.has.Goals as goal

pub returns-in-None : goal.returns-in-None
returns-in-None c =
    let gone = sym c.tree.ensures.value ∙ ap option_copied c.in-None.is in
    sym (ap (λ o. has (unwrap_or o no_revisions) c.args.rev) gone ∙ ap is_some (get-empty rev_cmp c.args.rev))
