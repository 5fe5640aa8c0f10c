use Rattle.proof_prelude.proofs.{is_some, sym, ap, ◌∙◌, unwrap_or, option_copied, get-empty}
use Rattle.rev_core.specs.{rev_cmp}
use Rattle.rev_tree.specs.{has, no_revisions}
use Rattle.repl_peer.proofs.session.rows.has_in.Goals as goal

pub returns-in-None : goal.returns-in-None
returns-in-None c = sym (ap (λ o. has (unwrap_or (option_copied o) no_revisions) c.args.rev) c.in-None.is ∙ ap is_some (get-empty rev_cmp c.args.rev))
