use Rattle.proof_prelude.proofs.{length, sym, ap, ◌∙◌, unwrap_or, option_copied}
use Rattle.rev_tree.specs.{no_revisions}
use Rattle.couch_base.specs.{tree_in, opened}
use Rattle.couch_base.proofs.{opened-no_revisions}
use Rattle.couch_base.proofs.database.Database.count_wanted.Goals as goal

pub returns-in_default : goal.returns-in_default
returns-in_default c =
    let w = c.args.wanted.now in
    let gone = ap (tree_in c.args.self.now.docs) (sym c.id.ensures) ∙ sym c.tree_by_hint.ensures.value ∙ ap option_copied c.in_default.is in
    record { count = sym (ap length (ap (λ o. opened w.id (unwrap_or o no_revisions) w.revs) gone ∙ opened-no_revisions w.id w.revs)) }
