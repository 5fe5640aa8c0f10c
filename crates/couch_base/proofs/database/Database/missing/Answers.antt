use Rattle.proof_prelude.proofs.{◌≡◌, sym, ap, ◌∙◌, subst, unwrap_or, IfOk, option_copied}
use Rattle.rev_tree.specs.{missing, no_revisions}
use Rattle.couch_base.proofs.{missing-no_revisions}
use Rattle.couch_base.proofs.database.Database.missing.Goals as goal

pub returns-in_default : goal.returns-in_default
returns-in_default c =
    record {
      missing =
          let revs = c.args.revs.now in
          let gone = sym c.tree_by_hint.ensures.value ∙ ap option_copied c.in_default.is in
          subst (λ l. IfOk c.from_slice.result (λ r. r ≡ l)) (sym (missing-no_revisions revs) ∙ sym (ap (λ o. missing (unwrap_or o no_revisions) revs) gone)) c.from_slice.ensures;
    }
