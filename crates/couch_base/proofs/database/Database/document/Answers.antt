use Rattle.proof_prelude.proofs.{sym, ap, ◌∙◌, unwrap_or, option_copied}
use Rattle.rev_tree.specs.{no_revisions}
use Rattle.couch_base.specs.{document_in}
use Rattle.couch_base.proofs.{document_in-no_revisions}
use Rattle.couch_base.proofs.database.Database.document.Goals as goal

pub returns-in-None : goal.returns-in-None
returns-in-None c =
    record {
      document =
          let gone = sym c.tree.ensures.value ∙ ap option_copied c.in-None.is in
          sym (ap (λ o. document_in c.args.id.now (unwrap_or o no_revisions) c.args.rev) gone ∙ document_in-no_revisions c.args.id.now c.args.rev);
    }
