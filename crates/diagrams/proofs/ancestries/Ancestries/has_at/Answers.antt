use Rattle.proof_prelude.proofs.{◌∙◌, Some, sym, ap}
use Rattle.rev_core.specs.{rev_tie_is}
use Rattle.diagrams.proofs.BranchLemmas.{stored_is}
use Rattle.diagrams.proofs.ancestries.Ancestries.has_at.Goals as goal

pub returns-in-Some : goal.returns-in-Some
returns-in-Some c same =
    stored_is c.args.self.now.branches.entries c.args.self.now.linked c.args.branch c.args.index c.in-Some.there.now c.in-Some.ensures
    ∙ ap Some (rev_tie_is _ _ (sym c.eq.ensures ∙ same))
