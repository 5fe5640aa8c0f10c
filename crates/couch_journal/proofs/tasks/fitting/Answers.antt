use Rattle.proof_prelude.proofs.{IfNone, subst, sym}
use Rattle.couch_journal.specs.Tasks.{Fits}
use Rattle.couch_journal.specs.declared.tasks.Named.{Named}
use Rattle.couch_journal.specs.declared.tasks.Task.{Task}
use Rattle.couch_journal.proofs.tasks.fitting.Goals as goal

pub returns-in-Parts-clause-none : goal.returns-in-Parts-clause-none
returns-in-Parts-clause-none c =
    subst (λ (n : Named). IfNone c.parts_of.result ((task : Task) → Fits n c.args.options.now task → ⊥)) (sym c.in-Parts.is) c.parts_of.ensures.none

pub returns-in-Seal-clause-none : goal.returns-in-Seal-clause-none
returns-in-Seal-clause-none c =
    subst (λ (n : Named). IfNone c.seal_of.result ((task : Task) → Fits n c.args.options.now task → ⊥)) (sym c.in-Seal.is) c.seal_of.ensures.none

pub returns-in-Select-clause-none : goal.returns-in-Select-clause-none
returns-in-Select-clause-none c =
    subst (λ (n : Named). IfNone c.select_of.result ((task : Task) → Fits n c.args.options.now task → ⊥)) (sym c.in-Select.is) c.select_of.ensures.none

pub returns-in-Name-clause-none : goal.returns-in-Name-clause-none
returns-in-Name-clause-none c =
    subst (λ (n : Named). IfNone c.name_of.result ((task : Task) → Fits n c.args.options.now task → ⊥)) (sym c.in-Name.is) c.name_of.ensures.none
