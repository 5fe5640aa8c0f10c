use Rattle.proof_prelude.proofs.{ℕ, List, subst}
use Rattle.output_parser.specs.{IsFront}
use Rattle.output_parser.specs.declared.told.Table.TheVariants as tables
use Rattle.output_parser.proofs.{none_map}
use Rattle.output_parser.proofs.rows.name_in.Goals as goal

pub returns-in-Info-clause-none : goal.returns-in-Info-clause-none
returns-in-Info-clause-none c =
    let front = c.args.front.now in
    none_map c.database_name.result ((name : List ℕ) → IsFront tables.Info name front → ⊥) ((name : List ℕ) → IsFront c.args.table name front → ⊥)
    (λ bad name h. bad name (subst (λ t. IsFront t name front) c.in-Info.is h)) c.database_name.ensures.none
