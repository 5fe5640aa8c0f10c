use Rattle.proof_prelude.proofs.{◌≡◌, ◌++◌, ℕ, List, codes, sym}
use Rattle.output_parser.specs.{IsFront}
use Rattle.output_parser.specs.declared.told.Table.TheVariants as tables
use Rattle.output_parser.proofs.{if_none, named_unique, none_map}
use Rattle.output_parser.proofs.rows.database_name.Goals as goal

pub returns-in_err-name-clause-none : goal.returns-in_err-name-clause-none
returns-in_err-name-clause-none c =
    if_none c.from_residual.result _ (λ name h. c.in_err-name.ensures.none (codes "info " ++ name) h.0 h.2 h.1)

pub returns-clause-none : goal.returns-clause-none
returns-clause-none c =
    let front = c.args.front.now in
    let cut = c.in_ok-name.ensures.some in
    none_map c.behind.result ((rest : List ℕ) → c.in_ok-name.name.now ≡ codes "info " ++ rest → ⊥) ((name : List ℕ) → IsFront tables.Info name front → ⊥)
    (λ bad name h.
    let u = named_unique front (codes " uuid") (codes "info " ++ name) h.0 c.in_ok-name.name.now c.in_ok-name.field-0-1.now h.2 cut.1 h.1 cut.0 in
    bad name (sym u.0))
    c.behind.ensures.none
