use Rattle.proof_prelude.proofs.{none-some, sym, ap, ◌∙◌}
use Rattle.script_databases.specs.{beside_of, entry_at}
use Rattle.script_databases.proofs.{empty_consistent, index_none, no_peers}
use Rattle.script_databases.proofs.databases.Databases.new.Goals as goal

pub invariant_of-result : goal.invariant_of-result
invariant_of-result c =
    let g = beside_of c.in_ok-settings.settings 0 c.new-3.result in
    let es = c.new.result.entries in (
      λ name p at. absurd (none-some p (sym (ap (λ x. entry_at x name) c.new.ensures.empty) ∙ at)),
      index_none _ c.new-2.result.keys (no_peers g es c.new.ensures.empty) c.new-2.ensures.empty,
      empty_consistent g es c.new.ensures.empty c.new-3.ensures,
    )
