use Rattle.proof_prelude.proofs.{◌≡◌, ℕ, zero, suc, List, [], Option, None, Some, take, refl, ap, ◌∙◌, rules}
use Rattle.diagrams.specs.declared.ancestries.Point.{Point}
use Rattle.diagrams.specs.Branches.{Branch, path_of}
use Rattle.rev_core.specs.{RevId}
use Rattle.diagrams.proofs.ancestries.Ancestries.new.Goals as goal

take-nil : (n : ℕ) → take {A = RevId} n [] ≡ []
take-nil zero = refl
take-nil (suc n) = refl

path-nil : (at : Option Point) → path_of [] at ≡ []
path-nil None = refl
path-nil (Some p) = take-nil p.count

pub returns : goal.returns
returns c at =
    let none : c.new.result.entries ≡ [] = search rules in
    ap (λ (bs : List Branch). path_of bs at) none ∙ path-nil at
