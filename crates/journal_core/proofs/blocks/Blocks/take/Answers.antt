use Rattle.proof_prelude.proofs.{◌≡◌, false, sym, refl, subst, ◌∙◌}
use Rattle.journal_core.specs.{IsAt, Place, held_more}
use Rattle.journal_core.proofs.{if_ok, next_damaged, next_held, took_ended}
use Rattle.journal_core.proofs.blocks.Blocks.take.Goals as goal

pub returns-then-not-self : goal.returns-then-not-self
returns-then-not-self c = λ place at.
    let P : Place → Type 0 = λ p. IsAt c.args.self.now p × ((p.confirmed ≡ place.confirmed) × (p.held ≡ place.held) × (p.whole ≡ false)) in
    subst P (sym (next_damaged place c.args.line.now (sym at.whole ∙ c.if-not-self.true))) (at, (refl, refl, sym at.whole ∙ c.if-not-self.true))

pub returns-then-is_sum : goal.returns-then-is_sum
returns-then-is_sum c = if_ok c.close.result (λ took f. took_ended c.args.self.now c.close.new.self c.args.line.now took c.if-not-self.false (sym c.is_sum.ensures ∙ c.if-is_sum.true) f) c.close.ensures

pub returns-in_ok-hold : goal.returns-in_ok-hold
returns-in_ok-hold c = λ place at.
    let P : Place → Type 0 = λ p. IsAt c.hold.new.self p × (p ≡ held_more place c.args.line.now) in
    subst P (sym (next_held place c.args.line.now (sym at.whole ∙ c.if-not-self.false) (sym c.is_sum.ensures ∙ c.if-is_sum.false))) (c.in_ok-hold.ensures place at, refl)
