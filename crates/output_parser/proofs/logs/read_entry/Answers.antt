use Rattle.proof_prelude.proofs.{◌∷◌, List, ℕ, sym, ap, subst, ◌∙◌}
use Rattle.output_parser.specs.{InTurn, IsMember, Logged, Values, texts_of}
use Rattle.output_parser.proofs.{none_at, some_at, values_same}
use Rattle.output_parser.proofs.logs.read_entry.Goals as goal

pub returns-in_default-clause-none : goal.returns-in_default-clause-none
returns-in_default-clause-none c =
    λ e after p.
    let text = c.args.text.now in
    none_at c.in_ok-values.field-0 ((values : List (List ℕ)) (rest : List ℕ) → InTurn IsMember c.members.result.now values rest text → ⊥)
    c.in_default.is c.in_ok-values.ensures.none p.values (125 ∷ after)
    (subst (λ ms. InTurn IsMember ms p.values (125 ∷ after) text) (sym c.members.ensures) p.listed)

pub returns-in_default-behind-clause-none : goal.returns-in_default-behind-clause-none
returns-in_default-behind-clause-none c =
    λ e after p.
    let text = c.args.text.now in
    let read = some_at c.in_ok-values.field-0 (λ x. InTurn IsMember c.members.result.now (texts_of x.0.items) x.1.now text) (c.in-Some.values, c.in-Some.rest) c.in-Some.is c.in_ok-values.ensures.some in
    let same = values_same text (125 ∷ after) c.in-Some.rest.now p.values (texts_of c.in-Some.values.items) p.listed
    (subst (λ ms. InTurn IsMember ms (texts_of c.in-Some.values.items) c.in-Some.rest.now text) c.members.ensures read) in
    c.in_default-behind.ensures.none after (sym same.0)

pub returns-clause-none : goal.returns-clause-none
returns-clause-none c =
    λ e after p.
    let text = c.args.text.now in
    let read = some_at c.in_ok-values.field-0 (λ x. InTurn IsMember c.members.result.now (texts_of x.0.items) x.1.now text) (c.in-Some.values, c.in-Some.rest) c.in-Some.is c.in_ok-values.ensures.some in
    let same = values_same text (125 ∷ after) c.in-Some.rest.now p.values (texts_of c.in-Some.values.items) p.listed
    (subst (λ ms. InTurn IsMember ms (texts_of c.in-Some.values.items) c.in-Some.rest.now text) c.members.ensures read) in
    none_at c.in_ok-entry.field-0 ((e : Logged) → Values (texts_of c.as_slice.result.now) e → ⊥) c.in-None.is c.in_ok-entry.ensures.none
    e (subst (λ vs. Values vs e) (same.1 ∙ ap texts_of (sym c.as_slice.ensures.value)) p.tells)
