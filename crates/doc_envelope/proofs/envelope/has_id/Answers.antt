use Rattle.proof_prelude.proofs.{◌≡◌, ◌==◌, ◌||◌, [], ◌∷◌, List, ℕ, Bool, true, false, ap, sym, ◌∙◌, codes, length, take, arith, common_steps}
use Rattle.std.specs.List.{list_any}
use Rattle.doc_envelope.specs.{has_name, members_in, first_length, behind_comma}
use Rattle.doc_envelope.specs.Members.{Outside}
use Rattle.doc_envelope.proofs.{members_first, members_none, no_bytes}
use Rattle.doc_envelope.proofs.envelope.has_id.Goals as goal

abbrev named : List ℕ → Bool
named m = has_name m (codes "\"_id\"")

abbrev any_in : List ℕ → Bool
any_in rest = list_any named (members_in Outside 0 [] rest)

-- of the first member and the further members
any_first : (rest : List ℕ) (n : ℕ) → (length rest == 0) ≡ false → n ≡ first_length rest → any_in rest ≡ (named (take n rest) || any_in (behind_comma rest n))
any_first rest n some e =
    ap (list_any named) (members_first rest some)
    ∙ ap (λ k. named (take k rest) || any_in (behind_comma rest k)) (sym e)

pub loop-rest-init : goal.loop-rest-init
loop-rest-init c = ap any_in c.behind_brace-rest.ensures

pub returns-then-has_name : goal.returns-then-has_name
returns-then-has_name c =
    let rest = c.loop-rest.rest.now in
    let some : (length rest == 0) ≡ false = grind (arith, common_steps, c.is_empty.ensures, c.loop-rest-test.true) in
    let first = any_first rest c.first_length-length.result some c.first_length-length.ensures.value in
    sym (ap (λ b. b || any_in (behind_comma rest c.first_length-length.result)) (sym c.has_name.ensures ∙ c.if-has_name.true)) ∙ sym first ∙ c.loop-rest.invariant

pub loop-rest-preserved : goal.loop-rest-preserved
loop-rest-preserved c =
    let rest = c.loop-rest.rest.now in
    let some : (length rest == 0) ≡ false = grind (arith, common_steps, c.is_empty.ensures, c.loop-rest-test.true) in
    let first = any_first rest c.first_length-length.result some c.first_length-length.ensures.value in
    ap any_in c.behind_comma-rest.ensures.value
    ∙ sym (ap (λ b. b || any_in (behind_comma rest c.first_length-length.result)) (sym c.has_name.ensures ∙ c.if-has_name.false)) ∙ sym first ∙ c.loop-rest.invariant

pub returns : goal.returns
returns c =
    let none = no_bytes c.loop-rest.rest.now (grind (arith, common_steps, c.is_empty.ensures, c.loop-rest-test.false)) in
    sym (ap any_in none ∙ ap (list_any named) members_none) ∙ c.loop-rest.invariant
