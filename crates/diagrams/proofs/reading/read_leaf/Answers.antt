use Rattle.proof_prelude.proofs.{◌≡◌, ℕ, ◌<◌, false, nat_le, sym, ap, subst, ◌∙◌, arith, string_bytes, nat_tests, leb-true}
use Rattle.rev_core.specs.{head_of}
use Rattle.diagrams.specs.Drawing.{Holds, empty, more, states, whole, with_leaf}
use Rattle.diagrams.proofs.reading.read_leaf.Goals as goal

low : (a b : ℕ) → nat_le a b ≡ false → b < a
low a b h = grind (arith, nat_tests)

pub returns-in_default : goal.returns-in_default
returns-in_default c = empty (sym (ap head_of c.as_slice.ensures.value) ∙ c.in_default.ensures.none)

pub returns-then-is_whole : goal.returns-then-is_whole
returns-then-is_whole c =
    let d = c.args.document in
    let l = c.in-Some.leaf in
    whole l.rev (sym (ap head_of c.as_slice.ensures.value) ∙ c.in-Some.ensures.some.0)
    (subst (λ v. Holds c.add.new.self (string_bytes d.id) (with_leaf (states d) l.rev v)) c.in-Some.ensures.some.1 c.in_ok-add.ensures.holds)
    c.in_ok-add.ensures.count (leb-true _ _ (sym c.is_whole.ensures ∙ c.if-is_whole.true))

pub returns : goal.returns
returns c =
    let d = c.args.document in
    let l = c.in-Some.leaf in
    more l.rev (sym (ap head_of c.as_slice.ensures.value) ∙ c.in-Some.ensures.some.0)
    (subst (λ v. Holds c.add.new.self (string_bytes d.id) (with_leaf (states d) l.rev v)) c.in-Some.ensures.some.1 c.in_ok-add.ensures.holds)
    c.in_ok-add.ensures.count (low _ _ (sym c.is_whole.ensures ∙ c.if-is_whole.false))
