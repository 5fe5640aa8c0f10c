use Rattle.proof_prelude.proofs.{◌≡◌, ◌++◌, length, take, drop, sym, ap, ◌∙◌, subst, arith, length-drop, length-take-le, take-append-drop}
use Rattle.rev_core.specs.{IsStored, padded}
use Rattle.rev_core.proofs.{length-padded, padded-front, stored}
use Rattle.rev_core.proofs.small_rev.SmallRev.to_rev.Goals as goal

pub of_halves-sig-requires-clause-head : goal.of_halves-sig-requires-clause-head
of_halves-sig-requires-clause-head c =
    let sig = c.args.self.now.sig in
    ap length c.head.ensures ∙ length-take-le 32 (padded sig) (omega (arith, length-padded sig c.generation-generation.ensures.is_rev.sig))

pub of_halves-sig-requires-clause-tail : goal.of_halves-sig-requires-clause-tail
of_halves-sig-requires-clause-tail c =
    let sig = c.args.self.now.sig in
    ap length c.tail.ensures ∙ omega (arith, length-drop 32 (padded sig), length-padded sig c.generation-generation.ensures.is_rev.sig)

pub of_halves-sig-requires-clause-stored : goal.of_halves-sig-requires-clause-stored
of_halves-sig-requires-clause-stored c =
    let sig = c.args.self.now.sig in
    let both = (λ i. c.head.ensures i ++ c.tail.ensures i) ∙ take-append-drop 32 (padded sig) in
    subst (λ l. IsStored l c.len.result) (sym both) (subst (IsStored (padded sig)) (sym c.len.ensures) (stored sig c.generation-generation.ensures.is_rev.sig))

pub returns : goal.returns
returns c =
    let sig = c.args.self.now.sig in
    let both = (λ i. c.head.ensures i ++ c.tail.ensures i) ∙ take-append-drop 32 (padded sig) in
    let text = c.of_halves-sig.ensures ∙ (λ i. take (c.len.ensures i) (both i)) ∙ padded-front sig in
    c.new.ensures.parts ∙ (λ i. record { generation = c.generation-generation.ensures.part i; sig = text i })
