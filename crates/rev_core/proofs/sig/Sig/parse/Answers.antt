use Rattle.proof_prelude.proofs.{◌≡◌, true, sym, ◌∙◌, length, subst}
use Rattle.rev_core.specs.{is_sig, IsStored}
use Rattle.rev_core.proofs.{stored, padded-front}
use Rattle.rev_core.proofs.sig.Sig.parse.Goals as goal

pub invariant_of-result : goal.invariant_of-result
invariant_of-result c = subst (λ b. IsStored b (length c.args.text.now)) (sym c.padded.ensures) (stored _ (sym c.is_sig.ensures ∙ c.if-not-is_sig.false))

pub returns : goal.returns
returns c =
    let h : is_sig c.args.text.now ≡ true = sym c.is_sig.ensures ∙ c.if-not-is_sig.false in
    rw (c.padded.ensures, padded-front, h)
