use Rattle.proof_prelude.proofs.{take, sym, ap, subst}
use Rattle.rev_core.specs.{IsStored}
use Rattle.rev_core.proofs.{halves_listed}
use Rattle.rev_core.proofs.sig.Sig.of_halves.Goals as goal

pub invariant_of-result : goal.invariant_of-result
invariant_of-result c = subst (λ b. IsStored b c.args.len) (sym (halves_listed c.args.head.now c.args.tail.now c.requires.head c.requires.tail)) c.requires.stored

pub returns : goal.returns
returns c = ap (take c.args.len) (halves_listed c.args.head.now c.args.tail.now c.requires.head c.requires.tail)
