use Rattle.proof_prelude.proofs.{ap, ◌∙◌, cond, Some, None}
use Rattle.doc_envelope.specs.{made_of}
use Rattle.doc_envelope.proofs.TakeFronts.{unfolds_step}
use Rattle.doc_envelope.proofs.envelope.Envelope.begin_unfold.Goals as goal

pub loop-member-preserved : goal.loop-member-preserved
loop-member-preserved c =
    let l = c.loop-member in
    let new = made_of c.take_member.new.self in
    let one = c.in_ok-take_member.ensures ∙ ap (λ b. cond b (Some new) None) c.if-not-branch.false in
    unfolds_step c.args.beginning.now (made_of l.self) new l.rest.now c.in-Some.member.now c.in-Some.more.now c.in-Some.ensures.parts c.in-Some.ensures.first one l.invariant
