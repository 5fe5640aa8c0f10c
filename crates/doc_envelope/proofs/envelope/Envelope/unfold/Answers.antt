use Rattle.proof_prelude.proofs.{◌≡◌, ◌==◌, [], false, ap, sym, ◌∙◌, length, take, cond, Some, None}
use Rattle.doc_envelope.specs.{members_in, all_taken, behind_comma, made_of}
use Rattle.doc_envelope.specs.Members.{Outside}
use Rattle.doc_envelope.proofs.{taken_first, taken_over}
use Rattle.doc_envelope.proofs.envelope.Envelope.unfold.Goals as goal

pub returns-then-not-branch : goal.returns-then-not-branch
returns-then-not-branch c =
    let rest = c.loop-rest.rest.now in
    let some : (length rest == 0) ≡ false = sym c.is_empty.ensures ∙ c.loop-rest-test.true in
    let one = c.in_ok-take_member.ensures ∙ ap (λ b. cond b (Some (made_of c.take_member.new.self)) None) c.if-not-branch.true in
    sym c.loop-rest.invariant ∙ taken_first (made_of c.loop-rest.self) rest (take c.first_length-length.result rest) None some (ap (λ n. take n rest) c.first_length-length.ensures.value) one

pub loop-rest-preserved : goal.loop-rest-preserved
loop-rest-preserved c =
    let rest = c.loop-rest.rest.now in
    let some : (length rest == 0) ≡ false = sym c.is_empty.ensures ∙ c.loop-rest-test.true in
    let new = made_of c.take_member.new.self in
    let one = c.in_ok-take_member.ensures ∙ ap (λ b. cond b (Some new) None) c.if-not-branch.false in
    let behind = ap (members_in Outside 0 []) (c.behind_comma-rest.ensures.value ∙ ap (behind_comma rest) c.first_length-length.ensures.value) in
    ap (all_taken new) behind ∙ sym (taken_first (made_of c.loop-rest.self) rest (take c.first_length-length.result rest) (Some new) some (ap (λ n. take n rest) c.first_length-length.ensures.value) one) ∙ c.loop-rest.invariant

pub returns : goal.returns
returns c =
    sym c.loop-rest.invariant ∙ taken_over (made_of c.loop-rest.self) c.loop-rest.rest.now (sym c.is_empty.ensures ∙ c.loop-rest-test.false)
