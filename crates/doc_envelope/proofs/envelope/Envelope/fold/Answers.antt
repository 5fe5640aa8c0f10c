use Rattle.proof_prelude.proofs.{◌≡◌, ◌==◌, [], ◌∷◌, ◌++◌, false, ap, sym, subst, ◌∙◌, length, take, arith, common_steps}
use Rattle.doc_envelope.specs.{IsPrinted, members_in, first_length, texts_with, helds_by, behind_comma, text_with, held_by, made_of, held_of}
use Rattle.doc_envelope.specs.Members.{Outside}
use Rattle.doc_envelope.proofs.{begin_printed, members_first, members_none, no_bytes}
use Rattle.doc_envelope.proofs.envelope.Envelope.fold.Goals as goal

pub loop-rest-init : goal.loop-rest-init
loop-rest-init c =
    let made = c.in_ok-begin.ensures.made in
    let rest = c.behind_brace-rest.result.now in
    let is = c.behind_brace-rest.ensures in
    record {
      made = ap (λ t. texts_with t (members_in Outside 0 [] rest)) made ∙ ap (λ r. texts_with (123 ∷ []) (members_in Outside 0 [] r)) is;
      held = ap (λ t. helds_by t (members_in Outside 0 [] rest)) c.in_ok-begin.ensures.held ∙ ap (λ r. helds_by [] (members_in Outside 0 [] r)) is;
      printed = λ h. subst (λ t. IsPrinted (t ++ 125 ∷ [])) (sym made) begin_printed;
    }

pub loop-rest-preserved : goal.loop-rest-preserved
loop-rest-preserved c = unfold texts_with helds_by in
    let rest = c.loop-rest.rest.now in
    let some : (length rest == 0) ≡ false = grind (arith, common_steps, c.is_empty.ensures, c.loop-rest-test.true) in
    let count = c.first_length-length.ensures.value in
    let one = members_first rest some in
    let more = members_in Outside 0 [] (behind_comma rest (first_length rest)) in
    let behind : members_in Outside 0 [] c.behind_comma-rest.result.now ≡ more = ap (members_in Outside 0 []) (c.behind_comma-rest.ensures.value ∙ ap (behind_comma rest) count) in
    let member = ap (λ n. take n rest) count in
    record {
      made = ap (texts_with (made_of c.put_member.new.self)) behind ∙ ap (λ t. texts_with t more) (c.in_ok-put_member.ensures.made ∙ ap (text_with (made_of c.loop-rest.self)) member) ∙ ap (texts_with (made_of c.loop-rest.self)) (sym one) ∙ c.loop-rest.invariant.made;
      held = ap (helds_by (held_of c.put_member.new.self)) behind ∙ ap (λ t. helds_by t more) (c.in_ok-put_member.ensures.held ∙ ap (held_by (held_of c.loop-rest.self)) member) ∙ ap (helds_by (held_of c.loop-rest.self)) (sym one) ∙ c.loop-rest.invariant.held;
      printed = c.in_ok-put_member.ensures.printed c.loop-rest.invariant.printed;
    }

pub returns-clause-made : goal.returns-clause-made
returns-clause-made c = unfold texts_with in
    let none = no_bytes c.loop-rest.rest.now (grind (arith, common_steps, c.is_empty.ensures, c.loop-rest-test.false)) in
    ap (texts_with (made_of c.loop-rest.self)) (sym (ap (members_in Outside 0 []) none ∙ members_none)) ∙ c.loop-rest.invariant.made

pub returns-clause-held : goal.returns-clause-held
returns-clause-held c = unfold helds_by in
    let none = no_bytes c.loop-rest.rest.now (grind (arith, common_steps, c.is_empty.ensures, c.loop-rest-test.false)) in
    ap (helds_by (held_of c.loop-rest.self)) (sym (ap (members_in Outside 0 []) none ∙ members_none)) ∙ c.loop-rest.invariant.held
