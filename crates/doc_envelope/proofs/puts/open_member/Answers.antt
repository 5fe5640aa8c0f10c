use Rattle.proof_prelude.proofs.{sym, ◌∙◌, drop}
use Rattle.doc_envelope.proofs.{opens_all, opens_step}
use Rattle.doc_envelope.proofs.puts.open_member.Goals as goal

pub loop-member-preserved-then-revisions : goal.loop-member-preserved-then-revisions
loop-member-preserved-then-revisions c =
    opens_step (drop 1 c.args.beginning.now) c.loop-member.rest.now c.in-Some.member.now c.in-Some.more.now c.in-Some.ensures.parts c.in-Some.ensures.first c.loop-member.invariant

pub loop-member-preserved : goal.loop-member-preserved
loop-member-preserved c =
    opens_step (drop 1 c.args.beginning.now) c.loop-member.rest.now c.in-Some.member.now c.in-Some.more.now c.in-Some.ensures.parts c.in-Some.ensures.first c.loop-member.invariant

pub returns-then-first_length-rest : goal.returns-then-first_length-rest
returns-then-first_length-rest c =
    opens_all (drop 1 c.args.beginning.now) c.loop-member.rest.now c.loop-member.invariant (sym c.first_length.ensures.value ∙ c.if-first_length-rest.true)
