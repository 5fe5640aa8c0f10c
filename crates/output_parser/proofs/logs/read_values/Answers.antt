use Rattle.proof_prelude.proofs.{◌∷◌, [], ap, ◌∙◌, arith, map-append, Bor, List, ℕ}
use Rattle.output_parser.specs.{IsMember, texts_of}
use Rattle.output_parser.proofs.{member_unique, drop_all, reads_all, reads_more, reads_none}
use Rattle.output_parser.proofs.logs.read_values.Goals as goal

pub returns-in_default-clause-none : goal.returns-in_default-clause-none
returns-in_default-clause-none c =
    λ values rest.
    reads_none IsMember c.args.members.now c.args.text.now c.loop-i.rest.now c.loop-i.i _ (texts_of c.loop-i.values.items) (omega arith)
    c.loop-i.invariant (λ after value. c.in_default.ensures.none value after) rest values

pub loop-i-preserved : goal.loop-i-preserved
loop-i-preserved c =
    reads_more IsMember member_unique c.args.members.now c.args.text.now c.loop-i.rest.now c.in-Some.after.now c.loop-i.i _
    (texts_of c.loop-i.values.items) (texts_of c.push.new.self.items) c.in-Some.value.now (omega arith) c.loop-i.invariant c.in-Some.ensures.some
    (ap texts_of c.in_ok-push.ensures.items ∙ map-append (λ (v : Bor (List ℕ)). v.now) c.loop-i.values.items (c.in-Some.value ∷ []))

pub returns-clause-some : goal.returns-clause-some
returns-clause-some c =
    reads_all IsMember c.args.members.now c.args.text.now c.loop-i.rest.now _ (texts_of c.loop-i.values.items)
    (drop_all IsMember c.args.members.now c.loop-i.i (omega arith)) c.loop-i.invariant
