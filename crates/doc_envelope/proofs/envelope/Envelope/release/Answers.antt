use Rattle.proof_prelude.proofs.{ap, ◌∙◌, cond, Some, None}
use Rattle.doc_envelope.specs.{made_of}
use Rattle.doc_envelope.proofs.{taken_none, taken_end}
use Rattle.doc_envelope.proofs.envelope.Envelope.release.Goals as goal

pub returns-then-not-branch : goal.returns-then-not-branch
returns-then-not-branch c = taken_none c.args.document.now (c.in_ok-unfold.ensures ∙ ap (λ b. cond b (Some (made_of c.unfold.new.self)) None) c.if-not-branch.true)

pub returns : goal.returns
returns c =
    taken_end c.args.document.now (made_of c.unfold.new.self) c.push.new.self.items (made_of c.is_json.new.self) c.is_json.result
    (c.in_ok-unfold.ensures ∙ ap (λ b. cond b (Some (made_of c.unfold.new.self)) None) c.if-not-branch.false) c.in_ok-push.ensures.items c.is_json.ensures.same c.is_json.ensures.value
