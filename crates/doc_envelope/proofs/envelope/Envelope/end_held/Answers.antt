use Rattle.proof_prelude.proofs.{◌==◌, ap, sym, ◌∙◌, length, List, ℕ}
use Rattle.doc_envelope.specs.{held_of}
use Rattle.doc_envelope.proofs.{empty_utf8}
use Rattle.doc_envelope.proofs.envelope.Envelope.end_held.Goals as goal

pub returns-then-is_empty-clause-is : goal.returns-then-is_empty-clause-is
returns-then-is_empty-clause-is c =
    empty_utf8 (held_of c.args.self.now) (ap (λ (t : List ℕ). length t == 0) (sym c.as_slice.ensures.value) ∙ sym c.is_empty.ensures ∙ c.if-is_empty.true)
