use Rattle.proof_prelude.proofs.{◌≡◌, ◌≢◌, ◌++◌, ℕ, List, Decides-eqb, strip_prefix_is}
use Rattle.doc_envelope.proofs.{some_of}
use Rattle.doc_envelope.proofs.printing.after.Goals as goal

pub returns : goal.returns
returns c =
    some_of c.strip_prefix.result ((rest : List ℕ) → c.args.text.now ≢ c.args.prefix.now ++ rest) (λ x. c.args.text.now ≡ c.args.prefix.now ++ x.now)
    (strip_prefix_is Decides-eqb c.args.text.now c.args.prefix.now c.strip_prefix.result c.strip_prefix.ensures.cases)
