use Rattle.proof_prelude.proofs.{◌≡◌, ◌≢◌, ◌++◌, ◌∷◌, [], ℕ, List, Decides-eqb, strip_suffix_is}
use Rattle.doc_envelope.proofs.{some_of}
use Rattle.doc_envelope.proofs.printed_envelopes.before_brace.Goals as goal

pub returns : goal.returns
returns c =
    some_of c.strip_suffix.result ((front : List ℕ) → c.args.text.now ≢ front ++ 125 ∷ []) (λ x. c.args.text.now ≡ x.now ++ 125 ∷ [])
    (strip_suffix_is Decides-eqb c.args.text.now (125 ∷ []) c.strip_suffix.result c.strip_suffix.ensures.cases)
