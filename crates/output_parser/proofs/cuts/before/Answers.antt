use Rattle.proof_prelude.proofs.{◌≡◌, ◌≢◌, ◌++◌, ℕ, List, Decides-eqb, strip_suffix_is}
use Rattle.output_parser.proofs.{none_of, some_of}
use Rattle.output_parser.proofs.cuts.before.Goals as goal

pub returns-clause-some : goal.returns-clause-some
returns-clause-some c =
    some_of c.strip_suffix.result ((front : List ℕ) → c.args.text.now ≢ front ++ c.args.end.now) (λ x. c.args.text.now ≡ x.now ++ c.args.end.now)
    (strip_suffix_is Decides-eqb c.args.text.now c.args.end.now c.strip_suffix.result c.strip_suffix.ensures.cases)

pub returns-clause-none : goal.returns-clause-none
returns-clause-none c =
    none_of c.strip_suffix.result ((front : List ℕ) → c.args.text.now ≢ front ++ c.args.end.now) (λ x. c.args.text.now ≡ x.now ++ c.args.end.now)
    (strip_suffix_is Decides-eqb c.args.text.now c.args.end.now c.strip_suffix.result c.strip_suffix.ensures.cases)
