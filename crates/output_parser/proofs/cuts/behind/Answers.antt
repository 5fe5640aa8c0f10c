use Rattle.proof_prelude.proofs.{◌≡◌, ◌≢◌, ◌++◌, ℕ, List, Decides-eqb, strip_prefix_is}
use Rattle.output_parser.proofs.{none_of, some_of}
use Rattle.output_parser.proofs.cuts.behind.Goals as goal

pub returns-clause-some : goal.returns-clause-some
returns-clause-some c =
    some_of c.strip_prefix.result ((rest : List ℕ) → c.args.text.now ≢ c.args.beginning.now ++ rest) (λ x. c.args.text.now ≡ c.args.beginning.now ++ x.now)
    (strip_prefix_is Decides-eqb c.args.text.now c.args.beginning.now c.strip_prefix.result c.strip_prefix.ensures.cases)

pub returns-clause-none : goal.returns-clause-none
returns-clause-none c =
    none_of c.strip_prefix.result ((rest : List ℕ) → c.args.text.now ≢ c.args.beginning.now ++ rest) (λ x. c.args.text.now ≡ c.args.beginning.now ++ x.now)
    (strip_prefix_is Decides-eqb c.args.text.now c.args.beginning.now c.strip_prefix.result c.strip_prefix.ensures.cases)
