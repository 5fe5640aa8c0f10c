use Rattle.proof_prelude.proofs.{◌++◌, ◌∷◌, sym, ◌∙◌, append_assoc}
use Rattle.output_parser.proofs.{last_unique}
use Rattle.output_parser.proofs.cuts.cut_named.Goals as goal

pub returns-in-None-clause-none : goal.returns-in-None-clause-none
returns-in-None-clause-none c =
    λ front word h e.
    let cut = c.in-Some.ensures.some in
    let u = last_unique 32 c.in-Some.head.now (front ++ c.args.name.now) c.in-Some.word.now word cut.1 h
    (sym cut.0 ∙ (e ∙ sym (append_assoc front c.args.name.now (32 ∷ word)))) in
    c.in-None.ensures.none front u.0
