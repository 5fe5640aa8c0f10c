use Rattle.proof_prelude.proofs.{◌≡◌, ◌∷◌, refl, sym, ap, ◌∙◌, arith}
use Rattle.json.specs.Token as spec
use Rattle.json.specs.Lex.{other, token, after_value, punctuate}
use Rattle.json_values.specs.{tokens_at}
use Rattle.json_values.proofs.{lex_first, rest, begun, good_word}
use Rattle.json_values.proofs.tokens.Tokens.take_integer.Goals as goal

pub returns-clause-number : goal.returns-clause-number
returns-clause-number c =
    let a = c.self.inside in
    let t = a.lexer.text in
    let r = c.in_ok-number in
    let s = r.ensures.value.0 in
    let is = r.ensures.value.1 in
    let first = lex_first other t r.ensures.kind refl ∙ ap (λ w. token w ∷ rest t) is in
    let more = tokens_at c.after_value-self-inside.result c.after_value-self-inside.new.lexer.text in
    let all : tokens_at a.place t ≡ spec.number s ∷ more = begun a.place t (spec.number s ∷ more) (grind arith) (λ p may. ap (punctuate p) first
    ∙ good_word p (spec.number s) (rest t) tt refl may ∙ ap (λ ts. spec.number s ∷ ts) (ap (punctuate after_value) (sym r.ensures.after) ∙ sym c.after_value-self-inside.ensures.same)) in
    (s, sym (ap (λ l. l.tokens) c.self.view_is) ∙ all, r.ensures.value.2)
