use Rattle.proof_prelude.proofs.{◌≡◌, ◌∷◌, refl, sym, ap, ◌∙◌, subst, arith, rules}
use Rattle.json.specs.Token as spec
use Rattle.json.specs.Word.{head}
use Rattle.json.specs.Lex.{token, class, other, fresh, after_value, may_begin, punctuate}
use Rattle.json.specs.Reads.{token_of}
use Rattle.json_values.specs.{Narrows}
use Rattle.json_values.proofs.{lex_first, rest, at_operator, allowed, IsWord, IsWord-word, plain_word, good_word, bad_word, stray}
use Rattle.json_values.proofs.tokens.begin.Goals as goal

pub skip-requires : goal.skip-requires
skip-requires c = ap class (c.requires.first.0 ∙ c.in-123.is)

pub skip-requires-in-91 : goal.skip-requires-in-91
skip-requires-in-91 c = ap class (c.requires.first.0 ∙ c.in-91.is)

pub returns-in-123-clause-value : goal.returns-in-123-clause-value
returns-in-123-clause-value c p may = unfold punctuate in
    let t = c.args.lexer.now.text in
    ap (punctuate p) (at_operator 123 t refl (c.requires.first.0 ∙ c.in-123.is)) ∙ allowed (may_begin p) spec.begin_object (λ n. punctuate n (rest t)) fresh may ∙ ap (λ ls. spec.begin_object ∷ punctuate fresh ls) (sym c.skip.ensures.passed)

pub returns-in-91-clause-value : goal.returns-in-91-clause-value
returns-in-91-clause-value c p may = unfold punctuate in
    let t = c.args.lexer.now.text in
    ap (punctuate p) (at_operator 91 t refl (c.requires.first.0 ∙ c.in-91.is)) ∙ allowed (may_begin p) spec.begin_array (λ n. punctuate n (rest t)) fresh may ∙ ap (λ ls. spec.begin_array ∷ punctuate fresh ls) (sym c.skip-in-91.ensures.passed)

pub returns-in-44-clause-value : goal.returns-in-44-clause-value
returns-in-44-clause-value c p may = stray p c.args.lexer.now.text may (grind arith)

pub returns-in-Some-clause-value : goal.returns-in-Some-clause-value
returns-in-Some-clause-value c p may =
    let t = c.args.lexer.now.text in
    let k = token_of c.in-Some.token in
    let kind : class (head t) ≡ other = search rules in
    let first = lex_first other t kind refl ∙ ap (λ w. token w ∷ rest t) c.in-Some.ensures.value in
    ap (punctuate p) first ∙ good_word p k (rest t) (subst IsWord c.in-Some.ensures.value (IsWord-word t)) c.in-Some.ensures.good may
    ∙ ap (λ ts. k ∷ ts) (ap (punctuate after_value) (sym c.in-Some.ensures.after) ∙ sym c.after_value.ensures.same)

pub returns-in-None-clause-value : goal.returns-in-None-clause-value
returns-in-None-clause-value c p may =
    let t = c.args.lexer.now.text in
    let kind : class (head t) ≡ other = search rules in
    let first = lex_first other t kind refl ∙ ap (λ w. token w ∷ rest t) c.in-None.ensures.value in
    ap (punctuate p) first ∙ bad_word p spec.bad (rest t) refl

pub returns-in-Some-clause-plain : goal.returns-in-Some-clause-plain
returns-in-Some-clause-plain c =
    let old = c.args.lexer.now.plain in
    let new = c.after_value.new.lexer.plain in
    let same : new ≡ old = c.after_value.ensures.plain ∙ c.in-Some.ensures.plain in
    let k = token_of c.in-Some.token in
    (subst (λ p. Narrows old p) (sym same) (λ known. known, λ known. known), plain_word new k (subst IsWord c.in-Some.ensures.value (IsWord-word c.args.lexer.now.text)))
