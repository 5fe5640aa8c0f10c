use Rattle.proof_prelude.proofs.{◌≡◌, false, None, Some, refl, sym, ap, ◌∙◌, inl, ⊎_elim, arith, cases_eq}
use Rattle.json.specs.Token as spec
use Rattle.json.specs.Word.{head}
use Rattle.json.specs.Lex.{class, after_value, may_close, punctuate}
use Rattle.json.specs.Align.{is_blank}
use Rattle.json.specs.Json.{read_key}
use Rattle.json_values.specs.{tokens_at, ends_object}
use Rattle.json_values.proofs.{rest, at_operator, allowed, closed, not_closed, no_brace, refused_no_brace}
use Rattle.json_values.proofs.tokens.Tokens.take_end_object.Goals as goal

pub returns-then-peek-may_close-clause-end : goal.returns-then-peek-may_close-clause-end
returns-then-peek-may_close-clause-end c =
    let a = c.self.inside in
    let seen = c.peek.ensures.value in
    let none : ends_object (tokens_at a.place a.lexer.text) ≡ false = ⊎_elim
    (λ e. ap ends_object (not_closed a.place a.lexer.text (grind arith) (inl e)) ∙ refused_no_brace a.place)
    (no_brace a.place a.lexer.text (λ b. c.peek.ensures.end (ap (λ x. is_blank (class x)) seen ∙ b)) c.self.invariant) (cases_eq (head a.lexer.text) 125) in
    ap ends_object (sym (ap (λ l. l.tokens) c.self.view_is)) ∙ none

pub skip-requires : goal.skip-requires
skip-requires c = let e : head c.self.inside.lexer.text ≡ 125 = grind arith in ap class e

pub returns-clause-end : goal.returns-clause-end
returns-clause-end c = unfold punctuate in
    let a = c.self.inside in
    let t = a.lexer.text in
    let e : head t ≡ 125 = grind arith in
    let first = closed a.place t _ (grind arith) (λ p may. ap (punctuate p) (at_operator 125 t refl e) ∙ allowed (may_close p) spec.end_object (λ n. punctuate n (rest t)) after_value may) in
    ap read_key (sym (ap (λ l. l.tokens) c.self.view_is) ∙ first) ∙ ap (λ ts. Some (None, ts)) (ap (punctuate after_value) (sym c.skip.ensures.passed) ∙ sym c.after_value-self-inside.ensures.same)
