use Rattle.proof_prelude.proofs.{◌≡◌, ◌+◌, drop, sym, ap, ◌∙◌, subst, arith, drop-drop, length-drop}
use Rattle.json.specs.Word.{head}
use Rattle.json.specs.Lex.{class, between, lex}
use Rattle.json_values.proofs.{lex-operator}
use Rattle.json_values.proofs.lexer.Lexer.skip.Goals as goal

pub after_blanks-self-inside-requires : goal.after_blanks-self-inside-requires
after_blanks-self-inside-requires c =
    let a = c.self.inside in
    let o = lex-operator (drop a.at a.text.now) (ap (λ t. class (head t)) (ap (λ l. l.text) c.self.view_is) ∙ c.requires) in
    omega (arith, o.0, length-drop a.at a.text.now)

pub returns-clause-passed : goal.returns-clause-passed
returns-clause-passed c =
    let a = c.self.inside in
    let o = lex-operator (drop a.at a.text.now) (ap (λ t. class (head t)) (ap (λ l. l.text) c.self.view_is) ∙ c.requires) in
    subst (λ t. lex between (drop c.after_blanks-self-inside.result t) ≡ lex between (drop (a.at + 1) t)) c.as_bytes.ensures.value c.after_blanks-self-inside.ensures.lexed
    ∙ ap (lex between) (sym (drop-drop 1 a.at a.text.now)) ∙ sym o.1 ∙ ap (λ t. drop 1 (lex between t)) (ap (λ l. l.text) c.self.view_is)
