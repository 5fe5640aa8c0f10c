use Rattle.proof_prelude.proofs.{◌≡◌, ◌-◌, drop, take, sym, ap, ◌∙◌, subst, arith, common_steps}
use Rattle.json.specs.Word.{head, word}
use Rattle.json.specs.Lex.{class, between, lex}
use Rattle.serde_json.specs.View.{number_view}
use Rattle.json_values.specs.{IntegerAt}
use Rattle.json_values.proofs.{integer_word, integer_passed}
use Rattle.json_values.proofs.lexer.Lexer.integer.Goals as goal

pub returns : goal.returns
returns c =
    let a = c.self.inside in
    let d = a.text.now in
    let r = c.in_ok-number in
    let at : IntegerAt d a.at (number_view r.number) r.end = subst (λ t. IntegerAt t a.at (number_view r.number) r.end) c.as_bytes.ensures.value r.ensures in
    let lexed : lex between (drop c.after_blanks-self-inside.result d) ≡ lex between (drop r.end d) = subst (λ t. lex between (drop c.after_blanks-self-inside.result t) ≡ lex between (drop r.end t)) c.as_bytes-2.ensures.value c.after_blanks-self-inside.ensures.lexed in
    record {
      kept = grind (arith, common_steps);
      value = (take (r.end - a.at) (drop a.at d), ap word (sym (ap (λ l. l.text) c.self.view_is)) ∙ integer_word d a.at (number_view r.number) r.end at, at.number);
      kind = ap (λ t. class (head t)) (sym (ap (λ l. l.text) c.self.view_is)) ∙ at.kind;
      plain = grind (arith, common_steps);
      after = lexed ∙ integer_passed d a.at (number_view r.number) r.end at ∙ ap (λ t. drop 1 (lex between t)) (ap (λ l. l.text) c.self.view_is);
    }
