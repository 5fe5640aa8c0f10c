use Rattle.proof_prelude.proofs.{◌≡◌, ◌+◌, ◌-◌, ◌<◌, length, take, drop, get_or, Some, sym, ap, ◌∙◌, subst, arith, lt_of_not-le, IsCharBoundary-after_ascii, get_or_default, get_or_past, common_steps, prefix_len, append-nil}
use Rattle.json.specs.Text.{content, plain, prepend}
use Rattle.json.specs.Word.{head}
use Rattle.json.specs.Lex.{between, in_string, lex}
use Rattle.json.specs.Run.{is_plain}
use Rattle.json_values.proofs.{content-to_stop, at_quote, lex-quote, in_string-to_stop, in_string-quote, passing_front, quote_at}
use Rattle.json_values.proofs.lexer.Lexer.string.Goals as goal

pub range-requires-clause-start_boundary : goal.range-requires-clause-start_boundary
range-requires-clause-start_boundary c some =
    let a = c.self.inside in
    let d = a.text.now in
    let e : head (drop a.at d) ≡ 34 = ap head (ap (λ l. l.text) c.self.view_is) ∙ c.requires in
    let q = quote_at d a.at e in
    IsCharBoundary-after_ascii d a.at c.self.invariant.utf8 q.within (omega (arith, q.byte))

pub returns : goal.returns
returns c =
    let a = c.self.inside in
    let d = a.text.now in
    let p = a.at in
    let e : head (drop p d) ≡ 34 = ap head (ap (λ l. l.text) c.self.view_is) ∙ c.requires in
    let q = quote_at d p e in
    let stop = c.plain_end-stop.result in
    let is : stop ≡ p + 1 + prefix_len is_plain (drop (p + 1) d) = rw (← c.as_bytes.ensures.value) c.plain_end-stop.ensures.value in
    let closing : get_or d stop 32 ≡ 34 = omega (arith, c.byte_at-after.ensures.value, ap (λ t. get_or t stop 32) c.as_bytes-2.ensures.value) in
    let within : stop < length d = lt_of_not-le (λ h. omega (arith, get_or_past d stop 32 h)) in
    let found : content plain (drop 1 (drop p d)) ≡ Some (take (stop - (p + 1)) (drop (p + 1) d)) =
    ap (content plain) q.rest ∙ content-to_stop d (p + 1) stop is ∙ ap (prepend _) (at_quote d stop within (get_or_default d stop 0 32 within ∙ closing)) ∙ ap Some (append-nil _) in
    let lexed : lex between (drop c.after_blanks-self-inside.result d) ≡ lex between (drop (stop + 1) d) = subst (λ t. lex between (drop c.after_blanks-self-inside.result t) ≡ lex between (drop (stop + 1) t)) c.as_bytes-3.ensures.value c.after_blanks-self-inside.ensures.lexed in
    let run : stop - (p + 1) ≡ prefix_len is_plain (drop (p + 1) d) = omega (arith, is) in
    let text = c.range.ensures.value ∙ ap (λ n. take n (drop (p + 1) d)) run in
    let passed = subst (λ s. prefix_len is_plain s ≡ length s) (sym text) (passing_front is_plain (drop (p + 1) d)) in
    record {
      value = ap (λ t. content plain (drop 1 t)) (sym (ap (λ l. l.text) c.self.view_is)) ∙ found ∙ ap Some (sym c.range.ensures.value);
      after = lexed ∙ sym (in_string-quote d stop within (get_or_default d stop 0 32 within ∙ closing)) ∙ sym (in_string-to_stop d (p + 1) stop is) ∙ ap (lex in_string) (sym q.rest)
          ∙ sym (lex-quote (drop p d) e) ∙ ap (λ t. drop 1 (lex between t)) (ap (λ l. l.text) c.self.view_is);
      narrows = grind (arith, common_steps);
      name = λ next known. passed;
      text = λ next known. passed;
    }
