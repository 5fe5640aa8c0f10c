use Rattle.proof_prelude.proofs.{◌≡◌, ◌∙◌, ap, sym, length, nat_eq, starts_with, subst, true}
use Rattle.response_parser.specs.{front_of, state_of}
use Rattle.response_output.specs.{made_of, rest_text, words_of_wording, WritesInPart}
use Rattle.response_output.proofs.run.tell_rest.Goals as goal

pub returns-in-Err-clause-err : goal.returns-in-Err-clause-err
returns-in-Err-clause-err g c =
    let w = words_of_wording c.args.wording.now in
    let s = state_of c.args.reading.now in
    let front = front_of c.args.front.now in
    let begins : starts_with nat_eq s.text front ≡ true =
    ap (λ l. starts_with nat_eq l front) (sym c.text.ensures) ∙ ap (starts_with nat_eq c.text.result.now) (sym c.text-2.ensures) ∙ sym c.starts_with.ensures.value ∙ c.if-not-starts_with.false in
    let made : made_of c.put_rest.new.self ≡ rest_text w s.text (length front) =
    c.in_ok-put_rest.ensures.text ∙ ap (λ l. rest_text w l (length c.text-4.result.now)) c.text-3.ensures ∙ ap (λ l. rest_text w s.text (length l)) c.text-4.ensures in
    (begins, subst (λ z. WritesInPart c.in-Err.fault z (g.W.ScriptWrite.held c.args.writer.now) (g.W.ScriptWrite.held c.write_text.new.writer)) made c.in-Err.ensures.err)
