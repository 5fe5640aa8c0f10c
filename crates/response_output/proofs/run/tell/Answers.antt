use Rattle.proof_prelude.proofs.{◌≡◌, ◌∙◌, ap, sym, subst}
use Rattle.response_parser.specs.{given, state_of}
use Rattle.response_output.specs.{made_of, text_for, texts, words_of_wording, WritesInPart}
use Rattle.response_output.proofs.{texts-piece}
use Rattle.response_output.proofs.run.tell.Goals as goal

pub returns-in-Err-clause-err : goal.returns-in-Err-clause-err
returns-in-Err-clause-err g c =
    let w = words_of_wording c.args.wording.now in
    let s = state_of c.args.reading.now in
    let made : made_of c.put.new.self ≡ texts w (given s) =
    c.in_ok-put.ensures.text ∙ ap (λ f. text_for w f c.text.result.now) c.found.ensures ∙ ap (text_for w s.found) c.text.ensures ∙ sym (texts-piece w s.found s.text) in
    subst (λ z. WritesInPart c.in-Err.fault z (g.W.ScriptWrite.held c.args.writer.now) (g.W.ScriptWrite.held c.write_text.new.writer)) made c.in-Err.ensures.err
