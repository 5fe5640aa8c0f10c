use Rattle.proof_prelude.proofs.{◌≡◌, ◌∙◌, ap, subst}
use Rattle.response_parser.specs.{front_of}
use Rattle.response_output.specs.{made_of, part_text, words_of_wording, WritesInPart}
use Rattle.response_output.proofs.run.tell_run.Goals as goal

pub returns-in-Err-clause-err : goal.returns-in-Err-clause-err
returns-in-Err-clause-err g c =
    let w = words_of_wording c.args.wording.now in
    let made : made_of c.put_part.new.self ≡ part_text w (front_of c.args.front.now) c.args.told c.args.run.now =
    c.in_ok-put_part.ensures.text ∙ ap (λ l. part_text w l c.args.told c.args.run.now) c.text.ensures in
    subst (λ z. WritesInPart c.in-Err.fault z (g.W.ScriptWrite.held c.args.writer.now) (g.W.ScriptWrite.held c.write_text.new.writer)) made c.in-Err.ensures.err
