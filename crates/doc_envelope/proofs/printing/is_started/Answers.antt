use Rattle.proof_prelude.proofs.{◌++◌, take, sym, ap, ◌∙◌, take-append-drop}
use Rattle.doc_envelope.proofs.{rest_all}
use Rattle.doc_envelope.proofs.printing.is_started.Goals as goal

pub returns-in-Some : goal.returns-in-Some
returns-in-Some c = λ h.
    let start = c.args.start.now in
    let count = c.comma-count.result in
    record {
      digits = take count start;
      ids = c.in-Some.ids.now;
      number = c.is_start.ensures c.if-not-is_start.false;
      strings = c.are_ids.ensures h;
      text = sym (take-append-drop count start) ∙ ap (λ z. take count start ++ z) (sym (rest_all count start) ∙ c.in-Some.ensures);
    }
