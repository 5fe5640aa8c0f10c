use Rattle.proof_prelude.proofs.{◌++◌, [], sym, ap, ◌∙◌, append_assoc, if◌then◌else◌, Appends-trans}
use Rattle.script_engine.specs.{text_with}
use Rattle.script_engine.proofs.{cut_answer, on_err, split_left, text_with-piece, write_not_cut}
use Rattle.script_engine.proofs.lines.write_answer.Goals as goal

pub returns-in-Err-clause-err : goal.returns-in-Err-clause-err
returns-in-Err-clause-err g c =
    let left = g.S.Serve.left c.args.server.now in
    let piece = if c.args.accepted then c.args.script.now.answer.items else c.args.script.now.refusal.items in
    let more = text_with left [] c.args.rest in
    let part = c.in-Err.ensures.err in (
      part.0,
      part.1 ++ more,
      text_with-piece left piece c.args.rest ∙ ap (λ t. t ++ more) (sym c.text_told-text.ensures ∙ part.2) ∙ append_assoc part.0 part.1 more,
      part.3,
    )

pub returns-clause-err : goal.returns-clause-err
returns-clause-err g c =
    let left = g.S.Serve.left c.args.server.now in
    let piece = if c.args.accepted then c.args.script.now.answer.items else c.args.script.now.refusal.items in
    let given = c.text_told-text.result.now in
    let more = text_with left [] c.args.rest in
    on_err c.write_left.result (λ part. (
      given ++ part.0,
      part.1,
      text_with-piece left piece c.args.rest ∙ ap (λ t. t ++ more) (sym c.text_told-text.ensures) ∙ ap (λ t. given ++ t) part.2 ∙ sym (append_assoc given part.0 part.1),
      Appends-trans _ _ _ given part.0 c.in-Ok.ensures.ok.0 part.3,
    )) c.write_left.ensures.err

pub write_left-requires-clause-left : goal.write_left-requires-clause-left
write_left-requires-clause-left g c = split_left (g.S.Serve.left c.args.server.now) c.args.accepted c.args.script.now.answer.items c.args.rest c.requires.split

pub returns-in-Err-clause-cut : goal.returns-in-Err-clause-cut
returns-in-Err-clause-cut g c = λ e. absurd (write_not_cut (sym c.in-Err.ensures.fault ∙ e))

pub returns-clause-cut : goal.returns-clause-cut
returns-clause-cut g c =
    cut_answer (g.S.Serve.left c.args.server.now) c.args.accepted c.args.script.now.answer.items c.args.script.now.refusal.items c.text_told-text.result.now c.args.rest _ _ _ c.write_left.result c.text_told-text.ensures c.requires.split c.in-Ok.ensures.ok.0 c.write_left.ensures.cut
