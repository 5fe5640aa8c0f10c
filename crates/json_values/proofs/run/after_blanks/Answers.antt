use Rattle.proof_prelude.proofs.{sym, ◌∙◌, arith}
use Rattle.json_values.proofs.{lex-blank}
use Rattle.json_values.proofs.run.after_blanks.Goals as goal

pub loop-i-preserved : goal.loop-i-preserved
loop-i-preserved c =
    let l = c.loop-i in
    (sym (lex-blank c.args.text.now l.i (omega arith) (sym c.is_space.ensures ∙ c.if-is_space.true)) ∙ l.invariant.0, omega arith, omega arith)
