use Rattle.proof_prelude.proofs.{Some, None, sym, ap, ◌∙◌, cond-true, cond-false, false_from_ne_true, is_utf8-from_IsUtf8, IsUtf8-from_is_utf8}
use Rattle.journal_lines.proofs.text.text_of.Goals as goal

pub returns-in-Ok : goal.returns-in-Ok
returns-in-Ok c = ap Some c.in-Ok.ensures.cases.0 ∙ sym (cond-true _ _ None (is_utf8-from_IsUtf8 _ c.in-Ok.ensures.cases.1))

pub returns-in-Err : goal.returns-in-Err
returns-in-Err c = sym (cond-false _ _ None (false_from_ne_true _ (λ e. c.in-Err.ensures.cases.0 (IsUtf8-from_is_utf8 _ e))))
