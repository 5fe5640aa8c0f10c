use Rattle.proof_prelude.proofs.{◌∷◌, IfOk, ap, sym, subst}
use Rattle.relay_core.specs.declared.messages.Response.{Response}
use Rattle.relay_core.specs.Messages.{exchange_of, carry_docs}
use Rattle.relay_core.specs.Views.{row_errors_view, response_view}
use Rattle.relay_core.specs.Known.{part_of, Knows}
use Rattle.relay_core.proofs.Reaching.{carries_rows}
use Rattle.relay_core.proofs.pages.after_carry.Goals as goal

pub returns-in_ok-sort_rows-in-RowErrors : goal.returns-in_ok-sort_rows-in-RowErrors
returns-in_ok-sort_rows-in-RowErrors c = λ h o.
    c.advance.ensures (exchange_of (carry_docs (part_of c.args.transfer)) (response_view c.args.response) ∷ h)
    (carries_rows (part_of c.args.transfer) (row_errors_view c.in-RowErrors.rows.items) (row_errors_view c.sort_rows.new.refused.items) (response_view c.args.response) (ap response_view c.in-RowErrors.is) c.in_ok-sort_rows-in-RowErrors.ensures o)

pub returns-in-CarryRejected : goal.returns-in-CarryRejected
returns-in-CarryRejected c = λ h o.
    subst (λ (x : Response). IfOk c.after_rejection.result (λ p. Knows (exchange_of (carry_docs (part_of c.args.transfer)) (response_view x) ∷ h) p)) (sym c.in-CarryRejected.is) (c.after_rejection.ensures h o)

pub returns-in_default : goal.returns-in_default
returns-in_default c = λ h o. c.failed.ensures.known (exchange_of (carry_docs (part_of c.args.transfer)) (response_view c.args.response) ∷ h)
