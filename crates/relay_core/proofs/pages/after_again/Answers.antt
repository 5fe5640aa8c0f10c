use Rattle.proof_prelude.proofs.{◌≡◌, ◌∷◌, true, List, length, ap, ap₂, sym, ◌∙◌}
use Rattle.relay_core.specs.declared.messages.DocLeaves.{DocLeaves}
use Rattle.relay_core.specs.declared.messages.RowError.{RowError}
use Rattle.relay_core.specs.Messages.{exchange_of, revs_diff}
use Rattle.relay_core.specs.Views.{docs_view, row_errors_view, response_view}
use Rattle.relay_core.specs.Leaves.{names, docs_where, cover, leaf_count}
use Rattle.relay_core.proofs.Reaching.{asks, closes_as, reached_before}
use Rattle.relay_core.proofs.pages.after_again.Goals as goal

pub returns-then-not-cover : goal.returns-then-not-cover
returns-then-not-cover c = λ h o.
    let missing_is : docs_view c.in_ok-missing.missing.items ≡ docs_where (λ id leaf. names (docs_view c.in-Missing.named.items) id leaf) (docs_view c.args.transfer.missing.items) =
    c.in_ok-missing.ensures ∙ ap₂ (λ (ns ds : List DocLeaves). docs_where (λ id leaf. names (docs_view ns) id leaf) (docs_view ds)) c.as_slice-4.ensures.value c.as_slice-3.ensures.value in
    c.retry.ensures (exchange_of (revs_diff (docs_view c.args.transfer.missing.items)) (response_view c.args.response) ∷ h)
    (reached_before (asks (docs_view c.in-Missing.named.items) (docs_view c.in_ok-missing.missing.items) (response_view c.args.response) (ap response_view c.in-Missing.is) missing_is o))

pub returns : goal.returns
returns c = λ h o.
    let missing_is : docs_view c.in_ok-missing.missing.items ≡ docs_where (λ id leaf. names (docs_view c.in-Missing.named.items) id leaf) (docs_view c.args.transfer.missing.items) =
    c.in_ok-missing.ensures ∙ ap₂ (λ (ns ds : List DocLeaves). docs_where (λ id leaf. names (docs_view ns) id leaf) (docs_view ds)) c.as_slice-4.ensures.value c.as_slice-3.ensures.value in
    let covered : cover (row_errors_view c.args.transfer.refused.items) (docs_view c.in_ok-missing.missing.items) ≡ true =
    sym (c.if-not-cover.ensures ∙ ap₂ (λ (rs : List RowError) (ds : List DocLeaves). cover (row_errors_view rs) (docs_view ds)) c.as_slice-5.ensures.value c.as_slice-6.ensures.value) in
    c.accounted.ensures (exchange_of (revs_diff (docs_view c.args.transfer.missing.items)) (response_view c.args.response) ∷ h)
    (closes_as (asks (docs_view c.in-Missing.named.items) (docs_view c.in_ok-missing.missing.items) (response_view c.args.response) (ap response_view c.in-Missing.is) missing_is o)
    covered (length c.in_ok-refused.refused.items) (c.in_ok-refused.ensures ∙ ap (λ (ds : List DocLeaves). leaf_count (docs_view ds)) c.as_slice-8.ensures.value))
