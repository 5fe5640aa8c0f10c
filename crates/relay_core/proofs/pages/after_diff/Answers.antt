use Rattle.proof_prelude.proofs.{◌≡◌, ◌+◌, ◌-◌, ◌^◌, ◌∷◌, List, min, length, string_bytes, ap, ap₂, sym, subst, subst₂, ◌∙◌}
use Rattle.relay_core.specs.declared.messages.DocLeaves.{DocLeaves}
use Rattle.relay_core.specs.Messages.{Text, RowErrorView, exchange_of, revs_diff}
use Rattle.relay_core.specs.Views.{docs_view, row_errors_view, response_view}
use Rattle.relay_core.specs.Leaves.{names, docs_where}
use Rattle.relay_core.specs.Known.{begin_of, IsReachedFrom, IsOpenIn}
use Rattle.relay_core.proofs.Lists.{nil_of_length}
use Rattle.relay_core.proofs.Reaching.{asks, closes_none}
use Rattle.relay_core.proofs.pages.after_diff.Goals as goal

pub returns-then-is_empty : goal.returns-then-is_empty
returns-then-is_empty c = λ h o.
    let missing_is : docs_view c.in_ok-missing.missing.items ≡ docs_where (λ id leaf. names (docs_view c.in-Missing.named.items) id leaf) (docs_view c.args.page.rows.items) =
    c.in_ok-missing.ensures ∙ ap₂ (λ (ns ds : List DocLeaves). docs_where (λ id leaf. names (docs_view ns) id leaf) (docs_view ds)) c.as_slice-4.ensures.value c.as_slice-3.ensures.value in
    let next = exchange_of (revs_diff (docs_view c.args.page.rows.items)) (response_view c.args.response) ∷ h in
    c.accounted.ensures next
    (subst (λ (t : Text). IsReachedFrom next (begin_of c.args.run) t (min (c.args.run.counts.doc_write_failures + length c.new.result.items) (2 ^ 64 - 1))) (ap string_bytes (sym c.end_of-end.ensures))
    (closes_none (asks (docs_view c.in-Missing.named.items) (docs_view c.in_ok-missing.missing.items) (response_view c.args.response) (ap response_view c.in-Missing.is) missing_is o)
    (ap docs_view (nil_of_length c.in_ok-missing.missing c.if-is_empty.ensures)) (length c.new.result.items) (ap length c.new.ensures.items)))

pub returns : goal.returns
returns c = λ h o.
    let missing_is : docs_view c.in_ok-missing.missing.items ≡ docs_where (λ id leaf. names (docs_view c.in-Missing.named.items) id leaf) (docs_view c.args.page.rows.items) =
    c.in_ok-missing.ensures ∙ ap₂ (λ (ns ds : List DocLeaves). docs_where (λ id leaf. names (docs_view ns) id leaf) (docs_view ds)) c.as_slice-4.ensures.value c.as_slice-3.ensures.value in
    let next = exchange_of (revs_diff (docs_view c.args.page.rows.items)) (response_view c.args.response) ∷ h in
    c.ask_carry.ensures next
    (subst₂ (λ (t : Text) (rows : List RowErrorView). IsOpenIn next c.args.run t (docs_view c.in_ok-missing.missing.items) rows) (ap string_bytes (sym c.end_of-end.ensures)) (ap row_errors_view (sym c.new-2.ensures.items))
    (asks (docs_view c.in-Missing.named.items) (docs_view c.in_ok-missing.missing.items) (response_view c.args.response) (ap response_view c.in-Missing.is) missing_is o))
