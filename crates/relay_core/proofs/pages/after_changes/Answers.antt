use Rattle.proof_prelude.proofs.{◌≡◌, ◌∷◌, true, List, length, string_bytes, ap, sym, ◌∙◌}
use Rattle.relay_core.specs.declared.messages.DocLeaves.{DocLeaves}
use Rattle.relay_core.specs.Messages.{exchange_of, get_changes}
use Rattle.relay_core.specs.Views.{docs_view, page_view, response_view}
use Rattle.relay_core.specs.Leaves.{are_distinct, have_leaves}
use Rattle.relay_core.specs.Known.{wait_of}
use Rattle.relay_core.proofs.Lists.{nil_of_length}
use Rattle.relay_core.proofs.Reaching.{opens, closes_none}
use Rattle.relay_core.proofs.Knowing.{knows_by}
use Rattle.relay_core.proofs.pages.after_changes.Goals as goal

pub returns-then-not-is_empty : goal.returns-then-not-is_empty
returns-then-not-is_empty c = λ h r.
    let distinct : are_distinct (docs_view c.in-Page.page.rows.items) ≡ true = sym (sym c.if-not-branch.false ∙ c.in_ok-are_distinct.ensures ∙ ap (λ (ds : List DocLeaves). are_distinct (docs_view ds)) c.as_slice.ensures.value) in
    let full : have_leaves (docs_view c.in-Page.page.rows.items) ≡ true = sym (c.if-not-have_leaves.ensures ∙ ap (λ (ds : List DocLeaves). have_leaves (docs_view ds)) c.as_slice-else-not-branch.ensures.value) in
    knows_by (exchange_of (get_changes (string_bytes c.args.run.since) (wait_of c.args.run)) (response_view c.args.response) ∷ h) c.quiet.result _ _ c.quiet.ensures.run c.quiet.ensures.stage
    (opens (wait_of c.args.run) (page_view c.in-Page.page) (response_view c.args.response) (ap response_view c.in-Page.is) distinct full r)

pub returns : goal.returns
returns c = λ h r.
    let distinct : are_distinct (docs_view c.in-Page.page.rows.items) ≡ true = sym (sym c.if-not-branch.false ∙ c.in_ok-are_distinct.ensures ∙ ap (λ (ds : List DocLeaves). are_distinct (docs_view ds)) c.as_slice.ensures.value) in
    let full : have_leaves (docs_view c.in-Page.page.rows.items) ≡ true = sym (c.if-not-have_leaves.ensures ∙ ap (λ (ds : List DocLeaves). have_leaves (docs_view ds)) c.as_slice-else-not-branch.ensures.value) in
    c.accounted.ensures (exchange_of (get_changes (string_bytes c.args.run.since) (wait_of c.args.run)) (response_view c.args.response) ∷ h)
    (closes_none (opens (wait_of c.args.run) (page_view c.in-Page.page) (response_view c.args.response) (ap response_view c.in-Page.is) distinct full r)
    (ap docs_view (nil_of_length c.in-Page.page.rows c.if-not-is_empty.ensures)) (length c.new.result.items) (ap length c.new.ensures.items))
