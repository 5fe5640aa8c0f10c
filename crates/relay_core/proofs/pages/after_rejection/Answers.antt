use Rattle.proof_prelude.proofs.{◌≡◌, [], ◌∷◌, List, take, drop, string_bytes, sym, ap, ◌∙◌}
use Rattle.relay_core.specs.declared.messages.DocLeaves.{DocLeaves}
use Rattle.relay_core.specs.Messages.{exchange_of, carry_docs, rejected_response}
use Rattle.relay_core.specs.Views.{doc_view, docs_view, row_errors_view}
use Rattle.relay_core.specs.Known.{part_of}
use Rattle.relay_core.proofs.Lists.{part_one}
use Rattle.relay_core.proofs.Reaching.{carries_nothing, carries_too_large}
use Rattle.relay_core.proofs.pages.after_rejection.Goals as goal

pub returns-then-transfer-gt1 : goal.returns-then-transfer-gt1
returns-then-transfer-gt1 c = λ h o.
    c.halve.ensures (exchange_of (carry_docs (part_of c.args.transfer)) (rejected_response c.args.side c.args.status (string_bytes c.args.words)) ∷ h)
    (carries_nothing (part_of c.args.transfer) (rejected_response c.args.side c.args.status (string_bytes c.args.words)) o)

pub returns-then-not-is_too_large : goal.returns-then-not-is_too_large
returns-then-not-is_too_large c = λ h o.
    c.refuse.ensures (exchange_of (carry_docs (part_of c.args.transfer)) (rejected_response c.args.side c.args.status (string_bytes c.args.words)) ∷ h)

pub returns : goal.returns
returns c = λ h o.
    let alone : part_of c.args.transfer ≡ doc_view c.in-Some.doc.now ∷ [] =
    ap (λ (xs : List DocLeaves). docs_view (take c.args.transfer.size (drop c.args.transfer.carried xs))) (sym c.deref.ensures.value)
    ∙ part_one c.deref.result.now c.args.transfer.carried c.args.transfer.size c.in-Some.doc.now c.if-transfer-ne1.false c.in-Some.ensures.lookup.3.0 c.in-Some.ensures.lookup.1 in
    c.advance.ensures (exchange_of (carry_docs (part_of c.args.transfer)) (rejected_response c.args.side c.args.status (string_bytes c.args.words)) ∷ h)
    (carries_too_large (part_of c.args.transfer) (doc_view c.in-Some.doc.now) c.args.side c.args.status (string_bytes c.args.words) (row_errors_view c.push_too_large.new.refused.items)
    (sym c.if-not-is_too_large.ensures) alone c.in_ok-push_too_large.ensures o)
