use Rattle.proof_prelude.proofs.{◌++◌, ap, ◌∙◌, flat_map, map, refl}
use Rattle.journal_lines.specs.Lists.{leaves_view}
use Rattle.journal_tasks.specs.Receiving.{doc_at, told_by}
use Rattle.journal_tasks.proofs.{received_right}
use Rattle.journal_tasks.proofs.received.ReceivedLineTask.end.Goals as goal

pub returns : goal.returns
returns c = λ only lines text k.
    let task = c.args.self.now in
    received_right only lines text c.args.rest.now _ task _ c.is_right.result c.in_ok-self.field-0 k c.in_ok-end.ensures c.is_right.ensures c.if-not-is_right.false
    (c.in_ok-self.ensures.text ∙ ap (λ z. z ++ flat_map (λ leaves. told_by task.only_lacks (doc_at task.docs leaves.1) leaves) (map leaves_view task.lines.items)) c.requires.empty) c.in_ok-self.ensures.lacks refl
