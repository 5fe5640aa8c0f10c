-- The lines so far are told.
use Rattle.proof_prelude.proofs.{◌≡◌, ◌++◌, flat_map, list_any, map, take}
use Rattle.journal_lines.specs.Lists.{leaves_view}
use Rattle.journal_tasks.specs.Receiving.{doc_at, lacks_by, told_by}
use Rattle.journal_tasks.proofs.received.Received.push_all.Given as goal

abbrev pub invariant-loop-line : goal.invariant-loop-line
invariant-loop-line l = record {
  text : l.text.items ≡ l.fn.text.items ++ flat_map (λ leaves. told_by l.self.only_lacks (doc_at l.self.docs leaves.1) leaves) (map leaves_view (take l.line-index l.lines));
  lacks : l.lacks ≡ list_any (λ leaves. lacks_by (doc_at l.self.docs leaves.1) leaves) (map leaves_view (take l.line-index l.lines));
}
