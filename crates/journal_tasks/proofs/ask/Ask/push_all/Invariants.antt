-- What is appended and what is left are the items of all revisions.
use Rattle.proof_prelude.proofs.{◌≡◌, ◌++◌, drop, map}
use Rattle.journal_lines.specs.Lists.{texts_of}
use Rattle.journal_tasks.specs.Asking.{asked_items, has_begun}
use Rattle.journal_tasks.proofs.ask.Ask.push_all.Given as goal

abbrev pub invariant-loop-rev : goal.invariant-loop-rev
invariant-loop-rev l = record {
  text : l.text.items ++ asked_items l.self.begun (map (λ rev. (l.id, rev)) (texts_of (drop l.rev-index l.revs)))
      ≡ l.fn.text.items ++ asked_items l.fn.self.begun (map (λ rev. (l.id, rev)) (texts_of l.revs));
  begun : has_begun l.self.begun (map (λ rev. (l.id, rev)) (texts_of (drop l.rev-index l.revs)))
      ≡ has_begun l.fn.self.begun (map (λ rev. (l.id, rev)) (texts_of l.revs));
  count : l.self.count ≡ l.fn.self.count;
}
