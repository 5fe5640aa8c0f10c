use Rattle.proof_prelude.proofs.{◌++◌, ap, ◌∙◌}
use Rattle.journal_tasks.specs.{part_text}
use Rattle.journal_tasks.proofs.{on_all, split_next, split_same}
use Rattle.journal_tasks.proofs.parts.PartsLineTask.line.Goals as goal

pub returns-then-has_space : goal.returns-then-has_space
returns-then-has_space c =
    let e = c.add-then-has_space.ensures in
    on_all c.add-then-has_space.result (λ part count bytes most n. λ limit lines text k.
    split_same limit lines text c.args.line.now _ c.args.self.now _ c.has_space.result k c.has_space.ensures c.if-has_space.true (n ∙ c.in_ok-add.ensures) bytes most part count c.requires.empty) e.part e.lines e.most_bytes e.most_lines e.count

pub returns : goal.returns
returns c =
    let e = c.add-2.ensures in
    let p = c.in_ok-push.ensures in
    on_all c.add-2.result (λ part count bytes most n. λ limit lines text k.
    split_next limit lines text c.args.line.now _ c.args.self.now c.push.new.self _ c.has_space.result k c.has_space.ensures c.if-has_space.false (n ∙ p.count ∙ c.in_ok-add.ensures) (bytes ∙ p.most_bytes) (most ∙ p.most_lines)
    (p.text ∙ ap (λ z. z ++ part_text c.args.self.now.lines c.args.self.now.part.items) c.requires.empty) p.part p.lines part count) e.part e.lines e.most_bytes e.most_lines e.count
