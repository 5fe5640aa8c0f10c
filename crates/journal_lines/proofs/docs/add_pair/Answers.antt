use Rattle.proof_prelude.proofs.{ap, ◌∙◌}
use Rattle.journal_lines.specs.Docs.{keys_or_none}
use Rattle.journal_lines.proofs.{pair_added}
use Rattle.journal_lines.proofs.docs.add_pair.Goals as goal

pub returns : goal.returns
returns c = pair_added _ _ _ _ _ _ _ c.or_empty-revs.result c.insert-2.new.self _ _ c.in_ok-key.ensures.ok c.in_ok-from_str-2.ensures.ok c.in_ok-from_str.ensures.ok c.in_ok-old.ensures.entries
    (c.or_empty-revs.ensures ∙ ap keys_or_none c.in_ok-old.ensures.old) c.in_ok-insert.ensures.keys c.in_ok-insert-2.ensures.entries
