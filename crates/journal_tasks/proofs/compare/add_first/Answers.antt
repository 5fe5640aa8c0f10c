use Rattle.proof_prelude.proofs.{◌||◌, bytes_eq, is_some, list_any, string_bytes, sym, ap, ap₂, ◌∙◌}
use Rattle.journal_lines.specs.Docs.{add_pair, docs_view}
use Rattle.journal_lines.specs.Entries.{entry_view}
use Rattle.journal_tasks.specs.{has_leaf, has_rev, ids_in, listed, revs_at}
use Rattle.journal_tasks.proofs.{ids_pair, leaves_pair}
use Rattle.journal_tasks.proofs.compare.add_first.Goals as goal

pub returns-in_ok-add_pair-in-Leaf-clause-ids : goal.returns-in_ok-add_pair-in-Leaf-clause-ids
returns-in_ok-add_pair-in-Leaf-clause-ids c = λ id.
    let leaf = c.in-Leaf.leaf in
    let old = docs_view c.args.docs.now in
    ids_pair old (docs_view c.add_pair.new.docs) (string_bytes leaf.id) (string_bytes leaf.rev) id (c.in_ok-add_pair-in-Leaf.ensures ∙ ap₂ (add_pair old) c.as_str.ensures.value c.as_str-in-Leaf.ensures.value)
    ∙ ap (λ z. is_some (revs_at old id) || list_any (bytes_eq id) (ids_in (entry_view z))) (sym c.in-Leaf.is)

pub returns-in_ok-add_pair-in-Leaf-clause-leaves : goal.returns-in_ok-add_pair-in-Leaf-clause-leaves
returns-in_ok-add_pair-in-Leaf-clause-leaves c = λ id rev.
    let leaf = c.in-Leaf.leaf in
    let old = docs_view c.args.docs.now in
    leaves_pair old (docs_view c.add_pair.new.docs) (string_bytes leaf.id) (string_bytes leaf.rev) id rev (c.in_ok-add_pair-in-Leaf.ensures ∙ ap₂ (add_pair old) c.as_str.ensures.value c.as_str-in-Leaf.ensures.value)
    ∙ ap (λ z. has_rev old id rev || has_leaf (listed (entry_view z)) id rev) (sym c.in-Leaf.is)
