use Rattle.proof_prelude.proofs.{ap₂, ◌∙◌, ℕ, List, bytes_eq, list_any, string_bytes}
use Rattle.journal_lines.specs.declared.leaf.Leaf.{Leaf}
use Rattle.journal_tasks.proofs.{head_known, head_new}
use Rattle.journal_tasks.proofs.conflicts.with_leaf.Goals as goal

pub returns-then-has_rev : goal.returns-then-has_rev
returns-then-has_rev c =
    head_known c.args.leaves.items c.args.leaf c.has_rev.result (c.has_rev.ensures ∙ ap₂ (λ (rev : List ℕ) (leaves : List Leaf). list_any (λ known. bytes_eq (string_bytes known.rev) rev) leaves) c.as_str.ensures.value c.as_slice.ensures.value) c.if-has_rev.true

pub returns : goal.returns
returns c =
    head_new c.args.leaves.items c.push.new.self.items c.args.leaf c.has_rev.result (c.has_rev.ensures ∙ ap₂ (λ (rev : List ℕ) (leaves : List Leaf). list_any (λ known. bytes_eq (string_bytes known.rev) rev) leaves) c.as_str.ensures.value c.as_slice.ensures.value) c.if-has_rev.false c.in_ok-push.ensures.items
