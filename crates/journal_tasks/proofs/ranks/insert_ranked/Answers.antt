use Rattle.proof_prelude.proofs.{arith, ap, ◌∙◌, insert, prefix_len, prefix_len-le-length}
use Rattle.journal_lines.specs.Leafs.{head_view}
use Rattle.journal_tasks.specs.{outranks}
use Rattle.journal_tasks.proofs.{inserted, views}
use Rattle.journal_tasks.proofs.ranks.insert_ranked.Goals as goal

pub insert-requires : goal.insert-requires
insert-requires c = omega (arith, c.place_of-place.ensures, c.as_slice.ensures.len, prefix_len-le-length (λ known. outranks (head_view known.now) (head_view c.args.leaf.now)) c.as_slice.result.now)

pub returns : goal.returns
returns c =
    ap views c.in_ok-insert.ensures.items
    ∙ ap (λ n. views (insert c.args.ranked.now.items n c.args.leaf)) (c.place_of-place.ensures ∙ ap (prefix_len (λ known. outranks (head_view known.now) (head_view c.args.leaf.now))) c.as_slice.ensures.value)
    ∙ inserted c.args.ranked.now.items c.args.leaf
