use Rattle.proof_prelude.proofs.{◌≡◌, Bool, List, true, ap, sym, ◌∙◌, drop_all, find, not, or_left}
use Rattle.rev_core.specs.{RevId}
use Rattle.rev_tree.specs.Tree.{has}
use Rattle.couch_base.specs.{Id, tree_of}
use Rattle.repl_peer.specs.{known_of}
use Rattle.repl_peer.proofs.{find_more}
use Rattle.repl_peer.proofs.session.rows.brings_all.Goals as goal

pub loop-rev-preserved : goal.loop-rev-preserved
loop-rev-preserved c = λ db index has_all.
    let known = known_of db index c.args.row.now.id in
    let here : has (tree_of db.docs c.args.row.now.id) c.rev-item.result ≡ true = ap (λ (i : Id). has (tree_of db.docs i) c.rev-item.result) (sym c.id.ensures) ∙ c.brings.ensures c.if-not-brings.false db has_all in
    find_more known c.leaves-rev-items.result.now c.loop-rev.rev-index c.rev-item.result c.loop-rev-test.true c.rev-item.is (or_left _ _ here)
    ∙ c.loop-rev.invariant db index has_all

pub returns : goal.returns
returns c = λ _ db index has_all.
    let unknown : RevId → Bool = λ rev. not (known_of db index c.args.row.now.id rev) in
    ap (λ (leaves : List RevId). find unknown leaves) (sym c.leaves-rev-items.ensures)
    ∙ sym (c.loop-rev.invariant db index has_all)
    ∙ ap (λ (leaves : List RevId). find unknown leaves) (drop_all c.loop-rev.rev-index c.leaves-rev-items.result.now c.loop-rev-test.false)
