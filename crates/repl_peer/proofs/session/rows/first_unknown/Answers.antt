use Rattle.proof_prelude.proofs.{ap, sym, ◌∙◌, option_map}
use Rattle.rev_core.specs.{RevId}
use Rattle.repl_peer.specs.{Leaf, known_of}
use Rattle.repl_peer.proofs.{unknown_here}
use Rattle.repl_peer.proofs.session.rows.first_unknown.Goals as goal

pub returns-in-Some : goal.returns-in-Some
returns-in-Some c =
    let row = c.row-item.result in
    let known = known_of c.args.db.now c.args.ledgered.now in
    let u : Leaf = record { seq = row.seq; id = row.id; rev = c.in-Some.rev } in
    sym (unknown_here known c.args.rows.now c.loop-row.row-index row u c.loop-row-test.true c.row-item.is
    (ap (option_map (λ (rev : RevId). let l : Leaf = record { seq = row.seq; id = row.id; rev = rev } in l)) (sym c.in-Some.ensures))) ∙ c.loop-row.invariant
