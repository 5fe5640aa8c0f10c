use Rattle.proof_prelude.proofs.{◌+◌, length, get_or, drop, rules}
use Rattle.repl_peer.proofs.{ends_within, next_end}
use Rattle.repl_peer.proofs.session.packed_ids.has_text.Goals as goal

pub slice_bounds-eq-end : goal.slice_bounds-eq-end
slice_bounds-eq-end c =
    let ends = c.args.ends.now in
    let i = c.loop-end.end-index in
    let len = length c.args.text.now in
    let next = next_end c.loop-end.start ends i len c.loop-end-test.true c.loop-end.invariant.ends in
    let within = ends_within (get_or ends i 0) (drop (i + 1) ends) len next.1 in
    search rules
