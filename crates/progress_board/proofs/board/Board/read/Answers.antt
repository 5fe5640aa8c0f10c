use Rattle.proof_prelude.proofs.{◌≡◌, ◌≤◌, length, sum, sym, ◌∙◌, ap, arith}
use Rattle.progress_board.proofs.{sum_le}
use Rattle.progress_board.proofs.board.Board.read.Goals as goal

pub returns-clause-in_order : goal.returns-clause-in_order
returns-clause-in_order c =
    let w = c.sum_read-read.new.seat in
    let le : sum w.place.me.0.settles ≤ sum w.place.me.0.reads = sum_le _ _ w.sizes w.ordered in
    let s : sum w.place.me.0.settles ≡ c.sum_settled-settled.result = ap sum c.sum_read-read.ensures.settles ∙ sym c.sum_settled-settled.ensures.sum in
    let r = c.sum_read-read.ensures.sum in
    omega (arith, le, s, r)

pub returns-clause-later : goal.returns-clause-later
returns-clause-later c =
    let v = c.args.seat.now in
    let u = c.sum_settled-settled.new.seat in
    let w = c.sum_read-read.new.seat in
    let first : length v.place.me.0.settles ≡ length u.place.me.0.settles = omega (arith, v.sizes, u.sizes, c.requires.came.1, c.sum_settled-settled.ensures.came.1) in
    let a : sum v.place.me.0.settles ≤ sum u.place.me.0.settles = sum_le _ _ first c.sum_settled-settled.ensures.up.1 in
    let second : length v.place.me.0.reads ≡ length u.place.me.0.reads = omega (arith, c.requires.came.1, c.sum_settled-settled.ensures.came.1) in
    let b : sum v.place.me.0.reads ≤ sum u.place.me.0.reads = sum_le _ _ second c.sum_settled-settled.ensures.up.0 in
    let third : length u.place.me.0.reads ≡ length w.place.me.0.reads = omega (arith, c.sum_settled-settled.ensures.came.1, c.sum_read-read.ensures.came.1) in
    let d : sum u.place.me.0.reads ≤ sum w.place.me.0.reads = sum_le _ _ third c.sum_read-read.ensures.up.0 in
    (omega (arith, a, c.sum_settled-settled.ensures.sum), omega (arith, b, d, c.sum_read-read.ensures.sum))
