use Rattle.proof_prelude.proofs.{◌≡◌, ℕ, get_or, length, ap, sym, ◌∙◌, arith, length-replicate}
use Rattle.progress_board.proofs.{zeros}
use Rattle.progress_board.proofs.seat.seat_of.Goals as goal

pub invariant_of-result : goal.invariant_of-result
invariant_of-result c =
    let f = c.requires.fresh in
    let k = c.args.workers in
    let v = c.args.place.me.0 in
    let reads_zero : (j : ℕ) → ◌≡◌ {A = ℕ} (get_or v.reads j 0) 0 = λ j. ap (λ r. get_or r j 0) f.2 ∙ zeros k j in
    let settles_zero : (j : ℕ) → ◌≡◌ {A = ℕ} (get_or v.settles j 0) 0 = λ j. ap (λ r. get_or r j 0) f.3 ∙ zeros k j in
    let size : length v.reads ≡ k = ap (length {A = ℕ}) f.2 ∙ length-replicate k 0 in
    let other : length v.settles ≡ k = ap (length {A = ℕ}) f.3 ∙ length-replicate k 0 in
    record {
      empty = c.requires.empty;
      role = f.0;
      named = f.1;
      read_is = λ w. reads_zero c.args.number;
      settled_is = λ w. settles_zero c.args.number;
      limit = omega arith;
      in_order = omega arith;
      ordered = λ j. omega (arith, reads_zero j, settles_zero j);
      sizes = other ∙ sym size;
      held = λ w. let h = c.requires.held w in omega (arith, h, size);
    }
