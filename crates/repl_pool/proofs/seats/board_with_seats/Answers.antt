use Rattle.proof_prelude.proofs.{◌≡◌, ◌++◌, ◌∷◌, [], All, vec_items, sym, subst, arith, All-push}
use Rattle.progress_board.specs.{CameWith}
use Rattle.pool_workers.specs.{HasNothing}
use Rattle.repl_pool.proofs.{new_left, new_taken}
use Rattle.repl_pool.proofs.seats.board_with_seats.Goals as goal

pub loop-i-preserved : goal.loop-i-preserved
loop-i-preserved c =
    let b = c.in_ok-board.board in
    let i = c.loop-i.invariant in
    let seat = c.in-Some.seat in
    let parts : vec_items c.loop-i.seats ≡ vec_items c.pop.new.self ++ seat ∷ [] = c.in-Some.ensures.items in
    let is = new_taken b (vec_items c.loop-i.seats) (vec_items c.pop.new.self) seat i.new parts in
    let put : vec_items c.push_reserved.new.self ≡ vec_items c.loop-i.apart ++ seat ∷ [] = c.push_reserved.ensures.items in
    record {
      new = new_left b (vec_items c.loop-i.seats) (vec_items c.pop.new.self) (seat ∷ []) i.new parts;
      left = omega (arith, i.left, c.in-Some.ensures.len);
      taken = omega (arith, i.taken, c.push_reserved.ensures.len);
      room = omega (arith, i.room, c.push_reserved.ensures.capacity);
      came = subst (All (CameWith b)) (sym put) (All-push (CameWith b) (vec_items c.loop-i.apart) seat i.came is.came);
      nothing = subst (All HasNothing) (sym put) (All-push HasNothing (vec_items c.loop-i.apart) seat i.nothing (is.own.0, is.own.1, is.seen.0, is.seen.1));
    }
