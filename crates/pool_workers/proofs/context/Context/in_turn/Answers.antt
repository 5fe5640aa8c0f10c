use Rattle.proof_prelude.proofs.{[], Some, Vec, Global, subst, option_copied}
use Rattle.progress_board.specs.{BoardSeat}
use Rattle.pool_workers.specs.{HaveEnded, seat_of}
use Rattle.pool_workers.proofs.{ended_all, keeps_roles, reads}
use Rattle.pool_workers.proofs.context.Context.in_turn.Goals as goal

pub read_in_turn-read-requires-clause-seat : goal.read_in_turn-read-requires-clause-seat
read_in_turn-read-requires-clause-seat g c =
    let s = c.new_worker-worker.ensures.started _ _ _ _ c.before_workers-rest.ensures.starting in s.rest.window_seat

pub read_in_turn-read-requires-clause-windows : goal.read_in_turn-read-requires-clause-windows
read_in_turn-read-requires-clause-windows g c =
    let s = c.new_worker-worker.ensures.started _ _ _ _ c.before_workers-rest.ensures.starting in (s.unread, s.rest.window_parts.0)

pub take_in-requires-clause-rest : goal.take_in-requires-clause-rest
take_in-requires-clause-rest g c =
    let r = c.new_worker-worker.new.rest in
    let t = record r { windows = c.read_in_turn-read.new.windows } in
    let read = c.read_in_turn-read.ensures in
    let s = c.new_worker-worker.ensures.started _ _ _ _ c.before_workers-rest.ensures.starting in
    (1, c.before_workers-rest.result.seats.items, [], 0, 0, seat_of c.new_worker-worker.result, read.keeps.shows, keeps_roles 0 0 read.keeps (reads t s.rest s.unread read.seat read.windows))

pub returns : goal.returns
returns g c =
    let given = c.before_workers-rest.result.seats.items in
    let r = c.new_worker-worker.new.rest in
    let t = record r { windows = c.read_in_turn-read.new.windows } in
    let read = c.read_in_turn-read.ensures in
    let s = c.new_worker-worker.ensures.started _ _ _ _ c.before_workers-rest.ensures.starting in
    let h = c.take_in.ensures 1 given [] 0 0 (seat_of c.new_worker-worker.result) read.keeps.shows (keeps_roles 0 0 read.keeps (reads t s.rest s.unread read.seat read.windows)) in
    subst (λ (v : Vec BoardSeat Global). HaveEnded c.args.self.now.channels.now (option_copied c.args.self.now.board) (g.G.Gate.may_stop c.args.self.now.gate.now) 1 v.items (Some (record { windows = c.take_in.new.rest.windows; parcels = c.take_in.new.rest.parcels; all = c.take_in.new.rest.all; read = c.read_in_turn-read.result; fetched = c.take_in.new.rest.fetched; written = c.take_in.new.rest.written })) c.take_in.new.rest.seats.items) c.before_workers-rest.ensures.seats (ended_all _ read.free h)
