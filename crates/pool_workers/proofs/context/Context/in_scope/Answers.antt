use Rattle.proof_prelude.proofs.{◌≡◌, ◌+◌, None, Some, Vec, Global, vec_len, subst, option_copied, arith}
use Rattle.progress_board.specs.{BoardSeat}
use Rattle.pool_workers.specs.{HaveEnded}
use Rattle.pool_workers.proofs.{ended_all, ended_early, reads, tells_ends}
use Rattle.pool_workers.proofs.context.Context.in_scope.Goals as goal

pub returns-then-len-count : goal.returns-then-len-count
returns-then-len-count g c =
    let h = c.join_all.ensures c.args.roles.workers c.before_workers-rest.result.seats.items c.start_all-started.ensures.rest in
    subst (λ (v : Vec BoardSeat Global). HaveEnded {S = g.row.S.Denot} {L = g.row.L.Denot} c.args.self.now.channels.now (option_copied c.args.self.now.board) (g.G.Gate.may_stop c.args.self.now.gate.now) c.args.roles.workers v.items None c.join_all.new.rest.seats.items) c.before_workers-rest.ensures.seats
    (ended_early h)

pub returns : goal.returns
returns g c =
    let started = c.start_all-started.ensures in
    let all : vec_len c.start_all-started.result ≡ c.args.roles.alone + c.args.roles.workers = omega (arith, started.most) in
    let read = c.read_windows-read.ensures in
    let r = c.start_all-started.new.rest in
    let t = record r { windows = c.read_windows-read.new.windows } in
    let u = record t { windows = c.end_workers.new.windows; parcels = c.end_workers.new.parcels } in
    let h = c.join_all-2.ensures c.args.roles.workers c.before_workers-rest.result.seats.items
    (tells_ends u (reads t started.rest (started.unread all) read.seat read.windows) c.end_workers.ensures.windows c.end_workers.ensures.parcels) in
    subst (λ (v : Vec BoardSeat Global). HaveEnded c.args.self.now.channels.now (option_copied c.args.self.now.board) (g.G.Gate.may_stop c.args.self.now.gate.now) c.args.roles.workers v.items (Some (record { windows = c.join_all-2.new.rest.windows; parcels = c.join_all-2.new.rest.parcels; all = c.join_all-2.new.rest.all; read = c.read_windows-read.result; fetched = c.join_all-2.new.rest.fetched; written = c.join_all-2.new.rest.written })) c.join_all-2.new.rest.seats.items) c.before_workers-rest.ensures.seats
    (ended_all _ read.free h)
