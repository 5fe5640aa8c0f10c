use Rattle.proof_prelude.proofs.{◌∙◌, ap, sym, subst, option_copied}
use Rattle.pool_workers.specs.{Worker, WorkerPromise, Keeps, HasStarted, seat_of}
use Rattle.pool_workers.proofs.{keeps_roles, tells_ends}
use Rattle.pool_workers.proofs.context.Context.start_worker.Goals as goal

pub end_workers-requires-clause-windows : goal.end_workers-requires-clause-windows
end_workers-requires-clause-windows g c κs within =
    let s = c.new_worker-worker.ensures.started _ _ _ _ c.requires.starting.4 in (s.rest.window_seat, s.rest.window_parts.0)

pub end_workers-requires-clause-parcels : goal.end_workers-requires-clause-parcels
end_workers-requires-clause-parcels g c κs within =
    let s = c.new_worker-worker.ensures.started _ _ _ _ c.requires.starting.4 in (s.rest.parcel_seat, s.rest.parcel_parts.0)

pub take_in-requires-clause-rest : goal.take_in-requires-clause-rest
take_in-requires-clause-rest g c =
    let q = c.requires.starting in
    let r = c.new_worker-worker.new.rest in
    let t = record r { windows = c.end_workers.new.windows; parcels = c.end_workers.new.parcels } in
    let k : Keeps c.args.self.now.channels.now (option_copied c.args.self.now.board) (g.G.Gate.may_stop c.args.self.now.gate.now) c.new_worker-worker.result c.work-worker.result = rw c.in-Err.ensures.err at c.work-worker.ensures in
    let s = c.new_worker-worker.ensures.started q.0 q.1 q.2 q.3 q.4 in
    (c.args.roles.workers, q.0, q.1, q.2, q.3, seat_of c.new_worker-worker.result, k.shows, keeps_roles q.2 q.3 k (tells_ends t s.rest c.end_workers.ensures.windows c.end_workers.ensures.parcels))

pub returns-in-Ok-clause-started : goal.returns-in-Ok-clause-started
returns-in-Ok-clause-started g c =
    let is = ap (λ (p : WorkerPromise g.row.S.Denot g.row.L.Denot g.row.G.Denot). p.worker.value) c.in-Ok.ensures.ok ∙ c.of.ensures in
    subst (λ (w : Worker g.row.S.Denot g.row.L.Denot). HasStarted c.args.self.now.channels.now (option_copied c.args.self.now.board) (g.G.Gate.may_stop c.args.self.now.gate.now) c.args.roles c.args.number c.args.rest.now c.new_worker-worker.new.rest w) (sym is)
    c.new_worker-worker.ensures.started

pub returns-in-Err-clause-returned : goal.returns-in-Err-clause-returned
returns-in-Err-clause-returned g c _ given held fetchers writers h =
    let r = c.new_worker-worker.new.rest in
    let t = record r { windows = c.end_workers.new.windows; parcels = c.end_workers.new.parcels } in
    let k : Keeps c.args.self.now.channels.now (option_copied c.args.self.now.board) (g.G.Gate.may_stop c.args.self.now.gate.now) c.new_worker-worker.result c.work-worker.result = rw c.in-Err.ensures.err at c.work-worker.ensures in
    let s = c.new_worker-worker.ensures.started given held fetchers writers h in
    c.take_in.ensures c.args.roles.workers given held fetchers writers (seat_of c.new_worker-worker.result) k.shows (keeps_roles fetchers writers k (tells_ends t s.rest c.end_workers.ensures.windows c.end_workers.ensures.parcels))
