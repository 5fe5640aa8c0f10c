use Rattle.proof_prelude.proofs.{◌+◌, ◌∙◌, refl, ap, subst, add-zero, option_copied}
use Rattle.pool_workers.specs.{Worker, Rest, IsIdle, Shows, HasRest, fetchers_in, writers_in}
use Rattle.pool_workers.proofs.{recount, takes_fetcher, takes_writer}
use Rattle.pool_workers.proofs.context.Context.take_in.Goals as goal

pub returns-in-Writes : goal.returns-in-Writes
returns-in-Writes g c = λ workers given held fetchers writers seat shows h.
    let is = c.in-Writes.is in
    let r = c.args.rest.now in
    let w = c.take_in-in-Writes.ensures in
    let new = c.take_in-in-Writes.new in
    let idle = subst (λ (w : Worker g.row.S.Denot g.row.L.Denot). IsIdle c.args.self.now.channels.now (option_copied c.args.self.now.board) (g.G.Gate.may_stop c.args.self.now.gate.now) w) is c.requires.idle in
    takes_writer held seat c.in-Writes.writer (record r { parcels = new.parcels; all = new.all; written = new.self; seats = new.seats })
    (recount (λ m n l. HasRest c.args.self.now.channels.now (option_copied c.args.self.now.board) (g.G.Gate.may_stop c.args.self.now.gate.now) workers given m n l r) _ _ fetchers (writers + 1) _ _
    (ap (λ (w : Worker g.row.S.Denot g.row.L.Denot). fetchers + fetchers_in w) is ∙ add-zero fetchers) (ap (λ (w : Worker g.row.S.Denot g.row.L.Denot). writers + writers_in w) is) refl h)
    w.seat w.parcels.0 w.parcels.1 w.all.0 w.all.1 w.knows w.told w.free idle.halted (subst (λ (w : Worker g.row.S.Denot g.row.L.Denot). Shows (option_copied c.args.self.now.board) seat w) is shows) w.seats w.capacity

pub returns-in-Both : goal.returns-in-Both
returns-in-Both g c = λ workers given held fetchers writers seat shows h.
    let is = c.in-Both.is in
    let r = c.args.rest.now in
    let f = c.take_in-in-Both.ensures in
    let w = c.take_in-in-Both-2.ensures in
    let new = c.take_in-in-Both-2.new in
    let one : Rest g.row.S.Denot g.row.L.Denot = record r { windows = c.take_in-in-Both.new.windows; parcels = c.take_in-in-Both.new.parcels; fetched = c.take_in-in-Both.new.self; seats = r.seats } in
    let idle = subst (λ (w : Worker g.row.S.Denot g.row.L.Denot). IsIdle c.args.self.now.channels.now (option_copied c.args.self.now.board) (g.G.Gate.may_stop c.args.self.now.gate.now) w) is c.requires.idle in
    takes_writer held seat c.in-Both.writer (record one { parcels = new.parcels; all = new.all; written = new.self; seats = new.seats })
    (takes_fetcher one c.in-Both.fetcher.stopped
    (recount (λ m n l. HasRest c.args.self.now.channels.now (option_copied c.args.self.now.board) (g.G.Gate.may_stop c.args.self.now.gate.now) workers given m n l r) _ _ (fetchers + 1) (writers + 1) _ _
    (ap (λ (w : Worker g.row.S.Denot g.row.L.Denot). fetchers + fetchers_in w) is) (ap (λ (w : Worker g.row.S.Denot g.row.L.Denot). writers + writers_in w) is) refl h)
    f.seats.0 f.windows.0 f.seats.1 f.parcels.0 f.parcels.1 f.knows f.told idle.0.halted f.len f.capacity)
    w.seat w.parcels.0 w.parcels.1 w.all.0 w.all.1 w.knows w.told w.free idle.1.halted (subst (λ (w : Worker g.row.S.Denot g.row.L.Denot). Shows (option_copied c.args.self.now.board) seat w) is shows) w.seats w.capacity
