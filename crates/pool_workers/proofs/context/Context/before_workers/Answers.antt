use Rattle.proof_prelude.proofs.{ℕ, ap, length, option_copied, arith}
use Rattle.pool_workers.proofs.{starts_empty}
use Rattle.pool_workers.proofs.context.Context.before_workers.Goals as goal

pub returns-clause-starting : goal.returns-clause-starting
returns-clause-starting g c =
    let o = c.args.owned in
    let none = ap (length {A = ℕ}) c.requires.owned.counts.0 in
    starts_empty c.args.self.now.channels.now (option_copied c.args.self.now.board) (g.G.Gate.may_stop c.args.self.now.gate.now) c.args.roles o c.requires.owned (omega (arith, none, o.counts.ok.0)) (omega (arith, o.seats.ok.0, o.seats.ok.1))
