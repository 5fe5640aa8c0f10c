use Rattle.proof_prelude.proofs.{rules, ◌≡◌, ◌+◌, option_copied}
use Rattle.pool_workers.specs.{IsStarting}
use Rattle.pool_workers.proofs.{all_pushed, starts_last}
use Rattle.pool_workers.proofs.context.Context.start_all.Goals as goal

pub loop-number-preserved : goal.loop-number-preserved
loop-number-preserved g c =
    let was = c.loop-number.invariant in
    record {
      count = was.count;
      started = search rules;
      room = search rules;
      promised =
          all_pushed c.loop-number.started.items c.push_reserved.new.self.items c.in-Some.handle
          (λ h. (h.promise.channels.now ≡ c.args.self.now.channels.now) × (h.promise.gate.now ≡ c.args.self.now.gate.now) × (option_copied h.promise.board ≡ option_copied c.args.self.now.board)) was.promised c.in-Some.ensures.promised c.push_reserved.ensures.items;
      starting =
          starts_last (λ h. h.promise.worker.value) (λ m n l. IsStarting c.args.self.now.channels.now (option_copied c.args.self.now.board) (g.G.Gate.may_stop c.args.self.now.gate.now) c.args.roles c.args.rest.now.seats.items (c.loop-number.number + 1) m n l c.start_worker.new.rest)
          c.loop-number.started.items c.push_reserved.new.self.items c.in-Some.handle c.push_reserved.ensures.items (c.in-Some.ensures.started _ _ _ _ was.starting);
    }

pub returns-in-None-clause-rest : goal.returns-in-None-clause-rest
returns-in-None-clause-rest g c = c.start_worker.ensures.returned c.in-None.is _ _ _ _ c.loop-number.invariant.starting
