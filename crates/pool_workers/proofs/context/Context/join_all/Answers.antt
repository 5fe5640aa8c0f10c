use Rattle.proof_prelude.proofs.{rules, ◌≡◌, vec_len, option_copied, nil_from_length, arith}
use Rattle.pool_workers.specs.{HasRest}
use Rattle.pool_workers.proofs.{all_popped, ends_last, keeps_there, none_left}
use Rattle.pool_workers.proofs.context.Context.join_all.Goals as goal

pub take_in-requires-clause-rest : goal.take_in-requires-clause-rest
take_in-requires-clause-rest g c =
    let promise = c.in-Some.handle.promise in
    let all = all_popped c.loop-handle.left.items c.pop.new.self.items c.in-Some.handle
    (λ h. (h.promise.channels.now ≡ c.args.self.now.channels.now) × (h.promise.gate.now ≡ c.args.self.now.gate.now) × (option_copied h.promise.board ≡ option_copied c.args.self.now.board)) c.in-Some.ensures.items c.loop-handle.invariant.promised in
    let k = keeps_there g.G.Gate.may_stop promise.channels.now c.args.self.now.channels.now promise.gate.now c.args.self.now.gate.now (option_copied promise.board) (option_copied c.args.self.now.board) promise.worker.value c.join-worker.result all.1.0 all.1.1 all.1.2 c.join-worker.ensures in
    let r = c.requires.rest in (
      r.0,
      r.1,
      _,
      _,
      _,
      _,
      k.shows,
      ends_last (λ h. h.promise.worker.value) (λ m n l. HasRest c.args.self.now.channels.now (option_copied c.args.self.now.board) (g.G.Gate.may_stop c.args.self.now.gate.now) r.0 r.1 m n l c.loop-handle.rest)
          c.loop-handle.left.items c.pop.new.self.items c.in-Some.handle c.join-worker.result c.in-Some.ensures.items k.fetchers k.writers (c.loop-handle.invariant.rest r.0 r.1 r.2),
    )

pub loop-handle-preserved : goal.loop-handle-preserved
loop-handle-preserved g c =
    let promise = c.in-Some.handle.promise in
    let all = all_popped c.loop-handle.left.items c.pop.new.self.items c.in-Some.handle
    (λ h. (h.promise.channels.now ≡ c.args.self.now.channels.now) × (h.promise.gate.now ≡ c.args.self.now.gate.now) × (option_copied h.promise.board ≡ option_copied c.args.self.now.board)) c.in-Some.ensures.items c.loop-handle.invariant.promised in
    let k = keeps_there g.G.Gate.may_stop promise.channels.now c.args.self.now.channels.now promise.gate.now c.args.self.now.gate.now (option_copied promise.board) (option_copied c.args.self.now.board) promise.worker.value c.join-worker.result all.1.0 all.1.1 all.1.2 c.join-worker.ensures in
    record {
      promised = all.0;
      rest = λ workers given h.
          c.take_in.ensures workers given _ _ _ _ k.shows
          (ends_last (λ h. h.promise.worker.value) (λ m n l. HasRest c.args.self.now.channels.now (option_copied c.args.self.now.board) (g.G.Gate.may_stop c.args.self.now.gate.now) workers given m n l c.loop-handle.rest)
          c.loop-handle.left.items c.pop.new.self.items c.in-Some.handle c.join-worker.result c.in-Some.ensures.items k.fetchers k.writers (c.loop-handle.invariant.rest workers given h));
    }

pub returns : goal.returns
returns g c workers given h =
    let none : vec_len c.loop-handle.left ≡ 0 = search rules in
    none_left (λ h. h.promise.worker.value) (λ m n l. HasRest c.args.self.now.channels.now (option_copied c.args.self.now.board) (g.G.Gate.may_stop c.args.self.now.gate.now) workers given m n l c.loop-handle.rest)
    c.loop-handle.left.items (nil_from_length c.loop-handle.left.items (omega (arith, none, c.loop-handle.left.ok.0))) (c.loop-handle.invariant.rest workers given h)
