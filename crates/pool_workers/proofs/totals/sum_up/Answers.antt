use Rattle.proof_prelude.proofs.{◌≡◌, IfSome, Option, None, refl, sym, ◌∙◌, subst, sum, length, option_copied, arith, eqb-true}
use Rattle.crossbeam_channel.specs.Claims.{view}
use Rattle.pool_workers.specs.{AllowsOn, Allows, MayFill, amounts, TargetKeeps, Halt, FetchedAll, WrittenAll}
use Rattle.pool_workers.proofs.{merged_halt}
use Rattle.pool_workers.proofs.totals.sum_up.Goals as goal

pub returns : goal.returns
returns g c =
    let Allowed : Option Halt → Type 0 = λ o. IfSome o (Allows (g.G.Gate.may_stop c.args.gate.now)) in
    let MayAt : Option Halt → Type 0 = λ o. IfSome o (AllowsOn (MayFill (option_copied c.args.board)) (g.G.Gate.may_stop c.args.gate.now)) in
    let same = c.each_once.ensures.same in
    record {
      target = (c.close-target.ensures.0, c.each_once.new.ended.all.amount, c.close-target.ensures.1, c.close-target.ensures.2);
      sum =
          λ none equal.
          let v = view c.each_once.new.ended.parcels in
          let m = c.merge-fault.ensures.none none in
          let f = c.each_once.ensures.tells.0 m.1 in
          let w = c.each_once.ensures.tells.1 m.2 in
          let lengths : length v.sent ≡ length v.got = omega (arith, f.1, w.1, eqb-true _ _ equal) in
          let agree : amounts v.sent ≡ amounts v.got = c.each_once.ensures.agree lengths (λ n a. a) in (
            c.close-target.ensures.0,
            c.close-target.ensures.1,
            subst (λ n. TargetKeeps g.F.WriteFilter.refuses g.S.SourceBrand.source g.S.SourceBrand.plan g.T.TargetBrand.given c.close-target.ensures.0 n c.close-target.ensures.1 c.close-target.result) (omega (arith, f.0, w.0, agree)) c.close-target.ensures.2,
          );
      amount =
          λ none equal.
          let v = view c.each_once.new.ended.parcels in
          let m = c.merge-fault.ensures.none none in
          let f = c.each_once.ensures.tells.0 m.1 in
          let w = c.each_once.ensures.tells.1 m.2 in
          let lengths : length v.sent ≡ length v.got = omega (arith, f.1, w.1, eqb-true _ _ equal) in
          let agree : amounts v.sent ≡ amounts v.got = c.each_once.ensures.agree lengths (λ n a. a) in
          let whole : c.each_once.new.ended.all.amount ≡ sum c.each_once.new.ended.fetched.counts.items = omega (arith, f.0, w.0, agree) in (
            subst (λ (w : WrittenAll). w.stopped ≡ None) same.3 m.2,
            (λ i. (sym same.0 i).amount) ∙ whole,
          );
      seats = refl;
      halted = merged_halt (MayFill (option_copied c.args.board)) (g.G.Gate.may_stop c.args.gate.now) _ _ _ _ c.merge-fault.ensures.some (subst Allowed (sym same.1) c.requires.halted.0)
          (subst (λ (f : FetchedAll). Allowed f.stopped) (sym same.2) c.requires.halted.1)
          (subst (λ (w : WrittenAll). MayAt w.stopped) (sym same.3) c.requires.halted.2);
    }
