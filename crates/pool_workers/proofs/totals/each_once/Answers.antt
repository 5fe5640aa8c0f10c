use Rattle.proof_prelude.proofs.{◌≡◌, ◌≤◌, ℕ, length, sym, subst, refl}
use Rattle.crossbeam_channel.specs.Claims.{view}
use Rattle.pool_workers.specs.{times, weigh, names, WindowView, ParcelView}
use Rattle.pool_workers.proofs.WindowRule as window
use Rattle.pool_workers.proofs.ParcelRule as parcel
use Rattle.pool_workers.proofs.Steps.{settles}
use Rattle.pool_workers.proofs.{taken_once, got_once}
use Rattle.pool_workers.proofs.totals.each_once.Goals as goal

pub learn_as-requires-clause-rule : goal.learn_as-requires-clause-rule
learn_as-requires-clause-rule g c = window.learns _ _ c.requires.whole.0

pub learn_as-requires-2-clause-rule : goal.learn_as-requires-2-clause-rule
learn_as-requires-2-clause-rule g c = parcel.learns _ _ c.requires.whole.1

pub returns : goal.returns
returns g c =
    let v = view c.args.ended.now.windows in
    let p = view c.args.ended.now.parcels in
    let w = c.learn_as.ensures.rule in
    let s = c.learn_as-2.ensures.rule in
    let once : (k : ℕ) → times k v.taken ≤ 1 = taken_once v w.0 w.1 in
    let sv = c.learn_as.ensures.channel.2 in
    let sp = c.learn_as-2.ensures.channel.2 in
    record {
      taken = λ k. subst (λ (y : WindowView). times k y.taken ≤ 1) (sym sv) (once k);
      got = λ none k. subst (λ (y : ParcelView). times k (names y.got) ≤ 1) (sym sp) (got_once p s.0 v.taken s.1 (c.requires.tells.0 none).2 once k);
      agree = subst (λ (y : ParcelView). length y.sent ≡ length y.got → (h : ℕ → ℕ → ℕ) → weigh h y.sent ≡ weigh h y.got) (sym sp) (λ same. settles p s.0 s.1 same);
      tells = rw (sv, sp) c.requires.tells;
      same = (refl, refl, refl, refl);
    }
