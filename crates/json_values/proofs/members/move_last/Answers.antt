use Rattle.proof_prelude.proofs.{◌≡◌, ◌+◌, ◌-◌, ◌<◌, [], ◌∷◌, ◌++◌, length, take, drop, refl, ap, ◌∙◌, arith, length-append, swap}
use Rattle.json_values.proofs.{moved_down, stays_last}
use Rattle.json_values.proofs.members.move_last.Goals as goal

pub loop-i-init : goal.loop-i-init
loop-i-init g c =
    let size : length c.args.entries.now.items ≡ c.len-i.result - 1 + 1 = omega arith in
    (λ es last is. stays_last c.args.entries.now.items es last (c.len-i.result - 1) size is, omega arith, omega arith, refl)

pub loop-i-preserved : goal.loop-i-preserved
loop-i-preserved g c =
    let l = c.loop-i in
    let j = l.i - 1 in
    let next : l.i ≡ j + 1 = omega arith in
    let kept : length c.swap.new.self.items ≡ length l.entries.items = first_of (omega arith, grind arith) in (
      λ es last is.
          let within : j < length es = omega (arith, ap length is, length-append es (last ∷ []), l.invariant.2, l.invariant.3) in
          c.swap.ensures.items ∙ ap (λ m. swap m j l.i) (l.invariant.0 es last is) ∙ ap (λ k. swap (take k es ++ last ∷ drop k es) j k) next ∙ moved_down es last j within,
      omega arith,
      omega (arith, kept),
      kept ∙ l.invariant.3,
    )

pub returns : goal.returns
returns g c = λ es last is. let there : c.loop-i.i ≡ c.args.place = omega arith in c.loop-i.invariant.0 es last is ∙ ap (λ k. take k es ++ last ∷ drop k es) there
