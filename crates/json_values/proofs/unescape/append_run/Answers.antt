use Rattle.proof_prelude.proofs.{◌≡◌, ◌+◌, ◌-◌, ◌++◌, length, take, drop, sym, ap, ◌∙◌, arith, take-add, take_more_put_chunk, length-chunk, length-put_chunk, append_assoc, drop-drop}
use lib.Lanes.{chunk}
use Rattle.json_values.proofs.{cut_back}
use Rattle.json_values.proofs.unescape.append_run.Goals as goal

pub loop-done-preserved : goal.loop-done-preserved
loop-done-preserved c =
    let a = c.args in
    let l = c.loop-done in
    let v = chunk (a.from + l.done) 32 a.text.now in
    let long : length v ≡ 32 = length-chunk (a.from + l.done) 32 a.text.now (omega arith) in (
      take_more_put_chunk (a.at + l.done) l.out v (a.at + (l.done + 32)) (omega arith) (omega arith) ∙ ap (λ x. x ++ v) l.invariant.0 ∙ append_assoc (take a.at a.out.now) _ v
          ∙ ap (λ x. take a.at a.out.now ++ x) (ap (λ x. take l.done (drop a.from a.text.now) ++ take 32 x) (sym (drop-drop l.done a.from a.text.now)) ∙ sym (take-add l.done 32 (drop a.from a.text.now))),
      omega arith,
      length-put_chunk (a.at + l.done) l.out v ∙ l.invariant.2,
    )

pub returns-clause-written : goal.returns-clause-written
returns-clause-written c =
    let a = c.args in
    let l = c.loop-done in
    cut_back l.out a.out.now (drop a.from a.text.now) a.at l.done (a.to - a.from) (omega arith) (omega arith) l.invariant.0
