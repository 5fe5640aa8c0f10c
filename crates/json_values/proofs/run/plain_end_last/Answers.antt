use Rattle.proof_prelude.proofs.{◌≡◌, ◌+◌, ◌-◌, ◌/◌, ◌^◌, ◌<◌, length, refl, sym, ap, subst, ◌∙◌, arith}
use lib.Count.{count_trailing_zeros}
use Rattle.json.specs.Run.{is_stop, is_plain}
use Rattle.json_values.proofs.{end_through, end_stops}
use Rattle.json_values.proofs.run.plain_end_last.Goals as goal

pub returns-then-found-ne0 : goal.returns-then-found-ne0
returns-then-found-ne0 c =
    let t = c.args.text.now in
    let start = length t - 16 in
    let k = c.args.from - start in
    let mask = c.stops_16 in
    let some : 0 < mask.result / 2 ^ k = omega arith in
    let run = end_stops is_stop is_plain (λ x. refl) t start 16 c.args.from (omega arith) (omega arith) (omega arith) (omega arith) (subst (λ n. 0 < n / 2 ^ k) mask.ensures some) in
    ap (λ n. c.args.from + count_trailing_zeros 64 (n / 2 ^ k)) mask.ensures ∙ ap (λ n. c.args.from + n) (sym run)

pub returns : goal.returns
returns c =
    let t = c.args.text.now in
    let start = length t - 16 in
    let k = c.args.from - start in
    let mask = c.stops_16 in
    let none : mask.result / 2 ^ k ≡ 0 = omega arith in
    sym (end_through is_stop is_plain (λ x. refl) t start 16 c.args.from (omega arith) (omega arith) (omega arith) (subst (λ n. n / 2 ^ k ≡ 0) mask.ensures none))
