use Rattle.proof_prelude.proofs.{◌≡◌, ◌/◌, length, nat_lt, true, cond, rules, sym, ap, ◌∙◌, arith, filter_same}
use Rattle.couch_base.specs.{is_live, live}
use Rattle.couch_base.proofs.table.sweep.Goals as goal

pub returns-then-len : goal.returns-then-len
returns-then-len c =
    let docs = c.args.docs.now.entries in
    let rows = c.args.index.now.items in
    let many : nat_lt (length docs) (length rows / 2) ≡ true = grind (arith, c.if-len.true, c.len.ensures.len, c.len-2.ensures) in
    filter_same _ (is_live docs) _ (λ x b f' k. search rules) _ _ c.retain.ensures.filtered
    ∙ sym (ap (λ b. cond b (live docs rows) rows) many)
