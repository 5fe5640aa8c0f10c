use Rattle.proof_prelude.proofs.{◌≡◌, ◌++◌, ◌∷◌, ◌∙◌, [], ap, arith, filter, filter_same, nat_lt, rules, sym}
use Rattle.diagrams.proofs.OpenRows.{edges_none, edges_some}
use Rattle.diagrams.proofs.rows.move_up.Goals as goal

pub returns-in_ok-push : goal.returns-in_ok-push
returns-in_ok-push c =
    let below = c.args.edges.now.items in
    let hang = c.args.hang in
    let kept : c.retain.new.self.items ≡ filter (λ g. nat_lt g hang) below = filter_same _ (λ g. nat_lt g hang) _ (λ x b f' k. search rules) _ _ c.retain.ensures.filtered in
    c.in_ok-push.ensures.items ∙ ap (λ ys. ys ++ hang ∷ []) kept ∙ sym (edges_some below hang (omega arith))

pub returns-else-hang-gt0 : goal.returns-else-hang-gt0
returns-else-hang-gt0 c =
    let below = c.args.edges.now.items in
    let hang = c.args.hang in
    let kept : c.retain.new.self.items ≡ filter (λ g. nat_lt g hang) below = filter_same _ (λ g. nat_lt g hang) _ (λ x b f' k. search rules) _ _ c.retain.ensures.filtered in
    kept ∙ sym (edges_none below hang (omega arith))
