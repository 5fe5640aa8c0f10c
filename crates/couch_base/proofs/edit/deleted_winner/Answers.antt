use Rattle.proof_prelude.proofs.{Ok, Err, cond, sym, ap, ◌∙◌}
use Rattle.rev_tree.specs.{first_of, leaves}
use Rattle.couch_base.specs.declared.fault.BaseFault.TheVariants as faults
use Rattle.couch_base.proofs.{all_deleted}
use Rattle.couch_base.proofs.edit.deleted_winner.Goals as goal

pub returns-then-is_deleted : goal.returns-then-is_deleted
returns-then-is_deleted c =
    let first = sym c.winner.ensures ∙ c.in-Some.is in
    let all = all_deleted c.args.tree.now c.in-Some.winner first ∙ sym c.is_deleted.ensures ∙ c.if-is_deleted.true in
    sym (ap (λ o. Ok o) first) ∙ sym (ap (λ b. cond b (Ok (first_of (leaves c.args.tree.now))) (Err faults.Conflict)) all)
