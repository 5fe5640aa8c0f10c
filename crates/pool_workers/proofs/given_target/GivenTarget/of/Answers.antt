use Rattle.proof_prelude.proofs.{◌≡◌, eq-eqb, is_some, length, ne_eqb, sym, ap, ◌∙◌, subst, same_Some, Option, IfSome}
use Rattle.couch_base.specs.{DatabaseValue}
use Rattle.pool_workers.proofs.{unchanged}
use Rattle.pool_workers.proofs.given_target.GivenTarget.of.Goals as goal
use Rattle.pool_workers.proofs.given_target.GivenTarget.of.Goals.{then-update_seq-eq0, else-update_seq-eq0}

pub invariant_of-result : goal.invariant_of-result
invariant_of-result g c = record {
  empty = λ x e.
      elim c.if-update_seq-eq0.branch [
        | then-update_seq-eq0 w ↦
            let none = unchanged c.db-db.result.now c.update_seq.ensures.law (sym c.update_seq.ensures.seq ∙ w.if-update_seq-eq0.true) in (
              ap (λ (db : DatabaseValue). length db.docs) (sym (same_Some _ x (sym w.none-is ∙ e)) ∙ w.new.ensures.value),
              λ t f. ap (λ (v : _). length v.0.1.db.docs) (sym (same_Some _ t (sym c.requires ∙ f))) ∙ ap (λ (db : DatabaseValue). length db.docs) (sym c.db-db.ensures.value) ∙ ap length none,
            )
        | else-update_seq-eq0 w ↦ absurd (subst (λ (o : Option DatabaseValue). IfSome o (λ _. ⊥)) (sym w.none-is ∙ e) tt)
      ];
}

pub returns : goal.returns
returns g c =
    let seq : c.update_seq.result ≡ c.args.target.now.1.db.update_seq =
    c.update_seq.ensures.seq ∙ ap (λ (db : DatabaseValue). db.update_seq) c.db-db.ensures.value in
    elim c.if-update_seq-eq0.branch [
      | then-update_seq-eq0 w ↦ ap is_some w.none-is ∙ sym (eq-eqb _ _ (sym seq ∙ w.if-update_seq-eq0.true))
      | else-update_seq-eq0 w ↦ ap is_some w.none-is ∙ sym (ne_eqb _ _ (λ e. w.if-update_seq-eq0.false (seq ∙ e)))
    ]
