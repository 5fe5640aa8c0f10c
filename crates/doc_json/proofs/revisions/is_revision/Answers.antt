use Rattle.proof_prelude.proofs.{◌&&◌, nat_eq, ap, sym, ◌∙◌, pointwise, eq-eqb}
use Rattle.rev_core.specs.{rev_eq_is}
use Rattle.doc_json.proofs.revisions.is_revision.Goals as goal

pub returns-then-from-generation : goal.returns-then-from-generation
returns-then-from-generation c =
    let r = c.args.rev in
    let generation = c.args.generation in
    c.eq-same_sig.ensures ∙ ap (λ s. pointwise nat_eq s c.args.sig) c.sig.ensures
    ∙ ap (λ t. t && pointwise nat_eq r.sig c.args.sig) (sym (eq-eqb r.generation generation (sym c.generation.ensures.part ∙ sym c.from.ensures ∙ c.if-from-generation.true)))
    ∙ rev_eq_is r (record { generation = generation; sig = c.args.sig })
