use Rattle.proof_prelude.proofs.{◌≡◌, ◌∙◌, Ok, Some, sym, ap, subst, same_Some}
use Rattle.indexmap.proofs.MapLemmas.{OnOk-map}
use Rattle.rev_tree.specs.{merged, merge_answer}
use Rattle.rev_tree.specs.declared.fault.Merged.TheVariants.{Changed}
use Rattle.couch_base.specs.{Id, tree_of, documents_of, IsPlace, IsWritten, Kept}
use Rattle.couch_base.proofs.table.Table.write.Goals as goal

pub change-requires-clause-change : goal.change-requires-clause-change
change-requires-clause-change c = λ id there.
    let here = subst (IsPlace c.args.self.now.entries c.args.id.now) c.in-Some.is c.requires.place in
    let same : c.args.id.now ≡ id = ap (λ (e : Id × Kept). e.0) (same_Some (c.args.id.now, here.there.0) (id, there.there.0) (sym here.there.1 ∙ there.there.1)) in
    subst (λ (q : Id). merge_answer (tree_of (documents_of c.args.self.now) q) c.args.ancestry.now ≡ Ok Changed) same c.requires.change

pub returns-in-Some-clause-ok : goal.returns-in-Some-clause-ok
returns-in-Some-clause-ok c =
    OnOk-map c.change.result _ _
    (λ (done : (id : Id) → IsPlace c.args.self.now.entries id (Some c.in-Some.place) → IsWritten c.args.self.now c.change.new.self id (merged (tree_of (documents_of c.args.self.now) id) c.args.ancestry.now c.args.content c.args.origin)).
    done c.args.id.now (subst (IsPlace c.args.self.now.entries c.args.id.now) c.in-Some.is c.requires.place)) c.change.ensures.ok
