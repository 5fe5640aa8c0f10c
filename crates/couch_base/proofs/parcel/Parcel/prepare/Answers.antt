use Rattle.proof_prelude.proofs.{sym, subst}
use Rattle.couch_base.specs.{AreMade}
use Rattle.couch_base.proofs.parcel.Parcel.prepare.Goals as goal

pub make_missing-requires : goal.make_missing-requires
make_missing-requires c = subst (λ docs. AreMade docs c.self.inside.made.items) (sym c.deref.ensures.value) c.self.invariant.1

pub invariant_of-self : goal.invariant_of-self
invariant_of-self c = (c.self.invariant.0, subst (λ docs. AreMade docs c.make_missing.new.made.items) c.deref.ensures.value c.make_missing.ensures)
