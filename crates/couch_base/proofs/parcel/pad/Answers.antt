use Rattle.proof_prelude.proofs.{◌+◌, ◌∷◌, [], None, sym, ap, ◌∙◌, subst, length, length-append, arith}
use Rattle.couch_base.specs.{AreMade}
use Rattle.couch_base.proofs.{made_none}
use Rattle.couch_base.proofs.parcel.pad.Goals as goal

pub loop-i-preserved : goal.loop-i-preserved
loop-i-preserved c = record {
  made = λ docs old. subst (AreMade docs) (sym c.in_ok-push.ensures.items) (made_none docs c.loop-i.made.items (c.loop-i.invariant.made docs old));
  long = let more = ap length c.in_ok-push.ensures.items ∙ length-append c.loop-i.made.items (None ∷ []) in omega (arith, more, c.loop-i.invariant.long);
}
