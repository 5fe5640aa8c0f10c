use Rattle.proof_prelude.proofs.{sym, ap, ◌∙◌}
use Rattle.couch_base.specs.{DatabaseValue}
use Rattle.repl_world.proofs.{new_refused, new_tied}
use Rattle.repl_world.proofs.world.World.new.Goals as goal

pub returns-then-uuid-clause-answer : goal.returns-then-uuid-clause-answer
returns-then-uuid-clause-answer g c =
    let uuid_of = λ (d : DatabaseValue). d.uuid in
    new_refused c.args.source c.args.target c.args.chosen (ap uuid_of (sym c.db.ensures.value) ∙ sym c.uuid.ensures ∙ c.if-uuid.true ∙ c.uuid-2.ensures ∙ ap uuid_of c.db-2.ensures.value)

pub returns-clause-tied : goal.returns-clause-tied
returns-clause-tied g c = new_tied c.args.source.1 c.args.target.1 c.args.chosen c.new-bag.result c.new.result.items c.new-bag.ensures c.new.ensures.items
