use Rattle.proof_prelude.proofs.{◌≡◌, List, ◌∷◌, ◌++◌, [], None, rules, bytes_eq, ◌∙◌}
use Rattle.indexmap.specs.IndexMap.{insert_entry}
use Rattle.couch_base.specs.{Id, Kept, found}
use Rattle.couch_base.proofs.{inserted}
use Rattle.couch_base.proofs.table.append.Goals as goal

-- what is inserted as new is last
last : (docs new : List (Id × Kept)) (id : Id) (k : Kept) → found docs id ≡ None → new ≡ insert_entry bytes_eq docs id k → (found docs id ≡ None) × (new ≡ docs ++ (id, k) ∷ [])
last docs new id k absent put = (absent, put ∙ inserted docs id k absent)

pub returns-in-Vacant-clause-put : goal.returns-in-Vacant-clause-put
returns-in-Vacant-clause-put c = λ _. last c.args.docs.now.entries _ c.args.key c.args.kept (search rules) (search rules)
