use Rattle.proof_prelude.proofs.{sym, ap, ◌∙◌}
use Rattle.couch_base.specs.{tree_in, TableValue, documents_of, feed_of, found}
use Rattle.couch_base.proofs.{none_in, found_in}
use Rattle.couch_base.proofs.table.Table.tree.Goals as goal

pub returns-in-Some-clause-value : goal.returns-in-Some-clause-value
returns-in-Some-clause-value c =
    let es = c.self.inside.docs.entries in
    let is = sym c.in-Some.ensures.value in
    let table = c.self.invariant.table in
    sym (ap (λ (v : TableValue). tree_in (documents_of v) c.args.id.now) (sym c.self.view_is) ∙ found_in (found es) (feed_of es c.self.inside.index.items) c.args.id.now c.in-Some.kept.now is (table.indexed c.args.id.now c.in-Some.kept.now is))

pub returns-in-None-clause-value : goal.returns-in-None-clause-value
returns-in-None-clause-value c =
    let es = c.self.inside.docs.entries in
    sym (ap (λ (v : TableValue). tree_in (documents_of v) c.args.id.now) (sym c.self.view_is) ∙ none_in (found es) (feed_of es c.self.inside.index.items) c.args.id.now c.self.invariant.table.held (sym c.in-None.ensures.value))

pub returns-in-Some-clause-document : goal.returns-in-Some-clause-document
returns-in-Some-clause-document c = c.self.invariant.table.trees c.args.id.now c.in-Some.kept.now (sym c.in-Some.ensures.value)
