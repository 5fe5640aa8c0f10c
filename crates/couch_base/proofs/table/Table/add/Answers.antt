use Rattle.proof_prelude.proofs.{◌≡◌, ◌+◌, ◌<◌, ◌++◌, ◌∷◌, [], None, length, ◌∙◌, sym, ap, subst, rules, bytes_eq}
use Rattle.indexmap.specs.IndexMap.{insert_entry}
use Rattle.rev_tree.specs.{TreeValue, IsTree, merged, merge_answer, no_revisions}
use Rattle.couch_base.specs.{Id, IsDocumentTree, tree_of, most, Kept, merged_document, no_bodies, TableValue, documents_of, found, tree_at, IsWritten}
use Rattle.couch_base.proofs.{tree_of-documents_of, inserted, new_changes, added}
use Rattle.couch_base.proofs.table.Table.add.Goals as goal

pub merge_change-requires : goal.merge_change-requires
merge_change-requires c = ap (λ t. merge_answer t c.args.ancestry.now) c.new-tree.ensures ∙ new_changes c.args.ancestry.now c.revs-revs.ensures.ancestry

-- the table afterwards
made : (c : goal.After-self-1) → IsWritten c.args.self.now (record { entries = c.fit.new.docs.entries; rows = c.note.new.index.items; last = c.self.inside.last + 1 }) c.args.id.now (merged (tree_of (documents_of c.args.self.now) c.args.id.now) c.args.ancestry.now c.args.content c.args.origin)
made c =
    let id = c.args.id.now in
    let tree = c.merge_change.new.self in
    let t : TableValue = record { entries = c.self.inside.docs.entries; rows = c.self.inside.index.items; last = c.self.inside.last } in
    let new : TableValue = record { entries = c.fit.new.docs.entries; rows = c.note.new.index.items; last = c.self.inside.last + 1 } in
    let kept : Kept = record { seq = t.last + 1; tree = tree } in
    let merge : TreeValue → TreeValue = λ x. merged x c.args.ancestry.now c.args.content c.args.origin in
    let room : t.last < most = subst (λ (v : TableValue). v.last < most) (sym c.self.view_is) c.requires.room in
    let absent : found t.entries id ≡ None = subst (λ (v : TableValue). found v.entries id ≡ None) (sym c.self.view_is) c.requires.absent in
    let is : tree ≡ merge no_revisions = c.in_ok-merge_change.ensures.ok ∙ ap merge c.new-tree.ensures in
    let lawful = merged_document no_revisions c.args.ancestry.now c.args.content c.args.origin c.revs-revs.ensures.ancestry c.requires.body no_bodies (subst IsTree is c.in_ok-merge_change.ensures.tree) in
    let grown : new.entries ≡ t.entries ++ (id, kept) ∷ [] =
    c.fit.ensures
    ∙ c.in_ok-insert.ensures.entries
    ∙ ap (λ es. insert_entry bytes_eq es c.in_ok-key.key kept) c.in_ok-reserve.ensures.entries
    ∙ ap (λ (k : Id). insert_entry bytes_eq t.entries k kept) c.in_ok-key.ensures.copied
    ∙ inserted t.entries id kept absent in
    let longer : new.rows ≡ t.rows ++ (t.last + 1, length t.entries) ∷ [] =
    c.in_ok-note.ensures.ok ∙ ap (λ n. t.rows ++ (t.last + 1, n) ∷ []) (c.len.ensures.len ∙ ap (λ es. length es) c.in_ok-reserve.ensures.entries) in
    let whole = added t c.self.invariant id tree new.entries new.rows room (subst IsDocumentTree (sym is) lawful) absent (search rules) grown longer in
    subst (λ (v : TableValue). IsWritten v new id (merge (tree_of (documents_of v) id))) c.self.view_is
    (subst (IsWritten t new id) (is ∙ ap merge (sym (tree_of-documents_of t c.self.invariant id ∙ ap tree_at absent))) whole)

pub invariant_of-self-2 : goal.invariant_of-self-2
invariant_of-self-2 c = (made c).kept

pub returns-clause-ok : goal.returns-clause-ok
returns-clause-ok c = made c
