use Rattle.proof_prelude.proofs.{◌≡◌, ◌<◌, Option, Some, None, IfSome, sym, ap, subst, ◌∙◌, arith}
use Rattle.doc_json.specs.Document.{Document}
use Rattle.rev_tree.specs.{IsTree}
use Rattle.couch_base.specs.{DatabaseValue, with_tree, most, IsDocumentTree, IsMadeOf, PreparedTree, content_of, found, merged_document, no_bodies}
use Rattle.rev_tree.specs.{merged, no_revisions}
use Rattle.couch_base.proofs.{left, taken}
use Rattle.couch_base.proofs.database.Database.put_prepared.Goals as goal

-- the tree that is taken out is the document's
made_of : (o : Option PreparedTree) (m : PreparedTree) (d : Document) → Some m ≡ o → IfSome o (IsMadeOf d) → IsMadeOf d m
made_of o m d took made = subst (λ (p : Option PreparedTree). IfSome p (IsMadeOf d)) (sym took) made

pub add_prepared-requires-clause-document : goal.add_prepared-requires-clause-document
add_prepared-requires-clause-document c =
    let d = c.args.doc.now in
    let made = made_of c.args.made.now c.in-Some.prepared d c.in-Some.ensures.value c.requires in
    let same = c.set_origin.ensures.origin d.ancestry (content_of d.deleted d.body) made.origin made.tree in
    subst IsDocumentTree (sym same)
    (merged_document no_revisions d.ancestry (content_of d.deleted d.body) c.args.origin c.ancestry.ensures.document.ancestry c.ancestry.ensures.document.body no_bodies
    (subst IsTree same c.set_origin.ensures.tree))

pub returns-clause-put : goal.returns-clause-put
returns-clause-put c put =
    let d = c.args.doc.now in
    let t = c.self.inside.table in
    let made = made_of c.args.made.now c.in-Some.prepared d c.in-Some.ensures.value c.requires in
    let same = c.set_origin.ensures.origin d.ancestry (content_of d.deleted d.body) made.origin made.tree in
    let written = c.add_prepared.ensures.put put in
    let absent : found t.entries c.in-Some.prepared.key ≡ None = written.0 in
    let room : c.args.self.now.update_seq < most = subst (λ (v : DatabaseValue). v.update_seq < most) c.self.view_is (omega (arith, c.last.ensures.seq, c.if-last-ge-MOST_SEQUENCE.false)) in (
      taken c.self.inside.uuid c.self.inside.life t c.args.self.now c.self.view_is c.last.ensures.kept d c.ancestry.ensures.document.ancestry c.in-Some.prepared.key made.key absent room,
      written.1.value c.self.inside.uuid c.self.inside.life
          ∙ ap (λ (v : DatabaseValue). with_tree v c.in-Some.prepared.key c.set_origin.new.self) c.self.view_is
          ∙ left c.self.inside.uuid c.self.inside.life t c.args.self.now c.self.view_is c.last.ensures.kept d c.ancestry.ensures.document.ancestry c.in-Some.prepared.key made.key absent c.set_origin.new.self c.args.origin same room,
    )
