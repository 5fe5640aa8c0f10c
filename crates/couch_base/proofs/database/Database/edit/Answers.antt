use Rattle.proof_prelude.proofs.{◌+◌, ◌<◌, arith, sym, ap, ◌∙◌}
use Rattle.rev_tree.specs.{ContentValue, merged, merge_answer}
use Rattle.couch_base.specs.{DatabaseValue, tree_of, with_tree, most}
use Rattle.couch_base.proofs.{lawful, edited_from, new_revision_changes, after_edit-changed}
use Rattle.couch_base.proofs.database.Database.edit.Goals as goal

pub write-requires-clause-change : goal.write-requires-clause-change
write-requires-clause-change c =
    let db = c.args.self.now in
    let id = c.args.id.now in
    let absent = sym c.has.ensures ∙ c.if-has.false in
    let revs = c.in_ok-ancestry.ancestry in
    let e = edited_from db id c.args.parent c.args.deleted c.args.body.now c.in_ok-before.before revs c.head-rev.result c.in_ok-before.ensures c.in_ok-ancestry.ensures c.head-rev.ensures absent in
    ap (λ (v : DatabaseValue). merge_answer (tree_of v.docs id) revs) c.self.view_is ∙ ap (merge_answer (tree_of db.docs id)) e.whole ∙ new_revision_changes db c.update_seq-update_seq.ensures.law id c.head-rev.result c.in_ok-before.before absent

pub returns-clause-ok : goal.returns-clause-ok
returns-clause-ok c =
    let db = c.args.self.now in
    let id = c.args.id.now in
    let absent = sym c.has.ensures ∙ c.if-has.false in
    let room : db.update_seq < most = omega (arith, c.update_seq-update_seq.ensures.seq, c.if-update_seq-ge-MOST_SEQUENCE.false) in
    let revs = c.in_ok-ancestry.ancestry in
    let e = edited_from db id c.args.parent c.args.deleted c.args.body.now c.in_ok-before.before revs c.head-rev.result c.in_ok-before.ensures c.in_ok-ancestry.ensures c.head-rev.ensures absent in
    c.in_ok-write.ensures.ok.value c.self.inside.uuid c.self.inside.life
    ∙ ap (λ (v : DatabaseValue). with_tree v id (merged (tree_of v.docs id) revs c.in_ok-content.content c.args.origin)) c.self.view_is
    ∙ ap (λ (b : ContentValue). with_tree db id (merged (tree_of db.docs id) revs b c.args.origin)) c.in_ok-content.ensures.content
    ∙ sym (after_edit-changed db c.update_seq-update_seq.ensures.law id c.args.parent c.args.deleted c.args.body.now c.args.origin c.in_ok-before.before revs c.head-rev.result e absent room)

pub returns-clause-seq : goal.returns-clause-seq
returns-clause-seq c =
    ap (λ (v : DatabaseValue). v.update_seq) (c.in_ok-write.ensures.ok.value c.self.inside.uuid c.self.inside.life)
    ∙ ap (λ (v : DatabaseValue). v.update_seq + 1) c.self.view_is

pub returns-clause-law : goal.returns-clause-law
returns-clause-law c = lawful c.self.inside.uuid c.self.inside.life c.write.new.self c.self.invariant c.in_ok-write.ensures.ok.kept
