use Rattle.proof_prelude.proofs.{◌≡◌, Some, true, ap, sym, ◌∙◌, bytes_eq, eq_by_cmp, slice_get, slice_get-get_or}
use Rattle.rev_core.specs.{head_of, is_among, rev_cmp, rev_tie_is}
use Rattle.doc_json.specs.Document.{Document}
use Rattle.rev_tree.specs.Tree.{has}
use Rattle.couch_base.specs.{Id, tree_of, id_is}
use Rattle.repl_peer.proofs.{Among-at, head_among}
use Rattle.repl_peer.proofs.session.rows.brings.Goals as goal

pub returns-then-eq : goal.returns-then-eq
returns-then-eq c = λ given db has_all.
    let docs = c.args.docs.now in
    let d : Document = c.in-Some.doc.now in
    let at : slice_get docs c.args.i ≡ Some d = slice_get-get_or docs c.args.i d c.in-Some.ensures.lookup.3.0 ∙ ap (λ (x : Document). Some x) (sym c.in-Some.ensures.lookup.1) in
    let eq : bytes_eq c.id.result.now c.args.id.now ≡ true = sym c.eq.ensures ∙ c.if-eq.true in
    let same : d.id ≡ c.args.id.now = sym c.id.ensures.part ∙ id_is c.id.result.now c.args.id.now eq in
    let head : head_of d.ancestry ≡ Some c.head.result = ap head_of (sym c.ancestry.ensures.part) ∙ c.head.ensures in
    let tie : eq_by_cmp rev_cmp c.head.result c.args.rev ≡ true = sym c.eq-then-eq.ensures ∙ given in
    let among : is_among c.args.rev d.ancestry ≡ true = head_among d.ancestry c.head.result c.args.rev head (rev_tie_is c.head.result c.args.rev tie) in
    ap (λ (i : Id). has (tree_of db.docs i) c.args.rev) (sym same) ∙ has_all d (Among-at docs c.args.i d at) c.args.rev among
