use Rattle.proof_prelude.proofs.{◌≡◌, ◌++◌, ℕ, List, [], codes, decimal, refl, sym, ap, subst, ◌∙◌, flat_map}
use Rattle.couch_base.specs.{DatabaseValue}
use Rattle.repl_peer.specs.{PeerValue}
use Rattle.command_api.specs.{last_line}
use Rattle.read_commands.specs.{rows_left, leaf_lines, Walk}
use Rattle.read_commands.proofs.{left_found, left_some}
use Rattle.command_api.proofs.{piece_on, piece_last}
use Rattle.read_commands.proofs.docs.DocsRest.more.Goals as goal

abbrev docs_rest : DatabaseValue → Walk → List ℕ
docs_rest d walk = flat_map (leaf_lines d) (rows_left d walk) ++ last_line d.update_seq

pub returns-then-branch-clause-piece : goal.returns-then-branch-clause-piece
returns-then-branch-clause-piece c =
    let s = c.args.databases.now in
    let d = c.db-database.result.now in
    let old = c.args.piece.now.items in
    let new = c.fill.new.piece.items in
    let from = c.args.self.now.walk in
    let on = c.fill.new.walk in
    let step = piece_on (leaf_lines d) (leaf_lines d) old new (last_line d.update_seq) (rows_left d from) (rows_left d on) c.in_ok-fill.ensures.text refl in
    ap (λ t. new ++ t) (left_found s (λ (l : PeerValue). docs_rest l.db on) (sym c.as_str.ensures.value) (sym c.in-Some.ensures))
    ∙ subst (λ (x : DatabaseValue). new ++ docs_rest x on ≡ old ++ docs_rest x from) c.db-database.ensures.value step
    ∙ ap (λ t. old ++ t) (sym (left_found s (λ (l : PeerValue). docs_rest l.db from) (sym c.as_str.ensures.value) (sym c.in-Some.ensures)))

pub returns-clause-piece : goal.returns-clause-piece
returns-clause-piece c =
    let s = c.args.databases.now in
    let d = c.db-database.result.now in
    let old = c.args.piece.now.items in
    let new = c.fill.new.piece.items in
    let end = c.push_last.new.text.items in
    let from = c.args.self.now.walk in
    let on = c.fill.new.walk in
    let last = piece_last (leaf_lines d) (leaf_lines d) old new end (last_line d.update_seq) (rows_left d from) (rows_left d on) c.in_ok-fill.ensures.text (c.in_ok-fill.ensures.end c.if-branch.false) (c.in_ok-push_last.ensures ∙ ap (λ n. new ++ last_line n) c.update_seq.ensures.seq) in
    subst (λ (x : DatabaseValue). end ++ [] ≡ old ++ docs_rest x from) c.db-database.ensures.value last
    ∙ ap (λ t. old ++ t) (sym (left_found s (λ (l : PeerValue). docs_rest l.db from) (sym c.as_str.ensures.value) (sym c.in-Some.ensures)))

pub returns-then-branch-clause-some : goal.returns-then-branch-clause-some
returns-then-branch-clause-some c =
    let on = c.fill.new.walk in
    λ e. (c.in_ok-fill.ensures.full c.if-branch.true, left_some c.args.databases.now (λ (l : PeerValue). flat_map (leaf_lines l.db) (rows_left l.db on)) (λ (l : PeerValue). codes "last " ++ decimal l.db.update_seq) (sym c.as_str.ensures.value) (sym c.in-Some.ensures))
