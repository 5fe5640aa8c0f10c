use Rattle.proof_prelude.proofs.{◌≡◌, ◌++◌, ℕ, List, [], codes, decimal, None, map, refl, sym, ap, subst, ◌∙◌, append-nil, flat_map}
use Rattle.doc_json.specs.{Choice}
use Rattle.couch_base.specs.{DatabaseValue, tree_of, RowValue, chosen_feed}
use Rattle.repl_peer.specs.{PeerValue}
use Rattle.repl_inspect.specs.{census_of, trees, Census}
use Rattle.repl_inspect.proofs.{trees_all}
use Rattle.read_commands.specs.{rows_left, rows_walked, conflict_line, conflicts_line, Walk}
use Rattle.read_commands.proofs.{left_found, left_some, holds_found, held_found}
use Rattle.command_api.proofs.{piece_on, piece_last}
use Rattle.read_commands.proofs.conflicts.ConflictsRest.more.Goals as goal

abbrev conflicts_rest : DatabaseValue → Walk → List ℕ
conflicts_rest d walk = flat_map (conflict_line d) (rows_left d walk) ++ conflicts_line (census_of (trees d))

abbrev Counted : Census → DatabaseValue → Walk → Type 0
Counted census d walk = (earlier : List RowValue) × (census ≡ census_of (map (λ (x : RowValue). tree_of d.docs x.id) earlier)) × (earlier ++ rows_left d walk ≡ rows_walked d walk) × (walk.chosen ≡ None)

pub returns-then-branch-clause-piece : goal.returns-then-branch-clause-piece
returns-then-branch-clause-piece c =
    let s = c.args.databases.now in
    let l = c.in-Some.peer.now.1 in
    let d = c.db-database.result.now in
    let old = c.args.piece.now.items in
    let new = c.fill.new.piece.items in
    let from = c.args.self.now.walk in
    let on = c.fill.new.walk in
    let there = sym c.as_str.ensures.value in
    let is = sym c.in-Some.ensures in
    let step = piece_on (conflict_line d) (conflict_line d) old new (conflicts_line (census_of (trees d))) (rows_left d from) (rows_left d on) c.in_ok-fill.ensures.text refl in
    ap (λ t. new ++ t) (left_found s (λ (x : PeerValue). conflicts_rest x.db on) there is)
    ∙ subst (λ (x : DatabaseValue). new ++ conflicts_rest x on ≡ old ++ conflicts_rest x from) c.db-database.ensures.value step
    ∙ ap (λ t. old ++ t) (sym (left_found s (λ (x : PeerValue). conflicts_rest x.db from) there is))

pub returns-then-branch-clause-fits : goal.returns-then-branch-clause-fits
returns-then-branch-clause-fits c =
    let s = c.args.databases.now in
    let l = c.in-Some.peer.now.1 in
    let d = c.db-database.result.now in
    let old = c.args.piece.now.items in
    let new = c.fill.new.piece.items in
    let from = c.args.self.now.walk in
    let on = c.fill.new.walk in
    let there = sym c.as_str.ensures.value in
    let is = sym c.in-Some.ensures in
    let had = held_found s (λ (x : PeerValue). Counted c.args.self.now.census x.db from) there is c.requires.fits in
    let at = subst (λ (x : DatabaseValue). Counted c.args.self.now.census x from) (sym c.db-database.ensures.value) had in
    let k = c.in_ok-fill.ensures.counted at.0 at.1 in
    let now : Counted c.fill.new.tally d on = (k.0, k.1, k.2 ∙ at.2 ∙ ap (λ (x : Choice). chosen_feed x d 0 d.update_seq) (sym c.in_ok-fill.ensures.chosen), c.in_ok-fill.ensures.chosen ∙ at.3) in
    holds_found s (λ (x : PeerValue). Counted c.fill.new.tally x.db on) there is (subst (λ (x : DatabaseValue). Counted c.fill.new.tally x on) c.db-database.ensures.value now)

pub returns-clause-piece : goal.returns-clause-piece
returns-clause-piece c =
    let s = c.args.databases.now in
    let l = c.in-Some.peer.now.1 in
    let d = c.db-database.result.now in
    let old = c.args.piece.now.items in
    let new = c.fill.new.piece.items in
    let from = c.args.self.now.walk in
    let on = c.fill.new.walk in
    let there = sym c.as_str.ensures.value in
    let is = sym c.in-Some.ensures in
    let end = c.push_counts.new.answer.items in
    let had = held_found s (λ (x : PeerValue). Counted c.args.self.now.census x.db from) there is c.requires.fits in
    let at = subst (λ (x : DatabaseValue). Counted c.args.self.now.census x from) (sym c.db-database.ensures.value) had in
    let k = c.in_ok-fill.ensures.counted at.0 at.1 in
    let none = c.in_ok-fill.ensures.end c.if-branch.false in
    let all : k.0 ≡ chosen_feed None d 0 d.update_seq = sym (append-nil k.0) ∙ ap (λ (rows : List RowValue). k.0 ++ rows) (sym none) ∙ k.2 ∙ at.2 ∙ ap (λ (x : Choice). chosen_feed x d 0 d.update_seq) at.3 in
    let census = k.1 ∙ ap (λ (rows : List RowValue). census_of (map (λ (x : RowValue). tree_of d.docs x.id) rows)) all ∙ ap census_of (trees_all d c.law.ensures) in
    let last = piece_last (conflict_line d) (conflict_line d) old new end (conflicts_line (census_of (trees d))) (rows_left d from) (rows_left d on) c.in_ok-fill.ensures.text none (c.in_ok-push_counts.ensures ∙ ap (λ n. new ++ conflicts_line n) census) in
    subst (λ (x : DatabaseValue). end ++ [] ≡ old ++ conflicts_rest x from) c.db-database.ensures.value last
    ∙ ap (λ t. old ++ t) (sym (left_found s (λ (x : PeerValue). conflicts_rest x.db from) there is))

pub returns-clause-fits : goal.returns-clause-fits
returns-clause-fits c =
    let s = c.args.databases.now in
    let l = c.in-Some.peer.now.1 in
    let d = c.db-database.result.now in
    let old = c.args.piece.now.items in
    let new = c.fill.new.piece.items in
    let from = c.args.self.now.walk in
    let on = c.fill.new.walk in
    let there = sym c.as_str.ensures.value in
    let is = sym c.in-Some.ensures in
    let had = held_found s (λ (x : PeerValue). Counted c.args.self.now.census x.db from) there is c.requires.fits in
    let at = subst (λ (x : DatabaseValue). Counted c.args.self.now.census x from) (sym c.db-database.ensures.value) had in
    let k = c.in_ok-fill.ensures.counted at.0 at.1 in
    let now : Counted c.fill.new.tally d on = (k.0, k.1, k.2 ∙ at.2 ∙ ap (λ (x : Choice). chosen_feed x d 0 d.update_seq) (sym c.in_ok-fill.ensures.chosen), c.in_ok-fill.ensures.chosen ∙ at.3) in
    holds_found s (λ (x : PeerValue). Counted c.fill.new.tally x.db on) there is (subst (λ (x : DatabaseValue). Counted c.fill.new.tally x on) c.db-database.ensures.value now)

-- the last line of the output
abbrev counts : Census → List ℕ
counts n = codes "conflicts " ++ decimal n.conflicts ++ codes " of " ++ decimal n.documents ++ codes " documents"

pub returns-then-branch-clause-some : goal.returns-then-branch-clause-some
returns-then-branch-clause-some c =
    let on = c.fill.new.walk in
    λ e. (c.in_ok-fill.ensures.full c.if-branch.true, left_some c.args.databases.now (λ (l : PeerValue). flat_map (conflict_line l.db) (rows_left l.db on)) (λ (l : PeerValue). counts (census_of (trees l.db))) (sym c.as_str.ensures.value) (sym c.in-Some.ensures))
