use Rattle.proof_prelude.proofs.{◌≡◌, ◌<◌, ◌++◌, ℕ, List, [], length, refl, sym, ap, subst, ◌∙◌, append-nil, string_bytes, flat_map}
use Rattle.doc_json.specs.{Choice}
use Rattle.couch_base.specs.{DatabaseValue, RowValue, chosen_feed}
use Rattle.repl_peer.specs.{PeerValue}
use Rattle.repl_inspect.specs.{comparisons, total_of}
use Rattle.script_databases.specs.{peer_at}
use Rattle.read_commands.specs.{left_in, holds_in, rows_left, rows_walked, compared_line, compared_lines, Walk}
use Rattle.read_commands.specs.Compare.{compared_part, found_part}
use Rattle.read_commands.proofs.{Counted, compare_rest, left_found, left_some, holds_found, held_found}
use Rattle.command_api.proofs.{piece_on, piece_last}
use Rattle.read_commands.proofs.compare.CompareRest.more.Goals as goal

pub returns-then-branch-clause-piece : goal.returns-then-branch-clause-piece
returns-then-branch-clause-piece c =
    let s = c.args.databases.now in
    let a = c.in-Some.source.now.1 in
    let b = c.in-Some-find.target.now.1 in
    let d = c.db-ours.result.now in
    let t = c.db.result.now in
    let old = c.args.piece.now.items in
    let new = c.fill.new.piece.items in
    let from = c.args.self.now.walk in
    let on = c.fill.new.walk in
    let named = string_bytes c.args.self.now.target in
    let there = sym c.as_str.ensures.value in
    let there2 = sym c.as_str-2.ensures.value in
    let is = sym c.in-Some.ensures in
    let is2 = sym c.in-Some-find.ensures in
    let left_of_from = left_found s (λ (x : PeerValue). left_in (peer_at s named) (λ (y : PeerValue). compare_rest x.db y.db from)) there is ∙ left_found s (λ (y : PeerValue). compare_rest a.db y.db from) there2 is2 in
    let left_of_on = left_found s (λ (x : PeerValue). left_in (peer_at s named) (λ (y : PeerValue). compare_rest x.db y.db on)) there is ∙ left_found s (λ (y : PeerValue). compare_rest a.db y.db on) there2 is2 in
    let step = piece_on (compared_lines d t) (compared_lines d t) old new (compared_line (total_of (comparisons d t (rows_walked d from)))) (rows_left d from) (rows_left d on) c.in_ok-fill.ensures.text refl in
    let whole : new ++ compare_rest d t on ≡ old ++ compare_rest d t from = ap (λ (x : Choice). new ++ (flat_map (compared_lines d t) (rows_left d on) ++ compared_line (total_of (comparisons d t (chosen_feed x d 0 d.update_seq))))) c.in_ok-fill.ensures.chosen ∙ step in
    ap (λ u. new ++ u) left_of_on
    ∙ subst (λ (x : DatabaseValue). new ++ compare_rest x b.db on ≡ old ++ compare_rest x b.db from) c.db-ours.ensures.value (subst (λ (y : DatabaseValue). new ++ compare_rest d y on ≡ old ++ compare_rest d y from) c.db.ensures.value whole)
    ∙ ap (λ u. old ++ u) (sym left_of_from)

pub returns-then-branch-clause-fits : goal.returns-then-branch-clause-fits
returns-then-branch-clause-fits c =
    let s = c.args.databases.now in
    let a = c.in-Some.source.now.1 in
    let b = c.in-Some-find.target.now.1 in
    let d = c.db-ours.result.now in
    let t = c.db.result.now in
    let old = c.args.piece.now.items in
    let new = c.fill.new.piece.items in
    let from = c.args.self.now.walk in
    let on = c.fill.new.walk in
    let named = string_bytes c.args.self.now.target in
    let there = sym c.as_str.ensures.value in
    let there2 = sym c.as_str-2.ensures.value in
    let is = sym c.in-Some.ensures in
    let is2 = sym c.in-Some-find.ensures in
    let had = held_found s (λ (y : PeerValue). Counted c.args.self.now.total a.db y.db from) there2 is2 (held_found s (λ (x : PeerValue). holds_in (peer_at s named) (λ (y : PeerValue). Counted c.args.self.now.total x.db y.db from)) there is c.requires.fits) in
    let at_d = subst (λ (x : DatabaseValue). Counted c.args.self.now.total x b.db from) (sym c.db-ours.ensures.value) had in
    let at = subst (λ (y : DatabaseValue). Counted c.args.self.now.total d y from) (sym c.db.ensures.value) at_d in
    let k = c.in_ok-fill.ensures.counted at.0 at.1 in
    let now : Counted c.fill.new.tally d t on = (k.0, k.1, k.2 ∙ at.2 ∙ ap (λ (x : Choice). chosen_feed x d 0 d.update_seq) (sym c.in_ok-fill.ensures.chosen)) in
    let now_t = subst (λ (y : DatabaseValue). Counted c.fill.new.tally d y on) c.db.ensures.value now in
    let now_a = subst (λ (x : DatabaseValue). Counted c.fill.new.tally x b.db on) c.db-ours.ensures.value now_t in
    holds_found s (λ (x : PeerValue). holds_in (peer_at s named) (λ (y : PeerValue). Counted c.fill.new.tally x.db y.db on)) there is (holds_found s (λ (y : PeerValue). Counted c.fill.new.tally a.db y.db on) there2 is2 now_a)

pub returns-clause-piece : goal.returns-clause-piece
returns-clause-piece c =
    let s = c.args.databases.now in
    let a = c.in-Some.source.now.1 in
    let b = c.in-Some-find.target.now.1 in
    let d = c.db-ours.result.now in
    let t = c.db.result.now in
    let old = c.args.piece.now.items in
    let new = c.fill.new.piece.items in
    let from = c.args.self.now.walk in
    let on = c.fill.new.walk in
    let named = string_bytes c.args.self.now.target in
    let there = sym c.as_str.ensures.value in
    let there2 = sym c.as_str-2.ensures.value in
    let is = sym c.in-Some.ensures in
    let is2 = sym c.in-Some-find.ensures in
    let end = c.push_total.new.answer.items in
    let left_of_from = left_found s (λ (x : PeerValue). left_in (peer_at s named) (λ (y : PeerValue). compare_rest x.db y.db from)) there is ∙ left_found s (λ (y : PeerValue). compare_rest a.db y.db from) there2 is2 in
    let had = held_found s (λ (y : PeerValue). Counted c.args.self.now.total a.db y.db from) there2 is2 (held_found s (λ (x : PeerValue). holds_in (peer_at s named) (λ (y : PeerValue). Counted c.args.self.now.total x.db y.db from)) there is c.requires.fits) in
    let at_d = subst (λ (x : DatabaseValue). Counted c.args.self.now.total x b.db from) (sym c.db-ours.ensures.value) had in
    let at = subst (λ (y : DatabaseValue). Counted c.args.self.now.total d y from) (sym c.db.ensures.value) at_d in
    let k = c.in_ok-fill.ensures.counted at.0 at.1 in
    let none = c.in_ok-fill.ensures.end c.if-branch.false in
    let all : k.0 ≡ rows_walked d from = sym (append-nil k.0) ∙ ap (λ (rows : List RowValue). k.0 ++ rows) (sym none) ∙ k.2 ∙ at.2 in
    let total = k.1 ∙ ap (λ (rows : List RowValue). total_of (comparisons d t rows)) all in
    let last = piece_last (compared_lines d t) (compared_lines d t) old new end (compared_line (total_of (comparisons d t (rows_walked d from)))) (rows_left d from) (rows_left d on) c.in_ok-fill.ensures.text none (c.in_ok-push_total.ensures ∙ ap (λ n. new ++ compared_line n) total) in
    subst (λ (x : DatabaseValue). end ++ [] ≡ old ++ compare_rest x b.db from) c.db-ours.ensures.value (subst (λ (y : DatabaseValue). end ++ [] ≡ old ++ compare_rest d y from) c.db.ensures.value last)
    ∙ ap (λ u. old ++ u) (sym left_of_from)

pub returns-clause-fits : goal.returns-clause-fits
returns-clause-fits c =
    let s = c.args.databases.now in
    let a = c.in-Some.source.now.1 in
    let b = c.in-Some-find.target.now.1 in
    let d = c.db-ours.result.now in
    let t = c.db.result.now in
    let old = c.args.piece.now.items in
    let new = c.fill.new.piece.items in
    let from = c.args.self.now.walk in
    let on = c.fill.new.walk in
    let named = string_bytes c.args.self.now.target in
    let there = sym c.as_str.ensures.value in
    let there2 = sym c.as_str-2.ensures.value in
    let is = sym c.in-Some.ensures in
    let is2 = sym c.in-Some-find.ensures in
    let had = held_found s (λ (y : PeerValue). Counted c.args.self.now.total a.db y.db from) there2 is2 (held_found s (λ (x : PeerValue). holds_in (peer_at s named) (λ (y : PeerValue). Counted c.args.self.now.total x.db y.db from)) there is c.requires.fits) in
    let at_d = subst (λ (x : DatabaseValue). Counted c.args.self.now.total x b.db from) (sym c.db-ours.ensures.value) had in
    let at = subst (λ (y : DatabaseValue). Counted c.args.self.now.total d y from) (sym c.db.ensures.value) at_d in
    let k = c.in_ok-fill.ensures.counted at.0 at.1 in
    let now : Counted c.fill.new.tally d t on = (k.0, k.1, k.2 ∙ at.2 ∙ ap (λ (x : Choice). chosen_feed x d 0 d.update_seq) (sym c.in_ok-fill.ensures.chosen)) in
    let now_t = subst (λ (y : DatabaseValue). Counted c.fill.new.tally d y on) c.db.ensures.value now in
    let now_a = subst (λ (x : DatabaseValue). Counted c.fill.new.tally x b.db on) c.db-ours.ensures.value now_t in
    holds_found s (λ (x : PeerValue). holds_in (peer_at s named) (λ (y : PeerValue). Counted c.fill.new.tally x.db y.db on)) there is (holds_found s (λ (y : PeerValue). Counted c.fill.new.tally a.db y.db on) there2 is2 now_a)

-- the last line of the output
abbrev totals : DatabaseValue → DatabaseValue → Walk → List ℕ
totals a b on = compared_part (total_of (comparisons a b (rows_walked a on))) ++ found_part (total_of (comparisons a b (rows_walked a on)))

pub returns-then-branch-clause-some : goal.returns-then-branch-clause-some
returns-then-branch-clause-some c =
    let s = c.args.databases.now in
    let a = c.in-Some.source.now.1 in
    let on = c.fill.new.walk in
    let named = string_bytes c.args.self.now.target in
    let outer = left_found s (λ (x : PeerValue). left_in (peer_at s named) (λ (y : PeerValue). compare_rest x.db y.db on)) (sym c.as_str.ensures.value) (sym c.in-Some.ensures) in
    let some = left_some s (λ (y : PeerValue). flat_map (compared_lines a.db y.db) (rows_left a.db on)) (λ (y : PeerValue). totals a.db y.db on) (sym c.as_str-2.ensures.value) (sym c.in-Some-find.ensures) in
    λ e. (c.in_ok-fill.ensures.full c.if-branch.true, subst (λ (z : List ℕ). 0 < length z) (sym outer) some)
