use Rattle.proof_prelude.proofs.{◌≡◌, ◌-◌, false, drop, take, length, ap, sym, ◌∙◌, arith, length-drop, list_any, bytes_eq, take_all}
use Rattle.couch_base.specs.{RowValue}
use Rattle.repl_peer.proofs.{none_both, IfNone_then}
use Rattle.repl_peer.proofs.session.rows.row_from.Goals as goal

pub returns-in-None-clause-none : goal.returns-in-None-clause-none
returns-in-None-clause-none c =
    let rows = c.args.rows.now in
    let test = λ (row : RowValue). bytes_eq row.id c.args.id.now in
    let all : take (length rows - c.args.from) (drop c.args.from rows) ≡ drop c.args.from rows = take_all _ _ (omega (arith, length-drop c.args.from rows)) in
    let back : list_any test (drop c.args.from rows) ≡ false = ap (list_any test) (sym all) ∙ c.in-None.ensures.none in
    IfNone_then c.row_in-in-None.result (λ front. none_both test rows c.args.from front back) c.row_in-in-None.ensures.none
