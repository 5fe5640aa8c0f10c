use Rattle.proof_prelude.proofs.{ap, ◌≡◌, ◌∙◌, true, map, string_bytes, fun_ext, and_parts}
use Rattle.clap.specs.Words.{app_of, is_simple, matches_of, found_of, first_of, one_of, rows_of}
use Rattle.clap.proofs.WalkLemmas.{first_value-rows, one_text-rows}
use Rattle.cli_common.proofs.words.find.Goals as goal

pub returns-in-Ok-clause-ok : goal.returns-in-Ok-clause-ok
returns-in-Ok-clause-ok c =
    let m = c.in-Ok.matches in
    let simple : is_simple (app_of c.args.command) ≡ true = (and_parts _ _ c.requires.free).0 in
    let rows : rows_of (found_of m) ≡ matches_of (app_of c.args.command) (map string_bytes c.args.words.now) = (c.in-Ok.ensures.matches simple).0 in
    (fun_ext (λ id. first_value-rows (found_of m) id ∙ ap (first_of id) rows), fun_ext (λ id. one_text-rows (found_of m) id ∙ ap (one_of id) rows))

pub returns-in-Err-clause-err : goal.returns-in-Err-clause-err
returns-in-Err-clause-err c = c.in-Err.ensures.kinds c.requires.free
