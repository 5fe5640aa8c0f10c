use Rattle.proof_prelude.proofs.{rules, ◌≡◌, ◌*◌, ℕ, get_or, length, replicate, ap, ◌∙◌, arith, length-replicate}
use Rattle.progress_board.proofs.{zeros}
use Rattle.progress_board.proofs.making.lay.Goals as goal

pub lay_words-requires : goal.lay_words-requires
lay_words-requires c =
    let n = 2 * c.args.workers in
    let items : c.as_slice.result.now ≡ replicate n 0 = c.as_slice.ensures.value ∙ c.in_ok-words.ensures.items_if_clones_equal (λ y h. search rules) in
    record {
      words = (
        (let l = ap (length {A = ℕ}) items ∙ length-replicate n 0 in omega (arith, l)),
        λ j. ap (λ r. get_or r j 0) items ∙ zeros n j,
      );
    }
