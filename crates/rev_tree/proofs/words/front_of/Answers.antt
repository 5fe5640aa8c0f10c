use Rattle.proof_prelude.proofs.{◌≡◌, ℕ, List, ◌-◌, ◌++◌, length, replicate, ap, ◌∙◌, arith, length-append, drop-replicate, length-replicate, from_be_bytes}
use Rattle.std.specs.Int.{w64}
use Rattle.rev_tree.proofs.{eight_are, front_of-padded}
use Rattle.rev_tree.proofs.words.front_of.Goals as goal

pub returns : goal.returns
returns c =
    let text = c.args.text.now in
    let zeros : List ℕ = replicate (8 - length text) 0 in
    let long : length (text ++ zeros) ≡ 8 = omega (arith, length-append text zeros, length-replicate {A = ℕ} (8 - length text) 0, c.if-text-ge-WORD.false) in
    c.from_be_bytes.ensures
    ∙ ap (from_be_bytes w64) (λ i. c.copy_from_slice.ensures.after i ++ drop-replicate (length text) 8 0 i)
    ∙ eight_are (text ++ zeros) long ∙ front_of-padded 8 (8 - length text) text
