use Rattle.proof_prelude.proofs.{◌&&◌, sym, ◌∙◌, nat_eq}
use Rattle.rev_tree.proofs.{bytes_of_sig, words_decide}
use Rattle.rev_tree.proofs.words.is_same.Goals as goal

pub returns : goal.returns
returns c =
    let one = c.args.one.now in
    let other = c.args.other.now in
    (λ i. nat_eq (c.word_at.ensures i) (c.word_at-2.ensures i) && nat_eq (c.word_at-3.ensures i) (c.word_at-4.ensures i) && nat_eq (c.word_at-5.ensures i) (c.word_at-6.ensures i) && nat_eq (c.word_at-7.ensures i) (c.word_at-8.ensures i))
    ∙ words_decide one other (bytes_of_sig one c.requires.one) (bytes_of_sig other c.requires.other) c.if-one-ne-DIGITS.false (sym c.if-one-other.false ∙ c.if-one-ne-DIGITS.false)
