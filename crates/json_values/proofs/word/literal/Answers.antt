use Rattle.proof_prelude.proofs.{◌≡◌, ◌-◌, ◌||◌, nat_eq, true, length, take, drop, sym, ap, ◌∙◌, subst, arith, take_all, length-drop, starts_with}
use Rattle.json.specs.Word.{is_operator, is_space, ends_word}
use Rattle.json_values.proofs.{literal_at}
use Rattle.json_values.proofs.word.literal.Goals as goal

pub returns-then-is_delimiter : goal.returns-then-is_delimiter
returns-then-is_delimiter c =
    let d = c.args.text.now in
    let i = c.args.from in
    let name = c.args.name.now in
    let same : take (length d - i) (drop i d) ≡ drop i d = take_all _ (drop i d) (omega (arith, length-drop i d)) in
    literal_at d name _ i c.requires.within c.requires.named (subst (λ s. starts_with nat_eq s name ≡ true) same (sym c.starts_with.ensures.value ∙ c.if-starts_with.true))
    (subst (λ s. ends_word (drop (length name) s) ≡ true) same (ap (λ x. is_operator x || is_space x) (sym c.byte_at.ensures.head) ∙ sym c.is_delimiter.ensures ∙ c.if-is_delimiter.true))
