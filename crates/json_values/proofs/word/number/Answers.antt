use Rattle.proof_prelude.proofs.{◌≡◌, ◌<◌, drop, get_or, Some, sym, ap, ◌∙◌, subst, add-zero, ◌||◌, true, IsCharBoundary-before_ascii, get_or_default, get_or-drop}
use Rattle.json.specs.Word.{is_operator, is_space, ends_word, after_number, number_before}
use Rattle.json.specs.Token.{number}
use Rattle.json_values.proofs.{Found, number_ascii, Stands, number_at}
use Rattle.json_values.proofs.word.number.Goals as goal

pub range-requires-clause-start_boundary : goal.range-requires-clause-start_boundary
range-requires-clause-start_boundary c some =
    let d = c.args.text.now in
    let p = c.args.from in
    let found : Some (drop c.in_ok-end.end d) ≡ after_number (drop p d) = rw (← c.as_bytes-bytes.ensures.value) c.in_ok-end.ensures.0 in
    let first : get_or (drop p d) 0 32 ≡ get_or d p 0 = get_or-drop p d 0 32 ∙ ap (λ j. get_or d j 32) (add-zero p) ∙ get_or_default d p 32 0 c.requires in
    let small : get_or d p 0 < 128 = subst (λ x. x < 128) first (number_ascii (drop p d) (subst Found found tt)) in
    IsCharBoundary-before_ascii d p c.requires small

pub returns-then-is_delimiter : goal.returns-then-is_delimiter
returns-then-is_delimiter c =
    let d = c.args.text.now in
    let p = c.args.from in
    let found : Some (drop c.in_ok-end.end d) ≡ after_number (drop p d) = rw (← c.as_bytes-bytes.ensures.value) c.in_ok-end.ensures.0 in
    let ended : ends_word (drop c.in_ok-end.end d) ≡ true = subst (λ t. ends_word (drop c.in_ok-end.end t) ≡ true) c.as_bytes-bytes.ensures.value
    (ap (λ x. is_operator x || is_space x) (sym c.byte_at.ensures.head) ∙ sym c.is_delimiter.ensures ∙ c.if-is_delimiter.true) in
    subst (λ s. Stands d p (number_before (drop p d) (after_number (drop p d))) (number s) c.in_ok-end.end) (sym c.range.ensures.value)
    (number_at d p c.in_ok-end.end c.requires (sym found) c.in_ok-end.ensures.1.0 (rw (← c.as_bytes-bytes.ensures.value) c.in_ok-end.ensures.1.1) ended)
