use Rattle.proof_prelude.proofs.{◌≡◌, ℕ, ◌+◌, ◌≤◌, ◌||◌, List, length, take, drop, true, Some, sym, ap, ◌∙◌, subst, arith, length-drop, take_rest, AllDigits, digits_value}
use Rattle.serde_json.specs.View.{number_view}
use Rattle.json.specs.Word.{is_operator, is_space, ends_word, after_whole}
use Rattle.json_values.specs.{IntegerAt}
use Rattle.json_values.proofs.{plain_integer, minus_integer, minus_place, opposite}
use Rattle.json_values.proofs.word.integer.Goals as goal

pub returns-then-start-from : goal.returns-then-start-from
returns-then-start-from c =
    let d = c.args.text.now in
    let i = c.args.from in
    let start = c.minus_end-start.result in
    let len = c.in_ok-n.len in
    let n = c.in_ok-n.n in
    let found = c.in_ok-n.ensures in
    let e : start ≡ i = c.if-start-from.true in
    let rest = take_rest d start ∙ ap (λ k. drop k d) e in
    let long : len ≤ length (drop i d) = subst (λ (s : List ℕ). len ≤ length s) rest found.bounds.1 in
    let ended : ends_word (drop (i + len) d) ≡ true = subst (λ k. ends_word (drop (k + len) d) ≡ true) e (ap (λ x. is_operator x || is_space x) (sym c.byte_at.ensures.head) ∙ sym c.is_delimiter.ensures ∙ c.if-not-is_delimiter.false) in
    let at = plain_integer d i len n found.bounds.0 found.bounds.2 (omega (arith, long, length-drop i d))
    (subst (λ (s : List ℕ). AllDigits 10 (take len s)) rest found.digits) (subst (λ (s : List ℕ). digits_value 10 (take len s) ≡ n) rest found.value)
    (subst (λ (s : List ℕ). after_whole s ≡ Some (drop len s)) rest found.after) ended in
    subst (λ k. IntegerAt d i (number_view c.from.result) (k + len)) (sym e) (subst (λ v. IntegerAt d i v (i + len)) (sym c.from.ensures) at)

pub returns : goal.returns
returns c =
    let d = c.args.text.now in
    let i = c.args.from in
    let start = c.minus_end-start.result in
    let len = c.in_ok-n.len in
    let n = c.in_ok-n.n in
    let found = c.in_ok-n.ensures in
    let minus = minus_place d i start c.minus_end-start.ensures.bounds.0 c.minus_end-start.ensures.bounds.1 c.minus_end-start.ensures.value c.if-start-from.false in
    let e : start ≡ i + 1 = minus.1 in
    let rest = take_rest d start ∙ ap (λ k. drop k d) e in
    let long : len ≤ length (drop (i + 1) d) = subst (λ (s : List ℕ). len ≤ length s) rest found.bounds.1 in
    let ended : ends_word (drop (i + 1 + len) d) ≡ true = subst (λ k. ends_word (drop (k + len) d) ≡ true) e (ap (λ x. is_operator x || is_space x) (sym c.byte_at.ensures.head) ∙ sym c.is_delimiter.ensures ∙ c.if-not-is_delimiter.false) in
    let at = minus_integer d i len n found.bounds.0 found.bounds.2 (omega (arith, long, length-drop (i + 1) d, found.bounds.0)) minus.0
    (subst (λ (s : List ℕ). AllDigits 10 (take len s)) rest found.digits) (subst (λ (s : List ℕ). digits_value 10 (take len s) ≡ n) rest found.value)
    (subst (λ (s : List ℕ). after_whole s ≡ Some (drop len s)) rest found.after) ended (omega (arith, c.if-n-eq0.false)) in
    subst (λ k. IntegerAt d i (number_view c.from-2.result) (k + len)) (sym e) (subst (λ v. IntegerAt d i v (i + 1 + len)) (sym (c.from-2.ensures ∙ opposite n (omega (arith, c.if-n-eq0.false)) found.bounds.2)) at)
