use Rattle.proof_prelude.proofs.{◌≡◌, ℕ, ◌-◌, ◌++◌, List, length, length-drop, take, drop, reverse, sym, ap, ◌∙◌, arith, length-reverse, reverse-append, reverse-reverse, take-append-drop, take-append_seam}
use Rattle.repl_peer.proofs.session.settle.without_first.Goals as goal

-- dropping the end of a reversed list, and reversing it again
first_cut : {X : Type 0} (xs : List X) (n : ℕ) → reverse (take (length xs - n) (reverse xs)) ≡ drop n xs
first_cut xs n =
    let front = take n xs in
    let back = drop n xs in
    let turned : reverse xs ≡ reverse back ++ reverse front = ap reverse (sym (take-append-drop n xs)) ∙ reverse-append front back in
    let count : length xs - n ≡ length (reverse back) = sym (length-reverse back ∙ length-drop n xs) in
    (λ i. reverse (take (count i) (turned i))) ∙ ap reverse (take-append_seam (reverse back) (reverse front)) ∙ reverse-reverse back

pub returns : goal.returns
returns c =
    let docs = c.args.docs in
    let left : c.len.result - c.args.count ≡ length docs.items - c.args.count = omega (arith, docs.ok, c.len.ensures) in
    c.reverse-2.ensures.items ∙ ap reverse (c.truncate.ensures.items ∙ (λ i. take (left i) (c.reverse.ensures.items i))) ∙ first_cut docs.items c.args.count
