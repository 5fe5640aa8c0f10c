-- A line of a journal.
use Rattle.proof_prelude.proofs.{◌≡◌, ℕ, ◌+◌, List, [], ◌∷◌, ◌++◌, length, true, false, Bool, Option, None, Some, Result, Ok, Err, IfOk, bytes_eq, refl, sym, ap, subst, ◌∙◌, arith, append_assoc, length-append, if◌then◌else◌}
use Rattle.line_reader.specs.{joined}
use Rattle.line_reader.proofs.{joined-append}
use Rattle.journal_core.specs.{IsAt, Place, TookAs, block_hash, closed, end_in, ended, ended_by, hash_at, held_more, is_sum, next, right_end, seq_of, sum_line, wrong_after}
use Rattle.journal_core.specs.declared.blocks.Took.{Took}
use Rattle.journal_core.specs.declared.blocks.Blocks.{Blocks}

pub joined-join : (front back : List (List ℕ)) → joined (front ++ back) ≡ joined front ++ joined back
joined-join [] back = refl
joined-join (l ∷ front) back = ap (λ z. l ++ 10 ∷ z) (joined-join front back) ∙ sym (append_assoc l (10 ∷ joined front) (joined back))

-- the hash and the right end of the current block, as they are computed
pub end_is : (blocks : Blocks) (place : Place) (line seq hash right : List ℕ) → IsAt blocks place → seq ≡ seq_of blocks.count line → hash ≡ block_hash blocks.chain.items seq blocks.body.items → right ≡ sum_line blocks.count hash seq → end_in place line ≡ (if bytes_eq line right then Some hash else None)
unfolding end_in right_end hash_at
end_is blocks place line seq hash right at s h r =
    let s' : seq ≡ seq_of (length place.held) line = s ∙ ap (λ n. seq_of n line) at.count in
    let h' : hash ≡ block_hash place.chain (seq_of (length place.held) line) (joined place.held) = h ∙ ap (λ z. block_hash z seq blocks.body.items) at.chain ∙ ap (λ z. block_hash place.chain seq z) at.body ∙ ap (λ z. block_hash place.chain z (joined place.held)) s' in
    let r' : right ≡ sum_line (length place.held) (block_hash place.chain (seq_of (length place.held) line) (joined place.held)) (seq_of (length place.held) line) = r ∙ ap (λ n. sum_line n hash seq) at.count ∙ ap (λ z. sum_line (length place.held) z seq) h' ∙ ap (λ z. sum_line (length place.held) (block_hash place.chain (seq_of (length place.held) line) (joined place.held)) z) s' in
    ap (λ z. if bytes_eq line z then Some (block_hash place.chain (seq_of (length place.held) line) (joined place.held)) else None) (sym r') ∙ ap (λ z. if bytes_eq line right then Some z else None) (sym h')

-- no wrong line so far
pub wrong_none : (before : Option ℕ) (wrong : Bool) (count : ℕ) → wrong_after before wrong count ≡ None → (before ≡ None) × (wrong ≡ false)
wrong_none (Some n) wrong count e = cc
wrong_none None true count e = cc
wrong_none None false count e = (refl, refl)

length_closed : (confirmed held : List (List ℕ)) (line : List ℕ) → length (joined (confirmed ++ (held ++ line ∷ []))) ≡ length (joined confirmed) + length (joined held) + (length line + 1)
length_closed confirmed held line =
    let e = joined-join confirmed (held ++ line ∷ []) ∙ ap (λ z. joined confirmed ++ z) (joined-append held line) in
    ap length e ∙ length-append (joined confirmed) (joined held ++ (line ++ 10 ∷ [])) ∙ omega (arith, length-append (joined held) (line ++ 10 ∷ []), length-append line (10 ∷ []))

count_closed : (confirmed held : List (List ℕ)) (line : List ℕ) → length (confirmed ++ (held ++ line ∷ [])) ≡ length confirmed + length held + 1
count_closed confirmed held line = length-append confirmed (held ++ line ∷ []) ∙ omega (arith, length-append held (line ∷ []))

-- what is stored after the right end of a block
pub at_closed : (old new : Blocks) (place : Place) (line hash took : List ℕ) → IsAt old place → end_in place line ≡ Some hash → new.chain.items ≡ hash → new.seq.items ≡ seq_of old.count line → new.body.items ≡ [] → new.count ≡ 0 → new.bytes ≡ old.bytes + length old.body.items + (length line + 1) → new.lines ≡ old.lines + old.count + 1 → new.whole ≡ true → took ≡ old.body.items →
    IsAt new (ended place line) × ((x : List ℕ) × (ended place line ≡ closed place line x) × (took ≡ joined place.held))
at_closed old new place line hash took at h chain seq body count bytes lines whole t =
    let P : Place → Type 0 = λ p. IsAt new p × ((x : List ℕ) × (p ≡ closed place line x) × (took ≡ joined place.held)) in
    let e : ended place line ≡ closed place line hash = ap (ended_by place line) h in
    subst P (sym e) (
      record {
        chain = chain;
        seq = seq ∙ ap (λ n. seq_of n line) at.count;
        body = body;
        count = count;
        bytes = bytes ∙ omega (arith, at.bytes, ap length at.body, length_closed place.confirmed place.held line);
        lines = lines ∙ omega (arith, at.lines, at.count, count_closed place.confirmed place.held line);
        whole = whole;
      },
      (hash, refl, t ∙ at.body),
    )

-- ---- the place after a line

pub next_damaged : (place : Place) (line : List ℕ) → place.whole ≡ false → next place line ≡ place
next_damaged place line e = ap (λ b. if b then (if is_sum line then ended place line else held_more place line) else place) e

pub next_ended : (place : Place) (line : List ℕ) → place.whole ≡ true → is_sum line ≡ true → next place line ≡ ended place line
next_ended place line e s = ap (λ b. if b then (if is_sum line then ended place line else held_more place line) else place) e ∙ ap (λ b. if b then ended place line else held_more place line) s

pub next_held : (place : Place) (line : List ℕ) → place.whole ≡ true → is_sum line ≡ false → next place line ≡ held_more place line
next_held place line e s = ap (λ b. if b then (if is_sum line then ended place line else held_more place line) else place) e ∙ ap (λ b. if b then ended place line else held_more place line) s

pub if_ok : {T E : Type 0} {P Q : T → Type 0} (r : Result T E) → ((x : T) → P x → Q x) → IfOk r P → IfOk r Q
if_ok (Ok x) f h = f x h
if_ok (Err e) f h = tt

-- the same of the place after a line, if the line ends a block
pub took_ended : (old new : Blocks) (line : List ℕ) (took : Took) → old.whole ≡ true → is_sum line ≡ true → ((place : Place) → IsAt old place → place.whole ≡ true → IsAt new (ended place line) × TookAs place (ended place line) line took) →
    (place : Place) → IsAt old place → IsAt new (next place line) × TookAs place (next place line) line took
took_ended old new line took whole s f place at =
    let P : Place → Type 0 = λ p. IsAt new p × TookAs place p line took in
    let w : place.whole ≡ true = sym at.whole ∙ whole in
    subst P (sym (next_ended place line w s)) (f place at w)
