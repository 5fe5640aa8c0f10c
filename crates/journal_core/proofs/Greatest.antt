-- What is confirmed of a journal is the greatest list of blocks at its start.
use Rattle.proof_prelude.proofs.{◌≡◌, ℕ, ◌+◌, ◌*◌, ◌≤◌, List, [], ◌∷◌, ◌++◌, length, drop, true, false, Bool, Option, None, Some, All, All-push, All-nil, All-head, All-tail, bytes_eq, bytes_eq-Decides, codes, fold, refl, sym, ap, subst, ◌∙◌, arith, append_assoc, append-nil, length-append, if◌then◌else◌, true≢false}
use Rattle.std.proofs.Math.Seq.{drop-append_seam}
use Rattle.sha2.proofs.Facts256.{length-sha256}
use Rattle.sha2.specs.Sha256.{sha256}
use Rattle.hex.specs.Hex.{lower_digits}
use Rattle.hex.proofs.HexLemmas.{length-encode_with}
use Rattle.line_reader.specs.{joined}
use Rattle.journal_core.specs.{Confirmed, IsGreatest, Place, block, block_hash, end_in, ended_by, hash_at, held_more, is_sum, next, nothing, place_after, right_end, seq_of, start, sum_head, sum_line}
use Rattle.journal_core.proofs.Steps.{next_damaged, next_ended, next_held}

-- the place after these lines
pub record IsRead (lines : List (List ℕ)) (p : Place) : Type 0 where
  pub rest : List (List ℕ)
  pub begins : lines ≡ p.confirmed ++ rest
  pub held_is : p.whole ≡ true → rest ≡ p.held
  pub sums : Confirmed p.confirmed p.chain p.seq
  pub unsealed : All (λ line. is_sum line ≡ false) p.held

read_none : IsRead [] start
read_none = record { rest = []; begins = refl; held_is = λ w. refl; sums = nothing; unsealed = All-nil (λ line. is_sum line ≡ false) }

-- ---- the right end of a block

some_else : (b : Bool) (x y : List ℕ) → (if b then Some x else None) ≡ Some y → (b ≡ true) × (x ≡ y)
some_else true x y e = (refl, cc)
some_else false x y e = cc

pub end_some : (p : Place) (line hash : List ℕ) → end_in p line ≡ Some hash → (line ≡ sum_line (length p.held) hash (seq_of (length p.held) line)) × (hash ≡ block_hash p.chain (seq_of (length p.held) line) (joined p.held))
unfolding end_in right_end hash_at
end_some p line hash e =
    let h = block_hash p.chain (seq_of (length p.held) line) (joined p.held) in
    let parts = some_else (bytes_eq line (sum_line (length p.held) h (seq_of (length p.held) line))) h hash e in
    let same : line ≡ sum_line (length p.held) h (seq_of (length p.held) line) = (bytes_eq-Decides line (sum_line (length p.held) h (seq_of (length p.held) line))).0 parts.0 in
    (same ∙ ap (λ z. sum_line (length p.held) z (seq_of (length p.held) line)) parts.1, sym parts.1)

closed_sums : (p : Place) (line hash : List ℕ) → Confirmed p.confirmed p.chain p.seq → All (λ l. is_sum l ≡ false) p.held → end_in p line ≡ Some hash → Confirmed (p.confirmed ++ (p.held ++ line ∷ [])) hash (seq_of (length p.held) line)
closed_sums p line hash sums unsealed e =
    let is = end_some p line hash e in
    let s = seq_of (length p.held) line in
    let b = block p.held s sums unsealed in
    let P : List ℕ → Type 0 = λ h. Confirmed (p.confirmed ++ (p.held ++ sum_line (length p.held) h s ∷ [])) h s in
    let at_hash : Confirmed (p.confirmed ++ (p.held ++ sum_line (length p.held) hash s ∷ [])) hash s = subst P (sym is.1) b in
    let Q : List ℕ → Type 0 = λ l. Confirmed (p.confirmed ++ (p.held ++ l ∷ [])) hash s in
    subst Q (sym is.0) at_hash

-- ---- one more line

read_ended : (lines : List (List ℕ)) (p : Place) (line : List ℕ) (o : Option (List ℕ)) → p.whole ≡ true → end_in p line ≡ o → IsRead lines p → IsRead (lines ++ line ∷ []) (ended_by p line o)
read_ended lines p line None w e r = record {
  rest = r.rest ++ line ∷ [];
  begins = ap (λ z. z ++ line ∷ []) r.begins ∙ append_assoc p.confirmed r.rest (line ∷ []);
  held_is = λ f. absurd (true≢false (sym f));
  sums = r.sums;
  unsealed = r.unsealed;
}
read_ended lines p line (Some hash) w e r = record {
  rest = [];
  begins = ap (λ z. z ++ line ∷ []) (r.begins ∙ ap (λ z. p.confirmed ++ z) (r.held_is w)) ∙ append_assoc p.confirmed p.held (line ∷ []) ∙ sym (append-nil (p.confirmed ++ (p.held ++ line ∷ [])));
  held_is = λ f. refl;
  sums = closed_sums p line hash r.sums r.unsealed e;
  unsealed = All-nil (λ l. is_sum l ≡ false);
}

read_held : (lines : List (List ℕ)) (p : Place) (line : List ℕ) → p.whole ≡ true → is_sum line ≡ false → IsRead lines p → IsRead (lines ++ line ∷ []) (held_more p line)
read_held lines p line w s r = record {
  rest = p.held ++ line ∷ [];
  begins = ap (λ z. z ++ line ∷ []) (r.begins ∙ ap (λ z. p.confirmed ++ z) (r.held_is w)) ∙ append_assoc p.confirmed p.held (line ∷ []);
  held_is = λ f. refl;
  sums = r.sums;
  unsealed = All-push (λ l. is_sum l ≡ false) p.held line r.unsealed s;
}

read_damaged : (lines : List (List ℕ)) (p : Place) (line : List ℕ) → p.whole ≡ false → IsRead lines p → IsRead (lines ++ line ∷ []) p
read_damaged lines p line w r = record {
  rest = r.rest ++ line ∷ [];
  begins = ap (λ z. z ++ line ∷ []) r.begins ∙ append_assoc p.confirmed r.rest (line ∷ []);
  held_is = λ f. absurd (true≢false (sym f ∙ w));
  sums = r.sums;
  unsealed = r.unsealed;
}

read_line : (lines : List (List ℕ)) (p : Place) (line : List ℕ) (w s : Bool) → p.whole ≡ w → is_sum line ≡ s → IsRead lines p → IsRead (lines ++ line ∷ []) (next p line)
read_line lines p line false s e f r = subst (IsRead (lines ++ line ∷ [])) (sym (next_damaged p line e)) (read_damaged lines p line e r)
read_line lines p line true true e f r = subst (IsRead (lines ++ line ∷ [])) (sym (next_ended p line e f)) (read_ended lines p line (end_in p line) e refl r)
read_line lines p line true false e f r = subst (IsRead (lines ++ line ∷ [])) (sym (next_held p line e f)) (read_held lines p line e f r)

read_lines : (front lines : List (List ℕ)) (p : Place) → IsRead front p → IsRead (front ++ lines) (fold next p lines)
read_lines front [] p r = subst (λ z. IsRead z p) (sym (append-nil front)) r
read_lines front (line ∷ lines) p r = subst (λ z. IsRead z (fold next (next p line) lines)) (append_assoc front (line ∷ []) lines) (read_lines (front ++ line ∷ []) lines (next p line) (read_line front p line p.whole (is_sum line) refl refl r))

pub is_read : (lines : List (List ℕ)) → IsRead lines (place_after lines)
is_read lines = read_lines [] lines start read_none

-- ---- confirmed lines are read as such

fold_append : (p : Place) (front back : List (List ℕ)) → fold next p (front ++ back) ≡ fold next (fold next p front) back
fold_append p [] back = refl
fold_append p (l ∷ front) back = fold_append (next p l) front back

pub place_more : (lines : List (List ℕ)) (line : List ℕ) → place_after (lines ++ line ∷ []) ≡ next (place_after lines) line
place_more lines line = fold_append start lines (line ∷ [])

-- the place after blocks with right checksums
abbrev at_end : List (List ℕ) → List ℕ → List ℕ → Place
at_end lines chain seq = record { chain = chain; seq = seq; confirmed = lines; held = []; whole = true }

abbrev with_held : List (List ℕ) → List ℕ → List ℕ → List (List ℕ) → Place
with_held lines chain seq held = record { chain = chain; seq = seq; confirmed = lines; held = held; whole = true }

read_body : (lines : List (List ℕ)) (chain seq : List ℕ) (held body : List (List ℕ)) → All (λ l. is_sum l ≡ false) body → fold next (with_held lines chain seq held) body ≡ with_held lines chain seq (held ++ body)
read_body lines chain seq held [] h = ap (λ z. with_held lines chain seq z) (sym (append-nil held))
read_body lines chain seq held (l ∷ body) h =
    ap (λ p. fold next p body) (next_held (with_held lines chain seq held) l refl (All-head (λ z. is_sum z ≡ false) l body h))
    ∙ read_body lines chain seq (held ++ l ∷ []) body (All-tail (λ z. is_sum z ≡ false) l body h)
    ∙ ap (λ z. with_held lines chain seq z) (append_assoc held (l ∷ []) body)

length_hash : (chain seq body : List ℕ) → length (block_hash chain seq body) ≡ 64
unfolding block_hash
length_hash chain seq body = length-encode_with lower_digits (sha256 (chain ++ codes " " ++ seq ++ codes "\n" ++ body)) ∙ ap (λ n. 2 * n) (length-sha256 (chain ++ codes " " ++ seq ++ codes "\n" ++ body))

drop_front : (front back : List ℕ) (n : ℕ) → n ≡ length front → drop n (front ++ back) ≡ back
drop_front front back n e = ap (λ k. drop k (front ++ back)) e ∙ drop-append_seam front back

seq_is : (count : ℕ) (chain seq body : List ℕ) → seq_of count (sum_line count (block_hash chain seq body) seq) ≡ seq
unfolding seq_of sum_line
seq_is count chain seq body =
    let hash = block_hash chain seq body in
    drop_front ((sum_head count ++ hash) ++ codes " ") seq (length (sum_head count) + 65)
    (omega (arith, length-append (sum_head count ++ hash) (codes " "), length-append (sum_head count) hash, length_hash chain seq body))

is_sum-sum_line : (count : ℕ) (hash seq : List ℕ) → is_sum (sum_line count hash seq) ≡ true
unfolding is_sum sum_line sum_head
is_sum-sum_line count hash seq = refl

-- the place after the right end of these lines, with a sequence
abbrev with_seq : List (List ℕ) → List (List ℕ) → List ℕ → List ℕ → List ℕ → Place
with_seq lines body sum hash s = record { chain = hash; seq = s; confirmed = lines ++ (body ++ sum ∷ []); held = []; whole = true }

-- the line that ends these lines is read as their right end
right_in : (lines : List (List ℕ)) (chain seq s : List ℕ) (body : List (List ℕ)) → end_in (with_held lines chain seq body) (sum_line (length body) (block_hash chain s (joined body)) s) ≡ Some (block_hash chain s (joined body))
unfolding end_in right_end hash_at
right_in lines chain seq s body =
    let n = length body in
    let hash = block_hash chain s (joined body) in
    let sum = sum_line n hash s in
    let q : seq_of n sum ≡ s = seq_is n chain s (joined body) in
    let h : block_hash chain (seq_of n sum) (joined body) ≡ hash = ap (λ z. block_hash chain z (joined body)) q in
    let r : sum_line n (block_hash chain (seq_of n sum) (joined body)) (seq_of n sum) ≡ sum = ap (λ z. sum_line n z (seq_of n sum)) h ∙ ap (λ z. sum_line n hash z) q in
    let test : bytes_eq sum (sum_line n (block_hash chain (seq_of n sum) (joined body)) (seq_of n sum)) ≡ true = (bytes_eq-Decides sum (sum_line n (block_hash chain (seq_of n sum) (joined body)) (seq_of n sum))).1 (sym r) in
    ap (λ b. if b then Some (block_hash chain (seq_of n sum) (joined body)) else None) test ∙ ap (λ z. Some z) h

right : (lines : List (List ℕ)) (chain seq s : List ℕ) (body : List (List ℕ)) → next (with_held lines chain seq body) (sum_line (length body) (block_hash chain s (joined body)) s) ≡ at_end (lines ++ (body ++ sum_line (length body) (block_hash chain s (joined body)) s ∷ [])) (block_hash chain s (joined body)) s
right lines chain seq s body =
    let hash = block_hash chain s (joined body) in
    let sum = sum_line (length body) hash s in
    let p = with_held lines chain seq body in
    next_ended p sum refl (is_sum-sum_line (length body) hash s) ∙ ap (ended_by p sum) (right_in lines chain seq s body)
    ∙ ap (λ z. with_seq lines body sum hash z) (seq_is (length body) chain s (joined body))

confirmed_read : {lines : List (List ℕ)} {chain seq : List ℕ} → Confirmed lines chain seq → place_after lines ≡ at_end lines chain seq
confirmed_read nothing = refl
confirmed_read (block {lines} {chain} {seq} body s sums unsealed) =
    let hash = block_hash chain s (joined body) in
    let sum = sum_line (length body) hash s in
    fold_append start lines (body ++ sum ∷ [])
    ∙ ap (λ p. fold next p (body ++ sum ∷ [])) (confirmed_read sums)
    ∙ fold_append (with_held lines chain seq []) body (sum ∷ [])
    ∙ ap (λ p. fold next p (sum ∷ [])) (read_body lines chain seq [] body unsealed)
    ∙ right lines chain seq s body

-- ---- more lines confirm no less

abbrev Grows : Place → Place → Type 0
Grows p q = length p.confirmed ≤ length q.confirmed

grows_ended : (p : Place) (line : List ℕ) (o : Option (List ℕ)) → Grows p (ended_by p line o)
grows_ended p line None = omega arith
grows_ended p line (Some hash) = omega (arith, length-append p.confirmed (p.held ++ line ∷ []))

grows_line : (p : Place) (line : List ℕ) (w s : Bool) → p.whole ≡ w → is_sum line ≡ s → Grows p (next p line)
grows_line p line false s e f = subst (Grows p) (sym (next_damaged p line e)) (omega arith)
grows_line p line true true e f = subst (Grows p) (sym (next_ended p line e f)) (grows_ended p line (end_in p line))
grows_line p line true false e f = subst (Grows p) (sym (next_held p line e f)) (omega arith)

grows : (p : Place) (lines : List (List ℕ)) → Grows p (fold next p lines)
grows p [] = omega arith
grows p (line ∷ lines) = omega (arith, grows_line p line p.whole (is_sum line) refl refl, grows (next p line) lines)

pub is_greatest : (lines : List (List ℕ)) → IsGreatest lines (place_after lines).confirmed (place_after lines).chain (place_after lines).seq
is_greatest lines =
    let r = is_read lines in
    record {
      rest = r.rest;
      begins = r.begins;
      sums = r.sums;
      greatest = λ front back c s e h.
          let P : List (List ℕ) → Type 0 = λ xs. length xs ≤ length (place_after lines).confirmed in
          let at : (place_after front).confirmed ≡ front = ap (λ (p : Place). p.confirmed) (confirmed_read h) in
          let to : place_after lines ≡ fold next (place_after front) back = ap place_after e ∙ fold_append start front back in
          let g : length (place_after front).confirmed ≤ length (place_after lines).confirmed = subst (Grows (place_after front)) (sym to) (grows (place_after front) back) in
          subst P at g;
    }

-- all lines are confirmed
pub all_confirmed : (lines : List (List ℕ)) → (place_after lines).whole ≡ true → (place_after lines).held ≡ [] → (place_after lines).confirmed ≡ lines
all_confirmed lines w h =
    let r = is_read lines in
    sym (r.begins ∙ ap (λ z. (place_after lines).confirmed ++ z) (r.held_is w ∙ h) ∙ append-nil (place_after lines).confirmed)
