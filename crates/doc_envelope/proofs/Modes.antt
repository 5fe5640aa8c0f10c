-- The mode of the scanner after a text, by positions in the text.
use Rattle.proof_prelude.proofs.{◌≡◌, ℕ, suc, ◌+◌, ◌<◌, ◌==◌, get_or, prefix_len, drop, length, List, [], ◌∷◌, Bool, true, false, not, cond, refl, sym, ap, subst, ◌∙◌, drop-cons, arith, common_steps}
use Rattle.std.proofs.Math.Seq.{drop-length}
use Rattle.json.specs.Run.{is_plain}
use Rattle.doc_envelope.specs.{Mode, mode_after, mode_behind}
use Rattle.doc_envelope.specs.Members.{Outside, Quoted, Escaped}

mode_cons : (m : Mode) (b : ℕ) (t : List ℕ) → mode_after m (b ∷ t) ≡ mode_after (mode_behind m b) t
mode_cons m b t = unfold mode_after in refl

module _ (text : List ℕ) (i : ℕ) where
  cut : i < length text → drop i text ≡ get_or text i 0 ∷ drop (i + 1) text
  cut h = grind (arith, common_steps, drop-cons text i 0, h)

  pub mode_one : (m : Mode) → i < length text → mode_after m (drop i text) ≡ mode_after (mode_behind m (get_or text i 0)) (drop (i + 1) text)
  mode_one m h = ap (mode_after m) (cut h) ∙ mode_cons m (get_or text i 0) (drop (i + 1) text)

-- the mode within a string or outside
abbrev pub mode_of : Bool → Mode
mode_of quoted = cond quoted Quoted Outside

quote_mode : (quoted : Bool) → mode_behind (mode_of quoted) 34 ≡ mode_of (not quoted)
quote_mode true = refl
quote_mode false = refl

pub mode_quote : (text : List ℕ) (i : ℕ) (quoted : Bool) → i < length text → get_or text i 0 ≡ 34 → mode_after (mode_of quoted) (drop i text) ≡ mode_after (mode_of (not quoted)) (drop (i + 1) text)
mode_quote text i quoted h e =
    mode_one text i (mode_of quoted) h ∙ ap (λ m. mode_after m (drop (i + 1) text)) (ap (mode_behind (mode_of quoted)) e ∙ quote_mode quoted)

pub mode_outside : (text : List ℕ) (i : ℕ) (quoted : Bool) → quoted ≡ false → i < length text → (get_or text i 0 == 34) ≡ false → mode_after (mode_of quoted) (drop i text) ≡ mode_after (mode_of quoted) (drop (i + 1) text)
mode_outside text i quoted q h e = subst (λ b. mode_after (mode_of b) (drop i text) ≡ mode_after (mode_of b) (drop (i + 1) text)) (sym q)
    (mode_one text i Outside h ∙ ap (λ b. mode_after (cond b Quoted Outside) (drop (i + 1) text)) e)

pub mode_escape : (text : List ℕ) (i : ℕ) (quoted : Bool) → quoted ≡ true → i + 1 < length text → get_or text i 0 ≡ 92 → mode_after (mode_of quoted) (drop i text) ≡ mode_after (mode_of quoted) (drop (i + 2) text)
mode_escape text i quoted q h e = subst (λ b. mode_after (mode_of b) (drop i text) ≡ mode_after (mode_of b) (drop (i + 2) text)) (sym q)
    (let two : i + 1 + 1 ≡ i + 2 = omega arith in
    mode_one text i Quoted (omega arith) ∙ ap (λ b. mode_after (mode_behind Quoted b) (drop (i + 1) text)) e ∙ mode_one text (i + 1) Escaped h
    ∙ ap (λ n. mode_after Quoted (drop n text)) two)

plain_mode : (b : ℕ) → is_plain b ≡ true → mode_behind Quoted b ≡ Quoted
plain_mode b h =
    let quote : (b == 34) ≡ false = grind arith in
    let slash : (b == 92) ≡ false = grind arith in
    rw (quote, slash) refl

plain_by : (b k : ℕ) (u : List ℕ) (p : Bool) → is_plain b ≡ p → mode_after Quoted u ≡ mode_after Quoted (drop k u) → mode_after Quoted (b ∷ u) ≡ mode_after Quoted (drop (cond p (1 + k) 0) (b ∷ u))
plain_by b k u true e more =
    let one : 1 + k ≡ suc k = omega arith in
    mode_cons Quoted b u ∙ ap (λ m. mode_after m u) (plain_mode b e) ∙ more ∙ sym (ap (λ n. mode_after Quoted (drop n (b ∷ u))) one)
plain_by b k u false e more = refl

mode_plain : (u : List ℕ) → mode_after Quoted u ≡ mode_after Quoted (drop (prefix_len is_plain u) u)
mode_plain [] = refl
mode_plain (b ∷ u) = plain_by b (prefix_len is_plain u) u (is_plain b) refl (mode_plain u)

other_mode : (b : ℕ) → (b == 34) ≡ false → (b == 92) ≡ false → mode_behind Quoted b ≡ Quoted
other_mode b e f = rw (e, f) refl

pub mode_run : (text : List ℕ) (i j : ℕ) (quoted : Bool) → quoted ≡ true → i < length text → (get_or text i 0 == 34) ≡ false → (get_or text i 0 == 92) ≡ false
    → j ≡ i + 1 + prefix_len is_plain (drop (i + 1) text) → mode_after (mode_of quoted) (drop i text) ≡ mode_after (mode_of quoted) (drop j text)
mode_run text i j quoted q h e f g = subst (λ b. mode_after (mode_of b) (drop i text) ≡ mode_after (mode_of b) (drop j text)) (sym q)
    (let to : drop (prefix_len is_plain (drop (i + 1) text)) (drop (i + 1) text) ≡ drop j text = grind (arith, common_steps, g) in
    mode_one text i Quoted h ∙ ap (λ m. mode_after m (drop (i + 1) text)) (other_mode (get_or text i 0) e f) ∙ mode_plain (drop (i + 1) text)
    ∙ ap (mode_after Quoted) to)

pub mode_end : (text : List ℕ) (i : ℕ) (quoted : Bool) → length text ≡ i → quoted ≡ true → mode_after (mode_of quoted) (drop i text) ≡ Quoted
mode_end text i quoted e q =
    ap (λ n. mode_after (mode_of quoted) (drop n text)) (sym e) ∙ ap (mode_after (mode_of quoted)) (drop-length text) ∙ none (mode_of quoted) ∙ ap mode_of q where
      none : (m : Mode) → mode_after m [] ≡ m
      none m = unfold mode_after in refl
