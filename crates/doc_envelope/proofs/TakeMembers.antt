-- The unwrapped text of an envelope whose member `whole` goes on after a run.
use Rattle.proof_prelude.proofs.{◌≡◌, ℕ, suc, ◌==◌, ◌&&◌, nat_lt, length, take, drop, List, [], ◌∷◌, ◌++◌, Bool, true, false, cond, codes, refl, sym, ap, subst, ◌∙◌, append_assoc, append-nil, arith, Option, Some, None, option_map, option_and_then, list_all-append}
use Rattle.json.specs.Text.{prepend}
use Rattle.doc_envelope.specs.{IsRun, Mode, added, all_taken, behind_comma, if_any, is_blank, length_in, members_in, string_of, taken_with, unfolded_member, whole_before}
use Rattle.doc_envelope.specs.Members.{Outside, Quoted, Escaped}
use Rattle.doc_envelope.proofs.Splits.{first_by}
use Rattle.doc_envelope.proofs.TakeContents.{is_open, prepend_more}
use Rattle.doc_envelope.proofs.TakeStrings.{IsOpen, rest_value, run_open, string_part, string_run}

-- ---- the members after a text that is longer than its brace

-- What the members ms append to a text that already has a member.
pub tails : List (List ℕ) → Option (List ℕ)
tails [] = Some []
tails (m ∷ ms) = cond (is_blank m) (tails ms) (option_and_then (λ u. prepend (44 ∷ u) (tails ms)) (unfolded_member m))

abbrev IsLong : List ℕ → Type 0
IsLong t = nat_lt 1 (length t) ≡ true

long_more : (t u : List ℕ) → IsLong t → IsLong (t ++ u)
long_more [] u h = absurd (cc)
long_more (b ∷ []) u h = absurd (cc)
long_more (b ∷ c ∷ t) u h = two (length (t ++ u)) where
  two : (n : ℕ) → nat_lt 1 (suc (suc n)) ≡ true
  two n = grind arith

abbrev TailsOf : List (List ℕ) → Type 0
TailsOf ms = (t : List ℕ) → IsLong t → all_taken t ms ≡ prepend t (tails ms)

tails_by : (m : List ℕ) (ms : List (List ℕ)) (o : Option (List ℕ)) → TailsOf ms → (t : List ℕ) → IsLong t
    → option_and_then (λ u. all_taken u ms) (option_map (added t) o) ≡ prepend t (option_and_then (λ u. prepend (44 ∷ u) (tails ms)) o)
tails_by m ms None more t h = refl
tails_by m ms (Some u) more t h =
    ap (λ c. all_taken (cond c (t ++ 44 ∷ u) (t ++ u)) ms) h ∙ more (t ++ 44 ∷ u) (long_more t (44 ∷ u) h) ∙ sym (prepend_more t (44 ∷ u) (tails ms))

tails_step : (m : List ℕ) (ms : List (List ℕ)) (blank : Bool) → is_blank m ≡ blank → TailsOf ms → TailsOf (m ∷ ms)
unfolding tails all_taken
tails_step m ms true e more t h = rw e (more t h)
tails_step m ms false e more t h = rw e (tails_by m ms (unfolded_member m) more t h)

taken_tails : (ms : List (List ℕ)) → TailsOf ms
unfolding tails all_taken
taken_tails [] t h = ap Some (sym (append-nil t))
taken_tails (m ∷ ms) t h = tails_step m ms (is_blank m) refl (taken_tails ms) t h

-- ---- the member `whole`

abbrev start_mode : Bool → Mode
start_mode false = Quoted
start_mode true = Escaped

abbrev OpenMembers : Bool → List ℕ → Type 0
OpenMembers escaped q = is_open escaped q ≡ true → (n : ℕ) (u t : List ℕ) → members_in (start_mode escaped) n u (q ++ t) ≡ members_in Quoted n (u ++ q) t

string_byte : (n b : ℕ) (u t : List ℕ) → (b == 34) ≡ false → (b == 92) ≡ false → members_in Quoted n u (b ∷ t) ≡ members_in Quoted n (u ++ b ∷ []) t
unfolding members_in
string_byte n b u t e f = rw (e, f) refl

slash_byte : (n b : ℕ) (u t : List ℕ) → (b == 34) ≡ false → (b == 92) ≡ true → members_in Quoted n u (b ∷ t) ≡ members_in Escaped n (u ++ b ∷ []) t
unfolding members_in
slash_byte n b u t e f = rw (e, f) refl

escape_byte : (n b : ℕ) (u t : List ℕ) → members_in Escaped n u (b ∷ t) ≡ members_in Quoted n (u ++ b ∷ []) t
unfolding members_in
escape_byte n b u t = refl

moved : (n b : ℕ) (u q t : List ℕ) → members_in Quoted n ((u ++ b ∷ []) ++ q) t ≡ members_in Quoted n (u ++ b ∷ q) t
moved n b u q t = ap (λ z. members_in Quoted n z t) (append_assoc u (b ∷ []) q)

members_open : (escaped : Bool) (q : List ℕ) → OpenMembers escaped q
members_open true [] h n u t = absurd (cc)
members_open false [] h n u t = ap (λ z. members_in Quoted n z t) (sym (append-nil u))
members_open true (b ∷ q) h n u t = escape_byte n b u (q ++ t) ∙ members_open false q h n (u ++ b ∷ []) t ∙ moved n b u q t
members_open false (b ∷ q) h n u t = by_byte (b == 34) (b == 92) refl refl (members_open true q) (members_open false q) h where
  by_byte : (e s : Bool) → (b == 34) ≡ e → (b == 92) ≡ s → OpenMembers true q → OpenMembers false q → cond e false (is_open s q) ≡ true
      → members_in Quoted n u (b ∷ (q ++ t)) ≡ members_in Quoted n (u ++ b ∷ q) t
  by_byte true s f g p o k = absurd (cc)
  by_byte false true f g p o k = slash_byte n b u (q ++ t) f g ∙ p k n (u ++ b ∷ []) t ∙ moved n b u q t
  by_byte false false f g p o k = string_byte n b u (q ++ t) f g ∙ o k n (u ++ b ∷ []) t ∙ moved n b u q t

whole_members : (q t : List ℕ) → is_open false q ≡ true → members_in Outside 0 [] (whole_before (q ++ t)) ≡ members_in Quoted 0 (whole_before q) t
unfolding members_in
whole_members q t h = members_open false q h 0 (codes "\"whole\":\"") t

-- the member and the other members, after the part q of its string
whole_first : (q t : List ℕ) → members_in Quoted 0 (whole_before q) t
    ≡ whole_before (q ++ take (length_in Quoted 0 t) t) ∷ members_in Outside 0 [] (behind_comma t (length_in Quoted 0 t))
whole_first q t = first_by Quoted 0 (whole_before q) t (some (length (drop 1 (whole_before (q ++ t))))) where
  some : (n : ℕ) → (suc n == 0) ≡ false
  some n = grind arith

whole_taken : (made q : List ℕ) → taken_with made (whole_before q) ≡ option_map (added made) (option_and_then if_any (string_of (34 ∷ q)))
whole_taken made q = refl

blank_more : (c w : List ℕ) → is_blank c ≡ false → is_blank (c ++ w) ≡ false
blank_more c w h = list_all-append (λ b. b == 32) c w ∙ ap (λ e. e && is_blank w) h

any_prepend : (made c : List ℕ) (o : Option (List ℕ)) → is_blank c ≡ false → option_map (added made) (option_and_then if_any (prepend c o)) ≡ prepend (added made c) o
any_prepend made c None h = refl
any_prepend made c (Some w) h = ap (λ e. option_map (added made) (cond e None (Some (c ++ w)))) (blank_more c w h) ∙ ap Some (by_comma (nat_lt 1 (length made))) where
  by_comma : (b : Bool) → cond b (made ++ 44 ∷ (c ++ w)) (made ++ (c ++ w)) ≡ cond b (made ++ 44 ∷ c) (made ++ c) ++ w
  by_comma true = sym (append_assoc made (44 ∷ c) w)
  by_comma false = sym (append_assoc made c w)

-- What the rest t of an envelope appends to the output, if the envelope's member `whole` is open after the part q of its
-- string.
pub rest_taken : List ℕ → List ℕ → Option (List ℕ)
rest_taken q t = option_and_then (λ w. prepend w (tails (members_in Outside 0 [] (behind_comma t (length_in Quoted 0 t))))) (rest_value q (take (length_in Quoted 0 t) t))

ends_taken : (S : List ℕ) (o : Option (List ℕ)) (ms : List (List ℕ)) → IsLong S → option_and_then (λ u. all_taken u ms) (prepend S o) ≡ prepend S (option_and_then (λ w. prepend w (tails ms)) o)
ends_taken S None ms h = refl
ends_taken S (Some w) ms h = taken_tails ms (S ++ w) (long_more S w h) ∙ sym (prepend_more S w (tails ms))

-- for the part p of a string with the content c, where the rest of the string has the value o
taken_by : (made p c : List ℕ) (o : Option (List ℕ)) (t : List ℕ) → is_open false p ≡ true → is_blank c ≡ false → IsLong (added made c)
    → string_of (34 ∷ (p ++ take (length_in Quoted 0 t) t)) ≡ prepend c o
    → all_taken made (members_in Outside 0 [] (whole_before (p ++ t))) ≡ prepend (added made c) (option_and_then (λ w. prepend w (tails (members_in Outside 0 [] (behind_comma t (length_in Quoted 0 t))))) o)
unfolding all_taken
taken_by made p c o t h k l e =
    let rest = members_in Outside 0 [] (behind_comma t (length_in Quoted 0 t)) in
    ap (all_taken made) (whole_members p t h ∙ whole_first p t)
    ∙ ap (option_and_then (λ u. all_taken u rest)) (whole_taken made (p ++ take (length_in Quoted 0 t) t) ∙ ap (λ z. option_map (added made) (option_and_then if_any z)) e ∙ any_prepend made c o k)
    ∙ ends_taken (added made c) o rest l

pub whole_part : (made q c t : List ℕ) → IsOpen q c → is_blank c ≡ false → IsLong (added made c)
    → all_taken made (members_in Outside 0 [] (whole_before (q ++ t))) ≡ prepend (added made c) (rest_taken q t)
unfolding rest_taken
whole_part made q c t o k l = taken_by made q c (rest_value q (take (length_in Quoted 0 t) t)) t o.opened k l (string_part q c (take (length_in Quoted 0 t) t) o)

-- a run does not end the string
added_run : (made c r : List ℕ) → added made c ++ r ≡ added made (c ++ r)
added_run made c r = by_comma (nat_lt 1 (length made)) where
  by_comma : (b : Bool) → cond b (made ++ 44 ∷ c) (made ++ c) ++ r ≡ cond b (made ++ 44 ∷ (c ++ r)) (made ++ (c ++ r))
  by_comma true = append_assoc made (44 ∷ c) r
  by_comma false = append_assoc made c r

open_append : (escaped : Bool) (q r : List ℕ) → is_open escaped q ≡ true → is_open false r ≡ true → is_open escaped (q ++ r) ≡ true
open_append true [] r h k = absurd (cc)
open_append false [] r h k = k
open_append true (b ∷ q) r h k = open_append false q r h k
open_append false (b ∷ q) r h k = by_quote (b == 34) h (open_append (b == 92) q r) where
  by_quote : (e : Bool) → cond e false (is_open (b == 92) q) ≡ true → (is_open (b == 92) q ≡ true → is_open false r ≡ true → is_open (b == 92) (q ++ r) ≡ true) → cond e false (is_open (b == 92) (q ++ r)) ≡ true
  by_quote true m more = m
  by_quote false m more = more m k

pub whole_run : (made q c r t : List ℕ) → IsOpen q c → is_blank c ≡ false → IsLong (added made c) → IsRun r
    → all_taken made (members_in Outside 0 [] (whole_before (q ++ (r ++ t)))) ≡ prepend (added made c ++ r) (rest_taken q t)
unfolding rest_taken
whole_run made q c r t o k l h =
    let v = take (length_in Quoted 0 t) t in
    let S = added made c in
    let same = added_run made c r in
    ap (λ z. all_taken made (members_in Outside 0 [] (whole_before z))) (sym (append_assoc q r t))
    ∙ taken_by made (q ++ r) (c ++ r) (rest_value q v) t (open_append false q r o.opened (run_open r h)) (blank_more c r k) (subst IsLong same (long_more S r l))
    (ap (λ z. string_of (34 ∷ z)) (append_assoc q r v) ∙ string_run q c r v o h)
    ∙ ap (λ z. prepend z (option_and_then (λ w. prepend w (tails (members_in Outside 0 [] (behind_comma t (length_in Quoted 0 t))))) (rest_value q v))) (sym same)
