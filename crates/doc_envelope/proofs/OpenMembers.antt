-- The members of a text that goes on in its last member.
use Rattle.proof_prelude.proofs.{◌≡◌, ℕ, suc, ◌+◌, ◌<◌, List, [], ◌∷◌, ◌++◌, length, take, drop, Bool, true, false, cond, ◌==◌, refl, sym, ap, subst, ◌∙◌, arith, append_assoc, append-nil, list_all, and_parts, get_or-append_seam, take-append_seam, length-append}
use Rattle.std.proofs.Math.Seq.{drop-append-add}
use Rattle.doc_envelope.specs.{IsRun, Mode, Opens, behind_comma, ends_member, first_length, is_streamable, length_in, members_in, mode_after, mode_behind, nesting_behind, open_last, open_later}
use Rattle.doc_envelope.specs.Members.{Outside, Quoted, Escaped}
use Rattle.doc_envelope.proofs.Splits.{members_first}
use Rattle.doc_envelope.proofs.Runs.{streams}

-- the number of open brackets after a text
unfoldable pub nesting_after : Mode → ℕ → List ℕ → ℕ
nesting_after m n [] = n
nesting_after m n (b ∷ t) = nesting_after (mode_behind m b) (nesting_behind m n b) t

zero_suc : (n : ℕ) → 0 ≡ n + 1 → ⊥
zero_suc n h = omega arith

-- a member that goes on after the text u
module _ (z : List ℕ) where
  open_by : (m : Mode) (n b : ℕ) (u v : List ℕ) (c : Bool) → ends_member m n b ≡ c → cond c 0 (length_in (mode_behind m b) (nesting_behind m n b) u + 1) ≡ length u + 1
      → (length_in (mode_behind m b) (nesting_behind m n b) u ≡ length u
      → members_in (mode_behind m b) (nesting_behind m n b) (v ++ b ∷ []) (u ++ z)
      ≡ members_in (mode_after (mode_behind m b) u) (nesting_after (mode_behind m b) (nesting_behind m n b) u) ((v ++ b ∷ []) ++ u) z)
      → members_in m n v (b ∷ (u ++ z)) ≡ members_in (mode_after m (b ∷ u)) (nesting_after m n (b ∷ u)) (v ++ b ∷ u) z
  unfolding members_in mode_after nesting_after
  open_by m n b u v true e h ih = absurd (zero_suc (length u) h)
  open_by m n b u v false e h ih =
      rw e (ih (omega (arith, h)) ∙ ap (λ y. members_in (mode_after (mode_behind m b) u) (nesting_after (mode_behind m b) (nesting_behind m n b) u) y z) (append_assoc v (b ∷ []) u))

  pub open_passes : (u : List ℕ) (m : Mode) (n : ℕ) (v : List ℕ) → length_in m n u ≡ length u → members_in m n v (u ++ z) ≡ members_in (mode_after m u) (nesting_after m n u) (v ++ u) z
  unfolding length_in mode_after nesting_after
  open_passes [] m n v h = ap (λ y. members_in m n y z) (sym (append-nil v))
  open_passes (b ∷ u) m n v h =
      let one : suc (length u) ≡ length u + 1 = omega arith in
      open_by m n b u v (ends_member m n b) refl (h ∙ one) (open_passes u (mode_behind m b) (nesting_behind m n b) (v ++ b ∷ []))

length_by : (m : Mode) (n : ℕ) (b : ℕ) (t x : List ℕ) (c : Bool) → ends_member m n b ≡ c → length_in m n (b ∷ t) < suc (length t)
    → (length_in (mode_behind m b) (nesting_behind m n b) t < length t → length_in (mode_behind m b) (nesting_behind m n b) (t ++ x) ≡ length_in (mode_behind m b) (nesting_behind m n b) t)
    → length_in m n (b ∷ (t ++ x)) ≡ length_in m n (b ∷ t)
unfolding length_in
length_by m n b t x true e h more = rw e refl
length_by m n b t x false e h more =
    let k : length_in (mode_behind m b) (nesting_behind m n b) t + 1 < suc (length t) = subst (λ c. cond c 0 (length_in (mode_behind m b) (nesting_behind m n b) t + 1) < suc (length t)) e h in
    rw e (ap (λ z. z + 1) (more (omega arith)))

-- a member that ends in a text
pub length-append_end : (m : Mode) (n : ℕ) (t x : List ℕ) → length_in m n t < length t → length_in m n (t ++ x) ≡ length_in m n t
length-append_end m n [] x h = absurd (omega arith)
length-append_end m n (b ∷ t) x h = length_by m n b t x (ends_member m n b) refl h (length-append_end (mode_behind m b) (nesting_behind m n b) t x)

-- a member before a comma
pub comma_members : (m u t : List ℕ) → first_length (m ++ 44 ∷ u) ≡ length m → members_in Outside 0 [] ((m ++ 44 ∷ u) ++ t) ≡ m ∷ members_in Outside 0 [] (u ++ t)
comma_members m u t h =
    let w = u ++ t in
    let sum = length-append m (44 ∷ u) in
    let within : first_length (m ++ 44 ∷ u) < length (m ++ 44 ∷ u) = omega (arith, sum, h) in
    let count = sym (ap first_length (append_assoc m (44 ∷ u) t)) ∙ length-append_end Outside 0 (m ++ 44 ∷ u) t within ∙ h in
    let behind = ap (λ b. cond b (drop (length m + 1) (m ++ 44 ∷ w)) []) (ap (λ b. b == 44) (get_or-append_seam m 44 w 0)) ∙ drop-append-add m (44 ∷ w) 1 in
    ap (members_in Outside 0 []) (append_assoc m (44 ∷ u) t) ∙ members_first (m ++ 44 ∷ w) (some m w)
    ∙ ap (λ n. take n (m ++ 44 ∷ w) ∷ members_in Outside 0 [] (behind_comma (m ++ 44 ∷ w) n)) count
    ∙ ap (λ z. z ∷ members_in Outside 0 [] (behind_comma (m ++ 44 ∷ w) (length m))) (take-append_seam m (44 ∷ w))
    ∙ ap (λ z. m ∷ members_in Outside 0 [] z) behind where
      some : (m w : List ℕ) → (length (m ++ 44 ∷ w) == 0) ≡ false
      some [] w = one (length w) where
        one : (n : ℕ) → (suc n == 0) ≡ false
        one n = grind arith
      some (b ∷ m) w = one (length (m ++ 44 ∷ w)) where
        one : (n : ℕ) → (suc n == 0) ≡ false
        one n = grind arith

-- the members before an open member, if the text z follows
pub record Before (t u : List ℕ) : Type 0 where
  pub members : List (List ℕ)
  pub text : List ℕ
  pub is : t ≡ text ++ u
  pub all : (z : List ℕ) → members_in Outside 0 [] (t ++ z) ≡ members ++ members_in (mode_after Outside u) (nesting_after Outside 0 u) u z

pub before_of : (t u : List ℕ) → Opens t u → Before t u
before_of t u (open_last h) = record { members = []; text = []; is = refl; all = λ z. open_passes z t Outside 0 [] h }
before_of x u (open_later m t h o) =
    let f = before_of t u o in
    record {
      members = m ∷ f.members;
      text = m ++ 44 ∷ f.text;
      is = ap (λ v. m ++ 44 ∷ v) f.is ∙ sym (append_assoc m (44 ∷ f.text) u);
      all = λ z. comma_members m t z h ∙ ap (λ ns. m ∷ ns) (f.all z);
    }

-- ---- a run in the open member

run_by : (n : ℕ) (x : ℕ) → (x == 34) ≡ false → (x == 92) ≡ false → mode_behind Quoted x ≡ Quoted
run_by n x e f = ap (λ b. cond b Outside (cond (x == 92) Escaped Quoted)) e ∙ ap (λ b. cond b Escaped Quoted) f

pub run_members : (r : List ℕ) (n : ℕ) (u z : List ℕ) → IsRun r → members_in Quoted n u (r ++ z) ≡ members_in Quoted n (u ++ r) z
unfolding members_in
run_members [] n u z h = ap (λ v. members_in Quoted n v z) (sym (append-nil u))
run_members (x ∷ r) n u z h =
    let parts = and_parts (is_streamable x) (list_all is_streamable r) h in
    let q = streams x parts.0 in
    ap (λ m. members_in m n (u ++ x ∷ []) (r ++ z)) (run_by n x q.0 q.1) ∙ run_members r n (u ++ x ∷ []) z parts.1 ∙ ap (λ v. members_in Quoted n v z) (append_assoc u (x ∷ []) r)

-- ---- the loop over the members before the open member

pub opens_step : (s rest m t : List ℕ) → rest ≡ m ++ 44 ∷ t → first_length rest ≡ length m → ((u : List ℕ) → Opens rest u → Opens s u) → (u : List ℕ) → Opens t u → Opens s u
opens_step s rest m t e f inside u o = inside u (subst (λ v. Opens v u) (sym e) (open_later m t (sym (ap first_length e) ∙ f) o))

pub opens_all : (s rest : List ℕ) → ((u : List ℕ) → Opens rest u → Opens s u) → first_length rest ≡ length rest → Opens s rest
opens_all s rest inside h = inside rest (open_last h)
