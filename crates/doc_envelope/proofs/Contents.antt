-- The content of a JSON string, byte by byte.
use Rattle.proof_prelude.proofs.{◌≡◌, ℕ, suc, ◌-◌, ◌≤◌, List, [], ◌∷◌, ◌++◌, length, Bool, true, false, cond, ◌&&◌, ◌==◌, nat_lt, refl, sym, ap, ◌∙◌, Option, Some, None, option_and_then, encode_utf8, is_digit, eqb-true, arith, append_assoc, list_all, and_parts}
use Rattle.json.specs.Text.{plain, after_backslash, after_u, after_high, content, code_unit, short_escape, is_high_surrogate, is_low_surrogate, surrogate_pair, prepend}
use Rattle.doc_envelope.specs.{IsRun, Mode, is_streamable, mode_after, mode_behind}
use Rattle.doc_envelope.specs.Members.{Outside, Quoted, Escaped}

-- The place in a string: outside of escapes, after a backslash, within the digits of an escape, and within the escape
-- that follows a high surrogate.
data State : Type 0 where
  plainly : State
  escape : State
  u0 : State
  u1 : ℕ → State
  u2 : ℕ → ℕ → State
  u3 : ℕ → ℕ → ℕ → State
  h0 : ℕ → State
  h1 : ℕ → State
  h2 : ℕ → State
  h3 : ℕ → ℕ → State
  h4 : ℕ → ℕ → ℕ → State
  h5 : ℕ → ℕ → ℕ → ℕ → State

-- the content that follows a place
abbrev rest : State → List ℕ → Option (List ℕ)
rest plainly z = content plain z
rest escape z = content after_backslash z
rest u0 z = content after_u z
rest (u1 a) z = content after_u (a ∷ z)
rest (u2 a b) z = content after_u (a ∷ b ∷ z)
rest (u3 a b c) z = content after_u (a ∷ b ∷ c ∷ z)
rest (h0 h) z = content (after_high h) z
rest (h1 h) z = content (after_high h) (92 ∷ z)
rest (h2 h) z = content (after_high h) (92 ∷ 117 ∷ z)
rest (h3 h a) z = content (after_high h) (92 ∷ 117 ∷ a ∷ z)
rest (h4 h a b) z = content (after_high h) (92 ∷ 117 ∷ a ∷ b ∷ z)
rest (h5 h a b c) z = content (after_high h) (92 ∷ 117 ∷ a ∷ b ∷ c ∷ z)

-- A byte determines the content, or appends bytes and goes on.
data Step : Type 0 where
  ends : Option (List ℕ) → Step
  goes : List ℕ → State → Step

abbrev short_step : Option ℕ → Step
short_step None = ends None
short_step (Some c) = goes (c ∷ []) plainly

abbrev unit_step : Option ℕ → Step
unit_step None = ends None
unit_step (Some u) = cond (is_high_surrogate u) (goes [] (h0 u)) (cond (is_low_surrogate u) (ends None) (goes (encode_utf8 u) plainly))

abbrev pair_step : ℕ → Option ℕ → Step
pair_step h None = ends None
pair_step h (Some l) = cond (is_low_surrogate l) (goes (encode_utf8 (surrogate_pair h l)) plainly) (ends None)

abbrev step : State → ℕ → Step
step plainly x = cond (x == 34) (ends (Some [])) (cond (x == 92) (goes [] escape) (cond (nat_lt x 32) (ends None) (goes (x ∷ []) plainly)))
step escape x = cond (x == 117) (goes [] u0) (short_step (short_escape x))
step u0 x = cond (is_digit x 16) (goes [] (u1 x)) (ends None)
step (u1 a) x = cond (is_digit x 16) (goes [] (u2 a x)) (ends None)
step (u2 a b) x = cond (is_digit x 16) (goes [] (u3 a b x)) (ends None)
step (u3 a b c) x = cond (is_digit x 16) (unit_step (code_unit a b c x)) (ends None)
step (h0 h) x = cond (x == 92) (goes [] (h1 h)) (ends None)
step (h1 h) x = cond (x == 117) (goes [] (h2 h)) (ends None)
step (h2 h) x = cond (is_digit x 16) (goes [] (h3 h x)) (ends None)
step (h3 h a) x = cond (is_digit x 16) (goes [] (h4 h a x)) (ends None)
step (h4 h a b) x = cond (is_digit x 16) (goes [] (h5 h a b x)) (ends None)
step (h5 h a b c) x = cond (is_digit x 16) (pair_step h (code_unit a b c x)) (ends None)

-- what a step says of the content, for each text that follows
abbrev Means : (List ℕ → Option (List ℕ)) → Step → Type 0
Means g (ends o) = (z : List ℕ) → g z ≡ o
Means g (goes c st) = (z : List ℕ) → g z ≡ prepend c (rest st z)

means_cond : (b : Bool) (g h : List ℕ → Option (List ℕ)) (s t : Step) → Means g s → Means h t → Means (λ z. cond b (g z) (h z)) (cond b s t)
means_cond true g h s t m n = m
means_cond false g h s t m n = n

means_by : (b : Bool) (g : List ℕ → Option (List ℕ)) (s : Step) → (b ≡ true → Means g s) → (b ≡ false → Means g (ends None)) → Means g (cond b s (ends None))
means_by true g s m n = m refl
means_by false g s m n = n refl

-- ---- a byte that is no digit

and_1 : (a b c d : Bool) → a ≡ false → (a && b && c && d) ≡ false
and_1 a b c d e = rw e refl

and_2 : (a b c d : Bool) → b ≡ false → (a && b && c && d) ≡ false
and_2 true b c d e = rw e refl
and_2 false b c d e = refl

and_3 : (a b c d : Bool) → c ≡ false → (a && b && c && d) ≡ false
and_3 true true c d e = rw e refl
and_3 true false c d e = refl
and_3 false b c d e = refl

no_unit : (a b c d : ℕ) → (is_digit a 16 && is_digit b 16 && is_digit c 16 && is_digit d 16) ≡ false → code_unit a b c d ≡ None
unfolding code_unit
no_unit a b c d e = rw e refl

prepend_none : (r : Option (List ℕ)) → r ≡ prepend [] r
prepend_none None = refl
prepend_none (Some s) = refl

prepend_twice : (a b : List ℕ) (r : Option (List ℕ)) → prepend a (prepend b r) ≡ prepend (a ++ b) r
prepend_twice a b None = refl
prepend_twice a b (Some s) = ap Some (sym (append_assoc a b s))

no_0 : (x : ℕ) → is_digit x 16 ≡ false → (z : List ℕ) → content after_u (x ∷ z) ≡ None
unfolding content
no_0 x e [] = refl
no_0 x e (b ∷ []) = refl
no_0 x e (b ∷ c ∷ []) = refl
no_0 x e (b ∷ c ∷ d ∷ z) = rw (no_unit x b c d (and_1 (is_digit x 16) (is_digit b 16) (is_digit c 16) (is_digit d 16) e)) refl

no_1 : (a x : ℕ) → is_digit x 16 ≡ false → (z : List ℕ) → content after_u (a ∷ x ∷ z) ≡ None
unfolding content
no_1 a x e [] = refl
no_1 a x e (c ∷ []) = refl
no_1 a x e (c ∷ d ∷ z) = rw (no_unit a x c d (and_2 (is_digit a 16) (is_digit x 16) (is_digit c 16) (is_digit d 16) e)) refl

no_2 : (a b x : ℕ) → is_digit x 16 ≡ false → (z : List ℕ) → content after_u (a ∷ b ∷ x ∷ z) ≡ None
unfolding content
no_2 a b x e [] = refl
no_2 a b x e (d ∷ z) = rw (no_unit a b x d (and_3 (is_digit a 16) (is_digit b 16) (is_digit x 16) (is_digit d 16) e)) refl

and_4 : (a b c d : Bool) → d ≡ false → (a && b && c && d) ≡ false
and_4 true true true d e = e
and_4 true true false d e = refl
and_4 true false c d e = refl
and_4 false b c d e = refl

no_3 : (a b c x : ℕ) → is_digit x 16 ≡ false → (z : List ℕ) → content after_u (a ∷ b ∷ c ∷ x ∷ z) ≡ None
unfolding content
no_3 a b c x e z = rw (no_unit a b c x (and_4 (is_digit a 16) (is_digit b 16) (is_digit c 16) (is_digit x 16) e)) refl

module _ (h : ℕ) where
  no_h0 : (x : ℕ) → (x == 92) ≡ false → (z : List ℕ) → content (after_high h) (x ∷ z) ≡ None
  unfolding content
  no_h0 x e [] = refl
  no_h0 x e (u ∷ []) = refl
  no_h0 x e (u ∷ a ∷ []) = refl
  no_h0 x e (u ∷ a ∷ b ∷ []) = refl
  no_h0 x e (u ∷ a ∷ b ∷ c ∷ []) = refl
  no_h0 x e (u ∷ a ∷ b ∷ c ∷ d ∷ z) = rw e refl

  no_h1 : (x : ℕ) → (x == 117) ≡ false → (z : List ℕ) → content (after_high h) (92 ∷ x ∷ z) ≡ None
  unfolding content
  no_h1 x e [] = refl
  no_h1 x e (a ∷ []) = refl
  no_h1 x e (a ∷ b ∷ []) = refl
  no_h1 x e (a ∷ b ∷ c ∷ []) = refl
  no_h1 x e (a ∷ b ∷ c ∷ d ∷ z) = rw e refl

  no_h2 : (x : ℕ) → is_digit x 16 ≡ false → (z : List ℕ) → content (after_high h) (92 ∷ 117 ∷ x ∷ z) ≡ None
  unfolding content
  no_h2 x e [] = refl
  no_h2 x e (b ∷ []) = refl
  no_h2 x e (b ∷ c ∷ []) = refl
  no_h2 x e (b ∷ c ∷ d ∷ z) = rw (no_unit x b c d (and_1 (is_digit x 16) (is_digit b 16) (is_digit c 16) (is_digit d 16) e)) refl

  no_h3 : (a x : ℕ) → is_digit x 16 ≡ false → (z : List ℕ) → content (after_high h) (92 ∷ 117 ∷ a ∷ x ∷ z) ≡ None
  unfolding content
  no_h3 a x e [] = refl
  no_h3 a x e (c ∷ []) = refl
  no_h3 a x e (c ∷ d ∷ z) = rw (no_unit a x c d (and_2 (is_digit a 16) (is_digit x 16) (is_digit c 16) (is_digit d 16) e)) refl

  no_h4 : (a b x : ℕ) → is_digit x 16 ≡ false → (z : List ℕ) → content (after_high h) (92 ∷ 117 ∷ a ∷ b ∷ x ∷ z) ≡ None
  unfolding content
  no_h4 a b x e [] = refl
  no_h4 a b x e (d ∷ z) = rw (no_unit a b x d (and_3 (is_digit a 16) (is_digit b 16) (is_digit x 16) (is_digit d 16) e)) refl

  no_h5 : (a b c x : ℕ) → is_digit x 16 ≡ false → (z : List ℕ) → content (after_high h) (92 ∷ 117 ∷ a ∷ b ∷ c ∷ x ∷ z) ≡ None
  unfolding content
  no_h5 a b c x e z = rw (no_unit a b c x (and_4 (is_digit a 16) (is_digit b 16) (is_digit c 16) (is_digit x 16) e)) refl

  at_h0 : (x : ℕ) → (x == 92) ≡ true → (z : List ℕ) → content (after_high h) (x ∷ z) ≡ prepend [] (content (after_high h) (92 ∷ z))
  at_h0 x e z = ap (λ y. content (after_high h) (y ∷ z)) (eqb-true x 92 e) ∙ prepend_none (content (after_high h) (92 ∷ z))

  at_h1 : (x : ℕ) → (x == 117) ≡ true → (z : List ℕ) → content (after_high h) (92 ∷ x ∷ z) ≡ prepend [] (content (after_high h) (92 ∷ 117 ∷ z))
  at_h1 x e z = ap (λ y. content (after_high h) (92 ∷ y ∷ z)) (eqb-true x 117 e) ∙ prepend_none (content (after_high h) (92 ∷ 117 ∷ z))

-- ---- each step

means_short : (o : Option ℕ) → Means (λ z. option_and_then (λ c. prepend (c ∷ []) (content plain z)) o) (short_step o)
means_short None = λ z. refl
means_short (Some c) = λ z. refl

means_unit : (o : Option ℕ)
    → Means (λ z. option_and_then (λ u. cond (is_high_surrogate u) (content (after_high u) z) (cond (is_low_surrogate u) None (prepend (encode_utf8 u) (content plain z)))) o) (unit_step o)
means_unit None = λ z. refl
means_unit (Some u) =
    means_cond (is_high_surrogate u) (λ z. content (after_high u) z) (λ z. cond (is_low_surrogate u) None (prepend (encode_utf8 u) (content plain z))) (goes [] (h0 u))
    (cond (is_low_surrogate u) (ends None) (goes (encode_utf8 u) plainly)) (λ z. prepend_none (content (after_high u) z))
    (means_cond (is_low_surrogate u) (λ z. None) (λ z. prepend (encode_utf8 u) (content plain z)) (ends None) (goes (encode_utf8 u) plainly) (λ z. refl) (λ z. refl))

means_pair : (h : ℕ) (o : Option ℕ)
    → Means (λ z. option_and_then (λ l. cond (is_low_surrogate l) (prepend (encode_utf8 (surrogate_pair h l)) (content plain z)) None) o) (pair_step h o)
means_pair h None = λ z. refl
means_pair h (Some l) =
    means_cond (is_low_surrogate l) (λ z. prepend (encode_utf8 (surrogate_pair h l)) (content plain z)) (λ z. None) (goes (encode_utf8 (surrogate_pair h l)) plainly) (ends None) (λ z. refl) (λ z. refl)

means_step : (st : State) (x : ℕ) → Means (λ z. rest st (x ∷ z)) (step st x)
unfolding content
means_step plainly x =
    means_cond (x == 34) (λ z. Some []) (λ z. cond (x == 92) (content after_backslash z) (cond (nat_lt x 32) None (prepend (x ∷ []) (content plain z)))) (ends (Some []))
    (cond (x == 92) (goes [] escape) (cond (nat_lt x 32) (ends None) (goes (x ∷ []) plainly))) (λ z. refl)
    (means_cond (x == 92) (λ z. content after_backslash z) (λ z. cond (nat_lt x 32) None (prepend (x ∷ []) (content plain z))) (goes [] escape)
    (cond (nat_lt x 32) (ends None) (goes (x ∷ []) plainly)) (λ z. prepend_none (content after_backslash z))
    (means_cond (nat_lt x 32) (λ z. None) (λ z. prepend (x ∷ []) (content plain z)) (ends None) (goes (x ∷ []) plainly) (λ z. refl) (λ z. refl)))
means_step escape x =
    means_cond (x == 117) (λ z. content after_u z) (λ z. option_and_then (λ c. prepend (c ∷ []) (content plain z)) (short_escape x)) (goes [] u0) (short_step (short_escape x))
    (λ z. prepend_none (content after_u z)) (means_short (short_escape x))
means_step u0 x = means_by (is_digit x 16) (λ z. content after_u (x ∷ z)) (goes [] (u1 x)) (λ e z. prepend_none (content after_u (x ∷ z))) (no_0 x)
means_step (u1 a) x = means_by (is_digit x 16) (λ z. content after_u (a ∷ x ∷ z)) (goes [] (u2 a x)) (λ e z. prepend_none (content after_u (a ∷ x ∷ z))) (no_1 a x)
means_step (u2 a b) x = means_by (is_digit x 16) (λ z. content after_u (a ∷ b ∷ x ∷ z)) (goes [] (u3 a b x)) (λ e z. prepend_none (content after_u (a ∷ b ∷ x ∷ z))) (no_2 a b x)
means_step (u3 a b c) x = means_by (is_digit x 16) (λ z. content after_u (a ∷ b ∷ c ∷ x ∷ z)) (unit_step (code_unit a b c x)) (λ e. means_unit (code_unit a b c x)) (no_3 a b c x)
means_step (h0 h) x = means_by (x == 92) (λ z. content (after_high h) (x ∷ z)) (goes [] (h1 h)) (at_h0 h x) (no_h0 h x)
means_step (h1 h) x = means_by (x == 117) (λ z. content (after_high h) (92 ∷ x ∷ z)) (goes [] (h2 h)) (at_h1 h x) (no_h1 h x)
means_step (h2 h) x = means_by (is_digit x 16) (λ z. rest (h2 h) (x ∷ z)) (goes [] (h3 h x)) (λ e z. prepend_none (rest (h3 h x) z)) (no_h2 h x)
means_step (h3 h a) x = means_by (is_digit x 16) (λ z. rest (h3 h a) (x ∷ z)) (goes [] (h4 h a x)) (λ e z. prepend_none (rest (h4 h a x) z)) (no_h3 h a x)
means_step (h4 h a b) x = means_by (is_digit x 16) (λ z. rest (h4 h a b) (x ∷ z)) (goes [] (h5 h a b x)) (λ e z. prepend_none (rest (h5 h a b x) z)) (no_h4 h a b x)
means_step (h5 h a b c) x = means_by (is_digit x 16) (λ z. rest (h5 h a b c) (x ∷ z)) (pair_step h (code_unit a b c x)) (λ e. means_pair h (code_unit a b c x)) (no_h5 h a b c x)

-- ---- the mode of the scanner, and the number of streamable bytes after which no escape is open

abbrev mode_of : State → Mode
mode_of plainly = Quoted
mode_of escape = Escaped
mode_of u0 = Quoted
mode_of (u1 a) = Quoted
mode_of (u2 a b) = Quoted
mode_of (u3 a b c) = Quoted
mode_of (h0 h) = Quoted
mode_of (h1 h) = Escaped
mode_of (h2 h) = Quoted
mode_of (h3 h a) = Quoted
mode_of (h4 h a b) = Quoted
mode_of (h5 h a b c) = Quoted

abbrev far : State → ℕ
far plainly = 0
far escape = 6
far u0 = 5
far (u1 a) = 4
far (u2 a b) = 3
far (u3 a b c) = 2
far (h0 h) = 1
far (h1 h) = 5
far (h2 h) = 4
far (h3 h a) = 3
far (h4 h a b) = 2
far (h5 h a b c) = 1

-- the state after a byte has the mode after the byte, and is nearer to the end of an escape if the byte is streamable
abbrev Moves : State → ℕ → Step → Type 0
Moves st x (ends o) = Unit {0}
Moves st x (goes c next) = (mode_behind (mode_of st) x ≡ mode_of next) × (is_streamable x ≡ true → far next ≤ far st - 1)

no_quote : (x : ℕ) → is_digit x 16 ≡ true → ((x == 34) ≡ false) × ((x == 92) ≡ false)
no_quote x h = (grind arith, grind arith)

streams_plain : (x : ℕ) → is_streamable x ≡ true → ((x == 34) ≡ false) × ((x == 92) ≡ false) × (nat_lt x 32 ≡ false)
streams_plain x h = (grind arith, grind arith, grind arith)

quoted_stays : (x : ℕ) → (x == 34) ≡ false → (x == 92) ≡ false → mode_behind Quoted x ≡ Quoted
quoted_stays x e f = ap (λ b. cond b Outside (cond (x == 92) Escaped Quoted)) e ∙ ap (λ b. cond b Escaped Quoted) f

quoted_escapes : (x : ℕ) → (x == 34) ≡ false → (x == 92) ≡ true → mode_behind Quoted x ≡ Escaped
quoted_escapes x e f = ap (λ b. cond b Outside (cond (x == 92) Escaped Quoted)) e ∙ ap (λ b. cond b Escaped Quoted) f

moves_by : (st : State) (x : ℕ) (b : Bool) (s : Step) → (b ≡ true → Moves st x s) → Moves st x (cond b s (ends None))
moves_by st x true s m = m refl
moves_by st x false s m = tt

digit_moves : (x : ℕ) (st next : State) → mode_of st ≡ Quoted → mode_of next ≡ Quoted → far next ≤ far st - 1 → is_digit x 16 ≡ true → Moves st x (goes [] next)
digit_moves x st next e f n h =
    let q = no_quote x h in
    (ap (λ m. mode_behind m x) e ∙ quoted_stays x q.0 q.1 ∙ sym f, (λ _. n))

plain_moves : (x : ℕ) (a b c : Bool) → (x == 34) ≡ a → (x == 92) ≡ b → nat_lt x 32 ≡ c
    → Moves plainly x (cond a (ends (Some [])) (cond b (goes [] escape) (cond c (ends None) (goes (x ∷ []) plainly))))
plain_moves x true b c e f g = tt
plain_moves x false true c e f g = (quoted_escapes x e f, (λ h. absurd (clash f (streams_plain x h).1))) where
  clash : (x == 92) ≡ true → (x == 92) ≡ false → ⊥
  clash f g = absurd (cc)
plain_moves x false false true e f g = tt
plain_moves x false false false e f g = (quoted_stays x e f, (λ _. omega arith))

short_moves : (x : ℕ) (o : Option ℕ) → Moves escape x (short_step o)
short_moves x None = tt
short_moves x (Some c) = (refl, (λ _. omega arith))

escape_moves : (x : ℕ) (b : Bool) → Moves escape x (cond b (goes [] u0) (short_step (short_escape x)))
escape_moves x true = (refl, (λ _. omega arith))
escape_moves x false = short_moves x (short_escape x)

unit_moves : (a b c x : ℕ) (o : Option ℕ) → is_digit x 16 ≡ true → Moves (u3 a b c) x (unit_step o)
unit_moves a b c x None h = tt
unit_moves a b c x (Some u) h = at (is_high_surrogate u) (is_low_surrogate u) where
  at : (s t : Bool) → Moves (u3 a b c) x (cond s (goes [] (h0 u)) (cond t (ends None) (goes (encode_utf8 u) plainly)))
  at true t = digit_moves x (u3 a b c) (h0 u) refl refl (omega arith) h
  at false true = tt
  at false false = let q = no_quote x h in (quoted_stays x q.0 q.1, (λ _. omega arith))

pair_moves : (h a b c x : ℕ) (o : Option ℕ) → is_digit x 16 ≡ true → Moves (h5 h a b c) x (pair_step h o)
pair_moves h a b c x None d = tt
pair_moves h a b c x (Some l) d = at (is_low_surrogate l) where
  at : (s : Bool) → Moves (h5 h a b c) x (cond s (goes (encode_utf8 (surrogate_pair h l)) plainly) (ends None))
  at true = let q = no_quote x d in (quoted_stays x q.0 q.1, (λ _. omega arith))
  at false = tt

high_moves : (h x : ℕ) → (x == 92) ≡ true → Moves (h0 h) x (goes [] (h1 h))
high_moves h x e = (quoted_escapes x (other e) e, (λ s. absurd (clash e (streams_plain x s).1))) where
  clash : (x == 92) ≡ true → (x == 92) ≡ false → ⊥
  clash f g = absurd (cc)

  other : (x == 92) ≡ true → (x == 34) ≡ false
  other e = grind arith

moves : (st : State) (x : ℕ) → Moves st x (step st x)
moves plainly x = plain_moves x (x == 34) (x == 92) (nat_lt x 32) refl refl refl
moves escape x = escape_moves x (x == 117)
moves u0 x = moves_by u0 x (is_digit x 16) (goes [] (u1 x)) (digit_moves x u0 (u1 x) refl refl (omega arith))
moves (u1 a) x = moves_by (u1 a) x (is_digit x 16) (goes [] (u2 a x)) (digit_moves x (u1 a) (u2 a x) refl refl (omega arith))
moves (u2 a b) x = moves_by (u2 a b) x (is_digit x 16) (goes [] (u3 a b x)) (digit_moves x (u2 a b) (u3 a b x) refl refl (omega arith))
moves (u3 a b c) x = moves_by (u3 a b c) x (is_digit x 16) (unit_step (code_unit a b c x)) (unit_moves a b c x (code_unit a b c x))
moves (h0 h) x = moves_by (h0 h) x (x == 92) (goes [] (h1 h)) (high_moves h x)
moves (h1 h) x = moves_by (h1 h) x (x == 117) (goes [] (h2 h)) (λ _. (refl, (λ _. omega arith)))
moves (h2 h) x = moves_by (h2 h) x (is_digit x 16) (goes [] (h3 h x)) (digit_moves x (h2 h) (h3 h x) refl refl (omega arith))
moves (h3 h a) x = moves_by (h3 h a) x (is_digit x 16) (goes [] (h4 h a x)) (digit_moves x (h3 h a) (h4 h a x) refl refl (omega arith))
moves (h4 h a b) x = moves_by (h4 h a b) x (is_digit x 16) (goes [] (h5 h a b x)) (digit_moves x (h4 h a b) (h5 h a b x) refl refl (omega arith))
moves (h5 h a b c) x = moves_by (h5 h a b c) x (is_digit x 16) (pair_step h (code_unit a b c x)) (pair_moves h a b c x (code_unit a b c x))

-- ---- a beginning of a string

-- after the text q the content is known, or is that of what follows, after some bytes
data Outcome (st : State) (q : List ℕ) : Type 0 where
  over : (o : Option (List ℕ)) → ((z : List ℕ) → rest st (q ++ z) ≡ o) → Outcome st q
  within : (c : List ℕ) (next : State) → ((z : List ℕ) → rest st (q ++ z) ≡ prepend c (rest next z)) → mode_after (mode_of st) q ≡ mode_of next → Outcome st q

outcome_more : (st : State) (x : ℕ) (q : List ℕ) (s : Step) → Means (λ z. rest st (x ∷ z)) s → Moves st x s → ((next : State) → Outcome next q) → Outcome st (x ∷ q)
unfolding mode_after
outcome_more st x q (ends o) m n more = over o (λ z. m (q ++ z))
outcome_more st x q (goes c next) m n more = by (more next) where
  by : Outcome next q → Outcome st (x ∷ q)
  by (over o h) = over (prepend c o) (λ z. m (q ++ z) ∙ ap (prepend c) (h z))
  by (within d last h e) = within (c ++ d) last (λ z. m (q ++ z) ∙ ap (prepend c) (h z) ∙ prepend_twice c d (rest last z)) (ap (λ k. mode_after k q) n.0 ∙ e)

outcome : (q : List ℕ) (st : State) → Outcome st q
unfolding mode_after
outcome [] st = within [] st (λ z. prepend_none (rest st z)) refl
outcome (x ∷ q) st = outcome_more st x q (step st x) (means_step st x) (moves st x) (outcome q)

never_outside : (st : State) → mode_of st ≡ Outside → ⊥
never_outside plainly e = absurd (cc)
never_outside escape e = absurd (cc)
never_outside u0 e = absurd (cc)
never_outside (u1 a) e = absurd (cc)
never_outside (u2 a b) e = absurd (cc)
never_outside (u3 a b c) e = absurd (cc)
never_outside (h0 h) e = absurd (cc)
never_outside (h1 h) e = absurd (cc)
never_outside (h2 h) e = absurd (cc)
never_outside (h3 h a) e = absurd (cc)
never_outside (h4 h a b) e = absurd (cc)
never_outside (h5 h a b c) e = absurd (cc)

-- the content of a string that is closed
pub content_closed : (q : List ℕ) → mode_after Quoted q ≡ Outside → (o : Option (List ℕ)) × ((z : List ℕ) → content plain (q ++ z) ≡ o)
content_closed q e = by (outcome q plainly) where
  by : Outcome plainly q → (o : Option (List ℕ)) × ((z : List ℕ) → content plain (q ++ z) ≡ o)
  by (over o h) = (o, h)
  by (within c next h m) = absurd (never_outside next (sym m ∙ e))

-- ---- streamable bytes at the end

-- the content of the beginning of a string that ends outside of escapes
pub data Inside (q : List ℕ) : Type 0 where
  known : (o : Option (List ℕ)) → ((z : List ℕ) → content plain (q ++ z) ≡ o) → Inside q
  follows : (c : List ℕ) → ((z : List ℕ) → content plain (q ++ z) ≡ prepend c (content plain z)) → Inside q

data Calm (st : State) (q : List ℕ) : Type 0 where
  calm_over : (o : Option (List ℕ)) → ((z : List ℕ) → rest st (q ++ z) ≡ o) → Calm st q
  calm_plain : (c : List ℕ) → ((z : List ℕ) → rest st (q ++ z) ≡ prepend c (content plain z)) → Calm st q

calm_more : (st : State) (x : ℕ) (e : List ℕ) (s : Step) → Means (λ z. rest st (x ∷ z)) s → Moves st x s → is_streamable x ≡ true → far st ≤ length (x ∷ e)
    → ((next : State) → far next ≤ length e → Calm next e) → Calm st (x ∷ e)
calm_more st x e (ends o) m n t l more = calm_over o (λ z. m (e ++ z))
calm_more st x e (goes c next) m n t l more = by (more next (nearer (far next) (far st) (length e) (n.1 t) l)) where
  nearer : (a b k : ℕ) → a ≤ b - 1 → b ≤ suc k → a ≤ k
  nearer a b k h g = omega arith

  by : Calm next e → Calm st (x ∷ e)
  by (calm_over o h) = calm_over (prepend c o) (λ z. m (e ++ z) ∙ ap (prepend c) (h z))
  by (calm_plain d h) = calm_plain (c ++ d) (λ z. m (e ++ z) ∙ ap (prepend c) (h z) ∙ prepend_twice c d (content plain z))

calm_end : (st : State) → far st ≤ 0 → Calm st []
calm_end plainly h = calm_plain [] (λ z. prepend_none (content plain z))
calm_end escape h = absurd (omega arith)
calm_end u0 h = absurd (omega arith)
calm_end (u1 a) h = absurd (omega arith)
calm_end (u2 a b) h = absurd (omega arith)
calm_end (u3 a b c) h = absurd (omega arith)
calm_end (h0 g) h = absurd (omega arith)
calm_end (h1 g) h = absurd (omega arith)
calm_end (h2 g) h = absurd (omega arith)
calm_end (h3 g a) h = absurd (omega arith)
calm_end (h4 g a b) h = absurd (omega arith)
calm_end (h5 g a b c) h = absurd (omega arith)

calm : (e : List ℕ) (st : State) → IsRun e → far st ≤ length e → Calm st e
calm [] st t h = calm_end st h
calm (x ∷ e) st t h =
    let parts = and_parts (is_streamable x) (list_all is_streamable e) t in
    calm_more st x e (step st x) (means_step st x) (moves st x) parts.0 h (λ next l. calm e next parts.1 l)

far_six : (st : State) → far st ≤ 6
far_six plainly = omega arith
far_six escape = omega arith
far_six u0 = omega arith
far_six (u1 a) = omega arith
far_six (u2 a b) = omega arith
far_six (u3 a b c) = omega arith
far_six (h0 h) = omega arith
far_six (h1 h) = omega arith
far_six (h2 h) = omega arith
far_six (h3 h a) = omega arith
far_six (h4 h a b) = omega arith
far_six (h5 h a b c) = omega arith

-- a beginning of a string with streamable bytes at its end
pub content_inside : (q e : List ℕ) → IsRun e → 6 ≤ length e → Inside (q ++ e)
content_inside q e t l = by (outcome q plainly) where
  by : Outcome plainly q → Inside (q ++ e)
  by (over o h) = known o (λ z. ap (content plain) (append_assoc q e z) ∙ h (e ++ z))
  by (within c next h m) = then (calm e next t (enough (far next) (length e) (far_six next) l)) where
    enough : (a b : ℕ) → a ≤ 6 → 6 ≤ b → a ≤ b
    enough a b h g = omega arith

    then : Calm next e → Inside (q ++ e)
    then (calm_over o g) = known (prepend c o) (λ z. ap (content plain) (append_assoc q e z) ∙ h (e ++ z) ∙ ap (prepend c) (g z))
    then (calm_plain d g) = follows (c ++ d) (λ z. ap (content plain) (append_assoc q e z) ∙ h (e ++ z) ∙ ap (prepend c) (g z) ∙ prepend_twice c d (content plain z))

-- a run adds itself to the content
pub content_run : (r z : List ℕ) → IsRun r → content plain (r ++ z) ≡ prepend r (content plain z)
unfolding content
content_run [] z t = prepend_none (content plain z)
content_run (x ∷ r) z t =
    let parts = and_parts (is_streamable x) (list_all is_streamable r) t in
    let q = streams_plain x parts.0 in
    rw (q.0, q.1, q.2) (ap (prepend (x ∷ [])) (content_run r z parts.1) ∙ prepend_twice (x ∷ []) r (content plain z))

-- ---- the name of the member `whole` ends a string before it

named_known : (st : State) → (o : Option (List ℕ)) × ((z : List ℕ) → rest st (34 ∷ 119 ∷ 104 ∷ 111 ∷ 108 ∷ 101 ∷ 34 ∷ z) ≡ o)
unfolding content short_escape
named_known plainly = (Some [], (λ z. refl))
named_known escape = (Some (34 ∷ 119 ∷ 104 ∷ 111 ∷ 108 ∷ 101 ∷ []), (λ z. refl))
named_known u0 = (None, (λ z. means_step u0 34 (119 ∷ 104 ∷ 111 ∷ 108 ∷ 101 ∷ 34 ∷ z)))
named_known (u1 a) = (None, (λ z. means_step (u1 a) 34 (119 ∷ 104 ∷ 111 ∷ 108 ∷ 101 ∷ 34 ∷ z)))
named_known (u2 a b) = (None, (λ z. means_step (u2 a b) 34 (119 ∷ 104 ∷ 111 ∷ 108 ∷ 101 ∷ 34 ∷ z)))
named_known (u3 a b c) = (None, (λ z. means_step (u3 a b c) 34 (119 ∷ 104 ∷ 111 ∷ 108 ∷ 101 ∷ 34 ∷ z)))
named_known (h0 h) = (None, (λ z. means_step (h0 h) 34 (119 ∷ 104 ∷ 111 ∷ 108 ∷ 101 ∷ 34 ∷ z)))
named_known (h1 h) = (None, (λ z. means_step (h1 h) 34 (119 ∷ 104 ∷ 111 ∷ 108 ∷ 101 ∷ 34 ∷ z)))
named_known (h2 h) = (None, (λ z. means_step (h2 h) 34 (119 ∷ 104 ∷ 111 ∷ 108 ∷ 101 ∷ 34 ∷ z)))
named_known (h3 h a) = (None, (λ z. means_step (h3 h a) 34 (119 ∷ 104 ∷ 111 ∷ 108 ∷ 101 ∷ 34 ∷ z)))
named_known (h4 h a b) = (None, (λ z. means_step (h4 h a b) 34 (119 ∷ 104 ∷ 111 ∷ 108 ∷ 101 ∷ 34 ∷ z)))
named_known (h5 h a b c) = (None, (λ z. means_step (h5 h a b c) 34 (119 ∷ 104 ∷ 111 ∷ 108 ∷ 101 ∷ 34 ∷ z)))

pub content_named : (q : List ℕ) → (o : Option (List ℕ)) × ((z : List ℕ) → content plain (q ++ 34 ∷ 119 ∷ 104 ∷ 111 ∷ 108 ∷ 101 ∷ 34 ∷ z) ≡ o)
content_named q = by (outcome q plainly) where
  by : Outcome plainly q → (o : Option (List ℕ)) × ((z : List ℕ) → content plain (q ++ 34 ∷ 119 ∷ 104 ∷ 111 ∷ 108 ∷ 101 ∷ 34 ∷ z) ≡ o)
  by (over o h) = (o, (λ z. h (34 ∷ 119 ∷ 104 ∷ 111 ∷ 108 ∷ 101 ∷ 34 ∷ z)))
  by (within c next h m) =
      let k = named_known next in
      (prepend c k.0, (λ z. h (34 ∷ 119 ∷ 104 ∷ 111 ∷ 108 ∷ 101 ∷ 34 ∷ z) ∙ ap (prepend c) (k.1 z)))
