-- What seats of a board show when they are given out and returned.
use Rattle.proof_prelude.proofs.{◌≡◌, ℕ, ◌+◌, ◌≤◌, List, [], ◌∷◌, ◌++◌, length, Option, None, Some, option_to_list, All, refl, sym, ap, ◌∙◌, subst, arith, All-nil, All-cons, All-head, All-tail, append-nil, append_assoc}
use Rattle.progress_board.specs.{Board, BoardSeat}
use Rattle.pool_workers.specs.{total, WorksAt, IsRisen, AreRisen, AreSeated, AreSeats, AreBack, HaveShown, held, Halt}

-- ---- lists

total_append : {V : Type 0} (f : V → ℕ) (xs ys : List V) → total f (xs ++ ys) ≡ total f xs + total f ys
total_append f [] ys = omega arith
total_append f (x ∷ xs) ys = let s = total_append f xs ys in omega (arith, s)

-- replacing a part of a list by one whose f is greater by n
total_mid : {V : Type 0} (f : V → ℕ) (ps gs ts qs : List V) (n : ℕ) → total f ts ≡ total f gs + n → total f (ps ++ ts ++ qs) ≡ total f (ps ++ (gs ++ qs)) + n
total_mid f ps gs ts qs n h = omega (arith, total_append f (ps ++ ts) qs, total_append f ps ts, total_append f ps (gs ++ qs), total_append f gs qs, h)

-- a list with an element is not empty
no_parts : {V : Type 0} (ps rs : List V) → ps ++ rs ≡ [] → (ps ≡ []) × (rs ≡ [])
no_parts [] rs e = (refl, e)
no_parts {V} (p ∷ ps) rs e = let l : length (p ∷ ps ++ rs) ≡ 0 = ap (length {A = V}) e in absurd (omega (arith, l))

-- the last of those who hold seats holds the first seat
pub held_push : {X : Type 0} (f : X → Option BoardSeat) (xs : List X) (x : X) → held f (xs ++ x ∷ []) ≡ option_to_list (f x) ++ held f xs
held_push f [] x = sym (append-nil (option_to_list (f x)))
held_push f (y ∷ xs) x = ap (λ l. l ++ option_to_list (f y)) (held_push f xs x) ∙ append_assoc (option_to_list (f x)) (held f xs) (option_to_list (f y))

-- ---- risen seats

module _ (b : Board) where
  risen_then : (s t u : BoardSeat) → IsRisen b s t → IsRisen b t u → IsRisen b s u
  risen_then s t u h k = (k.0, k.1 ∙ h.1, omega (arith, h.2, k.2), omega (arith, h.3, k.3))

  are_risen_same : (xs : List BoardSeat) → All (WorksAt b) xs → AreRisen b xs xs
  are_risen_same [] h = tt
  are_risen_same (x ∷ xs) h = ((All-head (WorksAt b) x xs h, refl, omega arith, omega arith), are_risen_same xs (All-tail (WorksAt b) x xs h))

  are_risen_work : (xs ys : List BoardSeat) → AreRisen b xs ys → All (WorksAt b) ys
  are_risen_work [] [] h = All-nil (WorksAt b)
  are_risen_work (x ∷ xs) (y ∷ ys) h = All-cons (WorksAt b) y ys h.0.0 (are_risen_work xs ys h.1)
  are_risen_work [] (y ∷ ys) h = absurd h
  are_risen_work (x ∷ xs) [] h = absurd h

  are_risen_then : (xs ys zs : List BoardSeat) → AreRisen b xs ys → AreRisen b ys zs → AreRisen b xs zs
  are_risen_then [] [] [] h k = tt
  are_risen_then (x ∷ xs) (y ∷ ys) (z ∷ zs) h k = (risen_then x y z h.0 k.0, are_risen_then xs ys zs h.1 k.1)
  are_risen_then [] [] (z ∷ zs) h k = absurd k
  are_risen_then [] (y ∷ ys) zs h k = absurd h
  are_risen_then (x ∷ xs) [] zs h k = absurd h
  are_risen_then (x ∷ xs) (y ∷ ys) [] h k = absurd k

  are_risen_append : (xs us ys vs : List BoardSeat) → AreRisen b xs us → AreRisen b ys vs → AreRisen b (xs ++ ys) (us ++ vs)
  are_risen_append [] [] ys vs h k = k
  are_risen_append (x ∷ xs) (u ∷ us) ys vs h k = (h.0, are_risen_append xs us ys vs h.1 k)
  are_risen_append [] (u ∷ us) ys vs h k = absurd h
  are_risen_append (x ∷ xs) [] ys vs h k = absurd h

  are_risen_length : (xs ys : List BoardSeat) → AreRisen b xs ys → length ys ≡ length xs
  are_risen_length [] [] h = refl
  are_risen_length (x ∷ xs) (y ∷ ys) h = let s = are_risen_length xs ys h.1 in omega (arith, s)
  are_risen_length [] (y ∷ ys) h = absurd h
  are_risen_length (x ∷ xs) [] h = absurd h

  all_parts : (ps rs : List BoardSeat) → All (WorksAt b) (ps ++ rs) → All (WorksAt b) ps × All (WorksAt b) rs
  all_parts [] rs h = (All-nil (WorksAt b), h)
  all_parts (p ∷ ps) rs h =
      let k = all_parts ps rs (All-tail (WorksAt b) p (ps ++ rs) h) in
      (All-cons (WorksAt b) p ps (All-head (WorksAt b) p (ps ++ rs) h) k.0, k.1)

-- ---- with or without a board

pub seats_seated : (board : Option Board) (out workers : ℕ) (xs : List BoardSeat) → AreSeats board out workers xs → AreSeated board xs
seats_seated None out workers xs h = h
seats_seated (Some b) out workers xs h = h.1

-- enough seats for n are enough for fewer
pub seats_fewer : (board : Option Board) (m n : ℕ) (xs : List BoardSeat) → m ≤ n → AreSeats board 0 n xs → AreSeats board 0 m xs
seats_fewer None m n xs less h = h
seats_fewer (Some b) m n xs less h = (omega (arith, less, h.0), h.1)

pub seated_parts : (board : Option Board) (ps rs : List BoardSeat) → AreSeated board (ps ++ rs) → AreSeated board ps × AreSeated board rs
seated_parts None ps rs h = no_parts ps rs h
seated_parts (Some b) ps rs h = all_parts b ps rs h

pub back_same : (board : Option Board) (xs : List BoardSeat) → AreSeated board xs → AreBack board xs xs
back_same None xs h = (h, h)
back_same (Some b) xs h = are_risen_same b xs h

pub back_seated : (board : Option Board) (xs ys : List BoardSeat) → AreBack board xs ys → AreSeated board ys
back_seated None xs ys h = h.1
back_seated (Some b) xs ys h = are_risen_work b xs ys h

pub back_then : (board : Option Board) (xs ys zs : List BoardSeat) → AreBack board xs ys → AreBack board ys zs → AreBack board xs zs
back_then None xs ys zs h k = (h.0, k.1)
back_then (Some b) xs ys zs h k = are_risen_then b xs ys zs h k

pub back_append : (board : Option Board) (xs us ys vs : List BoardSeat) → AreBack board xs us → AreBack board ys vs → AreBack board (xs ++ ys) (us ++ vs)
back_append None xs us ys vs h k = (ap (λ l. l ++ ys) h.0 ∙ k.0, ap (λ l. l ++ vs) h.1 ∙ k.1)
back_append (Some b) xs us ys vs h k = are_risen_append b xs us ys vs h k

pub back_length : (board : Option Board) (xs ys : List BoardSeat) → AreBack board xs ys → length ys ≡ length xs
back_length None xs ys h = ap (length {A = BoardSeat}) (h.1 ∙ sym h.0)
back_length (Some b) xs ys h = are_risen_length b xs ys h

-- one of those who hold seats returns its own
pub back_one : (board : Option Board) (given ps gs ts qs : List BoardSeat) → AreBack board given (ps ++ (gs ++ qs)) → AreBack board gs ts → AreBack board given (ps ++ ts ++ qs)
back_one board given ps gs ts qs h k =
    let all = seated_parts board ps (gs ++ qs) (back_seated board given (ps ++ (gs ++ qs)) h) in
    let rest = seated_parts board gs qs all.1 in
    let same : AreBack board (ps ++ (gs ++ qs)) (ps ++ (ts ++ qs)) =
    back_append board ps ps (gs ++ qs) (ts ++ qs) (back_same board ps all.0) (back_append board gs ts qs qs k (back_same board qs rest.1)) in
    subst (AreBack board given) (sym (append_assoc ps ts qs)) (back_then board given (ps ++ (gs ++ qs)) (ps ++ (ts ++ qs)) h same)

pub shown_none : (board : Option Board) (xs : List BoardSeat) → HaveShown board 0 None xs xs
shown_none None xs = tt
shown_none (Some b) xs = (omega arith, λ _. omega arith)

pub shown_one : (board : Option Board) (a n : ℕ) (o p q : Option Halt) (given ps gs ts qs : List BoardSeat) → HaveShown board a o given (ps ++ (gs ++ qs)) → HaveShown board n p gs ts → (q ≡ None → (o ≡ None) × (p ≡ None))
    → HaveShown board (a + n) q given (ps ++ ts ++ qs)
shown_one None a n o p q given ps gs ts qs h k free = tt
shown_one (Some b) a n o p q given ps gs ts qs h k free = (
  omega (arith, total_mid (λ (s : BoardSeat). s.settled) ps gs ts qs n k.0, h.0),
  λ none. let f = free none in omega (arith, total_mid (λ (s : BoardSeat). s.read) ps gs ts qs n (k.1 f.1), h.1 f.0),
)
