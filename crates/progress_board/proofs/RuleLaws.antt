-- Each step keeps the rule of the board.
use Rattle.proof_prelude.proofs.{◌≡◌, ◌≢◌, ℕ, zero, suc, ◌+◌, ◌<◌, ◌≤◌, ◌%◌, ◌^◌, true, false, true≢false, List, [], ◌∷◌, ◌++◌, length, max, get_or, set, sym, refl, ap, ◌∙◌, subst, ◌⊎◌, inl, inr, ⊎_elim, arith, replicate, sum, length-replicate, sum_by-cons, get_or-set_same, get_or-set_other, length-set}
use mathlib.Core.Option.{some, some-injective, some-ne-none}
use mathlib.Core.Logic.{dite}
use native.Mathlib.Decide.{ℕ_discrete}
use lib.ListN.{get_elem?}
use Rattle.atomic_table.specs.Table.{State, Me, Allows, Splits, keeps}
use Rattle.atomic_table.proofs.Lists.{at_set, set_again}
use Rattle.progress_board.specs.{SeatView, seat_view, dealer, dealt, hired, viewer, added_read, added_settled, SeesRead, SeesSettled, Fits, InOrder, Kept}

-- the elements of a list after one write
pub at_write : (xs : List ℕ) (i n q : ℕ) (P : ℕ → Type 0) → i < length xs → (q ≡ i → P n) → (q ≢ i → P (get_or xs q 0)) → P (get_or (set xs i n) q 0)
at_write xs i n q P lt here other =
    dite (ℕ_discrete q i) (λ e. subst P (sym (ap (λ z. get_or (set xs i n) z 0) e ∙ get_or-set_same xs i n 0 lt)) (here e))
    (λ ne. subst P (sym (get_or-set_other xs i q n 0 ne)) (other ne))

pub write_same : (xs : List ℕ) (i : ℕ) → set xs i (get_or xs i 0) ≡ xs
write_same [] i = refl
write_same (x ∷ xs) zero = refl
write_same (x ∷ xs) (suc i) = ap (λ l. x ∷ l) (write_same xs i)

grown : (xs : List ℕ) (i n j : ℕ) → i < length xs → get_or xs i 0 ≤ n → get_or xs j 0 ≤ get_or (set xs i n) j 0
grown xs i n j lt le = at_write xs i n j (λ y. get_or xs j 0 ≤ y) lt (λ e. let s : get_or xs j 0 ≡ get_or xs i 0 = ap (λ z. get_or xs z 0) e in omega arith) (λ ne. omega arith)

-- the view of the seat before its step
record Was (views : List SeatView) (a : ℕ) (u : SeatView) : Type 0 where
  seat : SeatView
  at : get_elem? views a ≡ some seat
  works : seat.works ≡ u.works
  deals : seat.deals ≡ u.deals
  number : u.works ≡ true → seat.number ≡ u.number
  grows : seat.number ≤ u.number

was : (views : List SeatView) (id : ℕ) (v w : SeatView) → get_elem? views id ≡ some v → w.works ≡ v.works → w.deals ≡ v.deals → (w.works ≡ true → w.number ≡ v.number) → v.number ≤ w.number
    → (a : ℕ) (u : SeatView) → get_elem? (set views id w) a ≡ some u → Was views a u
was views id v w here works deals number grows a u at =
    ⊎_elim
    (λ (x : (a ≡ id) × (w ≡ u)).
    let there : get_elem? views a ≡ some v = subst (λ (z : ℕ). get_elem? views z ≡ some v) (sym x.0) here in
    subst (Was views a) x.1 (record { seat = v; at = there; works = sym works; deals = sym deals; number = λ t. sym (number t); grows = grows }))
    (λ (x : (a ≢ id) × (get_elem? views a ≡ some u)). record { seat = u; at = x.1; works = refl; deals = refl; number = λ t. refl; grows = omega arith })
    (at_set views id a w u at)

kept_step : (k id : ℕ) (words words' : List ℕ) (views : List SeatView) (v w : SeatView) → Kept k words views → get_elem? views id ≡ some v
    → length words' ≡ length words → InOrder k words' → Fits k words' w → ((a : ℕ) (u : SeatView) → a ≢ id → get_elem? views a ≡ some u → Fits k words' u)
    → w.works ≡ v.works → w.deals ≡ v.deals → (w.works ≡ true → w.number ≡ v.number) → v.number ≤ w.number → Kept k words' (set views id w)
kept_step k id words words' views v w kept here size order mine others works deals number grows =
    let old = was views id v w here works deals number grows in
    record {
      size = size ∙ kept.size;
      order = order;
      fits = λ a u at.
          ⊎_elim (λ (x : (a ≡ id) × (w ≡ u)). subst (λ (y : SeatView). Fits k words' y) x.1 mine) (λ (x : (a ≢ id) × (get_elem? views a ≡ some u)). others a u x.0 x.1) (at_set views id a w u at);
      apart = λ a b u y at at' wu wy e.
          let o = old a u at in
          let p = old b y at' in
          kept.apart a b o.seat p.seat o.at p.at (o.works ∙ wu) (p.works ∙ wy) (o.number wu ∙ e ∙ sym (p.number wy));
      below = λ a b u y at at' du wy.
          let o = old a u at in
          let p = old b y at' in
          let lt = kept.below a b o.seat p.seat o.at p.at (o.deals ∙ du) (p.works ∙ wy) in
          omega (arith, lt, o.grows, p.number wy);
      one = λ a b u y at at' du dy.
          let o = old a u at in
          let p = old b y at' in
          kept.one a b o.seat p.seat o.at p.at (o.deals ∙ du) (p.deals ∙ dy);
    }

-- a worker's own counter grows: what the other seats know stays true
others : (k id p x : ℕ) (words : List ℕ) (views : List SeatView) (v : SeatView) → v.works ≡ true → Kept k words views → get_elem? views id ≡ some v → p < length words → get_or words p 0 ≤ x
    → ((j : ℕ) → j < k → j ≢ v.number → (j ≢ p) × (k + j ≢ p)) → (a : ℕ) (u : SeatView) → a ≢ id → get_elem? views a ≡ some u → Fits k (set words p x) u
others k id p x words views v works kept here lt more away a u ne at =
    let g = kept.fits a u at in
    let words' : List ℕ = set words p x in
    let up : (j : ℕ) → get_or words j 0 ≤ get_or words' j 0 = λ j. grown words p x j lt more in
    let same : (j : ℕ) → j < k → j ≢ v.number → (get_or words' j 0 ≡ get_or words j 0) × (get_or words' (k + j) 0 ≡ get_or words (k + j) 0) =
    λ j b other. (get_or-set_other words p j x 0 (away j b other).0, get_or-set_other words p (k + j) x 0 (away j b other).1) in
    record {
      read_size = g.read_size;
      settle_size = g.settle_size;
      read_bound = λ j b. let r = g.read_bound j b in let s = up j in omega arith;
      settle_bound = λ j b. let r = g.settle_bound j b in let s = up (k + j) in omega arith;
      own = λ w.
          let o = g.own w in
          let s = same u.number o.0 (λ e. ne (kept.apart a id u v at here w works e)) in
          (o.0, o.1 ∙ sym s.0, o.2 ∙ sym s.1);
      fresh = λ d.
          let h = g.fresh d in
          let below = kept.below a id u v at here d works in
          (h.0, λ j from b. let s = same j b (λ e. omega arith) in (s.0 ∙ (h.1 j from b).0, s.1 ∙ (h.1 j from b).1));
    }

-- a worker adds to its read counter
pub adds_read : (k id n : ℕ) (words : List ℕ) (views : List SeatView) (v : SeatView) → v.works ≡ true → get_or v.reads v.number 0 + n ≤ 9007199254740991 → Kept k words views → get_elem? views id ≡ some v
    → Kept k (set words v.number (get_or words v.number 0 + n)) (set views id (added_read v n))
adds_read k id n words views v works most kept here =
    let f = kept.fits id v here in
    let q = v.number in
    let own = f.own works in
    let low = own.0 in
    let x = get_or words q 0 + n in
    let words' : List ℕ = set words q x in
    let size = kept.size in
    let lt : q < length words = omega arith in
    let rlt : q < length v.reads = omega (arith, f.read_size) in
    let up : (j : ℕ) → get_or words j 0 ≤ get_or words' j 0 = λ j. grown words q x j lt (omega arith) in
    let far : (j : ℕ) → get_or words' (k + j) 0 ≡ get_or words (k + j) 0 = λ j. get_or-set_other words q (k + j) x 0 (λ e. omega arith) in
    kept_step k id words words' views v (added_read v n) kept here (length-set words q x)
    (λ j b.
    let o = kept.order j b in
    let s = far j in
    let u = up j in (
      omega arith,
      at_write words q x j (λ y. y ≤ 9007199254740991) lt (λ e. let own1 = own.1 in omega arith) (λ ne. o.1),
    ))
    (record {
      read_size = length-set v.reads q (get_or v.reads q 0 + n) ∙ f.read_size;
      settle_size = f.settle_size;
      read_bound = λ j b.
          at_write v.reads q (get_or v.reads q 0 + n) j (λ y. y ≤ get_or words' j 0) rlt
          (λ e. let s : get_or words' j 0 ≡ x = ap (λ z. get_or words' z 0) e ∙ get_or-set_same words q x 0 lt in let own1 = own.1 in omega arith)
          (λ ne. let r = f.read_bound j b in let u = up j in omega arith);
      settle_bound = λ j b. let s = far j in let r = f.settle_bound j b in omega arith;
      own = λ w. (
        low,
        (let a = get_or-set_same v.reads q (get_or v.reads q 0 + n) 0 rlt in let b = get_or-set_same words q x 0 lt in let own1 = own.1 in omega arith),
        own.2 ∙ sym (far q),
      );
      fresh = λ d. absurd (true≢false (sym works ∙ (f.fresh d).0));
    })
    (others k id q x words views v works kept here lt (omega arith) (λ j b ne. (ne, λ e. omega arith)))
    refl refl (λ t. refl) (omega arith)

-- a load of i's read counter, for any board
pub load_read : {S : Type 0} (k slots id i : ℕ) (me : Me S SeatView) → i < k
    → Allows (λ (s : State S SeatView). Kept k s.words s.views) slots id me i (λ n. n) (λ n w. SeesRead me.0 i n w.0 × (w.1 ≡ me.1))
load_read k slots id i me low s kept homes here small =
    let v = me.0 in
    let f = kept.fits id v here in
    let n = get_or s.words i 0 in
    let lt : i < length v.reads = omega (arith, f.read_size) in
    let w : SeatView = seat_view v.deals v.works v.number (set v.reads i n) v.settles in
    let mine : Fits k s.words w = record {
      read_size = length-set v.reads i n ∙ f.read_size;
      settle_size = f.settle_size;
      read_bound = λ j b. at_write v.reads i n j (λ x. x ≤ get_or s.words j 0) lt (λ e. let same : get_or s.words j 0 ≡ n = ap (λ z. get_or s.words z 0) e in omega arith) (λ ne. f.read_bound j b);
      settle_bound = f.settle_bound;
      own = λ w. let o = f.own w in (o.0, at_write v.reads i n v.number (λ x. x ≡ get_or s.words v.number 0) lt (λ e. ap (λ z. get_or s.words z 0) (sym e)) (λ ne. o.1), o.2);
      fresh = f.fresh;
    } in
    let next = kept_step k id s.words s.words s.views v w kept here refl kept.order mine (λ a u ne at. kept.fits a u at) refl refl (λ t. refl) (omega arith) in (
      w,
      keeps,
      tt,
      subst (λ (ws : List ℕ). Kept k ws (set s.views id w)) (sym (write_same s.words i)) next,
      ((refl, f.read_bound i low, (kept.order i low).1, λ works own. let o = (f.own works).1 in ap (λ z. get_or s.words z 0) (sym own) ∙ sym o ∙ ap (λ z. get_or v.reads z 0) own), refl),
    )

-- a load of i's settled counter, for any board
pub load_settled : {S : Type 0} (k slots id i : ℕ) (me : Me S SeatView) → i < k
    → Allows (λ (s : State S SeatView). Kept k s.words s.views) slots id me (k + i) (λ n. n) (λ n w. SeesSettled me.0 i n w.0 × (w.1 ≡ me.1))
load_settled k slots id i me low s kept homes here small =
    let v = me.0 in
    let f = kept.fits id v here in
    let n = get_or s.words (k + i) 0 in
    let m = max (get_or v.reads i 0) n in
    let lt : i < length v.reads = omega (arith, f.read_size) in
    let lt' : i < length v.settles = omega (arith, f.settle_size) in
    let ord = (kept.order i low).0 in
    let top : m ≤ get_or s.words i 0 = let b = f.read_bound i low in omega arith in
    let w : SeatView = seat_view v.deals v.works v.number (set v.reads i (max (get_or v.reads i 0) n)) (set v.settles i n) in
    let o = kept.order i low in
    let most : n ≤ 9007199254740991 = let a = o.0 in let b = o.1 in omega arith in
    let mine : Fits k s.words w = record {
      read_size = length-set v.reads i m ∙ f.read_size;
      settle_size = length-set v.settles i n ∙ f.settle_size;
      read_bound = λ j b. at_write v.reads i m j (λ x. x ≤ get_or s.words j 0) lt (λ e. let same : get_or s.words j 0 ≡ get_or s.words i 0 = ap (λ z. get_or s.words z 0) e in omega arith) (λ ne. f.read_bound j b);
      settle_bound = λ j b. at_write v.settles i n j (λ x. x ≤ get_or s.words (k + j) 0) lt' (λ e. let same : get_or s.words (k + j) 0 ≡ n = ap (λ z. get_or s.words (k + z) 0) e in omega arith) (λ ne. f.settle_bound j b);
      own = λ w.
          let o = f.own w in (
            o.0,
            at_write v.reads i m v.number (λ x. x ≡ get_or s.words v.number 0) lt
                (λ e. let same : get_or s.words v.number 0 ≡ get_or s.words i 0 = ap (λ z. get_or s.words z 0) e in let r : get_or v.reads v.number 0 ≡ get_or v.reads i 0 = ap (λ z. get_or v.reads z 0) e in let q = o.1 in omega arith)
                (λ ne. o.1),
            at_write v.settles i n v.number (λ x. x ≡ get_or s.words (k + v.number) 0) lt' (λ e. ap (λ z. get_or s.words (k + z) 0) (sym e)) (λ ne. o.2),
          );
      fresh = f.fresh;
    } in
    let next = kept_step k id s.words s.words s.views v w kept here refl kept.order mine (λ a u ne at. kept.fits a u at) refl refl (λ t. refl) (omega arith) in (
      w,
      keeps,
      tt,
      subst (λ (ws : List ℕ). Kept k ws (set s.views id w)) (sym (write_same s.words (k + i))) next,
      ((refl, f.settle_bound i low, most, λ works own. let o = (f.own works).2 in ap (λ z. get_or s.words (k + z) 0) (sym own) ∙ sym o ∙ ap (λ z. get_or v.settles z 0) own), refl),
    )

-- a worker's addition to its read counter, for any board
pub add_read : {S : Type 0} (k slots id n : ℕ) (me : Me S SeatView) → me.0.works ≡ true → get_or me.0.reads me.0.number 0 + n ≤ 9007199254740991
    → Allows (λ (s : State S SeatView). Kept k s.words s.views) slots id me me.0.number (λ m. (m + n) % 2 ^ 64) (λ m w. (w.0 ≡ added_read me.0 n) × (w.1 ≡ me.1))
add_read k slots id n me works most s kept homes here small =
    let v = me.0 in
    let own = ((kept.fits id v here).own works).1 in
    let sum : (get_or s.words v.number 0 + n) % 2 ^ 64 ≡ get_or s.words v.number 0 + n = grind arith in (
      added_read v n,
      keeps,
      tt,
      subst (λ (x : ℕ). Kept k (set s.words v.number x) (set s.views id (added_read v n))) (sym sum) (adds_read k id n s.words s.views v works most kept here),
      (refl, refl),
    )

-- a worker adds to its settled counter
pub adds_settled : (k id n : ℕ) (words : List ℕ) (views : List SeatView) (v : SeatView) → v.works ≡ true → get_or v.settles v.number 0 + n ≤ get_or v.reads v.number 0 → Kept k words views → get_elem? views id ≡ some v
    → Kept k (set words (k + v.number) (get_or words (k + v.number) 0 + n)) (set views id (added_settled v n))
adds_settled k id n words views v works most kept here =
    let f = kept.fits id v here in
    let q = v.number in
    let own = f.own works in
    let low = own.0 in
    let x = get_or words (k + q) 0 + n in
    let words' : List ℕ = set words (k + q) x in
    let size = kept.size in
    let lt : k + q < length words = omega arith in
    let slt : q < length v.settles = omega (arith, f.settle_size) in
    let near : (j : ℕ) → j < k → get_or words' j 0 ≡ get_or words j 0 = λ j b. get_or-set_other words (k + q) j x 0 (λ e. omega arith) in
    let up : (j : ℕ) → get_or words j 0 ≤ get_or words' j 0 = λ j. grown words (k + q) x j lt (omega arith) in
    kept_step k id words words' views v (added_settled v n) kept here (length-set words (k + q) x)
    (λ j b.
    let o = kept.order j b in
    let s = near j b in (
      at_write words (k + q) x (k + j) (λ y. y ≤ get_or words' j 0) lt
          (λ e. let same : j ≡ q = omega arith in let t : get_or words j 0 ≡ get_or words q 0 = ap (λ z. get_or words z 0) same in let o1 = own.1 in let o2 = own.2 in omega arith)
          (λ ne. let o0 = o.0 in omega arith),
      (let o1 = o.1 in omega arith),
    ))
    (record {
      read_size = f.read_size;
      settle_size = length-set v.settles q (get_or v.settles q 0 + n) ∙ f.settle_size;
      read_bound = λ j b. let s = near j b in let r = f.read_bound j b in omega arith;
      settle_bound = λ j b.
          at_write v.settles q (get_or v.settles q 0 + n) j (λ y. y ≤ get_or words' (k + j) 0) slt
          (λ e. let s : get_or words' (k + j) 0 ≡ x = ap (λ z. get_or words' (k + z) 0) e ∙ get_or-set_same words (k + q) x 0 lt in let o2 = own.2 in omega arith)
          (λ ne. let r = f.settle_bound j b in let u = up (k + j) in omega arith);
      own = λ w. (
        low,
        own.1 ∙ sym (near q low),
        (let a = get_or-set_same v.settles q (get_or v.settles q 0 + n) 0 slt in let b = get_or-set_same words (k + q) x 0 lt in let o2 = own.2 in omega arith),
      );
      fresh = λ d. absurd (true≢false (sym works ∙ (f.fresh d).0));
    })
    (others k id (k + q) x words views v works kept here lt (omega arith) (λ j b ne. ((λ e. omega arith), λ e. ne (omega arith))))
    refl refl (λ t. refl) (omega arith)

-- a worker's addition to its settled counter, for any board
pub add_settled : {S : Type 0} (k slots id n : ℕ) (me : Me S SeatView) → me.0.works ≡ true → get_or me.0.settles me.0.number 0 + n ≤ get_or me.0.reads me.0.number 0
    → Allows (λ (s : State S SeatView). Kept k s.words s.views) slots id me (k + me.0.number) (λ m. (m + n) % 2 ^ 64) (λ m w. (w.0 ≡ added_settled me.0 n) × (w.1 ≡ me.1))
add_settled k slots id n me works most s kept homes here small =
    let v = me.0 in
    let f = kept.fits id v here in
    let own1 = (f.own works).1 in
    let own2 = (f.own works).2 in
    let top = (kept.order v.number (f.own works).0).1 in
    let sum : (get_or s.words (k + v.number) 0 + n) % 2 ^ 64 ≡ get_or s.words (k + v.number) 0 + n = grind arith in (
      added_settled v n,
      keeps,
      tt,
      subst (λ (x : ℕ). Kept k (set s.words (k + v.number) x) (set s.views id (added_settled v n))) (sym sum) (adds_settled k id n s.words s.views v works most kept here),
      (refl, refl),
    )

at_more : {A : Type 0} (l : List A) (a b : A) (j : ℕ) → get_elem? (l ++ a ∷ []) j ≡ some b → (get_elem? l j ≡ some b) ⊎ ((j ≡ length l) × (a ≡ b))
at_more [] a b zero e = inr (refl, some-injective a b e)
at_more [] a b (suc j) e = absurd (some-ne-none b (sym e))
at_more (x ∷ xs) a b zero e = inl e
at_more (x ∷ xs) a b (suc j) e = ⊎_elim (λ (h : get_elem? xs j ≡ some b). inl h) (λ (h : (j ≡ length xs) × (a ≡ b)). inr (ap suc h.0, h.1)) (at_more xs a b j e)

-- a new seat
kept_more : (k : ℕ) (words : List ℕ) (views : List SeatView) (r : SeatView) → Kept k words views → Fits k words r → r.deals ≡ false
    → ((a : ℕ) (u : SeatView) → get_elem? views a ≡ some u → u.works ≡ true → r.works ≡ true → u.number ≢ r.number)
    → ((a : ℕ) (u : SeatView) → get_elem? views a ≡ some u → u.deals ≡ true → r.works ≡ true → r.number < u.number)
    → Kept k words (views ++ r ∷ [])
kept_more k words views r kept mine quiet differs under =
    let Old : ℕ → SeatView → Type 0 = λ a u. get_elem? views a ≡ some u in
    let New : ℕ → SeatView → Type 0 = λ a u. (a ≡ length views) × (r ≡ u) in
    let is : (a : ℕ) (u : SeatView) → get_elem? (views ++ r ∷ []) a ≡ some u → Old a u ⊎ New a u = λ a u at. at_more views r u a at in
    let silent : (u : SeatView) → r ≡ u → u.deals ≢ true = λ u e d. true≢false (sym d ∙ ap (λ (y : SeatView). y.deals) (sym e) ∙ quiet) in
    record {
      size = kept.size;
      order = kept.order;
      fits = λ a u at. ⊎_elim (λ (h : Old a u). kept.fits a u h) (λ (h : New a u). subst (λ (y : SeatView). Fits k words y) h.1 mine) (is a u at);
      apart = λ a b u y at at' wu wy e.
          ⊎_elim
          (λ (h : Old a u). ⊎_elim (λ (h' : Old b y). kept.apart a b u y h h' wu wy e)
          (λ (h' : New b y). absurd (differs a u h wu (ap (λ (z : SeatView). z.works) h'.1 ∙ wy) (e ∙ ap (λ (z : SeatView). z.number) (sym h'.1)))) (is b y at'))
          (λ (h : New a u). ⊎_elim (λ (h' : Old b y). absurd (differs b y h' wy (ap (λ (z : SeatView). z.works) h.1 ∙ wu) (sym e ∙ ap (λ (z : SeatView). z.number) (sym h.1))))
          (λ (h' : New b y). h.0 ∙ sym h'.0) (is b y at'))
          (is a u at);
      below = λ a b u y at at' du wy.
          ⊎_elim
          (λ (h : Old a u). ⊎_elim (λ (h' : Old b y). kept.below a b u y h h' du wy)
          (λ (h' : New b y). subst (λ (z : SeatView). z.number < u.number) h'.1 (under a u h du (ap (λ (z : SeatView). z.works) h'.1 ∙ wy))) (is b y at'))
          (λ (h : New a u). absurd (silent u h.1 du))
          (is a u at);
      one = λ a b u y at at' du dy.
          ⊎_elim
          (λ (h : Old a u). ⊎_elim (λ (h' : Old b y). kept.one a b u y h h' du dy) (λ (h' : New b y). absurd (silent y h'.1 dy)) (is b y at'))
          (λ (h : New a u). absurd (silent u h.1 du))
          (is a u at);
    }

pub zeros : (k j : ℕ) → ◌≡◌ {A = ℕ} (get_or (replicate k 0) j 0) 0
zeros zero j = refl
zeros (suc k) zero = refl
zeros (suc k) (suc j) = zeros k j

-- bounds of 0 are at most the counters
blank_bound : (k j x : ℕ) → get_or (replicate k 0) j 0 ≤ x
blank_bound k j x = omega (arith, zeros k j)

pub splits_viewer : {S : Type 0} (k id : ℕ) (v : SeatView) → Splits (λ (s : State S SeatView). Kept k s.words s.views) id v v (viewer v)
splits_viewer k id v s kept here =
    let f = kept.fits id v here in
    let r = viewer v in
    let n = f.read_size in
    subst (λ (vs : List SeatView). Kept k s.words (vs ++ r ∷ [])) (sym (set_again s.views id v here))
    (kept_more k s.words s.views r kept
    (record {
      read_size = length-replicate (length v.reads) 0 ∙ n;
      settle_size = length-replicate (length v.reads) 0 ∙ n;
      read_bound = λ j b. blank_bound (length v.reads) j _;
      settle_bound = λ j b. blank_bound (length v.reads) j _;
      own = λ w. absurd (true≢false (sym w));
      fresh = λ d. absurd (true≢false (sym d));
    })
    refl
    (λ a u at wu wr. absurd (true≢false (sym wr)))
    (λ a u at du wr. absurd (true≢false (sym wr))))

-- the creating seat advances to the next number
kept_dealt : (k id : ℕ) (words : List ℕ) (views : List SeatView) (v : SeatView) → Kept k words views → get_elem? views id ≡ some v → v.deals ≡ true → Kept k words (set views id (dealt v))
kept_dealt k id words views v kept here deals =
    let f = kept.fits id v here in
    let idle = (f.fresh deals).0 in
    kept_step k id words words views v (dealt v) kept here refl kept.order
    (record {
      read_size = f.read_size;
      settle_size = f.settle_size;
      read_bound = f.read_bound;
      settle_bound = f.settle_bound;
      own = λ w. absurd (true≢false (sym w ∙ idle));
      fresh = λ d. (idle, λ j from b. (f.fresh deals).1 j (omega arith) b);
    })
    (λ a u ne at. kept.fits a u at) refl refl (λ w. absurd (true≢false (sym w ∙ idle))) (omega arith)

pub splits_worker : {S : Type 0} (k id : ℕ) (v : SeatView) → v.deals ≡ true → v.number < k → Splits (λ (s : State S SeatView). Kept k s.words s.views) id v (dealt v) (hired v)
splits_worker k id v deals low s kept here =
    let f = kept.fits id v here in
    let r = hired v in
    let n = f.read_size in
    let w : SeatView = dealt v in
    let idle = (f.fresh deals).0 in
    let zero_at = (f.fresh deals).1 v.number (omega arith) low in
    let blank = zeros (length v.reads) v.number in
    kept_more k s.words (set s.views id w) r (kept_dealt k id s.words s.views v kept here deals)
    (record {
      read_size = length-replicate (length v.reads) 0 ∙ n;
      settle_size = length-replicate (length v.reads) 0 ∙ n;
      read_bound = λ j b. blank_bound (length v.reads) j _;
      settle_bound = λ j b. blank_bound (length v.reads) j _;
      own = λ x. (low, blank ∙ sym zero_at.0, blank ∙ sym zero_at.1);
      fresh = λ d. absurd (true≢false (sym d));
    })
    refl
    (λ a u at wu wr e.
    ⊎_elim (λ (h : (a ≡ id) × (w ≡ u)). true≢false (sym wu ∙ ap (λ (y : SeatView). y.works) (sym h.1) ∙ idle))
    (λ (h : (a ≢ id) × (get_elem? s.views a ≡ some u)). let lt = kept.below id a v u here h.1 deals wu in absurd (omega arith)) (at_set s.views id a w u at))
    (λ a u at du wr.
    ⊎_elim (λ (h : (a ≡ id) × (w ≡ u)). subst (λ (y : SeatView). v.number < y.number) h.1 (omega arith))
    (λ (h : (a ≢ id) × (get_elem? s.views a ≡ some u)). absurd (h.0 (kept.one a id u v h.1 here du deals))) (at_set s.views id a w u at))

-- of two lists of the same length, the one with greater elements has the greater sum
pub sum_le : (xs ys : List ℕ) → length xs ≡ length ys → ((j : ℕ) → get_or xs j 0 ≤ get_or ys j 0) → sum xs ≤ sum ys
sum_le [] ys e h = omega arith
sum_le (x ∷ xs) [] e h = absurd (omega arith)
sum_le (x ∷ xs) (y ∷ ys) e h =
    let here : x ≤ y = h zero in
    let there : sum xs ≤ sum ys = sum_le xs ys (omega arith) (λ j. h (suc j)) in
    let a : sum (x ∷ xs) ≡ x + sum xs = sum_by-cons (λ (z : ℕ). z) x xs in
    let b : sum (y ∷ ys) ≡ y + sum ys = sum_by-cons (λ (z : ℕ). z) y ys in
    omega arith

-- a new board, with all counters at 0
pub kept_new : (k : ℕ) (words : List ℕ) → length words ≡ k + k → ((j : ℕ) → get_or words j 0 ≡ 0) → Kept k words (dealer k 0 ∷ [])
kept_new k words size none =
    let v : SeatView = dealer k 0 in
    let only : (a : ℕ) (u : SeatView) → get_elem? (v ∷ []) a ≡ some u → (a ≡ 0) × (v ≡ u) =
    λ a u at. ⊎_elim (λ (h : get_elem? [] a ≡ some u). absurd (some-ne-none u (sym h))) (λ (h : (a ≡ 0) × (v ≡ u)). h) (at_more [] v u a at) in
    let idle : (u : SeatView) → v ≡ u → u.works ≢ true = λ u e w. true≢false (sym w ∙ ap (λ (y : SeatView). y.works) (sym e)) in
    record {
      size = size;
      order = λ j b. let a = none j in let c = none (k + j) in (omega arith, omega arith);
      fits = λ a u at.
          subst (λ (y : SeatView). Fits k words y) (only a u at).1
          (record {
            read_size = length-replicate k 0;
            settle_size = length-replicate k 0;
            read_bound = λ j b. blank_bound k j _;
            settle_bound = λ j b. blank_bound k j _;
            own = λ w. absurd (true≢false (sym w));
            fresh = λ d. (refl, λ j from b. (none j, none (k + j)));
          });
      apart = λ a b u y at at' wu wy e. absurd (idle u (only a u at).1 wu);
      below = λ a b u y at at' du wy. absurd (idle y (only b y at').1 wy);
      one = λ a b u y at at' du dy. (only a u at).0 ∙ sym (only b y at').0;
    }
