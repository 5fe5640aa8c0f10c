-- A window added to the mark or to the ranges: what is covered afterwards, and that the ranges stay apart.
use Rattle.proof_prelude.proofs.{◌≡◌, ◌⊎◌, inl, inr, ℕ, zero, suc, ◌<◌, ◌≤◌, Bool, true, false, cond, leb, eqb, List, [], ◌∷◌, ◌++◌, length, take, drop, set, get_or, slice_get, Some, add-one, ◌+◌, refl, sym, ap, ◌∙◌, arith, lt-leb, eqb-false, cond-true, cond-false, cond_both, cases_lt, both_ways, slice_get_within, slice_get_read, get_or_from_slice_get, le-leb, leb-true, leb-false, eqb-true, eq-eqb, ne_eqb, insert}
use Rattle.range_front.specs.{DoneRange, Apart, AtBounds, IsBound, Rising, has_window, covers, absorbed, put_at, put_in, joined}
use Rattle.range_front.proofs.RisingEnds.{bound-apart}
use Rattle.range_front.proofs.Cover.{cover-low, cover-high, cover-under, EndBelow, end-below-next}

-- (lo, hi] is above the mark and outside the ranges
abbrev pub Clear : ℕ → ℕ → ℕ → List DoneRange → Type 0
Clear lo hi m [] = m ≤ lo
Clear lo hi m (r ∷ rs) = (m ≤ lo) × ((hi ≤ r.lo) ⊎ Clear lo hi r.hi rs)

-- the first range begins at or above hi
abbrev pub Free : ℕ → List DoneRange → Type 0
Free hi [] = Unit {0}
Free hi (r ∷ rs) = hi ≤ r.lo

clear-mark : (lo hi m : ℕ) (rs : List DoneRange) → Clear lo hi m rs → m ≤ lo
clear-mark lo hi m [] c = c
clear-mark lo hi m (r ∷ rs) c = c.0

clear-free : (lo hi m : ℕ) (rs : List DoneRange) → Apart m rs → Clear lo hi m rs → m ≡ lo → Free hi rs
clear-free lo hi m [] h c e = tt
clear-free lo hi m (r ∷ rs) h c e =
    elim c.1 [
      | inl free ↦ free
      | inr later ↦ absurd (omega (arith, e, h.0, h.1, clear-mark lo hi r.hi rs later))
    ]

-- a window that is not covered is outside the ranges
pub clear-from : (start : ℕ) (es : List ℕ) (lo hi m : ℕ) (rs : List DoneRange) → Rising start es → has_window start es lo hi ≡ true → lo < hi → IsBound start es m → AtBounds start es rs → Apart m rs → covers m rs hi ≡ false → Clear lo hi m rs
clear-from start es lo hi m [] rising window l b bs h open_yet =
    elim (bound-apart start es lo hi m rising window b) [
      | inl under ↦ under
      | inr over ↦ absurd (omega (arith, leb-false hi m open_yet, over))
    ]
clear-from start es lo hi m (r ∷ rs) rising window l b bs h open_yet =
    let under : m ≤ lo = elim (bound-apart start es lo hi m rising window b) [
      | inl below ↦ below
      | inr over ↦ absurd (both_ways _ open_yet (cover-under m (r ∷ rs) hi h over))
    ] in
    elim (bound-apart start es lo hi r.lo rising window bs.0) [
      | inl below ↦ (under, inr (clear-from start es lo hi r.hi rs rising window l bs.1 bs.2 h.2 (sym (cover-high m r rs hi (omega (arith, below, l))) ∙ open_yet)))
      | inr over ↦ (under, inl over)
    ]

strict : {a b : ℕ} → a ≤ b → (b ≡ a → ⊥) → a < b
strict {a} {b} le other = elim (cases_lt a b) [
  | inl lt ↦ lt
  | inr ge ↦ absurd (other (omega (arith, le, ge)))
]

-- the window is after a range that ends below it
clear-behind : (lo hi : ℕ) (r : DoneRange) (rs : List DoneRange) → r.lo < r.hi → r.hi < lo → lo < hi → (hi ≤ r.lo) ⊎ Clear lo hi r.hi rs → Clear lo hi r.hi rs
clear-behind lo hi r rs a b l (inl free) = absurd (omega (arith, a, b, l, free))
clear-behind lo hi r rs a b l (inr later) = later

-- the window begins where the range ends
clear-touched : (lo hi : ℕ) (r : DoneRange) (rs : List DoneRange) → r.lo < r.hi → lo < hi → r.hi ≡ lo → (hi ≤ r.lo) ⊎ Clear lo hi r.hi rs → Clear lo hi r.hi rs
clear-touched lo hi r rs a l at (inl free) = absurd (omega (arith, at, a, l, free))
clear-touched lo hi r rs a l at (inr later) = later

-- the window is before the range
clear-before : (lo hi : ℕ) (r : DoneRange) (rs : List DoneRange) → lo ≤ r.hi → (r.hi ≡ lo → ⊥) → (hi ≤ r.lo) ⊎ Clear lo hi r.hi rs → hi ≤ r.lo
clear-before lo hi r rs reach other (inl free) = free
clear-before lo hi r rs reach other (inr later) = absurd (other (omega (arith, reach, clear-mark lo hi r.hi rs later)))

-- ---- what is covered, and what stays

-- what b' covers is what b covers, and (lo, hi]
pub record Grown (b b' : Bool) (lo hi x : ℕ) : Type 0 where
  pub within : lo < x → x ≤ hi → b' ≡ true
  pub below : x ≤ lo → b' ≡ b
  pub above : hi < x → b' ≡ b

-- after a range that ends below the window
grown-behind : (m lo hi : ℕ) (r : DoneRange) (rs : List DoneRange) (x : ℕ) (b : Bool) → r.lo ≤ lo → lo < hi → Grown (covers r.hi rs x) b lo hi x → Grown (covers m (r ∷ rs) x) (cond (leb x r.lo) (leb x m) b) lo hi x
grown-behind m lo hi r rs x b u l g =
    cond_both (leb x r.lo) (leb x m) b (λ z. Grown (covers m (r ∷ rs) x) z lo hi x)
    (λ t. let low = leb-true x r.lo t in
    record {
      within = λ a c. absurd (omega (arith, low, u, a));
      below = λ a. sym (cover-low m r rs x low);
      above = λ a. absurd (omega (arith, low, u, a, l));
    })
    (λ t. let high = leb-false x r.lo t in
    record {
      within = λ a c. g.within a c;
      below = λ a. g.below a ∙ sym (cover-high m r rs x high);
      above = λ a. g.above a ∙ sym (cover-high m r rs x high);
    })

-- the effect of the window on a mark and ranges: it is covered too, and the ranges stay apart, with bounds of windows
pub record Joins (start : ℕ) (es : List ℕ) (lo hi m : ℕ) (rs : List DoneRange) (made : ℕ × List DoneRange) : Type 0 where
  pub grown : (x : ℕ) → Grown (covers m rs x) (covers made.0 made.1 x) lo hi x
  pub apart : Apart made.0 made.1
  pub low : IsBound start es made.0
  pub bounds : AtBounds start es made.1

module _ (start : ℕ) (es : List ℕ) (lo hi : ℕ) (l : lo < hi) (from : IsBound start es lo) (to : IsBound start es hi) where
  absorbs : (m : ℕ) (rs : List DoneRange) → m ≡ lo → Apart m rs → Free hi rs → AtBounds start es rs → Joins start es lo hi m rs (absorbed hi rs) × (hi ≤ (absorbed hi rs).0)
  absorbs m [] e h f b = (
    record {
      grown = λ x. record {
        within = λ a c. le-leb x hi c;
        below = λ a. le-leb x hi (omega (arith, a, l)) ∙ sym (le-leb x m (omega (arith, a, e)));
        above = λ a. lt-leb x hi a ∙ sym (lt-leb x m (omega (arith, a, e, l)));
      };
      apart = tt;
      low = to;
      bounds = tt;
    },
    omega arith,
  )
  absorbs m (r ∷ rs) e h f b =
      cond_both (eqb r.lo hi) (r.hi, rs) (hi, r ∷ rs) (λ (made : ℕ × List DoneRange). Joins start es lo hi m (r ∷ rs) made × (hi ≤ made.0))
      (λ t. let at = eqb-true r.lo hi t in (
        record {
          grown = λ x. record {
            within = λ a c. cover-under r.hi rs x h.2 (omega (arith, at, h.1, c));
            below = λ a. cover-under r.hi rs x h.2 (omega (arith, at, h.1, a, l)) ∙ sym (cover-under m (r ∷ rs) x h (omega (arith, a, e)));
            above = λ a. sym (cover-high m r rs x (omega (arith, at, a)));
          };
          apart = h.2;
          low = b.1;
          bounds = b.2;
        },
        omega (arith, f, h.1),
      ))
      (λ t. (
        record {
          grown = λ x. record {
            within = λ a c. cover-low hi r rs x (omega (arith, f, c)) ∙ le-leb x hi c;
            below = λ a. cover-low hi r rs x (omega (arith, f, a, l)) ∙ le-leb x hi (omega (arith, a, l)) ∙ sym (cover-under m (r ∷ rs) x h (omega (arith, a, e)));
            above = λ a. elim (cases_lt r.lo x) [
              | inl over ↦ cover-high hi r rs x over ∙ sym (cover-high m r rs x over)
              | inr under ↦ cover-low hi r rs x under ∙ lt-leb x hi a ∙ sym (cover-low m r rs x under ∙ lt-leb x m (omega (arith, a, e, l)))
            ];
          };
          apart = (strict f (eqb-false r.lo hi t), h.1, h.2);
          low = to;
          bounds = b;
        },
        omega arith,
      ))

  -- the first range ends at or above lo
  puts_at : (m : ℕ) (r : DoneRange) (rs : List DoneRange) → m < lo → Apart m (r ∷ rs) → Clear lo hi m (r ∷ rs) → lo ≤ r.hi → IsBound start es m → AtBounds start es (r ∷ rs)
      → Joins start es lo hi m (r ∷ rs) (m, put_at r rs lo hi)
  puts_at m r rs u h c reach k b =
      let P : List DoneRange → Type 0 = λ qs. Joins start es lo hi m (r ∷ rs) (m, qs) in
      let next : DoneRange = record { lo = lo; hi = r.hi } in
      let new : DoneRange = record { lo = lo; hi = hi } in
      cond_both (eqb r.hi lo) _ _ P
      (λ t. let at = eqb-true r.hi lo t in
      let more = absorbs r.hi rs at h.2 (clear-free lo hi r.hi rs h.2 (clear-touched lo hi r rs h.1 l at c.1) at) b.2 in
      record {
        grown = λ x. grown-behind m lo hi r rs x (covers (absorbed hi rs).0 (absorbed hi rs).1 x) (omega (arith, at, h.1)) l (more.0.grown x);
        apart = (h.0, omega (arith, h.1, at, l, more.1), more.0.apart);
        low = k;
        bounds = (b.0, more.0.low, more.0.bounds);
      })
      (λ t. let free = clear-before lo hi r rs reach (eqb-false r.hi lo t) c.1 in
      cond_both (eqb r.lo hi) _ _ P
      (λ v. let at = eqb-true r.lo hi v in
      record {
        grown = λ x. record {
          within = λ a c. cover-high m next rs x a ∙ cover-under r.hi rs x h.2 (omega (arith, at, h.1, c));
          below = λ a. cover-low m next rs x a ∙ sym (cover-low m r rs x (omega (arith, at, a, l)));
          above = λ a. cover-high m next rs x (omega (arith, a, l)) ∙ sym (cover-high m r rs x (omega (arith, at, a)));
        };
        apart = (u, omega (arith, l, free, h.1), h.2);
        low = k;
        bounds = (from, b.1, b.2);
      })
      (λ v. let gap : hi < r.lo = strict free (eqb-false r.lo hi v) in
      record {
        grown = λ x. record {
          within = λ a c. cover-high m new (r ∷ rs) x a ∙ cover-under hi (r ∷ rs) x (gap, h.1, h.2) c;
          below = λ a. cover-low m new (r ∷ rs) x a ∙ sym (cover-low m r rs x (omega (arith, gap, a, l)));
          above = λ a. cover-high m new (r ∷ rs) x (omega (arith, a, l)) ∙ elim (cases_lt r.lo x) [
            | inl over ↦ cover-high hi r rs x over ∙ sym (cover-high m r rs x over)
            | inr under ↦ cover-low hi r rs x under ∙ lt-leb x hi a ∙ sym (cover-low m r rs x under ∙ lt-leb x m (omega (arith, a, l, u)))
          ];
        };
        apart = (u, l, (gap, h.1, h.2));
        low = k;
        bounds = (from, to, b);
      }))

  puts_in : (m : ℕ) (rs : List DoneRange) → m < lo → Apart m rs → Clear lo hi m rs → IsBound start es m → AtBounds start es rs → Joins start es lo hi m rs (m, put_in rs lo hi)
  puts_in m [] u h c k b =
      let new : DoneRange = record { lo = lo; hi = hi } in
      record {
        grown = λ x. record {
          within = λ a c. cover-high m new [] x a ∙ le-leb x hi c;
          below = λ a. cover-low m new [] x a;
          above = λ a. cover-high m new [] x (omega (arith, a, l)) ∙ lt-leb x hi a ∙ sym (lt-leb x m (omega (arith, a, l, u)));
        };
        apart = (u, l, tt);
        low = k;
        bounds = (from, to, tt);
      }
  puts_in m (r ∷ rs) u h c k b =
      cond_both (leb lo r.hi) (put_at r rs lo hi) (r ∷ put_in rs lo hi) (λ qs. Joins start es lo hi m (r ∷ rs) (m, qs))
      (λ s. puts_at m r rs u h c (leb-true lo r.hi s) k b)
      (λ s. let under = leb-false lo r.hi s in
      let more = puts_in r.hi rs under h.2 (clear-behind lo hi r rs h.1 under l c.1) b.1 b.2 in
      record {
        grown = λ x. grown-behind m lo hi r rs x (covers r.hi (put_in rs lo hi) x) (omega (arith, under, h.1)) l (more.grown x);
        apart = (h.0, h.1, more.apart);
        low = k;
        bounds = (b.0, b.1, more.bounds);
      })

  -- the complete statement, including a window at the mark
  pub joins : (m : ℕ) (rs : List DoneRange) → Apart m rs → Clear lo hi m rs → IsBound start es m → AtBounds start es rs → Joins start es lo hi m rs (joined m rs lo hi)
  joins m rs h c k b =
      cond_both (eqb m lo) (absorbed hi rs) (m, put_in rs lo hi) (Joins start es lo hi m rs)
      (λ t. let at = eqb-true m lo t in (absorbs m rs at h (clear-free lo hi m rs h c at) b).0)
      (λ t. puts_in m rs (strict (clear-mark lo hi m rs c) (λ e. eqb-false m lo t (sym e))) h c k b)

-- ---- the window inserted at the index of the first range that ends at or above lo

put_in-past : (r : DoneRange) (rs : List DoneRange) (lo hi : ℕ) → r.hi < lo → put_in (r ∷ rs) lo hi ≡ r ∷ put_in rs lo hi
put_in-past r rs lo hi l = cond-false (leb lo r.hi) (put_at r rs lo hi) (r ∷ put_in rs lo hi) (lt-leb lo r.hi l)

put_in-here : (r : DoneRange) (rs : List DoneRange) (lo hi : ℕ) → lo ≤ r.hi → put_in (r ∷ rs) lo hi ≡ put_at r rs lo hi
put_in-here r rs lo hi l = cond-true (leb lo r.hi) (put_at r rs lo hi) (r ∷ put_in rs lo hi) (le-leb lo r.hi l)

-- the range at the index ends at lo: it grows, and absorbs the next one if that begins at hi
put_in-left : (rs : List DoneRange) (lo hi p : ℕ) (d : DoneRange) → EndBelow rs lo p → p < length rs → (get_or rs p d).hi ≡ lo → put_in rs lo hi ≡ set (take (suc p) rs ++ (absorbed hi (drop (suc p) rs)).1) p (record { lo = (get_or rs p d).lo; hi = (absorbed hi (drop (suc p) rs)).0 })
put_in-left [] lo hi p d b l e = absurd (omega (arith, l))
put_in-left (r ∷ rs) lo hi zero d b l e = put_in-here r rs lo hi (omega (arith, e)) ∙ cond-true (eqb r.hi lo) _ _ (eq-eqb r.hi lo e)
put_in-left (r ∷ rs) lo hi (suc p) d b l e =
    put_in-past r rs lo hi (b 0 r (omega arith) (omega arith)) ∙ ap (λ qs. r ∷ qs) (put_in-left rs lo hi p d (end-below-next r rs lo p b) (omega (arith, l)) e)

-- the range at the index begins at hi
put_in-right : (rs : List DoneRange) (lo hi p : ℕ) (d : DoneRange) → EndBelow rs lo p → p < length rs → lo ≤ (get_or rs p d).hi → ((get_or rs p d).hi ≡ lo → ⊥) → (get_or rs p d).lo ≡ hi → put_in rs lo hi ≡ set rs p (record { lo = lo; hi = (get_or rs p d).hi })
put_in-right [] lo hi p d b l u n e = absurd (omega (arith, l))
put_in-right (r ∷ rs) lo hi zero d b l u n e = put_in-here r rs lo hi u ∙ cond-false (eqb r.hi lo) _ _ (ne_eqb r.hi lo n) ∙ cond-true (eqb r.lo hi) _ _ (eq-eqb r.lo hi e)
put_in-right (r ∷ rs) lo hi (suc p) d b l u n e =
    put_in-past r rs lo hi (b 0 r (omega arith) (omega arith)) ∙ ap (λ qs. r ∷ qs) (put_in-right rs lo hi p d (end-below-next r rs lo p b) (omega (arith, l)) u n e)

-- no range touches the window
put_in-new : (rs : List DoneRange) (lo hi p : ℕ) → EndBelow rs lo p → p ≤ length rs → ((d : DoneRange) → p < length rs → (lo ≤ (get_or rs p d).hi) × ((get_or rs p d).hi ≡ lo → ⊥) × ((get_or rs p d).lo ≡ hi → ⊥)) → put_in rs lo hi ≡ insert rs p (record { lo = lo; hi = hi })
put_in-new [] lo hi zero b l n = refl
put_in-new [] lo hi (suc p) b l n = absurd (omega (arith, l))
put_in-new (r ∷ rs) lo hi zero b l n =
    let at = n r (omega arith) in
    put_in-here r rs lo hi at.0 ∙ cond-false (eqb r.hi lo) _ _ (ne_eqb r.hi lo at.1) ∙ cond-false (eqb r.lo hi) _ _ (ne_eqb r.lo hi at.2)
put_in-new (r ∷ rs) lo hi (suc p) b l n =
    put_in-past r rs lo hi (b 0 r (omega arith) (omega arith)) ∙ ap (λ qs. r ∷ qs) (put_in-new rs lo hi p (end-below-next r rs lo p b) (omega (arith, l)) (λ d k. n d (omega (arith, k))))

-- ---- what `join` writes

get-kept : (rs qs : List DoneRange) (p : ℕ) (d : DoneRange) → p < length rs → get_or (take (suc p) rs ++ qs) p d ≡ get_or rs p d
get-kept [] qs p d l = absurd (omega (arith, l))
get-kept (r ∷ rs) qs zero d l = refl
get-kept (r ∷ rs) qs (suc p) d l = get-kept rs qs p d (omega (arith, l))

-- w is written at the index; x is read there when the ranges after it are qs
pub left-written : (rs qs : List DoneRange) (lo hi p reach : ℕ) (w x : DoneRange) → EndBelow rs lo p → slice_get rs p ≡ Some w → w.hi ≡ lo → qs ≡ take (p + 1) rs ++ (absorbed hi (drop (p + 1) rs)).1 → reach ≡ (absorbed hi (drop (p + 1) rs)).0 → x ≡ get_or qs p x → set qs p (record { lo = x.lo; hi = reach }) ≡ put_in rs lo hi
left-written rs qs lo hi p reach w x below at touches rest far read =
    let within = slice_get_within rs p w at in
    let rest' : qs ≡ take (suc p) rs ++ (absorbed hi (drop (suc p) rs)).1 = rest ∙ ap (λ n. take n rs ++ (absorbed hi (drop n rs)).1) (add-one p) in
    let far' : reach ≡ (absorbed hi (drop (suc p) rs)).0 = far ∙ ap (λ n. (absorbed hi (drop n rs)).0) (add-one p) in
    let first : x.lo ≡ (get_or rs p x).lo = ap (λ (y : DoneRange). y.lo) (read ∙ ap (λ l. get_or l p x) rest' ∙ get-kept rs (absorbed hi (drop (suc p) rs)).1 p x within) in
    let new : ℕ → ℕ → DoneRange = λ a b. record { lo = a; hi = b } in
    ap (λ l. set l p (new x.lo reach)) rest'
    ∙ ap (λ n. set (take (suc p) rs ++ (absorbed hi (drop (suc p) rs)).1) p (new x.lo n)) far'
    ∙ ap (λ n. set (take (suc p) rs ++ (absorbed hi (drop (suc p) rs)).1) p (new n (absorbed hi (drop (suc p) rs)).0)) first
    ∙ sym (put_in-left rs lo hi p x below within (ap (λ (y : DoneRange). y.hi) (get_or_from_slice_get rs p w x at) ∙ touches))

pub right-written : (rs : List DoneRange) (lo hi p : ℕ) (w x : DoneRange) → EndBelow rs lo p → slice_get rs p ≡ Some w → lo ≤ w.hi → (w.hi ≡ lo → ⊥) → w.lo ≡ hi → x ≡ get_or rs p x → set rs p (record { lo = lo; hi = x.hi }) ≡ put_in rs lo hi
right-written rs lo hi p w x below at above apart touches read =
    let same : get_or rs p x ≡ w = get_or_from_slice_get rs p w x at in
    let top : (get_or rs p x).hi ≡ w.hi = ap (λ (y : DoneRange). y.hi) same in
    let new : ℕ → DoneRange = λ b. record { lo = lo; hi = b } in
    ap (λ n. set rs p (new n)) (ap (λ (y : DoneRange). y.hi) read)
    ∙ sym (put_in-right rs lo hi p x below (slice_get_within rs p w at) (omega (arith, top, above)) (λ e. apart (sym top ∙ e)) (ap (λ (y : DoneRange). y.lo) same ∙ touches))

pub new-written : (rs : List DoneRange) (lo hi p : ℕ) → EndBelow rs lo p → p ≤ length rs → ((w : DoneRange) → slice_get rs p ≡ Some w → (lo ≤ w.hi) × (w.hi ≡ lo → ⊥) × (w.lo ≡ hi → ⊥)) → insert rs p (record { lo = lo; hi = hi }) ≡ put_in rs lo hi
new-written rs lo hi p below le apart =
    sym (put_in-new rs lo hi p below le (λ d l. apart (get_or rs p d) (slice_get_read rs (length rs) p (get_or rs p d) refl l (default d (get_or rs p d) p rs l))))
  where
    default : (a b : DoneRange) (k : ℕ) (xs : List DoneRange) → k < length xs → get_or xs k a ≡ get_or xs k b
    default a b k [] l = absurd (omega (arith, l))
    default a b zero (x ∷ xs) l = refl
    default a b (suc k) (x ∷ xs) l = default a b k xs (omega (arith, l))

-- the window does not begin at the mark
pub joined-above : (m lo hi : ℕ) (rs : List DoneRange) → (m ≡ lo → ⊥) → joined m rs lo hi ≡ (m, put_in rs lo hi)
joined-above m lo hi rs n = cond-false (eqb m lo) (absorbed hi rs) (m, put_in rs lo hi) (ne_eqb m lo n)
