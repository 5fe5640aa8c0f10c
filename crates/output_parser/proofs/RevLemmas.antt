-- Lists with commas, and lists whose generations fall by one.
use Rattle.proof_prelude.proofs.{◌≡◌, ℕ, suc, zero, ◌+◌, ◌-◌, ◌<◌, ◌==◌, true, false, not, List, [], ◌∷◌, ◌++◌, length, get_or, drop, map, refl, sym, ap, subst, ◌∙◌, append_assoc, arith, Result, Ok, Err, AllByRecursion, slice_split, and_parts, false≢true, nat_tests, map-append, All-cons, All-nil, slice_split_at, slice_split_none, is_ok, eq_by_cmp, All}
use Rattle.rev_core.specs.{IsRev, RevId, rev_cmp, rev_tie_is, rev_tie_self, FallsByOne, rev_read, rev_text, rev_read-text}
use Rattle.output_parser.specs.{IsRevs, lacks, BeginsWith}

pub clash : {T E : Type 0} (r : Result T E) (x : T) (e : E) → r ≡ Ok x → r ≡ Err e → ⊥
clash r x e p q = false≢true (ap is_ok (sym q ∙ p))

abbrev pub pieces : List ℕ → List (List ℕ)
pieces text = slice_split (λ b. b == 44) text

not_equal : (a b : ℕ) → not (a == b) ≡ true → (a == b) ≡ false
not_equal a b h = grind (arith, nat_tests)

all_other : (w : List ℕ) → lacks 44 w ≡ true → All (λ x. (x == 44) ≡ false) w
all_other [] h = All-nil (λ x. (x == 44) ≡ false)
all_other (c ∷ w) h =
    let parts = and_parts _ _ h in
    All-cons (λ x. (x == 44) ≡ false) c w (not_equal c 44 parts.0) (all_other w parts.1)

pub pieces_last : (w : List ℕ) → lacks 44 w ≡ true → pieces w ≡ w ∷ []
pieces_last w h = slice_split_none (λ b. b == 44) w (all_other w h)

pub pieces_first : (rest w more : List ℕ) → rest ≡ w ++ 44 ∷ more → lacks 44 w ≡ true → pieces rest ≡ w ∷ pieces more
pieces_first rest w more e h = ap pieces e ∙ slice_split_at (λ b. b == 44) w 44 more (all_other w h) refl

-- one more piece was parsed
pub read_more : (all tail : List (List ℕ)) (done : List RevId) (r : RevId) (w : List ℕ) → all ≡ map rev_text done ++ w ∷ tail → rev_text r ≡ w → all ≡ map rev_text (done ++ r ∷ []) ++ tail
read_more all tail done r w e is =
    e ∙ (ap (λ t. map rev_text done ++ t ∷ tail) (sym is)
    ∙ (sym (append_assoc (map rev_text done) (rev_text r ∷ []) tail) ∙ ap (λ ts. ts ++ tail) (sym (map-append rev_text done (r ∷ [])))))

pub revs_more : (done : List RevId) (r : RevId) → AllByRecursion IsRev done → IsRev r → AllByRecursion IsRev (done ++ r ∷ [])
revs_more [] r h k = (k, tt)
revs_more (d ∷ done) r h k = (h.0, revs_more done r h.1 k)

abbrev first_of_texts : List ℕ → List (List ℕ) → List ℕ
first_of_texts w [] = w
first_of_texts w (t ∷ ts) = t

-- a piece that is not a revision is in no list of revisions
pub no_piece : (done revs : List RevId) (w : List ℕ) (tail : List (List ℕ)) → map rev_text revs ≡ map rev_text done ++ w ∷ tail → AllByRecursion IsRev revs → ((r : RevId) → IsRev r → rev_text r ≡ w → ⊥) → ⊥
no_piece [] [] w tail e h bad = absurd (omega (arith, ap length e))
no_piece [] (z ∷ zs) w tail e h bad = let same : rev_text z ≡ w = ap (first_of_texts w) e in bad z h.0 same
no_piece (d ∷ done) [] w tail e h bad = absurd (omega (arith, ap length e))
no_piece (d ∷ done) (z ∷ zs) w tail e h bad =
    let more : map rev_text zs ≡ map rev_text done ++ w ∷ tail = ap (drop 1) e in
    no_piece done zs w tail more h.1 bad

ok_same : {E : Type 0} (r s : RevId) → Path (Result RevId E) (Ok r) (Ok s) → r ≡ s
ok_same r s e = cc

pub same_rev : (r s : RevId) → IsRev r → IsRev s → rev_text r ≡ rev_text s → r ≡ s
same_rev r s h k e = ok_same r s (sym (rev_read-text r h) ∙ (ap rev_read e ∙ rev_read-text s k))

pub same_revs : (revs others : List RevId) → AllByRecursion IsRev revs → AllByRecursion IsRev others → map rev_text revs ≡ map rev_text others → revs ≡ others
same_revs [] [] h k e = refl
same_revs [] (s ∷ others) h k e = absurd (omega (arith, ap length e))
same_revs (r ∷ revs) [] h k e = absurd (omega (arith, ap length e))
same_revs (r ∷ revs) (s ∷ others) h k e =
    let first : rev_text r ≡ rev_text s = ap (first_of_texts (rev_text r)) e in
    let more : map rev_text revs ≡ map rev_text others = ap (drop 1) e in
    let a = same_rev r s h.0 k.0 first in
    let b = same_revs revs others h.1 k.1 more in
    ap (λ x. x ∷ revs) a ∙ ap (λ xs. s ∷ xs) b

pub revs_unique : (text : List ℕ) (revs others : List RevId) → IsRevs text revs → IsRevs text others → revs ≡ others
revs_unique text revs others p q = same_revs revs others p.each q.each (sym p.listed ∙ q.listed)

-- ---- generations that fall by one

pub falls_end : (revs : List RevId) (i : ℕ) → length revs ≡ i + 1 → FallsByOne (drop i revs)
falls_end [] i e = absurd (omega (arith, e))
falls_end (r ∷ []) zero e = tt
falls_end (r ∷ []) (suc i) e = absurd (omega (arith, e))
falls_end (r ∷ (s ∷ rest)) zero e = absurd (omega (arith, e))
falls_end (r ∷ (s ∷ rest)) (suc i) e = falls_end (s ∷ rest) i (omega (arith, e))

falls_nil : (i : ℕ) → FallsByOne (drop i [])
falls_nil zero = tt
falls_nil (suc i) = tt

pub falls_init : (revs : List RevId) → FallsByOne (drop (length revs - 1) revs)
falls_init [] = falls_nil (length {A = RevId} [] - 1)
falls_init (r ∷ rest) = falls_end (r ∷ rest) (length (r ∷ rest) - 1) (omega arith)

falls_read_suc : (revs : List RevId) (i : ℕ) (x y : RevId) → suc i < length revs → x ≡ get_or revs i x → y ≡ get_or revs (suc i) y → FallsByOne revs → x.generation ≡ y.generation + 1
falls_read_suc [] i x y low p q h = absurd (omega (arith, low))
falls_read_suc (r ∷ []) i x y low p q h = absurd (omega (arith, low))
falls_read_suc (r ∷ (s ∷ rest)) zero x y low p q h =
    ap (λ (z : RevId). z.generation) p ∙ (h.0 ∙ ap (λ (z : RevId). z.generation + 1) (sym q))
falls_read_suc (r ∷ (s ∷ rest)) (suc i) x y low p q h = falls_read_suc (s ∷ rest) i x y (omega (arith, low)) p q h.1

pub falls_read : (revs : List RevId) (i j : ℕ) (x y : RevId) → j ≡ suc i → j < length revs → x ≡ get_or revs i x → y ≡ get_or revs j y → FallsByOne revs → x.generation ≡ y.generation + 1
falls_read revs i j x y is low p q h =
    falls_read_suc revs i x y (subst (λ k. k < length revs) is low) p (subst (λ k. y ≡ get_or revs k y) is q) h

-- ---- a list that begins with a revision

pub begins_yes : (revs : List RevId) (first q : RevId) (own : List ℕ) → 0 < length revs → first ≡ get_or revs 0 first → rev_text q ≡ own → eq_by_cmp rev_cmp first q ≡ true → BeginsWith own revs
begins_yes [] first q own low p is e = absurd (omega (arith, low))
begins_yes (r ∷ rest) first q own low p is e = sym is ∙ ap rev_text (sym (rev_tie_is first q e) ∙ p)

pub begins_no : (revs : List RevId) (first q : RevId) (own : List ℕ) → first ≡ get_or revs 0 first → (rev_text q ≡ own) × IsRev q → eq_by_cmp rev_cmp first q ≡ false → AllByRecursion IsRev revs → BeginsWith own revs → ⊥
begins_no [] first q own p is e each h = absurd h
begins_no (r ∷ rest) first q own p is e each h =
    let same : q ≡ r = same_rev q r is.1 each.0 (is.0 ∙ h) in
    false≢true (sym e ∙ (ap (λ z. eq_by_cmp rev_cmp z q) (p ∙ sym same) ∙ rev_tie_self q))

pub begins_bad : (revs : List RevId) (own : List ℕ) → ((r : RevId) → IsRev r → rev_text r ≡ own → ⊥) → AllByRecursion IsRev revs → BeginsWith own revs → ⊥
begins_bad [] own bad each h = absurd h
begins_bad (r ∷ rest) own bad each h = bad r each.0 (sym h)
