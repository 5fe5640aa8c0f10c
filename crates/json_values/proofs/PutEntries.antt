-- Inserting a member among others.
use Rattle.proof_prelude.proofs.{◌≡◌, ℕ, ◌+◌, ◌<◌, length, take, drop, List, [], ◌∷◌, ◌++◌, Ordering, Less, Equal, Greater, nat_cmp, Bor, refl, sym, ap, ◌∙◌, match_ordering, ordering_reverse, slice_cmp, AllByRecursion, IsStrictlySortedBy, nat_list_cmp_total, alike_right, take-set, drop-set, slice_set, take-append-drop}
use Rattle.json_values.specs.{Entry, names_of, IsRising, put_entry}

abbrev Behind : List ℕ → List (List ℕ) → Type 0
Behind k ks = AllByRecursion (λ y. slice_cmp nat_cmp k y ≡ Less) ks

further : (k l : List ℕ) (ks : List (List ℕ)) → slice_cmp nat_cmp k l ≡ Less → Behind l ks → Behind k ks
further k l [] less all = tt
further k l (y ∷ ks) less all = (nat_list_cmp_total.trans k l y less all.0, further k l ks less all.1)

turned : (k l : List ℕ) → slice_cmp nat_cmp k l ≡ Less → slice_cmp nat_cmp l k ≡ Greater
turned k l less = nat_list_cmp_total.antisymm l k ∙ ap ordering_reverse less

-- a list with another element at an index
pub set_between : {X : Type 0} (xs : List X) (i : ℕ) (y : X) → i < length xs → take i xs ++ y ∷ drop (i + 1) xs ≡ slice_set xs i y
set_between xs i y within =
    ap (λ ys. ys ++ y ∷ drop (i + 1) xs) (sym (take-set xs i y)) ∙ ap (λ ys. take i (slice_set xs i y) ++ ys) (sym (drop-set xs i y within)) ∙ take-append-drop i (slice_set xs i y)

pub rising_none : (T : Type 0) → IsRising {T = T} []
rising_none T = unfold IsStrictlySortedBy in tt

-- a prefix of members in order is in order
pub rising_front : (T : Type 0) (es more : List (Entry T)) → IsRising (es ++ more) → IsRising es
unfolding IsStrictlySortedBy
rising_front T [] more r = tt
rising_front T (e ∷ es) more r = (front es r.0, rising_front T es more r.1)
  where
    front : (xs : List (Entry T)) → Behind e.0.now (names_of (xs ++ more)) → Behind e.0.now (names_of xs)
    front [] all = tt
    front (x ∷ xs) all = (all.0, front xs all.1)

module _ {T : Type 0} (name : Bor (List ℕ)) (v : T) where
  behind_put : (l : List ℕ) (es : List (Entry T)) → slice_cmp nat_cmp l name.now ≡ Less → Behind l (names_of es) → Behind l (names_of (put_entry name v es))
  behind_put l [] less all = (less, tt)
  behind_put l (e ∷ es) less all = by (slice_cmp nat_cmp name.now e.0.now) (behind_put l es less all.1)
    where
      by : (o : Ordering) → Behind l (names_of (put_entry name v es)) → Behind l (names_of (match_ordering o ((name, v) ∷ e ∷ es) ((e.0, v) ∷ es) (e ∷ put_entry name v es)))
      by Less more = (less, all)
      by Equal more = all
      by Greater more = (all.0, more)

  pub rising_put : (es : List (Entry T)) → IsRising es → IsRising (put_entry name v es)
  unfolding IsStrictlySortedBy
  rising_put [] r = (tt, tt)
  rising_put (e ∷ es) r = by (slice_cmp nat_cmp name.now e.0.now) refl (rising_put es r.1)
    where
      by : (o : Ordering) → slice_cmp nat_cmp name.now e.0.now ≡ o → IsRising (put_entry name v es) → IsRising (match_ordering o ((name, v) ∷ e ∷ es) ((e.0, v) ∷ es) (e ∷ put_entry name v es))
      by Less is more = ((is, further name.now e.0.now (names_of es) is r.0), r)
      by Equal is more = r
      by Greater is more = (behind_put e.0.now es (nat_list_cmp_total.antisymm e.0.now name.now ∙ ap ordering_reverse is) r.0, more)

  pub put_before : (e : Entry T) (es : List (Entry T)) → slice_cmp nat_cmp name.now e.0.now ≡ Less → put_entry name v (e ∷ es) ≡ (name, v) ∷ e ∷ es
  put_before e es is = ap (λ o. match_ordering o ((name, v) ∷ e ∷ es) ((e.0, v) ∷ es) (e ∷ put_entry name v es)) is

  pub put_over : (e : Entry T) (es : List (Entry T)) → slice_cmp nat_cmp name.now e.0.now ≡ Equal → put_entry name v (e ∷ es) ≡ (e.0, v) ∷ es
  put_over e es is = ap (λ o. match_ordering o ((name, v) ∷ e ∷ es) ((e.0, v) ∷ es) (e ∷ put_entry name v es)) is

  pub put_after : (e : Entry T) (es : List (Entry T)) → slice_cmp nat_cmp name.now e.0.now ≡ Greater → put_entry name v (e ∷ es) ≡ e ∷ put_entry name v es
  put_after e es is = ap (λ o. match_ordering o ((name, v) ∷ e ∷ es) ((e.0, v) ∷ es) (e ∷ put_entry name v es)) is

  -- a member that goes after the first ones is inserted after them
  pub put_behind : (es more : List (Entry T)) → IsRising (es ++ (name, v) ∷ more) → put_entry name v es ≡ es ++ (name, v) ∷ []
  unfolding IsStrictlySortedBy
  put_behind [] more r = refl
  put_behind (e ∷ es) more r = put_after e es (turned e.0.now name.now (before e.0.now es r.0)) ∙ ap (λ xs. e ∷ xs) (put_behind es more r.1)
    where
      before : (k : List ℕ) (xs : List (Entry T)) → Behind k (names_of (xs ++ (name, v) ∷ more)) → slice_cmp nat_cmp k name.now ≡ Less
      before k [] all = all.0
      before k (x ∷ xs) all = before k xs all.1

  at_end : (last : Entry T) (k : List ℕ) (xs : List (Entry T)) → Behind k (names_of (xs ++ last ∷ [])) → slice_cmp nat_cmp k last.0.now ≡ Less
  at_end last k [] all = all.0
  at_end last k (x ∷ xs) all = at_end last k xs all.1

  -- a member that goes before an entry is inserted before it
  pub put_front : (es : List (Entry T)) (e : Entry T) → slice_cmp nat_cmp name.now e.0.now ≡ Less → put_entry name v (es ++ e ∷ []) ≡ put_entry name v es ++ e ∷ []
  put_front [] e is = put_before e [] is
  put_front (x ∷ es) e is = by (slice_cmp nat_cmp name.now x.0.now) (put_front es e is)
    where
      by : (o : Ordering) → put_entry name v (es ++ e ∷ []) ≡ put_entry name v es ++ e ∷ []
          → match_ordering o ((name, v) ∷ x ∷ (es ++ e ∷ [])) ((x.0, v) ∷ (es ++ e ∷ [])) (x ∷ put_entry name v (es ++ e ∷ []))
          ≡ match_ordering o ((name, v) ∷ x ∷ es) ((x.0, v) ∷ es) (x ∷ put_entry name v es) ++ e ∷ []
      by Less more = refl
      by Equal more = refl
      by Greater more = ap (λ xs. x ∷ xs) more

  -- a member with the name of the last one replaces its value
  pub put_tied : (es : List (Entry T)) (last : Entry T) → IsRising (es ++ last ∷ []) → slice_cmp nat_cmp name.now last.0.now ≡ Equal → put_entry name v (es ++ last ∷ []) ≡ es ++ (last.0, v) ∷ []
  unfolding IsStrictlySortedBy
  put_tied [] last r is = put_over last [] is
  put_tied (e ∷ es) last r is =
      let less : slice_cmp nat_cmp e.0.now name.now ≡ Less = alike_right nat_list_cmp_total name.now last.0.now e.0.now is ∙ at_end last e.0.now es r.0 in
      put_after e (es ++ last ∷ []) (turned e.0.now name.now less) ∙ ap (λ xs. e ∷ xs) (put_tied es last r.1 is)

  -- a member that goes after the last one is appended
  pub put_last : (es : List (Entry T)) (last : Entry T) → IsRising (es ++ last ∷ []) → slice_cmp nat_cmp name.now last.0.now ≡ Greater → put_entry name v (es ++ last ∷ []) ≡ (es ++ last ∷ []) ++ (name, v) ∷ []
  unfolding IsStrictlySortedBy
  put_last [] last r is = put_after last [] is
  put_last (e ∷ es) last r is =
      let below : slice_cmp nat_cmp e.0.now last.0.now ≡ Less = at_end last e.0.now es r.0 in
      let under : slice_cmp nat_cmp last.0.now name.now ≡ Less = nat_list_cmp_total.antisymm last.0.now name.now ∙ ap ordering_reverse is in
      let less = nat_list_cmp_total.trans e.0.now last.0.now name.now below under in
      put_after e (es ++ last ∷ []) (turned e.0.now name.now less) ∙ ap (λ xs. e ∷ xs) (put_last es last r.1 is)
