-- Things in order in a text are unique.
use Rattle.proof_prelude.proofs.{◌≡◌, ℕ, zero, suc, ◌+◌, ◌<◌, ◌≤◌, List, [], ◌∷◌, ◌++◌, length, get_or, drop, refl, sym, ap, ap₂, subst, ◌∙◌, append_assoc, arith, append-nil}
use Rattle.std.proofs.Math.Seq.{drop-cons}
use Rattle.output_parser.specs.{InTurn}

-- a thing has a unique value, and a unique text after it
abbrev pub OneWay : {T V : Type 0} → (T → V → List ℕ → List ℕ → Type 0) → Type 0
OneWay {T} {V} Step = (t : T) (v w : V) (a b text : List ℕ) → Step t v a text → Step t w b text → (a ≡ b) × (v ≡ w)

-- These values were parsed, and these things are still to be parsed from the rest.
pub record Reads {T V : Type 0} (Step : T → V → List ℕ → List ℕ → Type 0) (all : List T) (text rest : List ℕ) (left : List T) (done : List V) : Type 0 where
  pub yes : (last : List ℕ) (more : List V) → InTurn Step left more last rest → InTurn Step all (done ++ more) last text
  pub only : (last : List ℕ) (values : List V) → InTurn Step all values last text → (more : List V) × (values ≡ done ++ more) × InTurn Step left more last rest

module _ {T V : Type 0} (Step : T → V → List ℕ → List ℕ → Type 0) where
  pub begun : (all : List T) (text : List ℕ) → Reads Step all text text all []
  begun all text = record { yes = λ last more h. h; only = λ last values h. (values, refl, h) }

  only_more : OneWay Step → (t : T) (left : List T) (v : V) (after rest last : List ℕ) (done values more : List V) → Step t v after rest → values ≡ done ++ more → InTurn Step (t ∷ left) more last rest → (more : List V) × (values ≡ (done ++ v ∷ []) ++ more) × InTurn Step left more last after
  only_more way t left v after rest last done values [] e is h = absurd h
  only_more way t left v after rest last done values (w ∷ more) e is h =
      let u = way t w v h.0 after rest h.1 e in
      (more, is ∙ (ap (λ k. done ++ k ∷ more) u.1 ∙ sym (append_assoc done (v ∷ []) more)), subst (λ x. InTurn Step left more last x) u.0 h.2)

  one_more : OneWay Step → (all : List T) (text rest after : List ℕ) (t : T) (left : List T) (done : List V) (v : V) → Reads Step all text rest (t ∷ left) done → Step t v after rest → Reads Step all text after left (done ++ v ∷ [])
  one_more way all text rest after t left done v r e = record {
    yes = λ last more h. subst (λ vs. InTurn Step all vs last text) (sym (append_assoc done (v ∷ []) more)) (r.yes last (v ∷ more) (after, e, h));
    only = λ last values h. let k = r.only last values h in only_more way t left v after rest last done values k.0 e k.1 k.2;
  }

  at_thing : (all : List T) (text rest : List ℕ) (i : ℕ) (d : T) (done : List V) → i < length all → Reads Step all text rest (drop i all) done → Reads Step all text rest (get_or all i d ∷ drop (suc i) all) done
  at_thing all text rest i d done low r = subst (λ left. Reads Step all text rest left done) (drop-cons all i d low) r

  next_index : (i : ℕ) → suc i ≡ i + 1
  next_index i = omega arith

  pub reads_more : OneWay Step → (all : List T) (text rest after : List ℕ) (i : ℕ) (d : T) (done new : List V) (v : V) → i < length all → Reads Step all text rest (drop i all) done → Step (get_or all i d) v after rest → new ≡ done ++ v ∷ [] → Reads Step all text after (drop (i + 1) all) new
  reads_more way all text rest after i d done new v low r e added =
      subst (λ vs. Reads Step all text after (drop (i + 1) all) vs) (sym added)
      (subst (λ k. Reads Step all text after (drop k all) (done ++ v ∷ [])) (next_index i)
      (one_more way all text rest after (get_or all i d) (drop (suc i) all) done v (at_thing all text rest i d done low r) e))

  none_left : (t : T) (left : List T) (last rest : List ℕ) (more : List V) → ((after : List ℕ) (v : V) → Step t v after rest → ⊥) → InTurn Step (t ∷ left) more last rest → ⊥
  none_left t left last rest [] bad h = h
  none_left t left last rest (v ∷ more) bad h = bad h.0 v h.1

  pub reads_none : (all : List T) (text rest : List ℕ) (i : ℕ) (d : T) (done : List V) → i < length all → Reads Step all text rest (drop i all) done → ((after : List ℕ) (v : V) → Step (get_or all i d) v after rest → ⊥) → (last : List ℕ) (values : List V) → InTurn Step all values last text → ⊥
  reads_none all text rest i d done low r bad last values h =
      let k = (at_thing all text rest i d done low r).only last values h in
      none_left (get_or all i d) (drop (suc i) all) last rest k.0 bad k.2

  pub drop_all : (all : List T) (i : ℕ) → length all ≤ i → drop i all ≡ []
  drop_all [] zero low = refl
  drop_all [] (suc i) low = refl
  drop_all (t ∷ ts) zero low = absurd (omega (arith, low))
  drop_all (t ∷ ts) (suc i) low = drop_all ts i (omega (arith, low))

  pub reads_all : (all : List T) (text rest : List ℕ) (left : List T) (done : List V) → left ≡ [] → Reads Step all text rest left done → InTurn Step all done rest text
  reads_all all text rest left done e r =
      let s = subst (λ ls. Reads Step all text rest ls done) e r in
      subst (λ vs. InTurn Step all vs rest text) (append-nil done) (s.yes rest [] refl)

  -- all values are unique, and so is the text after the last thing
  pub turns_unique : OneWay Step → (all : List T) (xs ys : List V) (a b text : List ℕ) → InTurn Step all xs a text → InTurn Step all ys b text → (a ≡ b) × (xs ≡ ys)
  turns_unique way [] [] [] a b text p q = (sym p ∙ q, refl)
  turns_unique way [] [] (y ∷ ys) a b text p q = absurd q
  turns_unique way [] (x ∷ xs) ys a b text p q = absurd p
  turns_unique way (t ∷ ts) [] ys a b text p q = absurd p
  turns_unique way (t ∷ ts) (x ∷ xs) [] a b text p q = absurd q
  turns_unique way (t ∷ ts) (x ∷ xs) (y ∷ ys) a b text p q =
      let u = way t x y p.0 q.0 text p.1 q.1 in
      let v = turns_unique way ts xs ys a b q.0 (subst (λ z. InTurn Step ts xs a z) u.0 p.2) q.2 in
      (v.0, ap₂ (λ z zs. z ∷ zs) u.1 v.1)
