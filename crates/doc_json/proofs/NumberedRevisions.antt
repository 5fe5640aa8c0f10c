-- The revisions of a start and a list of signatures.
use Rattle.proof_prelude.proofs.{◌≡◌, ℕ, ◌-◌, ◌^◌, ◌<◌, ◌≤◌, ◌⊎◌, List, [], ◌∷◌, length, map, Bool, true, false, cond, nat_eq, nat_lt, Option, Some, None, option_map, Result, Ok, Err, inl, inr, refl, sym, ap, ◌∙◌, subst, arith, AllByRecursion, lt-ltb, le-ltb, ne_eqb, eq-eqb}
use Rattle.serde_json.specs.Data.{Data}
use Rattle.serde_json.specs.Find.{as_str}
use Rattle.serde_json.specs.View.{items_of}
use Rattle.rev_core.specs.{is_sig, RevId, IsRev, IsAncestry, numbered, falls_numbered, length-numbered, RevFault, named}
use Rattle.rev_core.specs.declared.fault.RevFault.TheVariants as rev_faults
use Rattle.doc_json.specs.{sig_of, sigs_of, numbered_from, DocFault}
use Rattle.doc_json.specs.declared.fault.DocFault.TheVariants as faults
use Rattle.doc_json.proofs.FoundRevisions.{both, none_left, sigs_count}

-- the tests of `numbered_from`: the start is small, there is no signature, there are too many
abbrev tested : Bool → Bool → Bool → List RevId → Result (List RevId) DocFault
tested small none many revs =
    cond small (named {E = RevFault} faults.BadRevisions (cond none (Err rev_faults.NoIds) (cond many (Err rev_faults.StartTooSmall) (Ok revs)))) (Err faults.BadRevisions)

pub start_refused : (s : ℕ) (o : Option (List (List ℕ))) → 2 ^ 32 ≤ s → numbered_from (Some s) o ≡ Err faults.BadRevisions
start_refused s None h = refl
start_refused s (Some sigs) h = ap (λ b. tested b (nat_eq (length sigs) 0) (nat_lt s (length sigs)) (numbered s sigs)) (le-ltb s (2 ^ 32) h)

none_refused : (small many : Bool) (revs : List RevId) → tested small true many revs ≡ Err faults.BadRevisions
none_refused true many revs = refl
none_refused false many revs = refl

many_refused : (small none : Bool) (revs : List RevId) → tested small none true revs ≡ Err faults.BadRevisions
many_refused true true revs = refl
many_refused true false revs = refl
many_refused false none revs = refl

module _ {V : Type 0} (seen : V → Data) (s : ℕ) (vs : List V) (h : (length vs < 1) ⊎ (s < length vs)) where
  refused : (o : Option (List (List ℕ))) → sigs_of (items_of (map seen vs)) ≡ o → numbered_from (Some s) o ≡ Err faults.BadRevisions
  refused None e = refl
  refused (Some sigs) e =
      let n : length sigs ≡ length vs = sigs_count seen vs sigs e in
      elim h [
        | inl none ↦ ap (λ b. tested (nat_lt s (2 ^ 32)) b (nat_lt s (length sigs)) (numbered s sigs)) (eq-eqb (length sigs) 0 (omega (arith, n, none)))
            ∙ none_refused (nat_lt s (2 ^ 32)) (nat_lt s (length sigs)) (numbered s sigs)
        | inr many ↦ ap (λ b. tested (nat_lt s (2 ^ 32)) (nat_eq (length sigs) 0) b (numbered s sigs)) (lt-ltb s (length sigs) (omega (arith, n, many)))
            ∙ many_refused (nat_lt s (2 ^ 32)) (nat_eq (length sigs) 0) (numbered s sigs)
      ]

  pub count_refused : numbered_from (Some s) (sigs_of (items_of (map seen vs))) ≡ Err faults.BadRevisions
  count_refused = refused (sigs_of (items_of (map seen vs))) refl

sig_told : (b : Bool) (text sig : List ℕ) → b ≡ is_sig text → cond b (Some text) None ≡ Some sig → is_sig sig ≡ true
sig_told true text sig is e = let same : sig ≡ text = cc in ap is_sig same ∙ sym is
sig_told false text sig is e = absurd (cc)

sig_is : (o : Option (List ℕ)) (sig : List ℕ) → sig_of o ≡ Some sig → is_sig sig ≡ true
sig_is None sig e = absurd (cc)
sig_is (Some text) sig e = sig_told (is_sig text) text sig refl e

each_numbered : {V : Type 0} (seen : V → Data) (s : ℕ) (vs : List V) (sigs : List (List ℕ)) → sigs_of (items_of (map seen vs)) ≡ Some sigs → length sigs ≤ s → s < 2 ^ 32 → AllByRecursion IsRev (numbered s sigs)
each_numbered seen s [] sigs e few small = subst (λ t. AllByRecursion IsRev (numbered s t)) (sym (none_left sigs e)) tt
each_numbered seen s (v ∷ vs) sigs e few small =
    let b = both _ _ sigs e in
    let n = ap length b.4 in
    subst (λ t. AllByRecursion IsRev (numbered s t)) (sym b.4)
    (record { low = omega (arith, few, n); high = small; sig = sig_is (as_str (seen v)) b.0 b.2 }, each_numbered seen (s - 1) vs b.1 b.3 (omega (arith, few, n)) (omega (arith, small)))

read_from : (o : Option (List (List ℕ))) (s : ℕ) (revs : List RevId) → Some revs ≡ option_map (numbered s) o → (sigs : List (List ℕ)) × (o ≡ Some sigs) × (revs ≡ numbered s sigs)
read_from None s revs e = absurd (cc)
read_from (Some sigs) s revs e = (sigs, refl, cc)

module _ {V : Type 0} (seen : V → Data) (s : ℕ) (vs : List V) (revs : List RevId) (read : Some revs ≡ option_map (numbered s) (sigs_of (items_of (map seen vs)))) (small : s < 2 ^ 32) (some : 1 ≤ length vs) (few : length vs ≤ s) where
  pub is_ancestry : IsAncestry revs
  is_ancestry =
      let r = read_from (sigs_of (items_of (map seen vs))) s revs read in
      let n : length r.0 ≡ length vs = sigs_count seen vs r.0 r.1 in
      subst IsAncestry (sym r.2) (record {
        nonempty = omega (arith, length-numbered s r.0, n, some);
        each = each_numbered seen s vs r.0 r.1 (omega (arith, n, few)) small;
        falls = falls_numbered s r.0 (omega (arith, n, few));
      })

  pub is_read : numbered_from (Some s) (sigs_of (items_of (map seen vs))) ≡ Ok revs
  is_read =
      let r = read_from (sigs_of (items_of (map seen vs))) s revs read in
      let n : length r.0 ≡ length vs = sigs_count seen vs r.0 r.1 in
      ap (numbered_from (Some s)) r.1
      ∙ ap (λ b. tested b (nat_eq (length r.0) 0) (nat_lt s (length r.0)) (numbered s r.0)) (lt-ltb s (2 ^ 32) small)
      ∙ ap (λ b. tested true b (nat_lt s (length r.0)) (numbered s r.0)) (ne_eqb (length r.0) 0 (λ z. omega (arith, n, some, z)))
      ∙ ap (λ b. tested true false b (numbered s r.0)) (le-ltb s (length r.0) (omega (arith, n, few)))
      ∙ ap Ok (sym r.2)
