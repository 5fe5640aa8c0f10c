-- The members `_rev` and `_revisions`, before any part is copied.
use Rattle.proof_prelude.proofs.{◌≡◌, ℕ, ◌^◌, ◌<◌, ◌≤◌, List, [], ◌∷◌, length, map, Bool, true, false, cond, nat_eq, nat_lt, nat_le, Option, Some, None, is_some, option_map, option_and_then, Result, Ok, Err, is_ok, codes, slice_get, inl, inr, refl, sym, ap, ◌∙◌, arith, eq_by_cmp, lt-leb, cases_lt, false≢true, lt-ltb, le-ltb, le-leb, ne_eqb}
use Rattle.serde_json.specs.Data.{Data}
use Rattle.serde_json.specs.Find.{get, as_str}
use Rattle.serde_json.specs.View.{items_of}
use Rattle.rev_core.specs.{RevId, rev_cmp, numbered, ancestry_read, RevFault, named, ◌>>=◌}
use Rattle.rev_core.specs.declared.fault.RevFault.TheVariants as rev_faults
use Rattle.doc_json.specs.{sig_of, sigs_of, numbered_from, is_head, rev_member, with_revisions, revs_read, DocFault}
use Rattle.doc_json.specs.declared.fault.DocFault.TheVariants as faults

-- ---- signatures of a list

pub both : (o : Option (List ℕ)) (p : Option (List (List ℕ))) (sigs : List (List ℕ)) → option_and_then (λ sig. option_map (λ more. sig ∷ more) p) o ≡ Some sigs
    → (sig : List ℕ) × (more : List (List ℕ)) × (o ≡ Some sig) × (p ≡ Some more) × (sigs ≡ sig ∷ more)
both None p sigs e = absurd (cc)
both (Some sig) None sigs e = absurd (cc)
both (Some sig) (Some more) sigs e = (sig, more, refl, refl, cc)

pub none_left : (sigs : List (List ℕ)) → Some [] ≡ Some sigs → sigs ≡ []
none_left sigs e = cc

pub sigs_count : {V : Type 0} (seen : V → Data) (vs : List V) (sigs : List (List ℕ)) → sigs_of (items_of (map seen vs)) ≡ Some sigs → length sigs ≡ length vs
sigs_count seen [] sigs e = ap length (none_left sigs e)
sigs_count seen (v ∷ vs) sigs e = let b = both _ _ sigs e in let n = sigs_count seen vs b.1 b.3 in ap length b.4 ∙ omega arith

pub sigs_first : {V : Type 0} (seen : V → Data) (vs : List V) (sigs : List (List ℕ)) → sigs_of (items_of (map seen vs)) ≡ Some sigs → option_and_then (λ v. sig_of (as_str (seen v))) (slice_get vs 0) ≡ slice_get sigs 0
sigs_first seen [] sigs e = sym (ap (λ s. slice_get s 0) (none_left sigs e))
sigs_first seen (v ∷ vs) sigs e = let b = both _ _ sigs e in b.2 ∙ sym (ap (λ s. slice_get s 0) b.4)

-- ---- a start and a list

abbrev ends : Bool → Result (List RevId) RevFault → Result (List RevId) DocFault
ends small r = cond small (named faults.BadRevisions r) (Err faults.BadRevisions)

count_test : (s n : ℕ) (revs : List RevId) → is_ok (named {E = RevFault} faults.BadRevisions (cond (nat_lt s n) (Err rev_faults.StartTooSmall) (Ok revs))) ≡ nat_le n s
count_test s n revs = elim (cases_lt s n) [
  | inl few ↦ ap (λ b. is_ok (named {E = RevFault} faults.BadRevisions (cond b (Err rev_faults.StartTooSmall) (Ok revs)))) (lt-ltb s n few) ∙ sym (lt-leb n s few)
  | inr enough ↦ ap (λ b. is_ok (named {E = RevFault} faults.BadRevisions (cond b (Err rev_faults.StartTooSmall) (Ok revs)))) (le-ltb s n enough) ∙ sym (le-leb n s enough)
]

pub ids_test : (s n : ℕ) (o : Option (List (List ℕ))) → is_some o ≡ true → ((sigs : List (List ℕ)) → o ≡ Some sigs → length sigs ≡ n) → s < 2 ^ 32 → 1 ≤ n → nat_le n s ≡ is_ok (numbered_from (Some s) o)
ids_test s n None some count small low = absurd (false≢true some)
ids_test s n (Some sigs) some count small low =
    let e = count sigs refl in
    sym (ap (λ b. is_ok (ends b (ancestry_read s sigs))) (lt-ltb s (2 ^ 32) small)
    ∙ ap (λ m. is_ok (named faults.BadRevisions (cond (nat_eq m 0) (Err rev_faults.NoIds) (cond (nat_lt s m) (Err rev_faults.StartTooSmall) (Ok (numbered s sigs)))))) e
    ∙ ap (λ b. is_ok (named faults.BadRevisions (cond b (Err rev_faults.NoIds) (cond (nat_lt s n) (Err rev_faults.StartTooSmall) (Ok (numbered s sigs)))))) (ne_eqb n 0 (λ z. omega arith))
    ∙ count_test s n (numbered s sigs))

-- ---- the newest revision

made : (b c d : Bool) (revs out : List RevId) → cond b (named {E = RevFault} faults.BadRevisions (cond c (Err rev_faults.NoIds) (cond d (Err rev_faults.StartTooSmall) (Ok revs)))) (Err faults.BadRevisions) ≡ Ok out → out ≡ revs
made false c d revs out e = absurd (cc)
made true true d revs out e = absurd (cc)
made true false true revs out e = absurd (cc)
made true false false revs out e = cc

pub numbered_ok : (s : ℕ) (o : Option (List (List ℕ))) (revs : List RevId) → numbered_from (Some s) o ≡ Ok revs → (sigs : List (List ℕ)) × (o ≡ Some sigs) × (revs ≡ numbered s sigs)
numbered_ok s None revs e = absurd (cc)
numbered_ok s (Some sigs) revs e = (sigs, refl, made _ _ _ (numbered s sigs) revs e)

pub head_some : (r : RevId) (s : ℕ) (sigs : List (List ℕ)) (sig : List ℕ) → Some sig ≡ slice_get sigs 0 → is_head r (numbered s sigs) ≡ eq_by_cmp rev_cmp r (record { generation = s; sig = sig })
head_some r s [] sig e = absurd (cc)
head_some r s (first ∷ sigs) sig e =
    let same : first ≡ sig = cc in
    let of : List ℕ → RevId = λ t. record { generation = s; sig = t } in
    ap (λ t. eq_by_cmp rev_cmp r (of t)) same

pub head_none : (r : RevId) (s : ℕ) (sigs : List (List ℕ)) → None ≡ slice_get sigs 0 → is_head r (numbered s sigs) ≡ false
head_none r s [] e = refl
head_none r s (first ∷ sigs) e = absurd (cc)

-- ---- the members of an accepted document

pub revs_by : (d : Data) (rev : Option RevId) → rev_member (get (codes "_rev") d) ≡ Ok rev → revs_read d ≡ with_revisions (get (codes "_revisions") d) rev
revs_by d rev e = unfold revs_read in ap (λ r. r >>= with_revisions (get (codes "_revisions") d)) e

pub revs_refused : (d : Data) (fault : DocFault) → rev_member (get (codes "_rev") d) ≡ Err fault → revs_read d ≡ Err fault
revs_refused d fault e = unfold revs_read in ap (λ r. r >>= with_revisions (get (codes "_revisions") d)) e
