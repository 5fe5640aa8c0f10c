-- The ancestry of a serialized document's members is that of the document.
use Rattle.proof_prelude.proofs.{◌≡◌, ℕ, ◌-◌, ◌^◌, ◌≤◌, List, [], ◌∷◌, length, map, false, cond, Some, None, option_map, option_and_then, Ok, refl, ap, ◌∙◌, arith, nat_eq, AllByRecursion, cond-true, cond-false, lt-ltb, le-ltb, ne_eqb}
use Rattle.rev_core.specs.{RevId, IsRev, rev_tie_self, FallsByOne, IsAncestry, numbered, ancestry_read, named}
use Rattle.doc_json.specs.{sigs_of, numbered_from, revisions_read, matched}
use Rattle.doc_json.specs.declared.fault.DocFault.TheVariants as faults
use Rattle.doc_json.proofs.DocData.{sig_items, revisions_value}

abbrev sigs : List RevId → List (List ℕ)
sigs revs = map (λ (r : RevId). r.sig) revs

numbered_back : (r : RevId) (revs : List RevId) → FallsByOne (r ∷ revs) → numbered r.generation (sigs (r ∷ revs)) ≡ r ∷ revs
numbered_back r [] falls = refl
numbered_back r (q ∷ revs) falls =
    let below : r.generation - 1 ≡ q.generation = omega (arith, falls.0) in
    ap (λ n. r ∷ numbered n (sigs (q ∷ revs))) below ∙ ap (λ t. r ∷ t) (numbered_back q revs falls.1)

enough : (r : RevId) (revs : List RevId) → AllByRecursion IsRev (r ∷ revs) → FallsByOne (r ∷ revs) → length (sigs (r ∷ revs)) ≤ r.generation
enough r [] each falls = omega (arith, each.0.low)
enough r (q ∷ revs) each falls = omega (arith, falls.0, enough q revs each.1 falls.1)

ancestry_back : (r : RevId) (revs : List RevId) → AllByRecursion IsRev (r ∷ revs) → FallsByOne (r ∷ revs) → ancestry_read r.generation (sigs (r ∷ revs)) ≡ Ok (r ∷ revs)
ancestry_back r revs each falls =
    let fits = le-ltb r.generation (length (sigs (r ∷ revs))) (enough r revs each falls) in
    let some : (nat_eq (length (sigs (r ∷ revs))) 0) ≡ false = ne_eqb _ 0 (λ e. omega arith) in
    cond-false _ _ _ some ∙ cond-false _ _ _ fits ∙ ap Ok (numbered_back r revs falls)

sigs_back : (revs : List RevId) → AllByRecursion IsRev revs → sigs_of (sig_items revs) ≡ Some (sigs revs)
sigs_back [] each = refl
sigs_back (r ∷ revs) each =
    ap (λ b. option_and_then (λ sig. option_map (λ more. sig ∷ more) (sigs_of (sig_items revs))) (cond b (Some r.sig) None)) each.0.sig
    ∙ ap (option_map (λ more. r.sig ∷ more)) (sigs_back revs each.1)

-- from `_revisions`
pub revisions_back : (head : RevId) (older : List RevId) → IsAncestry (head ∷ older) → revisions_read (revisions_value head older) ≡ Ok (head ∷ older)
revisions_back head older h =
    let small = lt-ltb head.generation (2 ^ 32) h.each.0.high in
    ap (numbered_from (Some head.generation)) (sigs_back (head ∷ older) h.each) ∙ cond-true _ _ _ small ∙ ap (named faults.BadRevisions) (ancestry_back head older h.each h.falls)

-- given `_rev`
pub matched_back : (head : RevId) (older : List RevId) → matched (Some head) (head ∷ older) ≡ Ok (head ∷ older)
matched_back head older = cond-true _ _ _ (rev_tie_self head)
