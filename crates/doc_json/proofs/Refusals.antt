-- The result of a failed call that may run out of memory.
use Rattle.proof_prelude.proofs.{◌≡◌, Result, Err, inl, inr, sym, ap, ◌∙◌, subst, IsOk, IsErrAnd, err_from_is_err_and}
use Rattle.doc_json.specs.{GivesUnlessMemory, DocFault}
use Rattle.doc_json.specs.declared.fault.DocFault.TheVariants as faults

module _ {A : Type 0} (r expected : Result A DocFault) where
  -- the returned error is the expected one
  pub refused : (e : DocFault) → IsErrAnd r (λ y. y ≡ e) → expected ≡ Err e → GivesUnlessMemory r expected
  refused e h is =
      let p = err_from_is_err_and r h in
      subst (λ x. GivesUnlessMemory x expected) (sym p.1) (inl (is ∙ ap Err (sym p.2)))

  -- `Memory` is returned if a success is expected
  pub out_of_memory : IsErrAnd r (λ y. y ≡ faults.Memory) → IsOk expected → GivesUnlessMemory r expected
  out_of_memory h ok =
      let p = err_from_is_err_and r h in
      subst (λ x. GivesUnlessMemory x expected) (sym p.1) (inr (p.2, ok))
