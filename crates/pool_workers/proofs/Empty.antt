-- A database without changes has no documents.
use Rattle.proof_prelude.proofs.{◌≡◌, ℕ, List, [], ◌∷◌, map, refl, arith, Option, Some, None, IfSome}
use Rattle.couch_base.specs.{DatabaseValue, DocumentValue, LawfulDatabase, Rises, rises_le}

none_under : (ds : List DocumentValue) (hi : ℕ) → hi ≡ 0 → Rises 0 (map (λ (d : DocumentValue). d.seq) ds) hi → ds ≡ []
none_under [] hi none rises = refl
none_under (d ∷ ds) hi none rises = absurd (omega (arith, none, rises.0, rises_le d.seq (map (λ (d : DocumentValue). d.seq) ds) hi rises.1))

-- if the update sequence is 0, there are no documents
pub unchanged : (db : DatabaseValue) → LawfulDatabase db → db.update_seq ≡ 0 → db.docs ≡ []
unchanged db law none = none_under db.docs db.update_seq none law.rising

-- a property of every value of an option
pub some_from : {X : Type 0} (o : Option X) (P : X → Type 0) → ((x : X) → o ≡ Some x → P x) → IfSome o P
some_from None P h = tt
some_from (Some x) P h = h x refl
