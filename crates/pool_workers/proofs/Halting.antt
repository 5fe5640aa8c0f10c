-- A run halts only if the gate allows it, or a worker's call fails.
use Rattle.proof_prelude.proofs.{◌≡◌, ◌⊎◌, ⊎_elim, Option, None, Some, IfSome, sym, subst, inl, inr}
use Rattle.pool_workers.specs.{AllowsOn, Allows, IsHaltOn, fault_of, IsOneFault, IsOneOf, Place, Halt, PoolFault}
use Rattle.pool_workers.specs.declared.fault.Halt.TheVariants as halts

allowed_halt : (B : Type 0) (P : Place → Type 0) (h : Halt) → AllowsOn B P h → IsHaltOn B P (fault_of h)
allowed_halt B P (halts.Stopped place) a = a
allowed_halt B P (halts.Refused fault) a = a
allowed_halt B P halts.CountFull a = tt
allowed_halt B P halts.BoardFull a = a
allowed_halt B P halts.Memory a = tt
allowed_halt B P halts.Lost a = tt

-- a halt that is allowed without a board is allowed with one
allowed_on : (B : Type 0) (P : Place → Type 0) (h : Halt) → Allows P h → AllowsOn B P h
allowed_on B P (halts.Stopped place) a = a
allowed_on B P (halts.Refused fault) a = a
allowed_on B P halts.CountFull a = tt
allowed_on B P halts.BoardFull a = absurd a
allowed_on B P halts.Memory a = tt
allowed_on B P halts.Lost a = tt

some_on : (B : Type 0) (P : Place → Type 0) (o : Option Halt) → IfSome o (Allows P) → IfSome o (AllowsOn B P)
some_on B P None a = tt
some_on B P (Some h) a = allowed_on B P h a

pub merged_halt : (B : Type 0) (P : Place → Type 0) (o : Option PoolFault) (a b c : Option Halt) → IfSome o (IsOneFault a b c) → IfSome a (Allows P) → IfSome b (Allows P) → IfSome c (AllowsOn B P) → IfSome o (IsHaltOn B P)
merged_halt B P None a b c told ia ib ic = tt
merged_halt B P (Some fault) a b c told ia ib ic =
    subst (IsHaltOn B P) (sym told.1) (allowed_halt B P told.0
    (elim told.2 [
      | inl e ↦ subst (λ (x : Option Halt). IfSome x (AllowsOn B P)) e (some_on B P a ia)
      | inr r ↦ elim r [
        | inl e ↦ subst (λ (x : Option Halt). IfSome x (AllowsOn B P)) e (some_on B P b ib)
        | inr e ↦ subst (λ (x : Option Halt). IfSome x (AllowsOn B P)) e ic
      ]
    ]))

-- a property of two halts holds for the reported one
pub one_of : (P : Halt → Type 0) (o a b : Option Halt) → P halts.CountFull → IfSome o (IsOneOf a b) → IfSome a P → IfSome b P → IfSome o P
one_of P None a b full told ia ib = tt
one_of P (Some h) a b full told ia ib =
    ⊎_elim (λ (e : a ≡ Some h). subst (λ (x : Option Halt). IfSome x P) e ia)
    (λ (r : (b ≡ Some h) ⊎ (h ≡ halts.CountFull)). ⊎_elim (λ (e : b ≡ Some h). subst (λ (x : Option Halt). IfSome x P) e ib) (λ (e : h ≡ halts.CountFull). subst P (sym e) full) r)
    told
