-- Defines the result of a call that may run out of memory.
use Rattle.std.specs.Prelude.{◌≡◌, Result, Err, IsOk}
use Rattle.rev_core.specs.declared.fault.RevFault.{RevFault}
use Rattle.rev_core.specs.declared.fault.RevFault.TheVariants as revs
use Rattle.couch_base.specs.declared.fault.BaseFault.{BaseFault}
use Rattle.couch_base.specs.declared.fault.BaseFault.TheVariants as faults

-- A call's result is the expected result, or the result is `Memory` and the expected result is `Ok`.
abbrev pub GivesUnlessMemory : {A : Type 0} → Result A BaseFault → Result A BaseFault → Type 0
GivesUnlessMemory (Err faults.Memory) expected = IsOk expected
GivesUnlessMemory result expected = result ≡ expected

-- The error with which an edit fails if its new revision cannot be computed. The error is `Memory` if an allocation
-- failed, and `GenerationFull` otherwise.
abbrev pub edit_refusal : RevFault → BaseFault
edit_refusal revs.Memory = faults.Memory
edit_refusal refused = faults.GenerationFull
