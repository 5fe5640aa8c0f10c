-- Defines the results of a call that may run out of memory.
use Rattle.std.specs.Prelude.{◌≡◌, Result, Err, IsOk}
use Rattle.rev_core.specs.declared.fault.RevFault.{RevFault}
use Rattle.rev_core.specs.declared.fault.RevFault.TheVariants as faults

-- A call returns the expected result, or returns `Memory` although the expected result is `Ok`.
abbrev pub GivesUnlessMemory : {A : Type 0} → Result A RevFault → Result A RevFault → Type 0
GivesUnlessMemory (Err faults.Memory) expected = IsOk expected
GivesUnlessMemory result expected = result ≡ expected
