-- Defines the result of a call that may run out of memory.
use Rattle.std.specs.Prelude.{◌≡◌, ◌⊎◌, Result, Ok, Err, IsOk}
use Rattle.doc_json.specs.declared.fault.DocFault.{DocFault}
use Rattle.doc_json.specs.declared.fault.DocFault.TheVariants as faults

-- A call's result is the expected result, or the result is `Memory` and the expected result is `Ok`.
abbrev pub GivesUnlessMemory : {A : Type 0} → Result A DocFault → Result A DocFault → Type 0
GivesUnlessMemory (Ok x) expected = expected ≡ Ok x
GivesUnlessMemory (Err e) expected = (expected ≡ Err e) ⊎ ((e ≡ faults.Memory) × IsOk expected)
