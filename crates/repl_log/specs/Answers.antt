-- Defines the possible results of a call that may run out of memory.
use Rattle.std.specs.Prelude.{◌≡◌, ℕ, List, Vec, Result, Ok, Err, IsOk}
use Rattle.std.specs.declared.alloc.Global.{Global}
use Rattle.repl_log.specs.declared.fault.LogFault.{LogFault}
use Rattle.repl_log.specs.declared.fault.LogFault.TheVariants as faults

-- A call's result is the expected result, or the result is `Memory` and the expected result is `Ok`.
abbrev pub GivesUnlessMemory : {A : Type 0} → Result A LogFault → Result A LogFault → Type 0
GivesUnlessMemory (Err faults.Memory) expected = IsOk expected
GivesUnlessMemory result expected = result ≡ expected

-- The result of a call that returns bytes: the list of the bytes, or the error.
abbrev pub bytes_of : Result (Vec ℕ Global) LogFault → Result (List ℕ) LogFault
bytes_of (Ok bytes) = Ok bytes.items
bytes_of (Err fault) = Err fault
