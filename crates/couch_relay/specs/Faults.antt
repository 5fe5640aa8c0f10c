-- Defines what the error of a run of `couch_relay` says about the run's reader and writer.
use Rattle.std.specs.Prelude.{◌≡◌, ◌≤◌, ◌⊎◌, ℕ, Result, Ok, Err}
use Rattle.script_engine.specs.Device.{FailsOnce, full}
use Rattle.script_engine.specs.declared.fault.ScriptFault.{ScriptFault}
use Rattle.script_engine.specs.declared.fault.ScriptFault.TheVariants.{Read, Write, Memory, Cut}

-- The reader failed, or has been called 2^64 - 1 times. The reader's failure counts before and after a call are `old`
-- and `new`. After the call, the reader's count of calls is `reads`.
abbrev pub StopsReading : ℕ → ℕ → ℕ → Type 0
StopsReading reads old new = FailsOnce old new ⊎ ((full ≤ reads) × (new ≡ old))

-- The error of a call that only reads. The numeric arguments are those of `StopsReading`.
abbrev pub IsReadFault : ScriptFault → ℕ → ℕ → ℕ → Type 0
IsReadFault Read reads old new = StopsReading reads old new
IsReadFault Write reads old new = ⊥
IsReadFault Memory reads old new = new ≡ old
IsReadFault Cut reads old new = ⊥

-- The error of a call that only writes. The writer's failure counts before and after the call are `old` and `new`.
abbrev pub IsWriteFault : ScriptFault → ℕ → ℕ → Type 0
IsWriteFault Read old new = ⊥
IsWriteFault Write old new = FailsOnce old new
IsWriteFault Memory old new = new ≡ old
IsWriteFault Cut old new = ⊥

-- The error of a run that has written `size` bytes. The reader's failure counts before and after the run are `reader`
-- and `reader'`, and the writer's failure counts are `writer` and `writer'`. After the run, the reader's count of calls
-- is `reads`. A run ends with the error `Read` if the reader failed, if the reader has been called 2^64 - 1 times, or
-- after 2^64 - 1 requests. A request has at least one byte.
abbrev pub IsRunFault : ScriptFault → ℕ → ℕ → ℕ → ℕ → ℕ → ℕ → Type 0
IsRunFault Read reads reader reader' writer writer' size =
    (StopsReading reads reader reader' ⊎ ((full ≤ size) × (reader' ≡ reader))) × (writer' ≡ writer)
IsRunFault Write reads reader reader' writer writer' size = (reader' ≡ reader) × FailsOnce writer writer'
IsRunFault Memory reads reader reader' writer writer' size = (reader' ≡ reader) × (writer' ≡ writer)
IsRunFault Cut reads reader reader' writer writer' size = ⊥

-- How a call that only reads changes the reader's failure count. A successful call leaves the count unchanged. The
-- numeric arguments are those of `StopsReading`.
abbrev pub ReadCounts : {T : Type 0} → Result T ScriptFault → ℕ → ℕ → ℕ → Type 0
ReadCounts (Ok x) reads old new = new ≡ old
ReadCounts (Err fault) reads old new = IsReadFault fault reads old new

-- How a call that only writes changes the writer's failure count from `old` to `new`. A successful call leaves the
-- count unchanged.
abbrev pub WriteCounts : {T : Type 0} → Result T ScriptFault → ℕ → ℕ → Type 0
WriteCounts (Ok x) old new = new ≡ old
WriteCounts (Err fault) old new = IsWriteFault fault old new

-- How a run changes the failure counts of its reader and writer. A successful run leaves both counts unchanged. The
-- numeric arguments are those of `IsRunFault`.
abbrev pub RunCounts : {T : Type 0} → Result T ScriptFault → ℕ → ℕ → ℕ → ℕ → ℕ → ℕ → Type 0
RunCounts (Ok x) reads reader reader' writer writer' size = (reader' ≡ reader) × (writer' ≡ writer)
RunCounts (Err fault) reads reader reader' writer writer' size = IsRunFault fault reads reader reader' writer writer' size
