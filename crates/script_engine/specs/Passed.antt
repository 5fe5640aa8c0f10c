-- Defines the bytes that have passed through a stream, according to the stream's history.
use Rattle.std.specs.Prelude.{ℕ, List, [], ◌++◌}
use Rattle.script_engine.specs.declared.passed.Pass.{Pass}
use Rattle.script_engine.specs.declared.passed.Pass.TheVariants as pass

-- All bytes that came through a stream, up to a given step of the stream's history. The step `Nothing` is the
-- beginning, without bytes, and each step `More` appends its bytes to the bytes of the earlier steps.
abbrev pub passed_bytes : Pass → List ℕ
passed_bytes pass.Nothing = []
passed_bytes (pass.More before bytes) = before.now.bytes ++ bytes.now
