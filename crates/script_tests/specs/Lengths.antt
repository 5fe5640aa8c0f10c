-- Defines a test server that accepts lines of at most 40 bytes, and prints for each accepted line the length of the
-- previously accepted line.
use Rattle.std.specs.Prelude.{◌≡◌, ◌<◌, ◌≤◌, ◌⊎◌, ◌++◌, ℕ, List, length, codes, decimal, Ok, Err}
use Rattle.script_engine.specs.Serving.{Told}

-- The test server returns `told` when it handles the line `line`. When the server handles `line`, the length of the
-- last accepted line changes from `before` to `after`. A line of more than 40 bytes fails with `Long`.
abbrev pub TellsLength : ℕ → List ℕ → Told → ℕ → Type 0
TellsLength before line told after = (40 < length line) × (told ≡ Err (codes "Long")) × (after ≡ before)
    ⊎ (length line ≤ 40) × (told ≡ Ok (decimal before ++ codes "\n")) × (after ≡ length line)
