-- The new content of a buffer, `new`, begins with the buffer's old content, `old`.
use Rattle.std.specs.Prelude.{◌≡◌, ℕ, List, ◌++◌}

pub record Keeps (old new : List ℕ) : Type 0 where
  pub more : List ℕ
  pub is : new ≡ old ++ more
