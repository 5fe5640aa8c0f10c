-- Defines a limit for counts of documents and revisions, as specified in docs/PROFILE.md, "Sequences".
use Rattle.std.specs.Prelude.{ℕ, min}
use Rattle.couch_base.specs.Database.{most}

-- A count of documents or revisions, or 2^53 - 1 (the greatest sequence) if the count is greater.
abbrev pub counted : ℕ → ℕ
counted n = min n most
