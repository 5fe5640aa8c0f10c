-- Describes tables that store values by session, oldest first. Contracts describe a table by the list of its values,
-- newest first.
use Rattle.std.specs.Prelude.{◌≡◌, ◌==◌, Bool, List, map, reverse}
use Rattle.std.specs.List.{AllByRecursion}
use Rattle.rev_tree.specs.declared.origin.SessionId.{SessionId}

-- Whether two session ids are equal.
abbrev pub at_session : SessionId → SessionId → Bool
at_session s k = s.0 == k.0

-- The values of a table, newest first.
abbrev pub newest_first : {X V : Type 0} → (X → V) → List (SessionId × X) → List V
newest_first value es = reverse (map (λ e. value e.1) es)

-- A table stores each value under the value's session.
abbrev pub IsKeyed : {X : Type 0} → (X → SessionId) → List (SessionId × X) → Type 0
IsKeyed session es = AllByRecursion (λ e. session e.1 ≡ e.0) es
