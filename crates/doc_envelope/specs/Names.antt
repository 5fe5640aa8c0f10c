-- Defines the name, with its quotation marks, and the value of any member of a JSON object.
use Rattle.std.specs.Prelude.{ℕ, ◌==◌, nat_eq, length, drop, take, List, [], ◌∷◌, Bool, cond, codes}
use Rattle.std.specs.List.{list_any, starts_with}
use Rattle.doc_envelope.specs.Members.{Outside, first_length, members_in}

-- A text without leading blanks.
abbrev pub trimmed : List ℕ → List ℕ
trimmed [] = []
trimmed (b ∷ t) = cond (b == 32) (trimmed t) (b ∷ t)

abbrev pub has_name : List ℕ → List ℕ → Bool
has_name member name = starts_with nat_eq (trimmed member) name

-- The text of a member's value, after the member's name and the colon.
abbrev pub value_of : List ℕ → List ℕ → List ℕ
value_of member name = trimmed (drop 1 (trimmed (drop (length name) (trimmed member))))

-- The text of the first member of an object.
abbrev pub first_member : List ℕ → List ℕ
first_member x = take (first_length (drop 1 x)) (drop 1 x)

abbrev pub id_of : List ℕ → List ℕ
id_of x = cond (has_name (first_member x) (codes "\"_id\"")) (value_of (first_member x) (codes "\"_id\"")) []

-- Whether an object has a member `_id`.
abbrev pub has_id : List ℕ → Bool
has_id x = list_any (λ m. has_name m (codes "\"_id\"")) (members_in Outside 0 [] (drop 1 x))

-- Whether the text of a JSON object is a replication log: the text begins with a member `_id` whose value begins with
-- `_local/`.
abbrev pub is_log : List ℕ → Bool
is_log x = starts_with nat_eq x (codes "{\"_id\":\"_local/")
