-- Defines the `_bulk_get` request for the leaves that a list names.
use Rattle.std.specs.Prelude.{◌≡◌, ℕ, Bool, true, false, if◌then◌else◌, List, [], ◌∷◌, ◌++◌, codes}
use Rattle.json.specs.Print.{quoted}
use Rattle.journal_tasks.specs.Counting.{IsCounting, wrong_line}
use Rattle.journal_tasks.specs.Lists.{is_wrong, leaves_in}
use Rattle.journal_tasks.specs.declared.ask.Ask.{Ask}

-- The JSON object that requests a leaf in the body of a `_bulk_get` request.
abbrev pub asked_leaf : List ℕ × List ℕ → List ℕ
asked_leaf leaf = codes "{\"id\":" ++ quoted leaf.0 ++ codes ",\"rev\":" ++ quoted leaf.1 ++ codes "}"

-- The items of a `_bulk_get` request for the given leaves. If the request already has items (`begun`), a comma precedes
-- the first given item. If not, `{"docs":[` precedes the first given item.
abbrev pub asked_items : Bool → List (List ℕ × List ℕ) → List ℕ
asked_items begun [] = []
asked_items begun (leaf ∷ leaves) =
    (if begun then codes "," else codes "{\"docs\":[") ++ asked_leaf leaf ++ asked_items true leaves

-- Whether a `_bulk_get` request has items, once an item for each leaf in the list `leaves` is added. The result is true
-- if the request had items before (`begun`), or if the list `leaves` is not empty.
abbrev pub has_begun : Bool → List (List ℕ × List ℕ) → Bool
has_begun begun [] = begun
has_begun begun (leaf ∷ leaves) = true

-- The body of a `_bulk_get` request for the given leaves. The body is empty if there are no leaves.
abbrev pub ask_body : List (List ℕ × List ℕ) → List ℕ
ask_body leaves = asked_items false leaves ++ (if has_begun false leaves then codes "]}\n" else [])

-- The task `ask` has read `lines`, the first lines of a list, and has appended a `_bulk_get` item for each leaf in
-- `lines`.
pub record IsAsking (lines : List (List ℕ)) (text : List ℕ) (ask : Ask) : Type 0 where
  pub counting : IsCounting is_wrong lines ask.count
  pub begun : ask.begun ≡ has_begun false (leaves_in lines)
  pub text_is : text ≡ asked_items false (leaves_in lines)

-- A task has read the complete list: the request has all leaves of the list, and the number of the first wrong line is
-- known.
pub record HasAsked (lines : List (List ℕ)) (rest text : List ℕ) (ask : Ask) : Type 0 where
  pub text_is : text ≡ ask_body (leaves_in lines)
  pub wrong : ask.count.wrong ≡ wrong_line is_wrong lines rest
