-- Defines the words of a line of a script's output, as specified in docs/PROFILE.md, "Answers".
use Rattle.std.specs.Prelude.{◌≡◌, ◌==◌, ◌<◌, ◌^◌, ℕ, List, [], ◌∷◌, ◌++◌, Bool, not, map, decimal}
use Rattle.std.specs.List.{AllByRecursion, list_all, slice_split}
use Rattle.rev_core.specs.Rev.{IsRev, RevId}
use Rattle.rev_core.specs.Text.{rev_text}

-- Whether byte b does not occur in the text.
abbrev pub lacks : ℕ → List ℕ → Bool
lacks b text = list_all (λ x. not (x == b)) text

-- The text `name`, then a blank, then the text `word`.
abbrev pub named : List ℕ → List ℕ → List ℕ
named name word = name ++ 32 ∷ word

-- The text is the decimal form of the number n, which has at most 64 bits.
abbrev pub IsNumber : List ℕ → ℕ → Type 0
IsNumber text n = (text ≡ decimal n) × (n < 2 ^ 64)

-- The text is a list of revisions with commas between them.
pub record IsRevs (text : List ℕ) (revs : List RevId) : Type 0 where
  pub listed : slice_split (λ b. b == 44) text ≡ map rev_text revs
  pub each : AllByRecursion IsRev revs

-- If the items of a list are removed from a text, in order, the text `rest` remains. A second list has the value of
-- each item, at the item's index. `Step t v after text` says that the text `after` remains if item t with the value v
-- is removed from `text`.
abbrev pub InTurn : {T V : Type 0} → (T → V → List ℕ → List ℕ → Type 0) → List T → List V → List ℕ → List ℕ → Type 0
InTurn Step [] [] rest text = text ≡ rest
InTurn Step [] (v ∷ vs) rest text = ⊥
InTurn Step (t ∷ ts) [] rest text = ⊥
InTurn Step (t ∷ ts) (v ∷ vs) rest text = (after : List ℕ) × Step t v after text × InTurn Step ts vs rest after
