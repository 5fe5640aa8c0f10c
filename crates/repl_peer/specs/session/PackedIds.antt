-- Defines how a list of document ids is stored: the bytes of all ids consecutively, and the index at which each
-- id ends.
use Rattle.std.specs.Prelude.{ℕ, ◌+◌, ◌≤◌, List, [], ◌∷◌, length}
use Rattle.std.specs.List.{slice_range}
use Rattle.couch_base.specs.Database.{Id}

-- The indexes at which the ids end, if the ids are stored consecutively and the first id begins at index `start`.
abbrev pub ends_from : ℕ → List Id → List ℕ
ends_from start [] = []
ends_from start (id ∷ ids) = (start + length id) ∷ ends_from (start + length id) ids

-- The ids that a text stores consecutively. The first id begins at index `start`, and each id ends at the
-- index in `ends`.
abbrev pub ids_from : ℕ → List ℕ → List ℕ → List Id
ids_from start [] text = []
ids_from start (end ∷ ends) text = slice_range text start end ∷ ids_from end ends text

-- The indexes `ends` rise or stay equal from index `start` on, and are at most the length of the text, `len`.
abbrev pub AreEnds : ℕ → List ℕ → ℕ → Type 0
AreEnds start [] len = start ≤ len
AreEnds start (end ∷ ends) len = (start ≤ end) × AreEnds end ends len
