-- Defines the data that a journal task reads from a document: the id, the known ancestry, and whether the document is
-- deleted.
use Rattle.std.specs.Prelude.{ℕ, Bool, false, ◌||◌, ◌-◌, List, [], ◌∷◌, ◌++◌, Option, None, Some, option_map, option_and_then, unwrap_or, bytes_eq, codes, decimal, String, string_bytes, Vec}
use Rattle.std.specs.Global.{Global}
use Rattle.json.specs.Json.{Json, document}
use Rattle.json.specs.Find.{get, as_bool}
use Rattle.journal_lines.specs.Texts.{text_in}
use Rattle.journal_lines.specs.Members.{both, items_at, number_at, text_at}
use Rattle.journal_lines.specs.Lists.{revs_json, texts_of}
use Rattle.journal_lines.specs.declared.leaf.Leaf.{Leaf}

-- A revision with its known ancestry: the revision id, the generation of the newest revision of the ancestry, and the
-- signatures of the ancestry, newest first.
abbrev pub LeafView : Type 0
LeafView = List ℕ × ℕ × List (List ℕ)

abbrev pub leaf_view : Leaf → LeafView
leaf_view leaf = (string_bytes leaf.rev, leaf.start, texts_of leaf.names.items)

-- The revision id with the given generation and signature.
abbrev pub rev_at : ℕ → List ℕ → List ℕ
rev_at generation name = decimal generation ++ codes "-" ++ name

-- Whether the revision id `rev` is in the ancestry with the newest generation `start` and the listed signatures, newest
-- first. In the list, each signature's generation is one below the previous signature's generation.
abbrev pub knows_at : List ℕ → ℕ → List (List ℕ) → Bool
knows_at rev start [] = false
knows_at rev start (name ∷ names) = bytes_eq rev (rev_at start name) || knows_at rev (start - 1) names

-- Whether a revision is the given leaf or one of the leaf's ancestors.
abbrev pub knows_rev : LeafView → List ℕ → Bool
knows_rev leaf rev = bytes_eq rev leaf.0 || knows_at rev leaf.1 leaf.2

-- The head of a document: the document's id, its revision with the ancestry, and whether the document is deleted.
abbrev pub HeadView : Type 0
HeadView = List ℕ × LeafView × Bool

abbrev pub head_view : Leaf → HeadView
head_view leaf = (string_bytes leaf.id, leaf_view leaf, leaf.deleted)

-- The value of a stored ancestry in contracts: the newest generation and the signatures.
abbrev pub ancestry_view : ℕ × Vec (String Global) Global → ℕ × List (List ℕ)
ancestry_view p = (p.0, texts_of p.1.items)

-- The newest generation (`start`) and the signatures (`ids`) in a document's member `_revisions`, if the member has
-- both.
abbrev pub ancestry_in : Json → Option (ℕ × List (List ℕ))
ancestry_in revisions = both (number_at (codes "start") revisions) (option_and_then revs_json (items_at (codes "ids") revisions))

-- The newest generation and the signatures in a document's member `_revisions`, or 0 and no signatures if the document
-- has no such member.
abbrev pub ancestry_by : Option Json → Option (ℕ × List (List ℕ))
ancestry_by None = Some (0, [])
ancestry_by (Some revisions) = ancestry_in revisions

-- Whether the member `_deleted` of a document is `true`.
abbrev pub is_deleted : Json → Bool
is_deleted doc = unwrap_or (option_and_then as_bool (get (codes "_deleted") doc)) false

abbrev pub head_by : Bool → List ℕ × (List ℕ × (ℕ × List (List ℕ))) → HeadView
head_by deleted p = (p.0, (p.1.0, p.1.1.0, p.1.1.1), deleted)

-- The id, ancestry and deleted flag of a document, from its members `_id`, `_rev`, `_revisions` and `_deleted`.
abbrev pub head_in : Json → Option HeadView
head_in doc = option_map (head_by (is_deleted doc))
    (both (text_at (codes "_id") doc) (both (text_at (codes "_rev") doc) (ancestry_by (get (codes "_revisions") doc))))

-- The id, ancestry and deleted flag of the document in a journal line. The line must be a JSON object, and the document
-- is the object's member `doc`.
abbrev pub line_head : List ℕ → Option HeadView
line_head line = option_and_then (λ j. option_and_then head_in (get (codes "doc") j)) (option_and_then document (text_in line))
