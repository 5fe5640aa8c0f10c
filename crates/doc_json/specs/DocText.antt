-- Defines the serialized form of a document, as specified in docs/PROFILE.md, "What `write_doc` writes".
use Rattle.std.specs.Prelude.{ℕ, Bool, List, [], ◌∷◌, ◌++◌, map, drop, codes, decimal, if◌then◌else◌}
use Rattle.std.specs.List.{join_with_byte}
use Rattle.std.specs.Str.{bytes_eq}
use Rattle.serde_json.specs.Data.{string}
use Rattle.serde_json.specs.Written.{compact_text}
use Rattle.rev_core.specs.Rev.{RevId}
use Rattle.rev_core.specs.Text.{rev_text}
use Rattle.doc_json.specs.Document.{Document}

-- The text of the newest revision of an ancestry.
abbrev pub head_text : List RevId → List ℕ
head_text [] = []
head_text (r ∷ rest) = rev_text r

-- The generation of the newest revision of an ancestry, as a decimal number.
abbrev pub start_text : List RevId → List ℕ
start_text [] = []
start_text (r ∷ rest) = decimal r.generation

-- A revision's signature in quotation marks.
abbrev pub sig_text : RevId → List ℕ
sig_text r = 34 ∷ (r.sig ++ 34 ∷ [])

-- The signatures of the revisions `revs`, each signature in quotation marks, with a comma between two signatures.
abbrev pub sig_texts : List RevId → List ℕ
sig_texts revs = join_with_byte 44 (map sig_text revs)

abbrev pub deleted_text : Bool → List ℕ
deleted_text deleted = if deleted then codes ",\"_deleted\":true" else []

-- The text of a body's members, each after a comma, and the closing brace of the document.
abbrev pub rest_text : List ℕ → List ℕ
rest_text body = if bytes_eq body (codes "{}") then codes "}" else 44 ∷ drop 1 body

-- The members `_rev` and `_revisions` of a document, each after a comma.
unfoldable pub revs_text : List RevId → List ℕ
revs_text revs =
    codes ",\"_rev\":\"" ++ head_text revs ++ codes "\",\"_revisions\":{\"start\":" ++ start_text revs
    ++ codes ",\"ids\":[" ++ sig_texts revs ++ codes "]}"

unfoldable pub doc_text : Document → List ℕ
doc_text d =
    codes "{\"_id\":" ++ compact_text (string d.id) ++ revs_text d.ancestry ++ deleted_text d.deleted
    ++ rest_text d.body
