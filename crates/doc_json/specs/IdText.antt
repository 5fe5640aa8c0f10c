-- Defines the text of a document id, which is stored inline or on the heap.
use Rattle.std.specs.Prelude.{ℕ, List, string_bytes}
use Rattle.doc_json.specs.declared.doc_id.IdText.{IdText}
use Rattle.doc_json.specs.declared.doc_id.IdText.TheVariants.{Inline, Allocated}

abbrev pub text_of : IdText → List ℕ
text_of (Inline text) = text
text_of (Allocated text) = string_bytes text
