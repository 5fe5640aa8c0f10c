-- Defines the text that the formatter writes for the items that the parser found, as specified in docs/PROFILE.md,
-- "CouchDB's answers" and "Lines of documents".
use Rattle.std.specs.Prelude.{ℕ, ◌&&◌, ◌==◌, nat_lt, drop, List, [], ◌∷◌, ◌++◌, Bool, true, false, not, cond, codes}
use Rattle.doc_envelope.specs.Names.{id_of}
use Rattle.response_parser.specs.State.{more}
use Rattle.response_parser.specs.Reading.{Piece}
use Rattle.response_parser.specs.declared.place.Found.{Found}
use Rattle.response_parser.specs.declared.place.Found.TheVariants.{Nothing, Document, Id, Rev}
use Rattle.response_output.specs.Forms.{opening, separator, ends, closing, empty, before_rev, has_lists}
use Rattle.response_output.specs.declared.forms.Form.{Form}
use Rattle.response_output.specs.declared.forms.Form.TheVariants.{Loads, Asked, Diffs, Docs, Bodies}

-- The state of a formatter between two items.
pub record Words : Type 0 where
  pub form : Form
  -- The text that the formatter writes before each item.
  pub begins : List ℕ
  -- The id of the formatter's last document, and whether the formatter has written a revision of this document.
  pub id : List ℕ
  pub listed : Bool
  -- The number of items in the formatter's open request body.
  pub count : ℕ
  -- The maximum number of items per request body, or 0 for no limit.
  pub size : ℕ
  -- Whether the formatter has written any text.
  pub told : Bool

-- ---- one item

abbrev pub before : Words → List ℕ
before w = cond (w.count == 0) (opening w.form) (separator w.form) ++ w.begins

-- Whether the formatter's request body is full after one more item, so that the formatter closes the body.
abbrev pub is_full : Words → Bool
is_full w = not (has_lists w.form) && more w.count == w.size

abbrev pub behind : Words → List ℕ
behind w = ends w.form ++ cond (is_full w) (closing w.form) []

abbrev pub counted_up : Words → Words
counted_up w = record w { count = cond (is_full w) 0 (more w.count); told = true }

abbrev pub id_kept : Words → List ℕ → Words
id_kept w id = record w { id = id; listed = false }

-- The output for a document: the document's own text, with the formatter's texts before and after it.
abbrev pub document_text : Words → List ℕ → List ℕ
document_text w text = before w ++ (text ++ behind w)

-- The output for a part of a document: the bytes of `front` that are not yet written, and then the bytes `bytes`. The
-- first `told` bytes of `front` are already written. If `told` is 0, the output begins with the text that the formatter
-- writes before a document.
abbrev pub part_text : Words → List ℕ → ℕ → List ℕ → List ℕ
part_text w front told bytes = cond (told == 0) (before w) [] ++ (drop told front ++ bytes)

-- The text that is written for the rest of a document, if the first `told` bytes of the document's text were written
-- earlier.
abbrev pub rest_text : Words → List ℕ → ℕ → List ℕ
rest_text w text told = drop told text ++ behind w

abbrev pub with_document : Words → List ℕ → Words
with_document w text = counted_up (id_kept w (id_of text))

-- Whether the formatter must close the request body before the next document. The formatter must close a full body
-- before the next document if the body has lists of revisions (`has_lists`).
abbrev pub is_over : Words → Bool
is_over w = has_lists w.form && (nat_lt 0 w.count && w.count == w.size)

-- The text that closes the request body before the next document. The text is empty if the formatter need not close the
-- body (`is_over`).
abbrev pub over_text : Words → List ℕ
over_text w = cond (is_over w) (closing w.form) []

abbrev pub over : Words → Words
over w = record w { count = cond (is_over w) 0 w.count }

-- The text that is written for the first revision of a document, with the document's id.
abbrev pub first_rev_text : Words → List ℕ → List ℕ
first_rev_text w text =
    over_text w ++ (before (over w) ++ (w.id ++ (before_rev w.form ++ (text ++ behind (over w)))))

abbrev pub with_first_rev : Words → Words
with_first_rev w = record (counted_up (over w)) { listed = true }

-- Whether the formatter adds the next revision to a list that already has a revision of the document.
abbrev pub is_further : Words → Bool
is_further w = has_lists w.form && w.listed

abbrev pub rev_text : Words → List ℕ → List ℕ
rev_text w text = cond (is_further w) (44 ∷ text) (first_rev_text w text)

abbrev pub with_rev : Words → Words
with_rev w = cond (is_further w) w (with_first_rev w)

abbrev pub text_for : Words → Found → List ℕ → List ℕ
text_for w Nothing text = []
text_for w Document text = document_text w text
text_for w Id text = []
text_for w Rev text = rev_text w text

abbrev pub words_then : Words → Found → List ℕ → Words
words_then w Nothing text = w
words_then w Document text = with_document w text
words_then w Id text = id_kept w text
words_then w Rev text = with_rev w

-- ---- all items

-- The text that the formatter writes for the given items, in order.
abbrev pub texts : Words → List Piece → List ℕ
texts w [] = []
texts w (p ∷ more) = text_for w p.0 p.1 ++ texts (words_then w p.0 p.1) more

abbrev pub words_behind : Words → List Piece → Words
words_behind w [] = w
words_behind w (p ∷ more) = words_behind (words_then w p.0 p.1) more

-- The text that the formatter writes at the end of the output.
abbrev pub last_text : Words → List ℕ
last_text w = cond (nat_lt 0 w.count) (closing w.form) (cond w.told [] (empty w.form))

-- ---- new formatters

abbrev pub words_of : Form → List ℕ → ℕ → Words
words_of form begins size = record { form = form; begins = begins; id = []; listed = false; count = 0; size = size; told = false }

-- A new formatter of `load` lines for database `db`.
abbrev pub loads_of : List ℕ → Words
loads_of db = words_of Loads (codes "{\"do\":\"load\",\"db\":\"" ++ (db ++ codes "\",\"doc\":")) 0

-- The formatter of `_bulk_get` request bodies, each of which requests at most `size` leaves, or any number if `size` is
-- 0.
abbrev pub asked_of : ℕ → Words
asked_of size = words_of Asked (codes "{\"id\":") size

-- The formatter of `_revs_diff` request bodies with at most `size` documents each, or with any number if `size` is 0.
abbrev pub diffs_of : ℕ → Words
diffs_of size = words_of Diffs [] size

-- A new formatter of `doc` lines for database `db`.
abbrev pub docs_of : List ℕ → Words
docs_of db = words_of Docs (codes "{\"do\":\"doc\",\"db\":\"" ++ (db ++ codes "\",\"id\":")) 0

-- The formatter of `_bulk_docs` request bodies with at most `size` documents each, or with any number if `size` is 0.
abbrev pub bodies_of : ℕ → Words
bodies_of size = words_of Bodies [] size
