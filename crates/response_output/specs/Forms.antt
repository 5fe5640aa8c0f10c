-- Defines the texts that the formatter writes before, between and after items, as specified in docs/PROFILE.md,
-- "CouchDB's answers" and "Lines of documents".
use Rattle.std.specs.Prelude.{ℕ, List, [], Bool, true, false, codes}
use Rattle.response_output.specs.declared.forms.Form.{Form}
use Rattle.response_output.specs.declared.forms.Form.TheVariants.{Loads, Asked, Diffs, Docs, Bodies}

-- The text with which a request body begins, depending on the output format.
abbrev pub opening : Form → List ℕ
opening Loads = []
opening Asked = codes "{\"docs\":["
opening Diffs = codes "{"
opening Docs = []
opening Bodies = codes "{\"new_edits\":false,\"docs\":["

-- The text between two items of a request body.
abbrev pub separator : Form → List ℕ
separator Loads = []
separator Asked = codes ","
separator Diffs = codes "],"
separator Docs = []
separator Bodies = codes ","

-- The text after each item of a request body.
abbrev pub ends : Form → List ℕ
ends Loads = codes "}\n"
ends Asked = codes "}"
ends Diffs = []
ends Docs = codes "}\n"
ends Bodies = []

-- The text with which a request body ends, depending on the output format.
abbrev pub closing : Form → List ℕ
closing Loads = []
closing Asked = codes "]}\n"
closing Diffs = codes "]}\n"
closing Docs = []
closing Bodies = codes "]}\n"

-- The request body that is written if there are no items to write.
abbrev pub empty : Form → List ℕ
empty Loads = []
empty Asked = codes "{\"docs\":[]}\n"
empty Diffs = codes "{}\n"
empty Docs = []
empty Bodies = []

-- The text between a document id and its revision in a request body.
abbrev pub before_rev : Form → List ℕ
before_rev Loads = codes ",\"rev\":"
before_rev Asked = codes ",\"rev\":"
before_rev Diffs = codes ":["
before_rev Docs = codes ",\"rev\":"
before_rev Bodies = codes ",\"rev\":"

-- Whether a request body in the output format groups all revisions of a document in one list. If a format has these
-- lists, the formatter closes a full request body only before the next document, never within a list.
abbrev pub has_lists : Form → Bool
has_lists Loads = false
has_lists Asked = false
has_lists Diffs = true
has_lists Docs = false
has_lists Bodies = false
