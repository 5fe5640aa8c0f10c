-- Defines the list of a peer's local writes after a put or an edit.
use Rattle.std.specs.Prelude.{ℕ, Bool, List, [], ◌∷◌, ◌++◌, Option, Some, None, Result, Ok, Err, if◌then◌else◌}
use Rattle.rev_core.specs.Rev.{RevId}
use Rattle.rev_tree.specs.InOrder.{first_of}
use Rattle.rev_tree.specs.Tree.{TreeValue, leaves}
use Rattle.doc_json.specs.Document.{Document}
use Rattle.couch_base.specs.Database.{Id, DatabaseValue}
use Rattle.couch_base.specs.Put.{put_answer, is_changed}
use Rattle.couch_base.specs.Edit.{edited, edit_document}
use Rattle.couch_base.specs.declared.fault.BaseFault.{BaseFault}
use Rattle.repl_peer.specs.peer.Peer.{WrittenValue, written_of}

-- The list of a peer's local writes, updated for a put of document d. If storing document d changes the database, the
-- local write of d is appended to the list of local writes.
abbrev pub with_load : DatabaseValue → List WrittenValue → Document → List WrittenValue
with_load db locals d = if is_changed (put_answer db d) then locals ++ written_of d ∷ [] else locals

abbrev pub with_edited : DatabaseValue → List WrittenValue → Id → Bool → List ℕ
    → Result (RevId × Option RevId) BaseFault → List WrittenValue
with_edited db locals id deleted body (Ok e) = with_load db locals (edit_document id e deleted body)
with_edited db locals id deleted body (Err fault) = locals

-- The list of a peer's local writes, updated for an edit of a document. If the edit changes the database, the write of
-- the edited document is appended to the list of local writes.
abbrev pub with_edit : DatabaseValue → List WrittenValue → Id → Option RevId → Bool → List ℕ → List WrittenValue
with_edit db locals id parent deleted body = with_edited db locals id deleted body (edited db id parent deleted body)

-- The parent of an accepted edit: the parent that the edit names, or else the winner of the document, if the document
-- exists.
abbrev pub stood_on : Option TreeValue → Option RevId → Option RevId
stood_on tree (Some parent) = Some parent
stood_on None None = None
stood_on (Some t) None = first_of (leaves t)
