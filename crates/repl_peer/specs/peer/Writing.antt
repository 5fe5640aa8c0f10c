-- Defines local writes of a peer, as specified in docs/PROFILE.md, "Local writes".
use Rattle.std.specs.Prelude.{ℕ, Bool, List, [], ◌∷◌, ◌++◌, length, Option, Result, Ok, Err, if◌then◌else◌}
use Rattle.rev_core.specs.Rev.{RevId}
use Rattle.rev_tree.specs.declared.origin.Origin.{Origin}
use Rattle.rev_tree.specs.declared.origin.Origin.TheVariants.{Local}
use Rattle.doc_json.specs.Document.{Document}
use Rattle.couch_base.specs.Database.{Id}
use Rattle.couch_base.specs.Put.{put_answer, after_put, is_changed}
use Rattle.couch_base.specs.Edit.{edited, edit_document}
use Rattle.couch_base.specs.declared.fault.BaseFault.{BaseFault}
use Rattle.repl_peer.specs.peer.Peer.{PeerValue, written_of}

-- The origin that the revisions of peer p's next local write will have.
abbrev pub next_local : PeerValue → Origin
next_local p = Local (length p.locals)

-- Peer p after a user's put of document d. If a user's put changes the database, the put becomes the next local write.
abbrev pub after_load : PeerValue → Document → PeerValue
after_load p d = record p {
  db = after_put p.db d (next_local p);
  locals = if is_changed (put_answer p.db d) then p.locals ++ written_of d ∷ [] else p.locals;
}

-- Peer p after a user's edit. The edit stores a document whose ancestry is the new revision, followed by the parent if
-- the new revision has a parent. If the edit failed, peer p is unchanged.
abbrev pub load_edited : PeerValue → Id → Bool → List ℕ → Result (RevId × Option RevId) BaseFault → PeerValue
load_edited p id deleted body (Ok e) = after_load p (edit_document id e deleted body)
load_edited p id deleted body (Err fault) = p

abbrev pub after_edit : PeerValue → Id → Option RevId → Bool → List ℕ → PeerValue
after_edit p id parent deleted body = load_edited p id deleted body (edited p.db id parent deleted body)
