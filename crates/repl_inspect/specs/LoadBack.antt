-- Defines what an empty database contains after documents are loaded into it, as specified in docs/PROFILE.md, "Local
-- writes", "Fetching" and "Merging".
use Rattle.std.specs.Prelude.{◌+◌, ◌≤◌, List, [], ◌∷◌, length}
use Rattle.std.specs.List.{flat_map}
use Rattle.std.specs.Result.{IsOk}
use Rattle.doc_json.specs.Document.{Document}
use Rattle.doc_json.specs.Chosen.{Choice}
use Rattle.couch_base.specs.Database.{DatabaseValue, most}
use Rattle.couch_base.specs.Feed.{chosen_feed}
use Rattle.couch_base.specs.Put.{put_answer}
use Rattle.repl_peer.specs.peer.Peer.{PeerValue}
use Rattle.repl_peer.specs.peer.Writing.{after_load}
use Rattle.repl_target.specs.replication.Replication.{IsEmpty, SameDocuments}
use Rattle.repl_inspect.specs.Documents.{documents_at}

-- The leaves of all documents in a database's selected feed, each as a document with the leaf's ancestors and content.
-- The list follows the feed's order, and the leaves of one document are in winning order (winner first).
abbrev pub all_documents : Choice → DatabaseValue → List Document
all_documents chosen db = flat_map (λ r. documents_at db r.id) (chosen_feed chosen db 0 db.update_seq)

-- The state of peer p after the documents of a list were loaded in order.
abbrev pub after_loads : PeerValue → List Document → PeerValue
after_loads p [] = p
after_loads p (d ∷ ds) = after_loads (after_load p d) ds

-- All documents of a list are accepted when they are loaded in order.
abbrev pub AllTaken : PeerValue → List Document → Type 0
AllTaken p [] = Unit {0}
AllTaken p (d ∷ ds) = IsOk (put_answer p.db d) × AllTaken (after_load p d) ds

-- An empty peer with enough free sequences accepts the leaves of all selected documents, loaded in order. After an
-- empty peer has loaded all selected documents, each selected document has the same revisions, parents, leaf contents
-- and winner as in the database `db`.
abbrev pub LoadBack : DatabaseValue → Type 0
LoadBack db =
    (chosen : Choice) (p : PeerValue) → IsEmpty p → p.db.update_seq + length (all_documents chosen db) ≤ most
    → AllTaken p (all_documents chosen db) × SameDocuments chosen db (after_loads p (all_documents chosen db)).db
