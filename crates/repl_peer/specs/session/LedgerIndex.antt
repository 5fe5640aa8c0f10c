-- Defines lookups in an index of revisions. The index has the revisions in the ancestries of refused documents.
use Rattle.std.specs.Prelude.{Bool, false, ◌||◌}
use Rattle.std.specs.Arc.{arc_value}
use Rattle.std.specs.Map.{lookup}
use Rattle.std.specs.Option.{option_map_or}
use Rattle.std.specs.Str.{bytes_eq}
use Rattle.rev_core.specs.Rev.{RevId}
use Rattle.rev_core.specs.Ancestry.{is_among}
use Rattle.doc_json.specs.Document.{Document}
use Rattle.couch_base.specs.Database.{Id}
use Rattle.repl_peer.specs.declared.session.ledger_index.LedgerIndex.{LedgerIndex}

-- Whether revision r is in the ancestry of the first document with the id `id` that was added to the index.
abbrev pub is_in_first : LedgerIndex → Id → RevId → Bool
is_in_first index id r =
    option_map_or (λ doc. is_among r (arc_value {X = Document} doc).ancestry) (lookup (bytes_eq id) index.first.entries) false

-- Whether revision r is in the ancestry of a document with the id `id` that was added to the index after the first such
-- document.
abbrev pub is_in_later : LedgerIndex → Id → RevId → Bool
is_in_later index id r = option_map_or (λ revs. is_among r revs.keys) (lookup (bytes_eq id) index.later.entries) false

-- Whether the index has revision r of document `id`.
abbrev pub is_ledgered : LedgerIndex → Id → RevId → Bool
is_ledgered index id r = is_in_first index id r || is_in_later index id r
