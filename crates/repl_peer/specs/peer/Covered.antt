-- Defines when a peer covers a revision, as specified in docs/PROFILE.md, "Covered leaves".
use Rattle.std.specs.Prelude.{◌≡◌, ℕ, ◌≤◌, Bool, true, not, ◌&&◌, ◌||◌, List, [], ◌∷◌, Option, Some, None, is_some, if◌then◌else◌}
use Rattle.std.specs.List.{find, list_any, list_all}
use Rattle.std.specs.Option.{option_map, option_or}
use Rattle.std.specs.Str.{bytes_eq}
use Rattle.rev_core.specs.Rev.{RevId}
use Rattle.rev_core.specs.Ancestry.{edges_of, is_among}
use Rattle.rev_tree.specs.Tree.{has, first_contradiction}
use Rattle.rev_tree.specs.declared.fault.Contradiction.{Contradiction}
use Rattle.doc_json.specs.Document.{Document}
use Rattle.couch_base.specs.Lists.{Among}
use Rattle.couch_base.specs.Database.{Id, DatabaseValue, tree_of}
use Rattle.couch_base.specs.Feed.{RowValue, WindowValue}
use Rattle.repl_peer.specs.peer.Peer.{PeerValue, SessionValue, RefusedValue}
use Rattle.repl_peer.specs.declared.fault.Reason.{Reason}
use Rattle.repl_peer.specs.declared.fault.Reason.TheVariants as reasons

-- The contradiction between a document's ancestry and the document's tree in the database, if there is one.
abbrev pub contradiction_of : DatabaseValue → Document → Option Contradiction
contradiction_of db d = first_contradiction (tree_of db.docs d.id).parents (edges_of d.ancestry)

-- The reason why a peer refuses a document, or `None` if the peer accepts the document. A peer applies its filter to a
-- document before it compares the document with the document's tree.
abbrev pub refusal_of : (Document → Bool) → DatabaseValue → Document → Option Reason
refusal_of refuses db d =
    if refuses d then Some reasons.Filtered
    else option_map (λ c. reasons.Contradicting c.child c.known c.given) (contradiction_of db d)

-- Whether a document is rightly refused: the filter refuses the document, or the document's ancestry contradicts the
-- document's tree in the database.
abbrev pub rightly_refused : (Document → Bool) → DatabaseValue → Document → Bool
rightly_refused refuses db d = refuses d || is_some (contradiction_of db d)

-- Whether a ledger has document `id` with an ancestry that includes revision r.
abbrev pub in_ledger : List RefusedValue → Id → RevId → Bool
in_ledger ledger id r = list_any (λ x. bytes_eq x.doc.id id && is_among r x.doc.ancestry) ledger

-- Whether peer p covers revision r of document `id`: r is in the document's tree, or in the ancestry of a document in a
-- ledger.
abbrev pub covers : PeerValue → Id → RevId → Bool
covers p id r = has (tree_of p.db.docs id) r || list_any (λ s. in_ledger s.ledger id r) p.sessions

-- Whether each leaf of a feed row satisfies the test `known` (a function of a document id and a revision).
abbrev pub knows_row : (Id → RevId → Bool) → RowValue → Bool
knows_row known row = list_all (known row.id) row.leaves

-- Whether peer p covers each leaf of window w.
abbrev pub covers_window : PeerValue → WindowValue → Bool
covers_window p w = list_all (knows_row (covers p)) w.rows

abbrev pub CoversWindow : PeerValue → WindowValue → Type 0
CoversWindow p w =
    (row : RowValue) → Among row w.rows → (leaf : RevId) → Among leaf row.leaves → covers p row.id leaf ≡ true

-- A leaf that a feed row lists: the sequence and the document id of the row, and the leaf's revision.
pub record Leaf : Type 0 where
  pub seq : ℕ
  pub id : Id
  pub rev : RevId

-- The first leaf of a feed row for which the test `known`, a function of a document id and a revision, is false.
abbrev pub unknown_in : (Id → RevId → Bool) → RowValue → Option Leaf
unknown_in known row =
    option_map (λ rev. record { seq = row.seq; id = row.id; rev = rev })
    (find (λ rev. not (known row.id rev)) row.leaves)

abbrev pub first_unknown : (Id → RevId → Bool) → List RowValue → Option Leaf
first_unknown known [] = None
first_unknown known (row ∷ rows) = option_or (unknown_in known row) (first_unknown known rows)

-- The first leaf that peer p does not cover, in the order of the given feed rows. A leaf is covered exactly if it is in
-- p's tree of the document, or in an ancestry of the document in p's ledgers.
abbrev pub first_uncovered : PeerValue → List RowValue → Option Leaf
first_uncovered p rows = first_unknown (covers p) rows

-- Peer p covers each leaf in the windows of session s if the sequence of the leaf's row is at most n.
abbrev pub Honest : PeerValue → SessionValue → ℕ → Type 0
Honest p s n =
    (w : WindowValue) → Among w s.windows → (row : RowValue) → Among row w.rows → row.seq ≤ n → (leaf : RevId)
    → Among leaf row.leaves → covers p row.id leaf ≡ true
