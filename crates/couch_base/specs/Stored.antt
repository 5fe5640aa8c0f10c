-- Defines the stored form of a database: a table of documents by id, and an index of their positions by sequence. Each
-- change of a document appends a row to the index of the document's database. A row of a database's index is live if
-- the row's document has no later change. The changes feed consists of the index rows whose documents have no later
-- change.
use Rattle.std.specs.Prelude.{◌≡◌, ℕ, ◌+◌, ◌*◌, ◌/◌, ◌<◌, ◌≤◌, ◌==◌, nat_lt, nat_le, Bool, false, not, List, [], ◌∷◌, cond, if◌then◌else◌, map, filter, length, slice_get, unwrap_or, Option, Some, None, IfSome, refl}
use Rattle.std.specs.Coded.{Coded, code_by, coded×, coded_ℕ, coded_list}
use Rattle.std.specs.Option.{option_map, option_map_or}
use Rattle.std.specs.Ordering.{nat_cmp}
use Rattle.std.specs.BTreeMap.{is_at}
use Rattle.std.specs.Map.{keys_of, lookup}
use Rattle.std.specs.Str.{bytes_eq}
use Rattle.rev_tree.specs.Tree.{TreeValue, coded_tree, no_revisions}
use Rattle.couch_base.specs.Lists.{Among, Rises}
use Rattle.couch_base.specs.Database.{Id, coded_id, DocumentValue, DatabaseValue, IsDocumentTree, with_tree, most}
use Rattle.couch_base.specs.Feed.{RowValue, row_of}
use Rattle.couch_base.specs.declared.kept.Kept.{Kept}

-- The table of a database: its documents with their ids, the index rows of their changes, and the sequence of the
-- latest change.
pub record TableValue : Type 0 where
  pub entries : List (Id × Kept)
  pub rows : List (ℕ × ℕ)
  pub last : ℕ

abbrev pub coded_kept : Coded Kept
coded_kept =
    code_by (ℕ × TreeValue) (coded× coded_ℕ coded_tree)
    (λ k. (k.seq, k.tree)) (λ p. record { seq = p.0; tree = p.1 }) (λ _. refl)

abbrev pub coded_table : Coded TableValue
coded_table =
    code_by (List (Id × Kept) × (List (ℕ × ℕ) × ℕ))
    (coded× (coded_list (coded× coded_id coded_kept)) (coded× (coded_list (coded× coded_ℕ coded_ℕ)) coded_ℕ))
    (λ t. (t.entries, (t.rows, t.last))) (λ p. record { entries = p.0; rows = p.1.0; last = p.1.1 }) (λ _. refl)

-- The id at index i of a list, or the empty id if the list has at most i ids.
abbrev pub id_at : List Id → ℕ → Id
id_at ids i = unwrap_or (slice_get ids i) []

-- The rows of an index with the ids of documents instead of the documents' positions.
abbrev pub named : List Id → List (ℕ × ℕ) → List (ℕ × Id)
named ids index = map (λ e. (e.0, id_at ids e.1)) index

-- Whether an index row is live: the latest change of the document at the row's position has the row's sequence.
abbrev pub is_live : List (Id × Kept) → ℕ × ℕ → Bool
is_live docs e = option_map_or (λ (d : Id × Kept). d.1.seq == e.0) (slice_get docs e.1) false

abbrev pub live : List (Id × Kept) → List (ℕ × ℕ) → List (ℕ × ℕ)
live docs rows = filter (is_live docs) rows

-- The changes feed of a database: each index row that has the latest change of a document. A row of the feed has the
-- document's id instead of the document's position.
abbrev pub feed_of : List (Id × Kept) → List (ℕ × ℕ) → List (ℕ × Id)
feed_of docs rows = named (keys_of docs) (live docs rows)

-- The rows of a database's index whose sequences are greater than the number a.
abbrev pub above : ℕ → List (ℕ × ℕ) → List (ℕ × ℕ)
above a rows = filter (λ e. nat_lt a e.0) rows

-- The rows of a database's index for the documents' latest changes, up to the sequence b.
abbrev pub live_upto : List (Id × Kept) → ℕ → List (ℕ × ℕ) → List (ℕ × ℕ)
live_upto docs b rows = filter (λ e. nat_le e.0 b) (live docs rows)

-- The rows that a database's index has after a change of a document. If an index of n documents has at most 2 n + 1
-- rows, the database keeps all rows. If an index of n documents has more than 2 n + 1 rows, the database keeps only the
-- rows of the documents' latest changes.
abbrev pub swept : List (Id × Kept) → List (ℕ × ℕ) → List (ℕ × ℕ)
swept docs rows = if nat_lt (length docs) (length rows / 2) then live docs rows else rows

-- Each document position in a database's index is below the number n of documents.
abbrev pub ArePlaces : ℕ → List (ℕ × ℕ) → Type 0
ArePlaces n index = (e : ℕ × ℕ) → Among e index → e.1 < n

-- The document id of the index entry with the sequence s, if the index has such an entry.
abbrev pub at_seq : ℕ → List (ℕ × Id) → Option Id
at_seq s index = lookup (is_at (nat_cmp s)) index

-- The stored document with the given id, if there is one.
abbrev pub found : List (Id × Kept) → Id → Option Kept
found docs id = lookup (bytes_eq id) docs

abbrev pub seq_of : Option Kept → Option ℕ
seq_of o = option_map (λ (k : Kept). k.seq) o

abbrev pub tree_at : Option Kept → TreeValue
tree_at o = option_map_or (λ (k : Kept). k.tree) o no_revisions

-- The document of an index entry. The index entry has the document's sequence and id.
abbrev pub document : (Id → Option Kept) → ℕ × Id → DocumentValue
document g e = record { id = e.1; seq = e.0; tree = tree_at (g e.1) }

abbrev pub documents : (Id → Option Kept) → List (ℕ × Id) → List DocumentValue
documents g index = map (document g) index

-- The documents of table t, in the order of their latest changes.
abbrev pub documents_of : TableValue → List DocumentValue
documents_of t = documents (found t.entries) (feed_of t.entries t.rows)

-- The database that is stored as table t.
abbrev pub database_of : ℕ → ℕ → TableValue → DatabaseValue
database_of uuid life t = record { uuid = uuid; life = life; update_seq = t.last; docs = documents_of t }

-- The feed row that belongs to an index entry with a sequence and a position.
abbrev pub row_by : List (Id × Kept) → ℕ × ℕ → RowValue
row_by docs e = row_of (document (found docs) (e.0, id_at (keys_of docs) e.1))

-- The feed row of a stored document.
abbrev pub row_of_kept : Id → Kept → RowValue
row_of_kept id k = row_of (record { id = id; seq = k.seq; tree = k.tree })

-- The feed rows of table t with sequences above a and at most b.
abbrev pub rows_within : TableValue → ℕ → ℕ → List RowValue
rows_within t a b = map (row_by t.entries) (live_upto t.entries b (above a t.rows))

-- The index of a table has exactly the documents of the table, each at the sequence of its latest change.
pub record IsTable (g : Id → Option Kept) (index : List (ℕ × Id)) (hi : ℕ) : Type 0 where
  pub rising : Rises 0 (map (λ e. e.0) index) hi
  pub within : hi ≤ most
  pub held : (e : ℕ × Id) → Among e index → seq_of (g e.1) ≡ Some e.0
  pub indexed : (id : Id) (k : Kept) → g id ≡ Some k → at_seq k.seq index ≡ Some id
  pub trees : (id : Id) (k : Kept) → g id ≡ Some k → IsDocumentTree k.tree

-- Each sequence in a database's index is less than the number s.
abbrev pub AllBelow : {X : Type 0} → ℕ → List (ℕ × X) → Type 0
AllBelow {X} s index = (e : ℕ × X) → Among e index → e.0 < s

-- The sequences in the index of a database rise.
abbrev pub InOrder : List (ℕ × ℕ) → Type 0
InOrder [] = Unit {0}
InOrder (e ∷ rows) = ((x : ℕ × ℕ) → Among x rows → e.0 < x.0) × InOrder rows

-- The rows of a database's index are valid. The position in each row is below the number n of documents. The sequences
-- of the rows rise, and are below the number s.
pub record AreRows (n s : ℕ) (rows : List (ℕ × ℕ)) : Type 0 where
  pub places : ArePlaces n rows
  pub below : AllBelow s rows
  pub order : InOrder rows

-- An index of n documents has at most 2 n + 1 rows.
abbrev pub AreFew : ℕ → List (ℕ × ℕ) → Type 0
AreFew n rows = length rows ≤ 2 * n + 1

-- The invariant of table t, which has a database's documents and the index of their changes.
pub record IsKept (t : TableValue) : Type 0 where
  pub table : IsTable (found t.entries) (feed_of t.entries t.rows) t.last
  pub rows : AreRows (length t.entries) (t.last + 1) t.rows
  pub few : AreFew (length t.entries) t.rows

-- `place` is the position of document `id` in the table, if the document exists.
pub record IsPlace (docs : List (Id × Kept)) (id : Id) (place : Option ℕ) : Type 0 where
  pub there : IfSome place (λ i. (k : Kept) × (slice_get docs i ≡ Some (id, k)) × (found docs id ≡ Some k))
  pub absent : place ≡ None → found docs id ≡ None

-- The map h from ids to documents equals the map g, except that h maps `id` to the document k.
abbrev pub Sets : (Id → Option Kept) → (Id → Option Kept) → Id → Kept → Type 0
Sets g h id k = (q : Id) → h q ≡ cond (bytes_eq id q) (Some k) (g q)

-- The entries of a feed, each with a sequence and an id, without the entries of document `id`.
abbrev pub feed_without : Id → List (ℕ × Id) → List (ℕ × Id)
feed_without id index = filter (λ e. not (bytes_eq e.1 id)) index

-- The table `new` of a database results from the table `old` by a change of one document's tree. The change of the
-- document takes the next sequence of the database.
pub record IsWritten (old new : TableValue) (id : Id) (tree : TreeValue) : Type 0 where
  pub kept : IsKept new
  pub value : (uuid life : ℕ) → database_of uuid life new ≡ with_tree (database_of uuid life old) id tree
