-- Defines the documents of a list that are in conflict, and the output of the task `conflicts`. A document is in
-- conflict if it has two or more live leaves.
use Rattle.std.specs.Prelude.{◌≡◌, ℕ, ◌-◌, Bool, not, nat_eq, nat_le, if◌then◌else◌, is_none, List, [], ◌∷◌, ◌++◌, length, filter, flat_map, fold, map, Option, None, Some, bytes_eq, codes, decimal, String, string_bytes, Vec}
use Rattle.std.specs.Global.{Global}
use Rattle.std.specs.List.{list_any}
use Rattle.indexmap.specs.IndexMap.{IndexMap}
use Rattle.json.specs.Print.{quoted}
use Rattle.journal_lines.specs.Entries.{EntryView}
use Rattle.journal_lines.specs.Leafs.{HeadView, LeafView, head_view, rev_at}
use Rattle.journal_lines.specs.Texts.{rev_text}
use Rattle.journal_lines.specs.declared.leaf.Leaf.{Leaf}
use Rattle.journal_tasks.specs.Counting.{IsCounting, wrong_line}
use Rattle.journal_tasks.specs.Documents.{distinct}
use Rattle.journal_tasks.specs.Lists.{is_wrong}
use Rattle.journal_tasks.specs.Ranking.{leaves_among, ranked}
use Rattle.journal_tasks.specs.Receiving.{head_of, heads_in}
use Rattle.journal_tasks.specs.Stating.{put_at, value_at}
use Rattle.journal_tasks.specs.declared.conflicts.Conflicts.{Conflicts}

-- ---- the revisions of documents

-- A list of revisions of a document after adding a revision, or the unchanged list if the list already has this
-- revision.
abbrev pub add_head : List HeadView → HeadView → List HeadView
add_head heads head = if list_any (λ known. bytes_eq known.1.0 head.1.0) heads then heads else heads ++ head ∷ []

-- The revisions of the document `id` among the given heads, each once, with the ancestry and the deleted flag of the
-- revision's first head.
abbrev pub heads_of : List HeadView → List ℕ → List HeadView
heads_of heads id = fold add_head [] (filter (λ head. bytes_eq id head.0) heads)

-- Documents with the revisions that a list has of them, each with the document's id.
abbrev pub HistoriesView : Type 0
HistoriesView = List (List ℕ × List HeadView)

-- The documents of the given heads, in the order in which their ids first occur.
abbrev pub histories_of : List HeadView → HistoriesView
histories_of heads = map (λ id. (id, heads_of heads id)) (distinct (map (λ head. head.0) heads))

-- ---- the output

-- The revision ids of an ancestry with the newest generation `start` and the given signatures, newest first.
abbrev pub ancestry : ℕ → List (List ℕ) → List (List ℕ)
ancestry start [] = []
ancestry start (name ∷ names) = rev_at start name ∷ ancestry (start - 1) names

-- A revision, and the revisions of its ancestry.
abbrev pub revs_known : HeadView → List (List ℕ)
revs_known head = head.1.0 ∷ ancestry head.1.1 head.1.2

-- The number of distinct revision ids that a list has of a document, including the ids in ancestries.
abbrev pub known_count : List HeadView → ℕ
known_count heads = length (distinct (flat_map revs_known heads))

-- The given revisions, separated by commas.
abbrev pub comma_text : List (List ℕ) → List ℕ
comma_text [] = []
comma_text (rev ∷ revs) = rev_text rev ++ flat_map (λ later. codes "," ++ rev_text later) revs

-- The printed ancestry of a revision, or the revision id alone if the ancestry is not known.
abbrev pub ancestry_text : LeafView → List ℕ
ancestry_text leaf = if nat_eq (length leaf.2) 0 then rev_text leaf.0 else comma_text (ancestry leaf.1 leaf.2)

abbrev pub flag_text : Bool → List ℕ
flag_text deleted = if deleted then codes " deleted " else codes " live "

-- The line for a leaf: the revision id, whether the leaf is live or deleted, and the ancestry.
abbrev pub leaf_line : HeadView → List ℕ
leaf_line head = codes "leaf " ++ rev_text head.1.0 ++ flag_text head.2 ++ ancestry_text head.1 ++ codes "\n"

-- The revision id of the first leaf.
abbrev pub winner_text : List HeadView → List ℕ
winner_text [] = []
winner_text (head ∷ heads) = rev_text head.1.0

-- The line for the document `id` with the given leaves, winner first, and with `count` known revision ids.
abbrev pub doc_line : List ℕ → List HeadView → ℕ → List ℕ
doc_line id leaves count =
    codes "doc " ++ quoted id ++ codes " winner " ++ winner_text leaves ++ codes " leaves " ++ decimal (length leaves)
    ++ codes " revs " ++ decimal count ++ codes "\n"

-- Whether two or more of the given leaves are live.
abbrev pub has_two_live : List HeadView → Bool
has_two_live leaves = nat_le 2 (length (filter (λ head. not head.2) leaves))

-- The leaves of a document, highest rank first.
abbrev pub ranked_leaves : List HeadView → List HeadView
ranked_leaves heads = ranked (leaves_among heads)

-- Whether a document is in conflict.
abbrev pub is_in_conflict : List ℕ × List HeadView → Bool
is_in_conflict doc = has_two_live (ranked_leaves doc.1)

-- The lines for a document, if the document is in conflict: a line for the document, and a line for each leaf, highest
-- rank first.
abbrev pub conflict_text : List ℕ × List HeadView → List ℕ
conflict_text doc =
    let leaves = ranked_leaves doc.1 in
    if has_two_live leaves then doc_line doc.0 leaves (known_count doc.1) ++ flat_map leaf_line leaves else []

-- The lines for the documents in conflict, and a last line with their number.
abbrev pub conflicts_report : HistoriesView → List ℕ
conflicts_report docs = flat_map conflict_text docs ++ codes "conflicts " ++ decimal (length (filter is_in_conflict docs)) ++ codes "\n"

-- The output of the task `conflicts` for a complete list. If a line of the list is wrong, the output is empty.
abbrev pub conflicts_text : List (List ℕ) → List ℕ → List ℕ
conflicts_text lines rest = if is_none (wrong_line is_wrong lines rest) then conflicts_report (histories_of (heads_in lines)) else []

-- ---- what is stored

abbrev pub heads_view : List Leaf → List HeadView
heads_view leaves = map head_view leaves

abbrev pub histories_view : {S : Type 0} → IndexMap (String Global) (Vec Leaf Global) S → HistoriesView
histories_view docs = map (λ entry. (string_bytes entry.0, heads_view entry.1.items)) docs.entries

-- The stored revisions of a document, or the empty list if the document is not stored.
abbrev pub leaves_or_none : Option (Vec Leaf Global) → List Leaf
leaves_or_none None = []
leaves_or_none (Some leaves) = leaves.items

-- The stored documents after adding a head.
abbrev pub add_history : HistoriesView → HeadView → HistoriesView
add_history docs head = put_at docs head.0 (add_head (value_at [] docs head.0) head)

-- The stored documents after a line with the content `entry`.
abbrev pub add_entry_head : HistoriesView → EntryView → HistoriesView
add_entry_head docs entry = fold add_history docs (head_of entry)

-- The task has read the given lines of a list, has stored the heads of these lines, and has not printed any text.
pub record IsConflicting (lines : List (List ℕ)) (text : List ℕ) (task : Conflicts) : Type 0 where
  pub counting : IsCounting is_wrong lines task.count
  pub docs_are : histories_view task.docs ≡ histories_of (heads_in lines)
  pub text_is : text ≡ []

-- The task has read the complete list: the output is complete, and the number of the first wrong line is known.
pub record HasConflicts (lines : List (List ℕ)) (rest text : List ℕ) (task : Conflicts) : Type 0 where
  pub text_is : text ≡ conflicts_text lines rest
  pub wrong : task.count.wrong ≡ wrong_line is_wrong lines rest
