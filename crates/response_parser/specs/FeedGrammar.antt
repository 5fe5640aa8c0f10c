-- Defines the grammar of responses to `_changes` and `_revs_diff`, and defines the leaves in such responses. The
-- grammar and the leaves are specified in docs/PROFILE.md, "CouchDB's answers", and in CouchDB's API, "/{db}/_changes"
-- and "/{db}/_revs_diff".
--
-- In this file, k is a name without its opening quotation mark, s is white space, and d is the number of open lists and
-- objects. In this file, t is the text of a JSON value, which ends before a comma or a closing brace. The text u is the
-- same value on one line.
use Rattle.std.specs.Prelude.{◌≡◌, ℕ, ◌==◌, slice_index, List, [], ◌∷◌, ◌++◌, Bool, true, false, codes}
use Rattle.doc_envelope.specs.Texts.{Spaces, EndsString, Closed, is_space, is_json}
use Rattle.response_parser.specs.Names.{name_of}
use Rattle.response_parser.specs.Reading.{Piece}
use Rattle.response_parser.specs.Grammar.{IsValue}
use Rattle.response_parser.specs.declared.place.Wanted.TheVariants.{Leaves}
use Rattle.response_parser.specs.declared.place.Name.{Name}
use Rattle.response_parser.specs.declared.place.Name.TheVariants as names
use Rattle.response_parser.specs.declared.place.Found.TheVariants.{Id, Rev}

-- ---- objects and lists

-- The members of an object, up to its closing brace. The parameter `Member` is a relation between two flags n and n', a
-- member's text m, and the member's items ps. In a feed row, the flag n says whether the row has an id before the
-- member m, without a member `changes` between the two. The flag n' is the flag n of the member after m. In objects
-- other than feed rows, the flags n and n' are false.
pub data AreMembersOf (Member : Bool → Bool → List ℕ → List Piece → Type 0) : Bool → List ℕ → List Piece → Type 0 where
  last_member : {n n' : Bool} {m : List ℕ} {ps : List Piece} → Member n n' m ps → AreMembersOf Member n (m ++ 125 ∷ []) ps
  member : {n n' : Bool} {m t : List ℕ} {ps qs : List Piece} (s : List ℕ) → Member n n' m ps → Spaces s → AreMembersOf Member n' t qs
      → AreMembersOf Member n (m ++ 44 ∷ (s ++ t)) (ps ++ qs)

pub data IsObjectOf (Member : Bool → Bool → List ℕ → List Piece → Type 0) : List ℕ → List Piece → Type 0 where
  object_of : {t : List ℕ} {ps : List Piece} (s : List ℕ) → Spaces s → AreMembersOf Member false t ps → IsObjectOf Member (123 ∷ (s ++ t)) ps

-- The items of a list, up to the list's closing bracket.
pub data AreItemsOf (Item : List ℕ → List Piece → Type 0) : List ℕ → List Piece → Type 0 where
  last_item_of : {o : List ℕ} {ps : List Piece} (s : List ℕ) → Item o ps → Spaces s → AreItemsOf Item (o ++ (s ++ 93 ∷ [])) ps
  item_of : {o t : List ℕ} {ps qs : List Piece} (s s' : List ℕ) → Item o ps → Spaces s → Spaces s' → AreItemsOf Item t qs
      → AreItemsOf Item (o ++ (s ++ 44 ∷ (s' ++ t))) (ps ++ qs)

pub data IsListOf (Item : List ℕ → List Piece → Type 0) : List ℕ → List Piece → Type 0 where
  no_items_of : (s : List ℕ) → Spaces s → IsListOf Item (91 ∷ (s ++ 93 ∷ [])) []
  items_of : {t : List ℕ} {ps : List Piece} (s : List ℕ) → Spaces s → AreItemsOf Item t ps → IsListOf Item (91 ∷ (s ++ t)) ps

-- ---- members

-- Whether the parser skips a member, given the member's kind.
abbrev pub is_skipped : Name → Bool
is_skipped names.Plain = false
is_skipped names.Item = false
is_skipped names.Document = false
is_skipped names.Id = false
is_skipped names.List = false
is_skipped names.Docs = false
is_skipped names.Changes = false
is_skipped names.Rev = false
is_skipped names.Missing = false
is_skipped names.Passed = false
is_skipped names.Last = true
is_skipped names.Seq = false
is_skipped names.Error = false
is_skipped names.Reason = false
is_skipped names.Other = true
is_skipped names.Foreign = false

-- A member that the parser skips if the caller requested leaves (document ids and revisions). The flag `inner` says
-- whether the member is in a document's list of revisions. The flag `entry` says whether the member is in a document's
-- entry.
pub data IsSkipped (inner entry : Bool) (d : ℕ) : List ℕ → Type 0 where
  skipped : {k t u : List ℕ} {name : Name} (s s' : List ℕ) → EndsString k → is_json (34 ∷ k) ≡ true
      → name_of Leaves false inner entry d (34 ∷ k) ≡ name → is_skipped name ≡ true → Spaces s → Spaces s' → IsValue t u
      → IsSkipped inner entry d (34 ∷ (k ++ (s ++ 58 ∷ (s' ++ t))))

-- A member that the parser skips in an outermost object, and whose value is not an object.
pub data IsSkippedOutside : List ℕ → Type 0 where
  skipped_outside : {k t u : List ℕ} {b : ℕ} {name : Name} (s s' : List ℕ) → EndsString k → is_json (34 ∷ k) ≡ true
      → name_of Leaves false false false 1 (34 ∷ k) ≡ name → is_skipped name ≡ true → Spaces s → Spaces s'
      → is_space b ≡ false → (b == 123) ≡ false → Closed 0 (b ∷ t) u → is_json u ≡ true
      → IsSkippedOutside (34 ∷ (k ++ (s ++ 58 ∷ (s' ++ b ∷ t))))

-- The text of a member: the name, its closing quotation mark, a colon, and the value.
abbrev pub named_by : List ℕ → List ℕ → List ℕ → List ℕ → List ℕ
named_by name s s' value = 34 ∷ (name ++ (s ++ 58 ∷ (s' ++ value)))

-- ---- the feed

-- A member of an object in the list `changes`, such as the member `rev` of {"rev":"1-x"}.
pub data IsRevMember : Bool → Bool → List ℕ → List Piece → Type 0 where
  rev_of : {t u : List ℕ} (s s' : List ℕ) → Spaces s → Spaces s' → IsValue t u → (slice_index u 0 == 34) ≡ true
      → IsRevMember false false (named_by (codes "rev\"") s s' t) ((Rev, u) ∷ [])
  skipped_rev : {t : List ℕ} → IsSkipped true false 5 t → IsRevMember false false t []

-- A member of a feed row, such as the member `id` of {"seq":"1-g","id":"a","changes":[{"rev":"1-x"}]}. In a feed row,
-- the id must come before the revisions.
pub data IsRowMember : Bool → Bool → List ℕ → List Piece → Type 0 where
  id_of : {n : Bool} {t u : List ℕ} (s s' : List ℕ) → Spaces s → Spaces s' → IsValue t u → (slice_index u 0 == 34) ≡ true
      → IsRowMember n true (named_by (codes "id\"") s s' t) ((Id, u) ∷ [])
  changes_of : {l : List ℕ} {ps : List Piece} (s s' s'' : List ℕ) → Spaces s → Spaces s' → IsListOf (IsObjectOf IsRevMember) l ps → Spaces s''
      → IsRowMember true false (named_by (codes "changes\"") s s' (l ++ s'')) ps
  skipped_row : {n : Bool} {t : List ℕ} → IsSkipped false false 3 t → IsRowMember n n t []

-- A member of a page of the changes feed.
pub data IsPageMember : Bool → Bool → List ℕ → List Piece → Type 0 where
  results_of : {l : List ℕ} {ps : List Piece} (s s' s'' : List ℕ) → Spaces s → Spaces s' → IsListOf (IsObjectOf IsRowMember) l ps → Spaces s''
      → IsPageMember false false (named_by (codes "results\"") s s' (l ++ s'')) ps
  skipped_page : {t : List ℕ} → IsSkippedOutside t → IsPageMember false false t []

-- ---- missing revisions

-- The items of a list of missing revisions, up to the list's closing bracket.
pub data AreMissing : List ℕ → List Piece → Type 0 where
  last_missing : {r : List ℕ} (s : List ℕ) → EndsString r → is_json (34 ∷ r) ≡ true → Spaces s → AreMissing (34 ∷ (r ++ (s ++ 93 ∷ []))) ((Rev, 34 ∷ r) ∷ [])
  missing : {r t : List ℕ} {ps : List Piece} (s s' : List ℕ) → EndsString r → is_json (34 ∷ r) ≡ true → Spaces s → Spaces s' → AreMissing t ps
      → AreMissing (34 ∷ (r ++ (s ++ 44 ∷ (s' ++ t)))) ((Rev, 34 ∷ r) ∷ ps)

-- A member of a document's entry, such as the member `missing` of {"missing":["1-x"],"possible_ancestors":[]}.
pub data IsEntryMember : Bool → Bool → List ℕ → List Piece → Type 0 where
  missing_of : {l : List ℕ} {ps : List Piece} (s s' s'' s''' : List ℕ) → Spaces s → Spaces s' → Spaces s'' → AreMissing l ps → Spaces s'''
      → IsEntryMember false false (named_by (codes "missing\"") s s' (91 ∷ (s'' ++ (l ++ s''')))) ps
  skipped_entry : {t : List ℕ} → IsSkipped false true 2 t → IsEntryMember false false t []

-- A member of a `_revs_diff` response: a document's id, and the document's entry.
pub data IsDiffMember : Bool → Bool → List ℕ → List Piece → Type 0 where
  entry_of : {k o : List ℕ} {ps : List Piece} (s s' s'' : List ℕ) → EndsString k → is_json (34 ∷ k) ≡ true → Spaces s → Spaces s'
      → IsObjectOf IsEntryMember o ps → Spaces s'' → IsDiffMember false false (named_by k s s' (o ++ s'')) ((Id, 34 ∷ k) ∷ ps)

-- ---- responses

-- A page of `_changes`, or a response of `_revs_diff`, with white space around the page or the response.
pub data AreLeaves : List ℕ → List Piece → Type 0 where
  page : {o : List ℕ} {ps : List Piece} (s s' : List ℕ) → Spaces s → IsObjectOf IsPageMember o ps → Spaces s' → AreLeaves (s ++ (o ++ s')) ps
  difference : {o : List ℕ} {ps : List Piece} (s s' : List ℕ) → Spaces s → IsObjectOf IsDiffMember o ps → Spaces s' → AreLeaves (s ++ (o ++ s')) ps
  no_difference : (s s' s'' : List ℕ) → Spaces s → Spaces s' → Spaces s'' → AreLeaves (s ++ ((123 ∷ (s' ++ 125 ∷ [])) ++ s'')) []
