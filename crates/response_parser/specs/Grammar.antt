-- Defines the grammar of CouchDB's responses, and the documents in the responses, as specified in docs/PROFILE.md,
-- "CouchDB's answers". The grammar of the crate `json` decides whether a text is JSON (`is_json`).
use Rattle.std.specs.Prelude.{◌≡◌, ℕ, ◌+◌, ◌<◌, ◌==◌, slice_index, List, [], ◌∷◌, ◌++◌, Bool, true, false, codes, Some}
use Rattle.doc_envelope.specs.Texts.{Spaces, EndsString, Closed, is_space, is_json}
use Rattle.doc_envelope.specs.Names.{has_id, is_log}
use Rattle.response_parser.specs.Wanted.{covered}
use Rattle.response_parser.specs.Names.{name_of}
use Rattle.response_parser.specs.Reading.{Piece}
use Rattle.response_parser.specs.declared.place.Wanted.{Wanted}
use Rattle.response_parser.specs.declared.place.Name.{Name}
use Rattle.response_parser.specs.declared.place.Name.TheVariants.{Document, Item, Passed, Last, Seq, Other, Docs, List as ListName}
use Rattle.response_parser.specs.declared.place.Found.TheVariants as found

-- ---- values and names

-- The text t is a JSON value, which ends before a comma or a closing brace. The text u is the same value on one line.
pub record IsValue (t u : List ℕ) : Type 0 where
  pub closed : Closed 0 t u
  pub first : is_space (slice_index t 0) ≡ false
  pub json : is_json u ≡ true

-- The text k is a member's name without the opening quotation mark. The Boolean `first` says whether the member is the
-- first member of its object, and d is the number of open lists and objects. The member's kind `name` depends on the
-- caller's request `wanted`, on k, on `first` and on d.
pub record IsNamed (wanted : Wanted) (first : Bool) (d : ℕ) (k : List ℕ) (name : Name) : Type 0 where
  pub string : EndsString k
  pub json : is_json (34 ∷ k) ≡ true
  pub says : name_of wanted first false false d (34 ∷ k) ≡ name

-- The items that the parser returns for a member's value. A member of the kind `Document` has one item, a document, if
-- its value is an object. A member of the kind `Document` has no items if its value is not an object. A member of the
-- kind `Passed`, `Last`, `Seq` or `Other` has no items.
pub data Holds (wanted : Wanted) : Name → List ℕ → List Piece → Type 0 where
  document : {u v : List ℕ} → (slice_index u 0 == 123) ≡ true → covered wanted u ≡ Some v → Holds wanted Document u ((found.Document, v) ∷ [])
  no_object : {u : List ℕ} → (slice_index u 0 == 123) ≡ false → Holds wanted Document u []
  of_passed : {u : List ℕ} → Holds wanted Passed u []
  of_last : {u : List ℕ} → Holds wanted Last u []
  of_seq : {u : List ℕ} → Holds wanted Seq u []
  of_other : {u : List ℕ} → Holds wanted Other u []

-- The text o is an object whose first member is `_id`, and u is the same object on one line.
pub record IsPlainDocument (o u : List ℕ) : Type 0 where
  pub before : List ℕ
  pub behind : List ℕ
  pub line : List ℕ
  pub spaces : Spaces before
  pub closed : Closed 1 behind line
  pub object : o ≡ 123 ∷ (before ++ (codes "\"_id\"" ++ (behind ++ 125 ∷ [])))
  pub text : u ≡ codes "{\"_id\"" ++ (line ++ 125 ∷ [])
  pub json : is_json u ≡ true

-- The items in an object whose first member is `_id`: one document, or no item if the object is a replication log.
pub data IsDocument (wanted : Wanted) : List ℕ → List Piece → Type 0 where
  document : {o u v : List ℕ} → IsPlainDocument o u → is_log u ≡ false → covered wanted u ≡ Some v → IsDocument wanted o ((found.Document, v) ∷ [])
  log : {o u : List ℕ} → IsPlainDocument o u → is_log u ≡ true → IsDocument wanted o []

-- The text o is an object whose first member is not `_id`, and u is the same object on one line. The object o is an
-- item of the list `docs` of an outermost object.
pub record IsLateDocument (wanted : Wanted) (o u : List ℕ) : Type 0 where
  pub before : List ℕ
  pub key : List ℕ
  pub behind : List ℕ
  pub line : List ℕ
  pub spaces : Spaces before
  pub string : EndsString key
  pub name : is_json (34 ∷ key) ≡ true
  pub says : name_of wanted true true false 3 (34 ∷ key) ≡ Item
  pub closed : Closed 1 behind line
  pub object : o ≡ 123 ∷ (before ++ (34 ∷ (key ++ (behind ++ 125 ∷ []))))
  pub text : u ≡ 123 ∷ (34 ∷ (key ++ (line ++ 125 ∷ [])))
  pub json : is_json u ≡ true

-- An item of an outermost object's list `docs`, and the documents in it: one document if the item has a member `_id`,
-- otherwise no document. A replication log is not a document.
pub data IsDoc (wanted : Wanted) : List ℕ → List Piece → Type 0 where
  first_id : {o : List ℕ} {ps : List Piece} → IsDocument wanted o ps → IsDoc wanted o ps
  late_id : {o u v : List ℕ} → IsLateDocument wanted o u → has_id u ≡ true → covered wanted u ≡ Some v → IsDoc wanted o ((found.Document, v) ∷ [])
  no_id : {o u : List ℕ} → IsLateDocument wanted o u → has_id u ≡ false → IsDoc wanted o []
  no_names : (s : List ℕ) → Spaces s → IsDoc wanted (123 ∷ (s ++ 125 ∷ [])) []

-- A part of an outermost object's list `docs`, from the start of an item to the closing bracket of the list.
pub data AreDocs (wanted : Wanted) : List ℕ → List Piece → Type 0 where
  last_doc : {o : List ℕ} (s : List ℕ) {ps : List Piece} → IsDoc wanted o ps → Spaces s → AreDocs wanted (o ++ (s ++ 93 ∷ [])) ps
  doc : {o : List ℕ} (s s' : List ℕ) {more : List ℕ} {ps qs : List Piece} → IsDoc wanted o ps → Spaces s → Spaces s' → AreDocs wanted more qs
      → AreDocs wanted (o ++ (s ++ 44 ∷ (s' ++ more))) (ps ++ qs)

-- The list `docs` of an outermost object.
pub data IsDocs (wanted : Wanted) : List ℕ → List Piece → Type 0 where
  no_docs : (s : List ℕ) → Spaces s → IsDocs wanted (91 ∷ (s ++ 93 ∷ [])) []
  with_docs : (s : List ℕ) {t : List ℕ} {ps : List Piece} → Spaces s → AreDocs wanted t ps → IsDocs wanted (91 ∷ (s ++ t)) ps

-- ---- searched lists and objects

mutual
  pub data IsObject (wanted : Wanted) : ℕ → List ℕ → List Piece → Type 0 where
    no_members : {d : ℕ} (s : List ℕ) → d < 8 → Spaces s → IsObject wanted d (123 ∷ (s ++ 125 ∷ [])) []
    with_members : {d : ℕ} (s : List ℕ) {t : List ℕ} {ps : List Piece} → d < 8 → Spaces s → IsMembers wanted true (d + 1) t ps
        → IsObject wanted d (123 ∷ (s ++ t)) ps
    itself : {d : ℕ} {o : List ℕ} {ps : List Piece} → d < 8 → IsDocument wanted o ps → IsObject wanted d o ps

  -- A part of an object, from the name of one of its members to the closing brace. The Boolean argument says whether
  -- this member is the object's first member.
  pub data IsMembers (wanted : Wanted) : Bool → ℕ → List ℕ → List Piece → Type 0 where
    last_value : {f : Bool} {d : ℕ} {k : List ℕ} (s s' : List ℕ) {t u : List ℕ} {name : Name} {ps : List Piece} → IsNamed wanted f d k name → Holds wanted name u ps
        → Spaces s → Spaces s' → IsValue t u → IsMembers wanted f d (34 ∷ (k ++ (s ++ 58 ∷ (s' ++ (t ++ 125 ∷ []))))) ps
    value : {f : Bool} {d : ℕ} {k : List ℕ} (s s' s'' : List ℕ) {t u more : List ℕ} {name : Name} {ps qs : List Piece} → IsNamed wanted f d k name → Holds wanted name u ps
        → Spaces s → Spaces s' → IsValue t u → Spaces s'' → IsMembers wanted false d more qs
        → IsMembers wanted f d (34 ∷ (k ++ (s ++ 58 ∷ (s' ++ (t ++ 44 ∷ (s'' ++ more)))))) (ps ++ qs)
    last_list : {f : Bool} {d : ℕ} {k : List ℕ} (s s' s'' : List ℕ) {l : List ℕ} {ps : List Piece} → IsNamed wanted f d k ListName → Spaces s → Spaces s'
        → IsList wanted d l ps → Spaces s'' → IsMembers wanted f d (34 ∷ (k ++ (s ++ 58 ∷ (s' ++ (l ++ (s'' ++ 125 ∷ [])))))) ps
    list : {f : Bool} {d : ℕ} {k : List ℕ} (s s' s'' s''' : List ℕ) {l more : List ℕ} {ps qs : List Piece} → IsNamed wanted f d k ListName → Spaces s → Spaces s'
        → IsList wanted d l ps → Spaces s'' → Spaces s''' → IsMembers wanted false d more qs
        → IsMembers wanted f d (34 ∷ (k ++ (s ++ 58 ∷ (s' ++ (l ++ (s'' ++ 44 ∷ (s''' ++ more))))))) (ps ++ qs)
    last_docs : {f : Bool} {k : List ℕ} (s s' s'' : List ℕ) {l : List ℕ} {ps : List Piece} → IsNamed wanted f 1 k Docs → Spaces s → Spaces s'
        → IsDocs wanted l ps → Spaces s'' → IsMembers wanted f 1 (34 ∷ (k ++ (s ++ 58 ∷ (s' ++ (l ++ (s'' ++ 125 ∷ [])))))) ps
    docs : {f : Bool} {k : List ℕ} (s s' s'' s''' : List ℕ) {l more : List ℕ} {ps qs : List Piece} → IsNamed wanted f 1 k Docs → Spaces s → Spaces s'
        → IsDocs wanted l ps → Spaces s'' → Spaces s''' → IsMembers wanted false 1 more qs
        → IsMembers wanted f 1 (34 ∷ (k ++ (s ++ 58 ∷ (s' ++ (l ++ (s'' ++ 44 ∷ (s''' ++ more))))))) (ps ++ qs)

  pub data IsList (wanted : Wanted) : ℕ → List ℕ → List Piece → Type 0 where
    no_items : {d : ℕ} (s : List ℕ) → d < 8 → Spaces s → IsList wanted d (91 ∷ (s ++ 93 ∷ [])) []
    with_items : {d : ℕ} (s : List ℕ) {t : List ℕ} {ps : List Piece} → d < 8 → Spaces s → IsItems wanted (d + 1) t ps → IsList wanted d (91 ∷ (s ++ t)) ps

  -- The rest of a list, from the beginning of one of its items (an object) to the closing bracket of the list.
  pub data IsItems (wanted : Wanted) : ℕ → List ℕ → List Piece → Type 0 where
    last_item : {d : ℕ} {o : List ℕ} (s : List ℕ) {ps : List Piece} → IsObject wanted d o ps → Spaces s → IsItems wanted d (o ++ (s ++ 93 ∷ [])) ps
    item : {d : ℕ} {o : List ℕ} (s s' : List ℕ) {more : List ℕ} {ps qs : List Piece} → IsObject wanted d o ps → Spaces s → Spaces s' → IsItems wanted d more qs
        → IsItems wanted d (o ++ (s ++ 44 ∷ (s' ++ more))) (ps ++ qs)

-- ---- responses

-- A list of responses, in order, with white space around each response.
pub data AreAnswers (wanted : Wanted) : List ℕ → List Piece → Type 0 where
  no_more : {s : List ℕ} → Spaces s → AreAnswers wanted s []
  of_object : (s : List ℕ) {o more : List ℕ} {ps qs : List Piece} → Spaces s → IsObject wanted 0 o ps → AreAnswers wanted more qs
      → AreAnswers wanted (s ++ (o ++ more)) (ps ++ qs)
  of_list : (s : List ℕ) {l more : List ℕ} {ps qs : List Piece} → Spaces s → IsList wanted 0 l ps → AreAnswers wanted more qs
      → AreAnswers wanted (s ++ (l ++ more)) (ps ++ qs)

-- At least one response, with white space around each response.
pub data IsAnswered (wanted : Wanted) : List ℕ → List Piece → Type 0 where
  object_first : (s : List ℕ) {o more : List ℕ} {ps qs : List Piece} → Spaces s → IsObject wanted 0 o ps → AreAnswers wanted more qs
      → IsAnswered wanted (s ++ (o ++ more)) (ps ++ qs)
  list_first : (s : List ℕ) {l more : List ℕ} {ps qs : List Piece} → Spaces s → IsList wanted 0 l ps → AreAnswers wanted more qs
      → IsAnswered wanted (s ++ (l ++ more)) (ps ++ qs)
