-- Defines local edits, as specified in docs/PROFILE.md, "Local edits" and "Ids of local edits".
use Rattle.std.specs.Prelude.{◌≡◌, ℕ, Bool, true, false, IsTrue, List, ◌∷◌, nat_le, Option, Some, None, Result, Ok, Err, if◌then◌else◌}
use Rattle.std.specs.List.{list_all}
use Rattle.std.specs.Option.{option_to_list}
use Rattle.rev_core.specs.Rev.{RevId}
use Rattle.rev_core.specs.NewRev.{edit_rev}
use Rattle.rev_tree.specs.InOrder.{first_of}
use Rattle.rev_tree.specs.Tree.{TreeValue, has, is_leaf, is_deleted, leaves}
use Rattle.rev_tree.specs.declared.origin.Origin.{Origin}
use Rattle.doc_json.specs.Document.{Document}
use Rattle.rev_core.specs.Checks.{◌>>=◌, refused_if, named}
use Rattle.couch_base.specs.Database.{Id, DatabaseValue, tree_in, tree_of, most}
use Rattle.couch_base.specs.Put.{after_put}
use Rattle.couch_base.specs.declared.fault.BaseFault.{BaseFault}
use Rattle.couch_base.specs.declared.fault.BaseFault.TheVariants as faults

-- If an edit names a leaf as its parent, that leaf is the parent. If an edit names no parent, and all leaves of the
-- document are deleted, the parent is the deleted winner. If an edit of a new document names no parent, the edit has no
-- parent. Any other edit fails.
abbrev pub parent_answer : Option TreeValue → Option RevId → Result (Option RevId) BaseFault
parent_answer None None = Ok None
parent_answer None (Some parent) = Err faults.NoSuchDocument
parent_answer (Some t) (Some parent) = if is_leaf t parent then Ok (Some parent) else Err faults.Conflict
parent_answer (Some t) None =
    if list_all (is_deleted t) (leaves t) then Ok (first_of (leaves t)) else Err faults.Conflict

-- The new revision of an edit with the given parent, deleted flag and body.
abbrev pub edit_id : Option RevId → Bool → List ℕ → Result RevId BaseFault
edit_id before deleted body = named faults.GenerationFull (edit_rev before deleted body)

-- The ancestry of an edit: the new revision and its parent.
abbrev pub edit_revs : Option RevId → Bool → List ℕ → Result (List RevId) BaseFault
edit_revs before deleted body = edit_id before deleted body >>= λ rev. Ok (rev ∷ option_to_list before)

-- The new revision of an edit and the revision's parent, or the edit's error. The function `edited` does not check
-- whether the database has an unused sequence.
abbrev pub edited : DatabaseValue → Id → Option RevId → Bool → List ℕ → Result (RevId × Option RevId) BaseFault
edited db id parent deleted body = do
  before ← parent_answer (tree_in db.docs id) parent
  rev ← edit_id before deleted body
  new ← refused_if (has (tree_of db.docs id) rev) (faults.RevExists rev)
  Ok (rev, before)

-- The result of an edit: its new revision, or the error.
abbrev pub edit_answer : DatabaseValue → Id → Option RevId → Bool → List ℕ → Result RevId BaseFault
edit_answer db id parent deleted body = do
  e ← edited db id parent deleted body
  room ← refused_if (nat_le most db.update_seq) faults.SeqFull
  Ok e.0

-- The document that an edit stores, given the pair e of the edit's new revision and parent.
abbrev pub edit_document : Id → (RevId × Option RevId) → Bool → List ℕ → Document
edit_document id e deleted body =
    record { id = id; ancestry = e.0 ∷ option_to_list e.1; deleted = deleted; body = body }

-- The database after an edit, given the edit's revision and parent, or the unchanged database if the edit failed.
abbrev pub after_edited : DatabaseValue → Id → Bool → List ℕ → Origin → Result (RevId × Option RevId) BaseFault
    → DatabaseValue
after_edited db id deleted body o (Ok e) = after_put db (edit_document id e deleted body) o
after_edited db id deleted body o (Err fault) = db

abbrev pub after_edit : DatabaseValue → Id → Option RevId → Bool → List ℕ → Origin → DatabaseValue
after_edit db id parent deleted body o = after_edited db id deleted body o (edited db id parent deleted body)

-- Whether the result of an edit depends on the new revision. Computing the new revision allocates memory.
abbrev pub needs_id : {A : Type 0} → Result A BaseFault → Bool
needs_id (Err faults.NoSuchDocument) = false
needs_id (Err faults.Conflict) = false
needs_id (Err faults.GenerationFull) = false
needs_id answer = true

-- The result of an edit is the expected result or `Memory`. An edit never returns `Memory` if the expected result is
-- `NoSuchDocument`, `Conflict` or `GenerationFull`.
abbrev pub EditGives : {A : Type 0} → Result A BaseFault → Result A BaseFault → Type 0
EditGives (Err faults.Memory) expected = IsTrue (needs_id expected)
EditGives result expected = result ≡ expected
