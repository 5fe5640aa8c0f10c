-- Defines the result of storing a document, and the database after the document was stored, as specified in
-- docs/PROFILE.md, "Merging" and "Sequences".
use Rattle.std.specs.Prelude.{◌≡◌, ℕ, ◌+◌, Bool, true, false, IsTrue, nat_lt, List, Result, Ok, Err, if◌then◌else◌}
use Rattle.rev_tree.specs.Content.{ContentValue}
use Rattle.rev_tree.specs.Tree.{merged, merge_answer}
use Rattle.rev_tree.specs.declared.fault.Contradiction.{Contradiction}
use Rattle.rev_tree.specs.declared.fault.Merged.{Merged}
use Rattle.rev_tree.specs.declared.fault.Merged.TheVariants as merges
use Rattle.rev_tree.specs.declared.origin.Origin.{Origin}
use Rattle.doc_json.specs.Document.{Document}
use Rattle.couch_base.specs.Database.{DatabaseValue, tree_of, with_tree, most}
use Rattle.couch_base.specs.declared.fault.Put.{Put}
use Rattle.couch_base.specs.declared.fault.Put.TheVariants as answers
use Rattle.couch_base.specs.declared.fault.BaseFault.{BaseFault}
use Rattle.couch_base.specs.declared.fault.BaseFault.TheVariants as faults

-- Whether a merge with the given result changes the tree.
abbrev pub is_change : Result Merged Contradiction → Bool
is_change (Ok merges.Changed) = true
is_change (Ok merges.Same) = false
is_change (Err c) = false

-- The result of a put. The arguments are the result of the merge, a Boolean that is true if the database has an unused
-- sequence, and the next sequence.
abbrev pub put_told : Result Merged Contradiction → Bool → ℕ → Result Put BaseFault
put_told (Err c) room next = Err (faults.Contradiction c.child c.known c.given)
put_told (Ok merges.Same) room next = Ok answers.Same
put_told (Ok merges.Changed) room next = if room then Ok (answers.Changed next) else Err faults.SeqFull

-- The result of putting document d into database `db`, if no allocation fails.
abbrev pub put_answer : DatabaseValue → Document → Result Put BaseFault
put_answer db d =
    put_told (merge_answer (tree_of db.docs d.id) d.ancestry) (nat_lt db.update_seq most) (db.update_seq + 1)

-- Whether a put with the given result takes a sequence, because the put changes the database.
abbrev pub is_changed : Result Put BaseFault → Bool
is_changed (Ok (answers.Changed seq)) = true
is_changed (Ok answers.Same) = false
is_changed (Err fault) = false

-- The result of `put` is the result `expected`, or is the error `Memory`. The error `Memory` is possible only if
-- `expected` says that the put changes the database.
abbrev pub PutGives : Result Put BaseFault → Result Put BaseFault → Type 0
PutGives (Err faults.Memory) expected = IsTrue (is_changed expected)
PutGives result expected = result ≡ expected

-- The content of a new revision with the given deleted flag and body.
abbrev pub content_of : Bool → List ℕ → ContentValue
content_of deleted body = record { deleted = deleted; body = body }

-- The database after a put of document d. The document has the merged tree after the put if the merge changes the
-- document's tree and the database has an unused sequence.
abbrev pub after_put : DatabaseValue → Document → Origin → DatabaseValue
after_put db d o =
    if is_changed (put_answer db d) then with_tree db d.id
    (merged (tree_of db.docs d.id) d.ancestry (content_of d.deleted d.body) o) else db
