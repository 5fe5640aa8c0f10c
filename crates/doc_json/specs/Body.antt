-- Defines bodies of documents, as specified in docs/PROFILE.md, "Documents".
use Rattle.std.specs.Prelude.{◌≡◌, ◌≤◌, ℕ, false, List, Result, Ok, Some}
use Rattle.serde_json.specs.Data.{Data, object, Members, depth}
use Rattle.serde_json.specs.Find.{as_object}
use Rattle.serde_json.specs.Read.{read, max_depth}
use Rattle.serde_json.specs.Written.{compact_text, members_have_float, IsInOrder}
use Rattle.rev_core.specs.Checks.{◌>>=◌, or_refused, refused_if}
use Rattle.doc_json.specs.Members.{has_special, plain_members}
use Rattle.doc_json.specs.declared.fault.DocFault.{DocFault}
use Rattle.doc_json.specs.declared.fault.DocFault.TheVariants as faults

-- The string is what `serde_json` writes for the JSON value d, and satisfies the guarantees of the writer of
-- `serde_json`.
pub record IsWritten (text : List ℕ) (d : Data) : Type 0 where
  pub compact : text ≡ compact_text d
  pub order : IsInOrder text d
  pub reads_back : depth d ≤ max_depth → read text ≡ Some d

-- The serialized body of a document: the compact form of an object without special members and without rejected
-- numbers.
pub record IsBody (text : List ℕ) : Type 0 where
  pub members : Members
  pub plain : has_special members ≡ false
  pub exact : members_have_float members ≡ false
  pub written : IsWritten text (object members)

-- The compact form of the given object without the members whose names begin with `_`.
abbrev pub body_text : Members → List ℕ
body_text ms = compact_text (object (plain_members ms))

-- The result of reading a JSON value as a body.
unfoldable pub body_read : Data → Result (List ℕ) DocFault
body_read d = do
  ms ← or_refused faults.NotObject (as_object d)
  names ← refused_if (has_special ms) faults.SpecialMember
  numbers ← refused_if (members_have_float ms) faults.Fraction
  Ok (compact_text (object ms))
