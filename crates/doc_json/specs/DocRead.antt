-- The result of reading a value as a document, as specified in docs/PROFILE.md, "What `read_doc` accepts". If several
-- checks of a document fail, the result is the error of the first check that fails.
use Rattle.std.specs.Prelude.{ℕ, Bool, false, List, codes, Option, Some, None, option_and_then, is_some, Result, Ok}
use Rattle.serde_json.specs.Data.{Data}
use Rattle.serde_json.specs.Find.{get, as_str, as_bool, as_object}
use Rattle.serde_json.specs.Written.{members_have_float}
use Rattle.rev_core.specs.Checks.{◌>>=◌, or_refused, refused_if}
use Rattle.doc_json.specs.DocId.{doc_id_read}
use Rattle.doc_json.specs.Members.{has_unknown, plain_members}
use Rattle.doc_json.specs.Body.{body_text}
use Rattle.doc_json.specs.Revisions.{revs_read}
use Rattle.doc_json.specs.Document.{Document}
use Rattle.doc_json.specs.declared.fault.DocFault.{DocFault}
use Rattle.doc_json.specs.declared.fault.DocFault.TheVariants as faults

-- The result of reading a document's member `_id` as a document id.
abbrev pub id_of : Option Data → Result (List ℕ) DocFault
id_of o = or_refused faults.NoId (option_and_then as_str o) >>= doc_id_read

abbrev pub id_member : Data → Result (List ℕ) DocFault
id_member d = id_of (get (codes "_id") d)

-- The result of reading a document's member `_deleted`, which is false if the member is missing.
abbrev pub flag_of : Option Data → Result Bool DocFault
flag_of None = Ok false
flag_of (Some d) = or_refused faults.SpecialMember (as_bool d)

unfoldable pub doc_read : Data → Result Document DocFault
doc_read d = do
  ms ← or_refused faults.NotObject (as_object d)
  id ← id_member d
  attachments ← refused_if (is_some (get (codes "_attachments") d)) faults.Attachments
  names ← refused_if (has_unknown ms) faults.SpecialMember
  deleted ← flag_of (get (codes "_deleted") d)
  ancestry ← revs_read d
  numbers ← refused_if (members_have_float (plain_members ms)) faults.Fraction
  Ok (record { id = id; ancestry = ancestry; deleted = deleted; body = body_text ms })
