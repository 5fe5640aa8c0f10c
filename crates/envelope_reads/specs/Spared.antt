-- Defines which errors of `read_doc` an envelope cannot cause, as specified in docs/PROFILE.md, "Documents in
-- envelopes" and "What `read_doc` accepts".
use Rattle.std.specs.Prelude.{◌≡◌, ℕ, ◌||◌, List, Bool, true, false, cond, codes, is_some}
use Rattle.std.specs.Str.{bytes_eq}
use Rattle.serde_json.specs.Data.{Data, null, boolean, number, string, array, object, Members, no_members, member}
use Rattle.serde_json.specs.Find.{as_str, as_bool}
use Rattle.doc_json.specs.declared.fault.DocFault.{DocFault}
use Rattle.doc_json.specs.declared.fault.DocFault.TheVariants as faults

-- Whether an error of reading a document is about members that the document's envelope has only inside its string
-- `whole`.
abbrev pub looks_into : DocFault → Bool
looks_into faults.NotObject = false
looks_into faults.NoId = false
looks_into faults.ReservedId = false
looks_into faults.Attachments = true
looks_into faults.SpecialMember = true
looks_into faults.NoRev = false
looks_into faults.BadRevisions = false
looks_into faults.RevMismatch = false
looks_into faults.Fraction = true
looks_into faults.NoneChosen = false
looks_into faults.TooManyChosen = false
looks_into faults.Memory = false

-- Whether an envelope may have a member with the given name and value.
abbrev pub may_be : List ℕ → Data → Bool
may_be k d =
    cond (bytes_eq k (codes "_id") || bytes_eq k (codes "_rev") || bytes_eq k (codes "_revisions")) true
    (cond (bytes_eq k (codes "_deleted")) (is_some (as_bool d)) (cond (bytes_eq k (codes "whole")) (is_some (as_str d)) false))

abbrev pub AllMayBe : Members → Type 0
AllMayBe no_members = Unit {0}
AllMayBe (member k d ms) = (may_be k d ≡ true) × AllMayBe ms

abbrev pub IsSpared : Data → Type 0
IsSpared null = ⊥
IsSpared (boolean b) = ⊥
IsSpared (number n) = ⊥
IsSpared (string s) = ⊥
IsSpared (array ds) = ⊥
IsSpared (object ms) = AllMayBe ms
