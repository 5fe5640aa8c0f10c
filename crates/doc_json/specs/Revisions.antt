-- Defines how the members `_rev` and `_revisions` are read, as specified in docs/PROFILE.md, "What `read_doc` accepts"
-- and "Ancestries", and in CouchDB, "Replication Protocol".
use Rattle.std.specs.Prelude.{ℕ, ◌^◌, Bool, true, false, List, [], ◌∷◌, nat_lt, codes, Option, Some, None, option_and_then, option_map, Result, Ok, Err, if◌then◌else◌}
use Rattle.std.specs.Ordering.{eq_by_cmp}
use Rattle.serde_json.specs.Data.{Data, Items, no_items, item}
use Rattle.serde_json.specs.Find.{get, as_str, as_array, as_number, as_u64}
use Rattle.rev_core.specs.Sig.{is_sig}
use Rattle.rev_core.specs.Rev.{RevId, rev_cmp}
use Rattle.rev_core.specs.Text.{rev_read}
use Rattle.rev_core.specs.Ancestry.{ancestry_read}
use Rattle.rev_core.specs.Checks.{◌>>=◌, named}
use Rattle.doc_json.specs.declared.fault.DocFault.{DocFault}
use Rattle.doc_json.specs.declared.fault.DocFault.TheVariants as faults

-- The result of reading a string as a revision id, or `NoRev` if there is no string.
abbrev pub rev_of_text : Option (List ℕ) → Result (Option RevId) DocFault
rev_of_text None = Err faults.NoRev
rev_of_text (Some text) = named faults.NoRev (rev_read text) >>= (λ r. Ok (Some r))

-- The result of reading a document's member `_rev`, which is `None` if the member is missing.
abbrev pub rev_member : Option Data → Result (Option RevId) DocFault
rev_member None = Ok None
rev_member (Some d) = rev_of_text (as_str d)

-- The signature that an optional string represents, or `None` if there is no string or the string is not a signature.
abbrev pub sig_of : Option (List ℕ) → Option (List ℕ)
sig_of None = None
sig_of (Some text) = if is_sig text then Some text else None

-- The signatures of a JSON list, if each item is a signature.
abbrev pub sigs_of : Items → Option (List (List ℕ))
sigs_of no_items = Some []
sigs_of (item d ds) = option_and_then (λ sig. option_map (λ sigs. sig ∷ sigs) (sigs_of ds)) (sig_of (as_str d))

-- The ancestry whose newest revision has the generation `start`, and whose revisions have the given signatures. The
-- result is `BadRevisions` if `start` is not a generation, or if the list of signatures is absent. The result is also
-- `BadRevisions` if the number of signatures is 0 or greater than `start`.
abbrev pub numbered_from : Option ℕ → Option (List (List ℕ)) → Result (List RevId) DocFault
numbered_from None sigs = Err faults.BadRevisions
numbered_from (Some start) None = Err faults.BadRevisions
numbered_from (Some start) (Some sigs) =
    if nat_lt start (2 ^ 32) then named faults.BadRevisions (ancestry_read start sigs) else Err faults.BadRevisions

abbrev pub start_of : Data → Option ℕ
start_of d = option_and_then as_u64 (option_and_then as_number (get (codes "start") d))

abbrev pub ids_read : Data → Option (List (List ℕ))
ids_read d = option_and_then sigs_of (option_and_then as_array (get (codes "ids") d))

-- The result of reading a value of the member `_revisions`.
abbrev pub revisions_read : Data → Result (List RevId) DocFault
revisions_read d = numbered_from (start_of d) (ids_read d)

-- Whether r is the first revision of a list of revisions.
abbrev pub is_head : RevId → List RevId → Bool
is_head r [] = false
is_head r (s ∷ rest) = eq_by_cmp rev_cmp r s

-- Whether the member `_rev` of a document is missing or is the newest revision of the document's member `_revisions`.
abbrev pub agrees : Option RevId → List RevId → Bool
agrees None revs = true
agrees (Some r) revs = is_head r revs

abbrev pub matched : Option RevId → List RevId → Result (List RevId) DocFault
matched rev revs = if agrees rev revs then Ok revs else Err faults.RevMismatch

-- The ancestry of a document that has no `_revisions` is the single revision `_rev`. If the document does not have
-- `_rev` either, the result is the error `NoRev`.
abbrev pub alone : Option RevId → Result (List RevId) DocFault
alone None = Err faults.NoRev
alone (Some r) = Ok (r ∷ [])

-- The ancestry that has the signatures `sigs`, and has the generation `start` for its newest revision. If the document
-- has `_rev`, the newest revision must be the value of `_rev`.
abbrev pub numbered_beside : Option RevId → Option ℕ → Option (List (List ℕ)) → Result (List RevId) DocFault
numbered_beside rev start sigs = numbered_from start sigs >>= matched rev

-- The ancestry that a value of `_revisions` represents, checked against the value of `_rev`.
abbrev pub revisions_beside : Option RevId → Data → Result (List RevId) DocFault
revisions_beside rev d = revisions_read d >>= matched rev

-- The ancestry of a document, computed from the value of `_rev` and an optional member `_revisions`.
abbrev pub with_revisions : Option Data → Option RevId → Result (List RevId) DocFault
with_revisions None rev = alone rev
with_revisions (Some d) rev = revisions_beside rev d

-- The result of reading the ancestry of a document.
unfoldable pub revs_read : Data → Result (List RevId) DocFault
revs_read d = rev_member (get (codes "_rev") d) >>= with_revisions (get (codes "_revisions") d)
