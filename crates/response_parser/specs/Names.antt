-- Defines the kind of a JSON member, which the parser derives from the member's name, as specified in docs/PROFILE.md,
-- "CouchDB's answers".
use Rattle.std.specs.Prelude.{ℕ, ◌||◌, ◌&&◌, ◌==◌, List, Bool, true, false, cond, codes, Option, Some, None}
use Rattle.std.specs.Str.{bytes_eq}
use Rattle.response_parser.specs.declared.place.Wanted.{Wanted}
use Rattle.response_parser.specs.declared.place.Wanted.TheVariants.{Documents, Enveloped, Bodies, Unfolded, Leaves, Changes as InChanges}
use Rattle.response_parser.specs.declared.place.Name.{Name}
use Rattle.response_parser.specs.declared.place.Name.TheVariants.{Plain, Item, Document, Id, List as ListName, Docs, Changes, Rev, Missing, Passed, Last, Seq, Error, Reason, Other, Foreign}
use Rattle.response_parser.specs.declared.place.Refusal.{Refusal}
use Rattle.response_parser.specs.declared.place.Refusal.TheVariants.{NoAnswer, CouchError}
use Rattle.response_parser.specs.declared.place.Found.{Found}
use Rattle.response_parser.specs.declared.place.Found.TheVariants as found

-- ---- names with quotation marks

-- The kind of a member `_id`, if the caller requested documents. The parser skips a member `_id` that is not the first
-- member of its object, or rejects it if `strict` is true.
abbrev pub id_name : Bool → Bool → Name
id_name strict first = cond first Plain (cond strict Foreign Passed)

-- The kind of a member with the name t in an outermost object. The kind is `Last` or `Seq` for members of a PouchDB
-- dump, and otherwise `Other`.
abbrev pub outermost_name : Bool → List ℕ → Name
outermost_name first t =
    cond (bytes_eq t (codes "\"db_info\"")) Last (cond (first && bytes_eq t (codes "\"seq\"")) Seq Other)

-- The kind of a JSON member with the name t, if the caller requested documents. The flag `first` says whether the name
-- t is the first name of its object. The flag `item` says whether the object is an item of the outermost object's list
-- `docs`. The flag `outermost` says whether the object is an outermost object.
abbrev pub document_name : Bool → Bool → Bool → Bool → List ℕ → Name
document_name strict first item outermost t =
    cond (item && first) (cond (bytes_eq t (codes "\"_id\"")) Plain Item)
    (cond (bytes_eq t (codes "\"ok\"") || bytes_eq t (codes "\"doc\"")) Document
    (cond (bytes_eq t (codes "\"_id\"")) (id_name strict first)
    (cond (bytes_eq t (codes "\"docs\"")) (cond outermost Docs ListName)
    (cond (bytes_eq t (codes "\"results\"") || bytes_eq t (codes "\"rows\"")) ListName
    (cond (bytes_eq t (codes "\"missing\"") || bytes_eq t (codes "\"error\"")) Passed
    (cond (bytes_eq t (codes "\"last_seq\"")) Last (cond outermost (outermost_name first t) Other)))))))

-- The kind of a JSON member with the name t, if the caller requested leaves (document ids and revisions). In a
-- document's list of revisions, the parser reads only members `rev`, and ignores all other members. In a document's
-- entry in a `_revs_diff` response, the parser reads only members `missing`, and ignores all other members. The flag
-- `inner` says whether the member is in a document's list of revisions. The flag `entry` says whether the member is in
-- a document's entry.
abbrev pub leaf_name : Bool → Bool → List ℕ → Name
leaf_name inner entry t =
    cond entry (cond (bytes_eq t (codes "\"missing\"")) Missing Other)
    (cond inner (cond (bytes_eq t (codes "\"rev\"")) Rev Other)
    (cond (bytes_eq t (codes "\"results\"")) ListName
    (cond (bytes_eq t (codes "\"id\"")) Id
    (cond (bytes_eq t (codes "\"changes\"")) Changes
    (cond (bytes_eq t (codes "\"last_seq\"")) Last Other)))))

-- The kind of a JSON member with the name t, if the caller requested the `change` lines of a script's output.
abbrev pub change_name : Bool → List ℕ → Name
change_name first t = cond (first && bytes_eq t (codes "\"_id\"")) Plain Foreign

abbrev pub wanted_name : Wanted → Bool → Bool → Bool → Bool → List ℕ → Name
wanted_name Documents first inner entry outermost t = document_name false first inner outermost t
wanted_name Enveloped first inner entry outermost t = document_name false first inner outermost t
wanted_name Bodies first inner entry outermost t = document_name true first inner outermost t
wanted_name Unfolded first inner entry outermost t = document_name true first inner outermost t
wanted_name Leaves first inner entry outermost t = leaf_name inner entry t
wanted_name InChanges first inner entry outermost t = change_name first t

-- The kind of a JSON member with the name t, if the caller made the request `wanted`. For every request, the members
-- `error` and `reason` of an outermost object may report an error of CouchDB.
unfoldable pub name_of : Wanted → Bool → Bool → Bool → ℕ → List ℕ → Name
name_of wanted first inner diff depth t =
    cond (depth == 1 && bytes_eq t (codes "\"error\"")) Error
    (cond (depth == 1 && bytes_eq t (codes "\"reason\"")) Reason (wanted_name wanted first inner (diff && depth == 2) (depth == 1) t))

-- ---- of a name

abbrev pub is_plain : Name → Bool
is_plain Plain = true
is_plain Item = true
is_plain Document = false
is_plain Id = false
is_plain ListName = false
is_plain Docs = false
is_plain Changes = false
is_plain Rev = false
is_plain Missing = false
is_plain Passed = false
is_plain Last = false
is_plain Seq = false
is_plain Error = false
is_plain Reason = false
is_plain Other = false
is_plain Foreign = false

abbrev pub is_item : Name → Bool
is_item Item = true
is_item name = false

abbrev pub is_seq : Name → Bool
is_seq Seq = true
is_seq name = false

abbrev pub is_known : Name → Bool
is_known Plain = true
is_known Item = true
is_known Document = true
is_known Id = false
is_known ListName = true
is_known Docs = true
is_known Changes = true
is_known Rev = true
is_known Missing = true
is_known Passed = true
is_known Last = true
is_known Seq = true
is_known Error = true
is_known Reason = false
is_known Other = false
is_known Foreign = true

abbrev pub is_id : Name → Bool
is_id Plain = false
is_id Item = false
is_id Document = false
is_id Id = true
is_id ListName = false
is_id Docs = false
is_id Changes = false
is_id Rev = false
is_id Missing = false
is_id Passed = false
is_id Last = false
is_id Seq = false
is_id Error = false
is_id Reason = false
is_id Other = false
is_id Foreign = false

-- Whether the value of a member of the given kind is a document's list of revisions, or the list `docs` of an outermost
-- object.
abbrev pub is_inner : Name → Bool
is_inner Plain = false
is_inner Item = false
is_inner Document = false
is_inner Id = false
is_inner ListName = false
is_inner Docs = true
is_inner Changes = true
is_inner Rev = false
is_inner Missing = false
is_inner Passed = false
is_inner Last = false
is_inner Seq = false
is_inner Error = false
is_inner Reason = false
is_inner Other = false
is_inner Foreign = false

abbrev pub is_error : Name → Bool
is_error Plain = false
is_error Item = false
is_error Document = false
is_error Id = false
is_error ListName = false
is_error Docs = false
is_error Changes = false
is_error Rev = false
is_error Missing = false
is_error Passed = false
is_error Last = false
is_error Seq = false
is_error Error = true
is_error Reason = false
is_error Other = false
is_error Foreign = false

-- The kind of item (`Found`) that the parser finds in a member's value, such as a document or an id. The first argument
-- is the member's kind (`Name`). The argument `first` is the value's first byte. The text of a document begins with a
-- brace, and the text of an id or a revision begins with a quotation mark.
abbrev pub found_of : Name → ℕ → Found
found_of Plain first = found.Nothing
found_of Item first = found.Nothing
found_of Document first = cond (first == 123) found.Document found.Nothing
found_of Id first = cond (first == 34) found.Id found.Nothing
found_of ListName first = found.Nothing
found_of Docs first = found.Nothing
found_of Changes first = found.Nothing
found_of Rev first = cond (first == 34) found.Rev found.Nothing
found_of Missing first = found.Nothing
found_of Passed first = found.Nothing
found_of Last first = found.Nothing
found_of Seq first = found.Nothing
found_of Error first = found.Nothing
found_of Reason first = found.Nothing
found_of Other first = found.Nothing
found_of Foreign first = found.Nothing

-- Whether the parser counts a member's value as a skipped document, given the member's kind. The argument `first` is
-- the value's first byte.
abbrev pub passes : Name → ℕ → Bool
passes Plain first = false
passes Item first = false
passes Document first = cond (first == 123) false true
passes Id first = false
passes ListName first = false
passes Docs first = false
passes Changes first = false
passes Rev first = false
passes Missing first = false
passes Passed first = true
passes Last first = false
passes Seq first = false
passes Error first = true
passes Reason first = false
passes Other first = false
passes Foreign first = false

-- The error that a member's value causes, or `None`. A value that must be a document id or a revision causes an error
-- if it is not a string. A string `reason` causes the error `CouchError` if the response has a string `error` before
-- the `reason`. An earlier `error` does not count if the parser has since entered or left a list or object that it
-- searches.
abbrev pub refusal_of : Name → ℕ → Bool → Option Refusal
refusal_of Plain first failed = None
refusal_of Item first failed = None
refusal_of Document first failed = None
refusal_of Id first failed = cond (first == 34) None (Some NoAnswer)
refusal_of ListName first failed = None
refusal_of Docs first failed = None
refusal_of Changes first failed = None
refusal_of Rev first failed = cond (first == 34) None (Some NoAnswer)
refusal_of Missing first failed = None
refusal_of Passed first failed = None
refusal_of Last first failed = None
refusal_of Seq first failed = None
refusal_of Error first failed = None
refusal_of Reason first failed = cond (first == 34 && failed) (Some CouchError) None
refusal_of Other first failed = None
refusal_of Foreign first failed = None
