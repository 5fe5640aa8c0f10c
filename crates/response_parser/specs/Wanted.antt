-- Defines the rules for each kind of request, as specified in docs/PROFILE.md, "CouchDB's answers" and "Lines of
-- documents".
use Rattle.std.specs.Prelude.{ℕ, List, Bool, true, false, cond, Option, Some}
use Rattle.doc_envelope.specs.Envelopes.{enveloped, unfolded}
use Rattle.response_parser.specs.declared.place.Place.{Place}
use Rattle.response_parser.specs.declared.place.Place.TheVariants.{Start, Begin}
use Rattle.response_parser.specs.declared.place.Wanted.{Wanted}
use Rattle.response_parser.specs.declared.place.Wanted.TheVariants.{Documents, Enveloped, Bodies, Unfolded, Leaves, Changes}

abbrev pub wants_documents : Wanted → Bool
wants_documents Documents = true
wants_documents Enveloped = true
wants_documents Bodies = true
wants_documents Unfolded = true
wants_documents Leaves = false
wants_documents Changes = false

abbrev pub wants_leaves : Wanted → Bool
wants_leaves Documents = false
wants_leaves Enveloped = false
wants_leaves Bodies = false
wants_leaves Unfolded = false
wants_leaves Leaves = true
wants_leaves Changes = false

abbrev pub wants_changes : Wanted → Bool
wants_changes Documents = false
wants_changes Enveloped = false
wants_changes Bodies = false
wants_changes Unfolded = false
wants_changes Leaves = false
wants_changes Changes = true

-- Whether the caller's request requires the parser to reject objects without documents. If the value is false, the
-- parser skips objects without documents. If the parser rejects objects without documents, it accepts empty input.
abbrev pub is_strict : Wanted → Bool
is_strict Documents = false
is_strict Enveloped = false
is_strict Bodies = true
is_strict Unfolded = true
is_strict Leaves = false
is_strict Changes = true

abbrev pub first_place : Wanted → Place
first_place wanted = cond (is_strict wanted) Begin Start

-- The form in which the parser reports a document: the document's text, an envelope with the document, or the document
-- from an envelope.
abbrev pub covered : Wanted → List ℕ → Option (List ℕ)
covered Documents t = Some t
covered Enveloped t = enveloped t
covered Bodies t = Some t
covered Unfolded t = unfolded t
covered Leaves t = Some t
covered Changes t = Some t
