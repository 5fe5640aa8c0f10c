-- Defines when the first bytes of an envelope can be written before the end of the wrapped document is read.
use Rattle.std.specs.Prelude.{◌≡◌, ℕ, ◌<◌, ◌-◌, length, take, drop, List, [], ◌∷◌, ◌++◌, codes, true}
use Rattle.json.specs.Print.{escape}
use Rattle.doc_envelope.specs.Members.{Outside, Quoted, first_length, members_in}
use Rattle.doc_envelope.specs.Names.{has_name}
use Rattle.doc_envelope.specs.Steps.{texts_with, helds_by}
use Rattle.doc_envelope.specs.Streams.{Front, MayStream, Opens, mode_after}

-- The beginning of a document's envelope: an opening brace, and the members of the partial document s that do not go
-- into the member `whole`.
abbrev pub made_from : List ℕ → List ℕ
made_from s = texts_with (123 ∷ []) (members_in Outside 0 [] (drop 1 s))

-- Those members of the partial document s that the envelope puts into the string `whole`. Commas separate these
-- members.
abbrev pub held_from : List ℕ → List ℕ
held_from s = helds_by [] (members_in Outside 0 [] (drop 1 s))

-- The text t without its last byte.
abbrev pub before_last : List ℕ → List ℕ
before_last t = take (length t - 1) t

-- The text s is the beginning of a document, and ends inside a string in the document's member `_attachments`.
pub record InAttachments (s : List ℕ) : Type 0 where
  pub member : List ℕ
  pub opens : Opens (drop 1 s) member
  pub quoted : mode_after Outside member ≡ Quoted
  pub named : has_name member (codes "\"_attachments\"") ≡ true

-- A run of string bytes (`IsRun`) may follow the beginning s of a document. For the input s, the output is the text S,
-- which is the beginning of an envelope with at least one complete member. If a document begins with s, and its
-- envelope puts all later members into the string `whole`, the envelope begins with S.
pub record IsPutStart (s S : List ℕ) : Type 0 where
  pub may : MayStream s
  pub inside : InAttachments s
  pub two : first_length (drop 1 (made_from s)) < length (drop 1 (made_from s))
  pub front : S ≡ made_from s ++ (codes ",\"whole\":\"" ++ escape (held_from s))

abbrev pub PutFront : List ℕ → List ℕ → List ℕ → List ℕ → Type 0
PutFront = Front IsPutStart
