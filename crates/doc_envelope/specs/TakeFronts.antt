-- Defines when the first bytes of a document can be written before the end of the document's envelope is read.
use Rattle.std.specs.Prelude.{◌≡◌, ℕ, ◌<◌, length, drop, List, [], ◌∷◌, ◌++◌, codes, false, Some}
use Rattle.doc_envelope.specs.Members.{Outside, first_length, is_blank, members_in}
use Rattle.doc_envelope.specs.Envelopes.{string_of}
use Rattle.doc_envelope.specs.Steps.{added, all_taken}
use Rattle.doc_envelope.specs.Streams.{Front, MayStream}

-- The name, the colon and the opening quotation mark of a member `whole`, followed by the text t.
abbrev pub whole_before : List ℕ → List ℕ
whole_before t = codes "\"whole\":\"" ++ t

-- The text q is a JSON string without its closing quotation mark, and the content of this string is not blank. The text
-- `made` is the beginning of an object, and S is `made`, followed by the members that the string q contains.
pub record AppendsOpen (q made S : List ℕ) : Type 0 where
  pub content : List ℕ
  pub says : string_of (q ++ 34 ∷ []) ≡ Some content
  pub filled : is_blank content ≡ false
  pub front : S ≡ added made content

-- After the beginning s of an envelope, a program may pass on bytes of a string without storing them. The text s ends
-- inside the string that is the value of the envelope's member `whole`. The text `made` is the part of the document
-- that comes from the envelope's members before `whole`. If an envelope begins with the text s, its document begins
-- with the text S.
pub record IsTakeStart (s S : List ℕ) : Type 0 where
  pub may : MayStream s
  pub made : List ℕ
  pub string : List ℕ
  pub opens : (t : List ℕ) → all_taken (123 ∷ []) (members_in Outside 0 [] (drop 1 (s ++ t)))
      ≡ all_taken made (members_in Outside 0 [] (whole_before (string ++ t)))
  pub quoted : MayStream (34 ∷ string)
  pub appends : AppendsOpen (34 ∷ string) made S
  pub inside : MayStream S
  pub two : first_length (drop 1 S) < length (drop 1 S)

abbrev pub TakeFront : List ℕ → List ℕ → List ℕ → List ℕ → Type 0
TakeFront = Front IsTakeStart
