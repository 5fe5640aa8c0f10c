-- Defines relations between the text of a document and the text of the document's envelope, as specified in
-- docs/PROFILE.md, "Documents in envelopes".
use Rattle.std.specs.Prelude.{◌≡◌, ℕ, ◌+◌, ◌&&◌, ◌||◌, ◌==◌, List, [], ◌∷◌, ◌++◌, true, false, Some}
use Rattle.std.specs.List.{filter}
use Rattle.doc_envelope.specs.Texts.{EndsString}
use Rattle.doc_envelope.specs.Members.{is_blank, joined, object_of}
use Rattle.doc_envelope.specs.Names.{has_name, value_of}
use Rattle.doc_envelope.specs.Envelopes.{whole_name, stays, goes, string_of}

-- The byte b is not a quotation mark or a bracket. If no bracket is open before b (`nesting` is 0), b is not a comma
-- either.
pub record IsByte (nesting b : ℕ) : Type 0 where
  pub comma : (nesting == 0 && b == 44) ≡ false
  pub quote : (b == 34) ≡ false
  pub opens : (b == 123 || b == 91) ≡ false
  pub closes : (b == 125 || b == 93) ≡ false

-- A text in which all strings are closed and all brackets are paired. At the start of the text, n brackets are open. If
-- n is 0, each comma of the text is inside a string, or inside brackets of the text.
pub data Paired : ℕ → List ℕ → Type 0 where
  nothing : {n : ℕ} → Paired n []
  byte : {n b : ℕ} {t : List ℕ} → IsByte n b → Paired n t → Paired n (b ∷ t)
  string : {n : ℕ} {q t : List ℕ} → EndsString q → Paired n t → Paired n (34 ∷ (q ++ t))
  object : {n : ℕ} {m t : List ℕ} → Paired (n + 1) m → Paired n t → Paired n (123 ∷ (m ++ 125 ∷ t))
  list : {n : ℕ} {m t : List ℕ} → Paired (n + 1) m → Paired n t → Paired n (91 ∷ (m ++ 93 ∷ t))

-- The text m is the text of a member, and is not blank.
pub record IsMember (m : List ℕ) : Type 0 where
  pub paired : Paired 0 m
  pub filled : is_blank m ≡ false

abbrev pub AreMembers : List (List ℕ) → Type 0
AreMembers [] = Unit {0}
AreMembers (m ∷ ms) = IsMember m × AreMembers ms

-- The text x is an object with the members ms, in order.
pub record HasMembers (x : List ℕ) (ms : List (List ℕ)) : Type 0 where
  pub members : AreMembers ms
  pub text : x ≡ object_of ms

-- An envelope wraps members of a document: it stores the members in one string, the value of its member `whole`. The
-- JSON string `whole` may be spelled in any way that JSON allows. The content of the string `whole` consists of the
-- texts of the wrapped members, with commas between these texts. If an envelope wraps no members, it has no member
-- `whole`.
pub data Carries : List (List ℕ) → List (List ℕ) → Type 0 where
  none : Carries [] []
  whole : {w : List ℕ} (o : List ℕ) (os : List (List ℕ)) → has_name w whole_name ≡ true
      → string_of (value_of w whole_name) ≡ Some (joined (o ∷ os)) → Carries (w ∷ []) (o ∷ os)

-- No member of the list has the name `whole`.
abbrev pub AreOthers : List (List ℕ) → Type 0
AreOthers [] = Unit {0}
AreOthers (m ∷ ms) = (has_name m whole_name ≡ false) × AreOthers ms

-- The text t is an envelope of a document with the members ms. In an envelope, the unwrapped members come first,
-- unchanged and in order, and then the member that holds the wrapped members.
pub record Envelops (ms : List (List ℕ)) (t : List ℕ) : Type 0 where
  pub carrier : List (List ℕ)
  pub members : HasMembers t (filter stays ms ++ carrier)
  pub carries : Carries carrier (filter goes ms)
