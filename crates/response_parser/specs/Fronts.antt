-- Defines the beginning of a long document's output, which is written before the document's end is read, as specified
-- in docs/PROFILE.md, "Documents in envelopes".
use Rattle.std.specs.Prelude.{◌≡◌, ℕ, ◌≤◌, nat_eq, length, List, ◌++◌, false, Some}
use Rattle.std.specs.List.{starts_with}
use Rattle.doc_envelope.specs.Streams.{Front}
use Rattle.doc_envelope.specs.PutFronts.{IsPutStart}
use Rattle.doc_envelope.specs.TakeFronts.{IsTakeStart}
use Rattle.response_parser.specs.Wanted.{covered}
use Rattle.response_parser.specs.State.{State}
use Rattle.response_parser.specs.Values.{document_found}
use Rattle.response_parser.specs.declared.place.Wanted.{Wanted}
use Rattle.response_parser.specs.declared.place.Wanted.TheVariants.{Documents, Enveloped, Bodies, Unfolded, Leaves, Changes}

-- A minimum number of stored bytes. Before the parser passes on string bytes of a document without storing them, it has
-- stored at least 262,144 bytes of the document.
abbrev pub long : ℕ
long = 262144

-- The text s is the beginning of a document, and S is the output for this beginning. After the beginning s, the parser
-- may pass on string bytes of the document without storing them. If a document begins with s and is not late
-- (`IsLate`), its output begins with S.
abbrev pub IsStart : Wanted → List ℕ → List ℕ → Type 0
IsStart Documents s S = ⊥
IsStart Enveloped s S = IsPutStart s S
IsStart Bodies s S = ⊥
IsStart Unfolded s S = IsTakeStart s S
IsStart Leaves s S = ⊥
IsStart Changes s S = ⊥

-- The beginning of a document. The parser may have omitted string bytes of the document's beginning from its stored
-- text. The text `full` has all bytes of a document's beginning, and the text `stored` has only the bytes that the
-- parser stored. The text `written` is the output for the text `full`. The text `front` is the output for the text
-- `stored`.
pub record Cut : Type 0 where
  pub full : List ℕ
  pub stored : List ℕ
  pub written : List ℕ
  pub front : List ℕ

abbrev pub IsCut : Wanted → Cut → Type 0
IsCut wanted c = Front (IsStart wanted) c.full c.stored c.written c.front

-- The text of the parser's state s begins with `cut.full`, the beginning of a document. The text `cut.full` has at
-- least 262,144 bytes (`long`). The text `written` is the output for the document's beginning `cut.full`.
pub record HasWritten (s : State) (written : List ℕ) : Type 0 where
  pub cut : Cut
  pub behind : List ℕ
  pub text : s.text ≡ cut.full ++ behind
  pub begun : IsCut s.wanted cut
  pub length_is : long ≤ length cut.full
  pub is : written ≡ cut.written

-- In the parser's state s, the parser has just read the end of a document. The text `cut.full` is the beginning of the
-- document, and has at least 262,144 bytes (`long`). The text `written` is the output for the document's beginning
-- `cut.full`. The text `cut.front` is the output for `cut.stored` alone. The output for `cut.stored` together with the
-- document's later bytes does not begin with `cut.front`. A document is late only if a member `_id`, `_rev`,
-- `_revisions` or `_deleted` follows its beginning `cut.full`. An envelope stores the members `_id`, `_rev`,
-- `_revisions` and `_deleted` outside of its member `whole`.
pub record IsLate (s : State) (written : List ℕ) : Type 0 where
  pub cut : Cut
  pub rest : List ℕ
  pub ended : State
  pub found : s ≡ document_found ended
  pub text : ended.text ≡ cut.full ++ rest
  pub begun : IsCut ended.wanted cut
  pub length_is : long ≤ length cut.full
  pub is : written ≡ cut.written
  pub made : List ℕ
  pub makes : covered ended.wanted (cut.stored ++ rest) ≡ Some made
  pub differs : starts_with nat_eq made cut.front ≡ false
