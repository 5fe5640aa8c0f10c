-- Defines the output that a conversion of CouchDB's responses writes, as specified in docs/PROFILE.md, "CouchDB's
-- answers".
use Rattle.std.specs.Prelude.{◌≡◌, ◌⊎◌, ℕ, ◌==◌, nat_eq, length, List, [], ◌∷◌, ◌++◌, true, false, Option, Result, Ok, Err, ⊤}
use Rattle.std.specs.List.{starts_with}
use Rattle.std.specs.Io.KnownBytes.{Appends}
use Rattle.script_engine.specs.Device.{Gives}
use Rattle.script_engine.specs.Faults.{IsFaultOf, IsOfWriter}
use Rattle.script_engine.specs.declared.fault.ScriptFault.{ScriptFault}
use Rattle.script_engine.specs.declared.fault.ScriptFault.TheVariants.{Read, Write, Memory, Cut}
use Rattle.response_parser.specs.State.{State, start}
use Rattle.response_parser.specs.Steps.{is_refused}
use Rattle.response_parser.specs.Fronts.{Cut as LongCut, HasWritten, IsLate}
use Rattle.response_parser.specs.Mirrors.{Like, Mirrors, Rejected}
use Rattle.response_parser.specs.Reading.{Piece, after, pieces, end_of, last_end, whole}
use Rattle.response_output.specs.Words.{Words, before, rest_text, texts, words_behind, last_text}
use Rattle.response_parser.specs.declared.place.Wanted.{Wanted}
use Rattle.response_parser.specs.declared.place.Name.{Name}
use Rattle.response_parser.specs.declared.place.Refusal.{Refusal}
use Rattle.response_output.specs.declared.run.AnswerFault.{AnswerFault}
use Rattle.response_output.specs.declared.run.AnswerFault.TheVariants.{Refused, LateMember, Device}

-- ---- begun items

-- The text `part` is the beginning of the next item in the output. If `part` is not empty, the parser is in a long
-- document, and `part` ends with the output for the document's beginning.
abbrev pub IsBegun : State → Words → List ℕ → Type 0
IsBegun s w part = (part ≡ []) ⊎ ((written : List ℕ) × HasWritten s written × (part ≡ before w ++ written))

-- The parser has read the given bytes. The output for the given bytes consists of the items in these bytes, followed by
-- the text `part`, the beginning of the next item. The writer has accepted the bytes `held` before the given bytes are
-- processed, and the bytes `held'` afterwards.
pub record Fed (s : State) (w : Words) (bytes : List ℕ) (s' : State) (w' : Words) (part : List ℕ) (held held' : Option (List ℕ)) : Type 0 where
  pub state : s' ≡ after s bytes
  pub words : w' ≡ words_behind w (pieces s bytes)
  pub written : Appends held held' (texts w (pieces s bytes) ++ part)

-- The text `missing` is the part of an item's output that was not written. After the error `Read` or `Memory`,
-- `missing` is empty, because only a failed write leaves an item incomplete. The error `Cut`, which only output in
-- pieces can cause, does not occur, because a conversion does not produce its output in pieces.
abbrev pub IsWhole : ScriptFault → List ℕ → Type 0
IsWhole Read missing = missing ≡ []
IsWhole Write missing = ⊤
IsWhole Memory missing = missing ≡ []
IsWhole Cut missing = ⊥

-- The text `made` was not written completely. Either a write failed within this text, or an error occurred before its
-- first byte was written.
pub data WritesInPart (fault : ScriptFault) (made : List ℕ) (held held' : Option (List ℕ)) : Type 0 where
  in_part : (text missing : List ℕ) → made ≡ text ++ missing → Appends held held' text → fault ≡ Write → WritesInPart fault made held held'
  nothing : Appends held held' [] → IsWhole fault [] → WritesInPart fault made held held'

-- An error occurred at the end of a document. The text `front` was already written for the document's beginning. The
-- error is `LateMember` if the document's complete text does not begin with `front`. If the document's complete text
-- begins with `front`, the error is `Device`: the reader, the writer or an allocation failed. After the error `Device`,
-- the rest of the text was not written completely. The parser has the state s at the document's end.
abbrev pub RestBreaks : AnswerFault → State → Words → List ℕ → Option (List ℕ) → Option (List ℕ) → Type 0
RestBreaks (Refused why at) s w front held held' = ⊥
RestBreaks (LateMember at) s w front held held' =
    (starts_with nat_eq s.text front ≡ false) × Appends held held' [] × (at ≡ s.taken)
RestBreaks (Device fault) s w front held held' =
    (starts_with nat_eq s.text front ≡ true) × WritesInPart fault (rest_text w s.text (length front)) held held'

-- A read, a write or an allocation failed after the parser had read `before`, a prefix of the list `bytes`. The output
-- for the prefix `before` consists of all complete items in this prefix, followed by the text `last`. The text `last`
-- is the beginning of the next item's output. The complete output for the prefix `before` is the text `part`, then the
-- text `text`, then the text `missing`. The text `part` was written before the parser read `bytes`. The text `text` was
-- written later. The text `missing` was not written. If no write failed, the text `missing` is empty.
pub record Begins (fault : ScriptFault) (s : State) (w : Words) (part bytes : List ℕ) (held held' : Option (List ℕ)) : Type 0 where
  pub before : List ℕ
  pub behind : List ℕ
  pub bytes_are : bytes ≡ before ++ behind
  pub last : List ℕ
  pub begun : IsBegun (after s before) (words_behind w (pieces s before)) last
  pub text : List ℕ
  pub missing : List ℕ
  pub text_is : part ++ (text ++ missing) ≡ texts w (pieces s before) ++ last
  pub written : Appends held held' text
  pub complete : IsWhole fault missing

-- The list `bytes` begins with the list `front` and then the byte `last`, which ends a long document. The text `begun`
-- was written for the beginning of a long document, but the document's complete text begins differently (`IsLate`). All
-- items in `front` were written, followed by the text `begun`. The text `part` was written before the parser read
-- `bytes`. The parser has read `at` bytes up to the end of the long document, including the document's last byte.
pub record IsLateAt (at : ℕ) (s : State) (w : Words) (part bytes : List ℕ) (held held' : Option (List ℕ)) : Type 0 where
  pub front : List ℕ
  pub last : ℕ
  pub behind : List ℕ
  pub bytes_are : bytes ≡ front ++ last ∷ behind
  pub begun : List ℕ
  pub late : IsLate (after s (front ++ last ∷ [])) begun
  pub text : List ℕ
  pub text_is : part ++ text ≡ texts w (pieces s front) ++ (before (words_behind w (pieces s front)) ++ begun)
  pub written : Appends held held' text
  pub at_is : at ≡ (after s (front ++ last ∷ [])).taken

-- The output of a conversion that fails while it reads the bytes `bytes` of a response.
abbrev pub Breaks : AnswerFault → State → Words → List ℕ → List ℕ → Option (List ℕ) → Option (List ℕ) → Type 0
Breaks (Refused why at) s w part bytes held held' = ⊥
Breaks (LateMember at) s w part bytes held held' = IsLateAt at s w part bytes held held'
Breaks (Device fault) s w part bytes held held' = Begins fault s w part bytes held held'

-- ---- the stored parser

-- The program's parser has the state r. A parser that stores every byte has the state s after the same bytes. The text
-- `part`, the beginning of the next item, was written already. The program's parser may omit bytes of a long document
-- from its stored text. If the beginning of a long document was written, `front` is the output for the `at` bytes of
-- this beginning that the parser stored. If the program's parser has rejected a byte, `front` and `at` may have any
-- values.
pub data Tracks (s r : State) (front : List ℕ) (at : ℕ) (w : Words) (part : List ℕ) : Type 0 where
  tracks_whole : Like s r → front ≡ [] → part ≡ [] → Tracks s r front at w part
  tracks_long : (cut : LongCut) (name : Name) → Mirrors cut name s r → front ≡ cut.front → at ≡ length cut.stored → (length front == 0) ≡ false
      → part ≡ before w ++ cut.written → Tracks s r front at w part
  tracks_stuck : (cut : LongCut) → Rejected cut s r → part ≡ before w ++ cut.written → Tracks s r front at w part

-- The parser has read the list `bytes`. Each item that ends in `bytes` is written completely. Before the parser read
-- `bytes`, the output ended with `part`, the beginning of an incomplete item. After the parser has read `bytes`, the
-- output ends with `part'`, the beginning of the next incomplete item.
pub record Feeds (s : State) (w : Words) (part bytes : List ℕ) (r' : State) (front' : List ℕ) (at' : ℕ) (w' : Words) (held held' : Option (List ℕ)) : Type 0 where
  pub part' : List ℕ
  pub tracks : Tracks (after s bytes) r' front' at' w' part'
  pub words : w' ≡ words_behind w (pieces s bytes)
  pub text : List ℕ
  pub text_is : part ++ text ≡ texts w (pieces s bytes) ++ part'
  pub written : Appends held held' text

-- ---- the end

-- The complete text that is written for the given items.
abbrev pub all_text : Words → List Piece → List ℕ
all_text w all = texts w all ++ last_text (words_behind w all)

-- A write of the text `whole` failed, so the writer accepted only a prefix of this text.
pub record EndsInPart (fault : ScriptFault) (whole : List ℕ) (held held' : Option (List ℕ)) : Type 0 where
  pub text : List ℕ
  pub missing : List ℕ
  pub is : whole ≡ text ++ missing
  pub written : Appends held held' text
  pub failed : fault ≡ Write

-- If the input consists of complete responses, the text that ends the output is written.
abbrev pub EndsAnswers : State → Words → Option (List ℕ) → Option (List ℕ) → Result ℕ AnswerFault → Type 0
EndsAnswers s w held held' (Ok passed) =
    Appends held held' (last_text w) × (end_of s.place ≡ Ok tt) × (passed ≡ s.passed)
EndsAnswers s w held held' (Err (Refused why at)) =
    Appends held held' [] × (end_of s.place ≡ Err why) × (at ≡ s.taken)
EndsAnswers s w held held' (Err (LateMember at)) = ⊥
EndsAnswers s w held held' (Err (Device fault)) = EndsInPart fault (last_text w) held held' × (end_of s.place ≡ Ok tt)

-- What a conversion writes, and which result it has, when the parser reaches the end of the input. The input has
-- CouchDB's responses or a script's output. If the input is a script's output that lacks its last line end, a line end
-- is first added to the input. Before the conversion reached the input's end, it wrote the text `part`, the beginning
-- of an item.
abbrev pub Finishes : State → Words → List ℕ → Option (List ℕ) → Option (List ℕ) → Result ℕ AnswerFault → Type 0
Finishes s w part held held' (Ok passed) =
    (text : List ℕ) × Appends held held' text × (part ++ text ≡ all_text w (pieces s (last_end s)))
    × (end_of (after s (last_end s)).place ≡ Ok tt) × (passed ≡ (after s (last_end s)).passed)
Finishes s w part held held' (Err (Refused why at)) =
    (text : List ℕ) × (part' : List ℕ) × Appends held held' text × (part ++ text ≡ texts w (pieces s (last_end s)) ++ part')
    × IsBegun (after s (last_end s)) (words_behind w (pieces s (last_end s))) part'
    × (end_of (after s (last_end s)).place ≡ Err why) × (at ≡ (after s (last_end s)).taken)
Finishes s w part held held' (Err (LateMember at)) = IsLateAt at s w part (last_end s) held held'
Finishes s w part held held' (Err (Device fault)) =
    Begins fault s w part (last_end s) held held'
    ⊎ ((whole : List ℕ) × (part ++ whole ≡ all_text w (pieces s (last_end s))) × EndsInPart fault whole held held')

-- ---- everything from a reader

-- The list `read`, the input of a conversion, has all remaining bytes of the reader. If the reader's bytes are a
-- script's output that lacks its last line end, the list `read` ends with an added line end. The parser accepts every
-- byte of `read`.
abbrev pub IsAll : Wanted → Option (List ℕ) → List ℕ → Type 0
IsAll wanted left read =
    (input : List ℕ) × Gives left input × (read ≡ whole (start wanted) input) × (is_refused (after (start wanted) input).place ≡ false)

-- The list `read`, the input of a conversion, has all remaining bytes of the reader. If the reader's bytes are a
-- script's output that lacks its last line end, the list `read` ends with an added line end. `IsLeft` permits that the
-- parser rejects a byte of `read`, but `IsAll` does not.
abbrev pub IsLeft : Wanted → Option (List ℕ) → List ℕ → Type 0
IsLeft wanted left read = (input : List ℕ) × Gives left input × (read ≡ whole (start wanted) input)

-- The input of a conversion is a prefix of the reader's remaining bytes, and the parser rejects a byte of this prefix.
abbrev pub IsFront : Wanted → Option (List ℕ) → List ℕ → Type 0
IsFront wanted left read =
    (rest : List ℕ) × Gives left (read ++ rest) × (is_refused (after (start wanted) read).place ≡ true)

-- The input consists of complete responses. All items in the input are written, and `passed` documents were skipped.
-- The list `left` has the bytes that the reader has not yet returned when the conversion begins. The writer has
-- accepted the bytes `held` before the conversion, and the bytes `held'` after the conversion.
abbrev pub Answered : Wanted → Words → Option (List ℕ) → Option (List ℕ) → Option (List ℕ) → ℕ → Type 0
Answered wanted w left held held' passed =
    (read : List ℕ) × IsAll wanted left read × Appends held held' (all_text w (pieces (start wanted) read))
    × (end_of (after (start wanted) read).place ≡ Ok tt) × (passed ≡ (after (start wanted) read).passed)

-- The output that a conversion had written when it failed. If the input is invalid at its last byte, the items before
-- this byte are written. If a device or an allocation failed, the written text is a prefix of the output for the
-- complete input. If the conversion failed in a long document, the beginning of the document's output may also be
-- written. After the error `LateMember`, the text written for a long document is not the beginning of the document's
-- complete output.
abbrev pub Stopped : Wanted → Words → Option (List ℕ) → Option (List ℕ) → Option (List ℕ) → AnswerFault → Type 0
Stopped wanted w left held held' (Refused why at) =
    (read : List ℕ) × (IsFront wanted left read ⊎ IsAll wanted left read)
    × ((part : List ℕ) × IsBegun (after (start wanted) read) (words_behind w (pieces (start wanted) read)) part
    × Appends held held' (texts w (pieces (start wanted) read) ++ part))
    × (end_of (after (start wanted) read).place ≡ Err why) × (at ≡ (after (start wanted) read).taken)
Stopped wanted w left held held' (LateMember at) =
    (read : List ℕ) × IsLeft wanted left read × IsLateAt at (start wanted) w [] read held held'
Stopped wanted w left held held' (Device fault) =
    (read : List ℕ) × IsLeft wanted left read
    × (Begins fault (start wanted) w [] read held held' ⊎ EndsInPart fault (all_text w (pieces (start wanted) read)) held held')

-- What a conversion of CouchDB's responses has read and written if the conversion ends with the given result. The input
-- of the conversion may be any bytes, even if they are not responses. The definition `Answered` describes a success,
-- and the definition `Stopped` describes an error.
abbrev pub Converts : Result ℕ AnswerFault → Wanted → Words → Option (List ℕ) → Option (List ℕ) → Option (List ℕ) → Type 0
Converts (Ok passed) wanted w left held held' = Answered wanted w left held held' passed
Converts (Err fault) wanted w left held held' = Stopped wanted w left held held' fault

-- What a conversion guarantees if its input is valid: CouchDB's responses, or a script's output. The list `all` has
-- exactly the items of the input. The conversion of valid responses, or of a script's output, never fails with the
-- error `Refused`. If the conversion succeeds, it has written all items. After the error `LateMember`, the output
-- consists of the first items of the list `all`, followed by the text `begun`. The conversion wrote the text `begun`
-- for a part of the next item.
abbrev pub ReadsAnswers : Words → List Piece → Option (List ℕ) → Option (List ℕ) → Result ℕ AnswerFault → Type 0
ReadsAnswers w all held held' (Ok passed) = Appends held held' (all_text w all)
ReadsAnswers w all held held' (Err (Refused why at)) = ⊥
ReadsAnswers w all held held' (Err (LateMember at)) =
    (told : List Piece) × (untold : List Piece) × (begun : List ℕ) × (all ≡ told ++ untold)
    × Appends held held' (texts w told ++ (before (words_behind w told) ++ begun))
ReadsAnswers w all held held' (Err (Device fault)) = ⊤

-- The error `Read` means that the writer did not fail, and that either the reader failed or the maximum number of reads
-- was reached. The error `Write` means that the writer failed, and that the reader did not fail. An error other than
-- `Read` and `Write` means that neither the reader nor the writer failed. Before the call, the numbers of reads, of the
-- reader's failures and of the writer's failures are `reads`, `reader` and `writer`. After the call, these three
-- numbers are `reads'`, `reader'` and `writer'`.
abbrev pub CountsOf : AnswerFault → ℕ → ℕ → ℕ → ℕ → ℕ → ℕ → Type 0
CountsOf (Refused why at) reads reads' reader reader' writer writer' = (reader' ≡ reader) × (writer' ≡ writer)
CountsOf (LateMember at) reads reads' reader reader' writer writer' = (reader' ≡ reader) × (writer' ≡ writer)
CountsOf (Device fault) reads reads' reader reader' writer writer' = IsFaultOf fault reads reads' reader reader' writer writer'

-- The writer failed if and only if the conversion returned the error of a failed write. The writer has failed `writer`
-- times before the call, and `writer'` times after the call.
abbrev pub CountsOfWriter : Result ℕ AnswerFault → ℕ → ℕ → Type 0
CountsOfWriter (Ok passed) writer writer' = writer' ≡ writer
CountsOfWriter (Err (Refused why at)) writer writer' = writer' ≡ writer
CountsOfWriter (Err (LateMember at)) writer writer' = writer' ≡ writer
CountsOfWriter (Err (Device fault)) writer writer' = IsOfWriter fault writer writer'

-- The result that a conversion returns at the end of the input.
abbrev pub judged_by : ℕ → ℕ → Result (Unit {0}) Refusal → Result ℕ AnswerFault
judged_by passed taken (Ok u) = Ok passed
judged_by passed taken (Err why) = Err (Refused why taken)

abbrev pub ended_of : State → Result ℕ AnswerFault
ended_of s = judged_by s.passed s.taken (end_of s.place)
