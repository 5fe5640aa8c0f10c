-- Defines the result of sealing a block of journal lines.
use Rattle.std.specs.Prelude.{◌≡◌, ◌⊎◌, ℕ, List, [], ◌∷◌, ◌++◌, Bool, true, false, Option, None, Some, All, codes, length}
use Rattle.std.specs.Io.KnownBytes.{Appends}
use Rattle.sha2.specs.Hashers.{Holds256}
use Rattle.script_engine.specs.Device.{Gives}
use Rattle.line_reader.specs.Lines.{AreLines, joined}
use Rattle.journal_core.specs.Journal.{Confirmed, block_hash, is_sum, sum_line}
use Rattle.journal_core.specs.Wrong.{first_index, wrong_at}
use Rattle.journal_core.specs.declared.seal.Seal.{Seal}

-- The number of lines before the first wrong line of a block, if the block has a wrong line. The Boolean `wrong` says
-- whether the newest line is wrong, and `count` is the number of lines before the newest line.
abbrev pub wrong_after : Option ℕ → Bool → ℕ → Option ℕ
wrong_after (Some n) wrong count = Some n
wrong_after None true count = Some count
wrong_after None false count = None

-- The stored state of a `Seal` that has read the given lines of a block.
pub record IsSealing (chain seq : List ℕ) (lines : List (List ℕ)) (seal : Seal) : Type 0 where
  pub hashed : Holds256 seal.hasher ((chain ++ codes " " ++ seq ++ codes "\n") ++ joined lines)
  pub seq_is : seal.seq.items ≡ seq
  pub count : seal.count ≡ length lines
  pub wrong_is : seal.wrong ≡ first_index is_sum lines
  pub right : seal.wrong ≡ None → All (λ line. is_sum line ≡ false) lines

-- A line of a block is read, and no text is written.
abbrev pub Seals : Seal → List ℕ → List ℕ → Seal → Type 0
Seals old line text new = (text ≡ []) × ((chain seq : List ℕ) (lines : List (List ℕ)) → IsSealing chain seq lines old → IsSealing chain seq (lines ++ line ∷ []) new)

-- The input has no bytes after its last line end, and no line of the input is a line that ends a block. The line that
-- ends the block is written.
abbrev pub EndsRight : Seal → List ℕ → List ℕ → Type 0
EndsRight old rest text = (rest ≡ []) × ((chain seq : List ℕ) (lines : List (List ℕ)) → IsSealing chain seq lines old
    → All (λ line. is_sum line ≡ false) lines × (text ≡ sum_line (length lines) (block_hash chain seq (joined lines)) seq ++ codes "\n"))

-- At the end of a block with a wrong line, no text is written. The argument `count` is the number of lines before the
-- first wrong line.
abbrev pub EndsWrong : Seal → List ℕ → List ℕ → ℕ → Type 0
EndsWrong old rest text count = (text ≡ []) × ((chain seq : List ℕ) (lines : List (List ℕ)) → IsSealing chain seq lines old
    → wrong_at is_sum lines rest ≡ Some count)

abbrev pub EndsSeal : Seal → List ℕ → List ℕ → Seal → Type 0
EndsSeal old rest text new =
    (new.wrong ≡ None → EndsRight old rest text) × ((count : ℕ) → new.wrong ≡ Some count → EndsWrong old rest text count)

-- The input satisfies the predicate `given`, and consists of the lines of a block. The line that ends the block is
-- written. If a journal is confirmed (`Confirmed`) and its last hash is `chain`, the journal stays confirmed after the
-- block is appended, including the line that ends the block.
pub record IsSealedOn (chain seq : List ℕ) (given : List ℕ → Type 0) (held held' : Option (List ℕ)) : Type 0 where
  pub lines : List (List ℕ)
  pub gives : given (joined lines)
  pub body : All (λ line. is_sum line ≡ false) lines
  pub written : Appends held held' (sum_line (length lines) (block_hash chain seq (joined lines)) seq ++ codes "\n")
  pub continues : (before : List (List ℕ)) (seq' : List ℕ) → Confirmed before chain seq'
      → Confirmed (before ++ (lines ++ sum_line (length lines) (block_hash chain seq (joined lines)) seq ∷ [])) (block_hash chain seq (joined lines)) seq

-- The input satisfies the predicate `given`, but a block cannot contain all lines of the input. The call writes no
-- byte. The first line that a block cannot contain comes after `count` other lines.
pub record IsUnsealedOn (count : ℕ) (given : List ℕ → Type 0) (held held' : Option (List ℕ)) : Type 0 where
  pub input : List ℕ
  pub lines : List (List ℕ)
  pub rest : List ℕ
  pub gives : given input
  pub splits : AreLines input lines rest
  pub wrong : wrong_at is_sum lines rest ≡ Some count
  pub nothing : Appends held held' []

-- The result of a call that reads the lines of a block as its input, and writes the line that ends (seals) the block.
-- The bytes of the call's input satisfy the predicate `given`. The last argument of `SealsOn` is `None` if the block
-- was sealed. If the input has a line that a block cannot contain, the last argument of `SealsOn` is the number of
-- lines before the first such line.
abbrev pub SealsOn : List ℕ → List ℕ → (List ℕ → Type 0) → Option (List ℕ) → Option (List ℕ) → Option ℕ → Type 0
SealsOn chain seq given held held' None = IsSealedOn chain seq given held held'
SealsOn chain seq given held held' (Some count) = IsUnsealedOn count given held held'

-- The result of a call that seals a block. The input of the call is the list of bytes `left`, namely all bytes that the
-- reader had not returned before the call.
abbrev pub SealsBlock : List ℕ → List ℕ → Option (List ℕ) → Option (List ℕ) → Option (List ℕ) → Option ℕ → Type 0
SealsBlock chain seq left held held' wrong = SealsOn chain seq (Gives left) held held' wrong

-- The result of a call that seals a block. The input of the call is the list of bytes that the reader returned during
-- the call. The reader had returned the bytes `taken` before the call, and the bytes `taken'` by the end of the call.
abbrev pub HasSealed : List ℕ → List ℕ → Option (List ℕ) → Option (List ℕ) → Option (List ℕ) → Option (List ℕ) → Option ℕ → Type 0
HasSealed chain seq taken taken' held held' wrong = SealsOn chain seq (Appends taken taken') held held' wrong

-- The input consists of the lines of a block, and the text is the line that ends the block.
abbrev pub IsSeal : List ℕ → List ℕ → List ℕ → List ℕ → Type 0
IsSeal chain seq input text =
    (lines : List (List ℕ)) × (input ≡ joined lines) × All (λ line. is_sum line ≡ false) lines
    × (text ≡ sum_line (length lines) (block_hash chain seq (joined lines)) seq ++ codes "\n")

-- The input has the lines of a block. The output is the beginning of the line that ends the block.
abbrev pub IsSealedPart : List ℕ → List ℕ → List ℕ → List ℕ → Type 0
IsSealedPart chain seq input text = (back : List ℕ) × IsSeal chain seq input (text ++ back)

-- An error stopped the sealing of a block. The output is empty, or is the beginning of the line that ends the block. If
-- the output is not empty, the input was read to its end (`ended`).
abbrev pub HasSealedPart : List ℕ → List ℕ → Type 0 → Option (List ℕ) → Option (List ℕ) → Option (List ℕ) → Option (List ℕ)
    → Type 0
HasSealedPart chain seq ended taken taken' held held' =
    (input text : List ℕ) × Appends taken taken' input × Appends held held' text
    × ((text ≡ []) ⊎ (ended × IsSealedPart chain seq input text))
