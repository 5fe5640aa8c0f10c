-- Defines journals and their checksums, as specified in docs/PROFILE.md, "Journals".
use Rattle.std.specs.Prelude.{◌≡◌, ◌≤◌, ℕ, List, [], ◌∷◌, ◌++◌, Bool, false, nat_eq, All, codes, decimal, length}
use Rattle.std.specs.List.{starts_with}
use Rattle.sha2.specs.Sha256.{sha256}
use Rattle.hex.specs.Hex.{encode_lower}
use Rattle.line_reader.specs.Lines.{joined}

-- The hash of a block, in hexadecimal digits: the SHA-256 of the previous block's hash `chain`, the block's sequence,
-- and the bytes of the block's lines.
unfoldable pub block_hash : List ℕ → List ℕ → List ℕ → List ℕ
block_hash chain seq body = encode_lower (sha256 (chain ++ codes " " ++ seq ++ codes "\n" ++ body))

-- The start of the line that ends a block of `count` lines.
unfoldable pub sum_head : ℕ → List ℕ
sum_head count = codes "sum " ++ decimal count ++ codes " "

-- The line that ends a block of `count` lines.
unfoldable pub sum_line : ℕ → List ℕ → List ℕ → List ℕ
sum_line count hash seq = sum_head count ++ hash ++ codes " " ++ seq

-- Whether a line ends a block.
unfoldable pub is_sum : List ℕ → Bool
is_sum line = starts_with nat_eq line (codes "sum ")

-- The text that the first block of a journal uses instead of a previous block's hash.
unfoldable pub first_chain : List ℕ
first_chain = codes "start"

-- The sequence of a journal without blocks.
unfoldable pub first_seq : List ℕ
first_seq = codes "0"

-- The lines of a journal are blocks with right checksums. The arguments of `Confirmed` are the journal's lines, and the
-- hash and the sequence of the journal's last block. If the journal has no blocks, the hash is `first_chain` and the
-- sequence is `first_seq`.
pub data Confirmed : List (List ℕ) → List ℕ → List ℕ → Type 0 where
  nothing : Confirmed [] first_chain first_seq
  block : {lines : List (List ℕ)} {chain seq : List ℕ} (body : List (List ℕ)) (next : List ℕ) → Confirmed lines chain seq
      → All (λ line. is_sum line ≡ false) body
      → Confirmed (lines ++ (body ++ sum_line (length body) (block_hash chain next (joined body)) next ∷ [])) (block_hash chain next (joined body)) next

-- The lines `confirmed` are the longest prefix of a journal's lines that consists of blocks with right checksums.
pub record IsGreatest (lines confirmed : List (List ℕ)) (chain seq : List ℕ) : Type 0 where
  pub rest : List (List ℕ)
  pub begins : lines ≡ confirmed ++ rest
  pub sums : Confirmed confirmed chain seq
  pub greatest : (front back : List (List ℕ)) (c s : List ℕ) → lines ≡ front ++ back → Confirmed front c s → length front ≤ length confirmed
