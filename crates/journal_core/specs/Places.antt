-- This file defines the state of a reader that reads a journal line by line.
use Rattle.std.specs.Prelude.{◌≡◌, ℕ, ◌+◌, ◌&&◌, List, [], ◌∷◌, ◌++◌, Bool, true, false, Option, None, Some, if◌then◌else◌, bytes_eq, nat_eq, drop, length, fold}
use Rattle.line_reader.specs.Lines.{joined}
use Rattle.journal_core.specs.Journal.{block_hash, first_chain, first_seq, is_sum, sum_head, sum_line}
use Rattle.journal_core.specs.declared.blocks.Blocks.{Blocks}
use Rattle.journal_core.specs.declared.blocks.Took.{Took}
use Rattle.journal_core.specs.declared.blocks.Took.TheVariants.{Held, Closed, Damaged}

-- The place of a reader in a journal: the hash and the sequence of the last confirmed block, all confirmed lines, and
-- the lines of the current block. The field `whole` of a reader's place is true if the reader has not read a wrong
-- checksum.
pub record Place : Type 0 where
  pub chain : List ℕ
  pub seq : List ℕ
  pub confirmed : List (List ℕ)
  pub held : List (List ℕ)
  pub whole : Bool

abbrev pub start : Place
start = record { chain = first_chain; seq = first_seq; confirmed = []; held = []; whole = true }

-- The sequence in the given line, provided that the line ends a block of `count` lines.
unfoldable pub seq_of : ℕ → List ℕ → List ℕ
seq_of count line = drop (length (sum_head count) + 65) line

-- The hash of the current block, computed with the sequence in the given line.
unfoldable pub hash_at : Place → List ℕ → List ℕ
hash_at place line = block_hash place.chain (seq_of (length place.held) line) (joined place.held)

-- The line that ends the current block with the right checksum, and with the sequence that the line `line` has.
unfoldable pub right_end : Place → List ℕ → List ℕ
right_end place line = sum_line (length place.held) (hash_at place line) (seq_of (length place.held) line)

-- The hash of the current block if the given line ends the block with the right checksum, otherwise `None`.
unfoldable pub end_in : Place → List ℕ → Option (List ℕ)
end_in place line = if bytes_eq line (right_end place line) then Some (hash_at place line) else None

-- The place of a journal reader after the line `line`, which ends the current block and has the right checksum. The
-- hash of the current block is `hash`.
abbrev pub closed : Place → List ℕ → List ℕ → Place
closed place line hash = record {
  chain = hash;
  seq = seq_of (length place.held) line;
  confirmed = place.confirmed ++ (place.held ++ line ∷ []);
  held = [];
  whole = true;
}

-- The place of a journal reader after the last line of a block, if this line has a wrong checksum.
abbrev pub damaged : Place → Place
damaged place = record { chain = place.chain; seq = place.seq; confirmed = place.confirmed; held = place.held; whole = false }

abbrev pub ended_by : Place → List ℕ → Option (List ℕ) → Place
ended_by place line None = damaged place
ended_by place line (Some hash) = closed place line hash

-- The place of a journal reader after a line that ends a block. The checksum of the block may be right or wrong.
abbrev pub ended : Place → List ℕ → Place
ended place line = ended_by place line (end_in place line)

-- The place of a journal reader after a line that does not end a block.
abbrev pub held_more : Place → List ℕ → Place
held_more place line = record { chain = place.chain; seq = place.seq; confirmed = place.confirmed; held = place.held ++ line ∷ []; whole = place.whole }

-- The place of a journal reader after the next line.
abbrev pub next : Place → List ℕ → Place
next place line = if place.whole then (if is_sum line then ended place line else held_more place line) else place

-- The place of a journal reader after all of the given lines.
abbrev pub place_after : List (List ℕ) → Place
place_after lines = fold next start lines

-- The fields of the journal reader `blocks` represent the reader's place `place` in the journal.
pub record IsAt (blocks : Blocks) (place : Place) : Type 0 where
  pub chain : blocks.chain.items ≡ place.chain
  pub seq : blocks.seq.items ≡ place.seq
  pub body : blocks.body.items ≡ joined place.held
  pub count : blocks.count ≡ length place.held
  pub bytes : blocks.bytes ≡ length (joined place.confirmed)
  pub lines : blocks.lines ≡ length place.confirmed
  pub whole : blocks.whole ≡ place.whole

-- Whether all lines that a journal reader has read are in confirmed blocks, given the reader's place.
abbrev pub is_confirmed : Place → Bool
is_confirmed place = place.whole && nat_eq (length (joined place.held)) 0

-- The effect of a line on a journal reader. The parameter `place` is the reader's place before the line, and `place'`
-- is the place after the line.
abbrev pub TookAs : Place → Place → List ℕ → Took → Type 0
TookAs place place' line Held = place' ≡ held_more place line
TookAs place place' line (Closed body) = (hash : List ℕ) × (place' ≡ closed place line hash) × (body.items ≡ joined place.held)
TookAs place place' line Damaged = (place'.confirmed ≡ place.confirmed) × (place'.held ≡ place.held) × (place'.whole ≡ false)
