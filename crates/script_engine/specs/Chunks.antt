-- This file defines how a script is read in chunks, as specified in docs/PROFILE.md, "Limits".
use Rattle.std.specs.Prelude.{◌≡◌, ◌<◌, ◌≤◌, ◌⊎◌, ℕ, length, List, [], Bool, true, false, Option}
use Rattle.std.specs.Io.KnownBytes.{Consumes, IsAtEnd, Keeps}
use Rattle.script_engine.specs.Device.{FailsOnce, counted}
use Rattle.script_engine.specs.declared.chunks.Chunks.{Chunks}

-- The maximum number of reads of a script.
abbrev pub max_reads : ℕ
max_reads = 4294967295

-- The invariant of a chunk reader: the buffer has 1 to 65,536 bytes, the last chunk is within the buffer, and at most
-- `max_reads` reads were made.
pub record AreChunks (c : Chunks) : Type 0 where
  pub some : 0 < length c.room.items
  pub most : length c.room.items ≤ 65536
  pub fits : c.count ≤ length c.room.items
  pub few : c.turns ≤ max_reads

-- A call that reads a chunk has a result, which says whether a chunk was read. The reader's remaining bytes are `left`
-- before the call, and `left'` after the call.
abbrev pub ReadsChunk : Bool → Option (List ℕ) → Option (List ℕ) → List ℕ → Type 0
ReadsChunk true left left' chunk = Consumes left left' chunk × (0 < length chunk) × (length chunk ≤ 65536)
ReadsChunk false left left' chunk = Keeps left left' × IsAtEnd left' × (chunk ≡ [])

-- A reader read `turns` times, and no read failed. The reader counts its reads and its failures. The arguments `reads`
-- and `failures` are the reader's counts before the `turns` reads, and `reads'` and `failures'` are its counts
-- afterwards.
pub record HasRead (turns reads reads' failures failures' : ℕ) : Type 0 where
  pub made : counted reads' 0 ≡ counted reads turns
  pub unfailing : failures' ≡ failures

-- The reader failed, or the maximum number of reads was reached. Before the call, the reader had counted `reads` reads
-- and `failures` failures. After the call, the reader has counted `reads'` reads and `failures'` failures.
abbrev pub StopsReading : ℕ → ℕ → ℕ → ℕ → Type 0
StopsReading reads reads' failures failures' =
    FailsOnce failures failures' ⊎ ((counted reads' 0 ≡ counted reads max_reads) × (failures' ≡ failures))
