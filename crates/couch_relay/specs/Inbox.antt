-- Defines the input bytes that the relay has read, but not yet used, as specified in docs/PROFILE.md, "Responses to the
-- relay".
use Rattle.std.specs.Prelude.{◌≡◌, ◌+◌, ◌<◌, ◌≤◌, ℕ, List, ◌++◌, Option, length, take, drop, string_bytes, MatchOption}
use Rattle.std.specs.Io.KnownBytes.{Appends}
use Rattle.couch_relay.specs.declared.inbox.Inbox.{Inbox}
use Rattle.couch_relay.specs.declared.inbox.Head.{Head}
use Rattle.couch_relay.specs.Frames.{HeadView, IsHead, IsLine, NoFrame}

-- The bytes of an inbox that the relay has not yet used.
abbrev pub pending : Inbox → List ℕ
pending inbox = drop inbox.at inbox.held.items

-- The invariant of an `Inbox`, which buffers the input bytes that `couch_relay` has read but not yet used. The index of
-- the first unused byte is at most the number of stored bytes, and the read buffer is not empty.
pub record IsInbox (inbox : Inbox) : Type 0 where
  pub within : inbox.at ≤ length inbox.held.items
  pub some : 0 < length inbox.buffer.items

-- By reading from a reader, a call has extended the list `old` of bytes to the list `new`. The list `old` has all bytes
-- that the reader had returned before the call. The list `new` has all bytes that the reader had returned by the end of
-- the call.
abbrev pub Took : Option (List ℕ) → Option (List ℕ) → Type 0
Took old new = (bytes : List ℕ) × Appends old new bytes

-- A call has read bytes from a reader, and has appended these bytes to the inbox's pending bytes. The list `old` has
-- all bytes that the reader had returned before the call. The list `new` has all bytes that the reader had returned by
-- the end of the call. The pending bytes are `before` when the call begins, and `after` when it returns.
abbrev pub Filled : Option (List ℕ) → Option (List ℕ) → List ℕ → List ℕ → Type 0
Filled old new before after = (bytes : List ℕ) × Appends old new bytes × (after ≡ before ++ bytes)

-- The bytes `bytes` begin with a line of length `size`.
abbrev pub HasLine : List ℕ → ℕ → Type 0
HasLine bytes size = IsLine bytes (take size bytes) (drop (size + 1) bytes) × (size < length bytes)

abbrev pub head_view : Head → HeadView
head_view head = record { status = head.status; size = head.size; who = head.who; date = string_bytes head.date }

-- The bytes `bytes` begin with a line that is the head `head` of a response, and `rest` has the bytes after the line
-- feed.
abbrev pub BeginsWithHead : List ℕ → HeadView → List ℕ → Type 0
BeginsWithHead bytes head rest = (line : List ℕ) × IsLine bytes line rest × IsHead line head

-- The result of reading the head of a response. The call reads bytes, and appends them to the inbox's pending bytes
-- (the bytes not yet used). A head is the first line of a response. If the call returns a head, the pending bytes began
-- with the head's line, and the bytes after the head's line remain pending. If the call returns no head, the pending
-- bytes did not begin with a complete response.
abbrev pub ReadsHead : Option (List ℕ) → Option (List ℕ) → Type 0 → List ℕ → List ℕ → Option Head → Type 0
ReadsHead old new ended before after head =
    (bytes : List ℕ) × Appends old new bytes
    × MatchOption head (NoFrame ended (before ++ bytes)) (λ h. BeginsWithHead (before ++ bytes) (head_view h) after)
