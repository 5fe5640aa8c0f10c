-- Defines when output for the first bytes of a document can be written before the rest of the document is read. The
-- bytes of a run (consecutive bytes in a string) are written before later bytes of the document are parsed, and are not
-- stored.
use Rattle.std.specs.Prelude.{◌≡◌, ℕ, ◌≤◌, ◌-◌, ◌&&◌, ◌==◌, nat_le, nat_lt, length, drop, List, [], ◌∷◌, ◌++◌, Bool, true, not}
use Rattle.std.specs.List.{list_all}
use Rattle.doc_envelope.specs.Members.{Mode, Outside, Quoted, first_length, mode_behind}

-- Whether a byte is printable ASCII, and not a quotation mark or a backslash.
abbrev pub is_streamable : ℕ → Bool
is_streamable b = nat_le 32 b && nat_lt b 127 && not (b == 34) && not (b == 92)

-- Each byte of the text r is printable ASCII, and not a quotation mark or a backslash.
abbrev pub IsRun : List ℕ → Type 0
IsRun r = list_all is_streamable r ≡ true

-- The mode of a JSON scan at the end of a text, if the mode at the beginning of the text is m. A mode says whether a
-- position is outside a string, inside a string, or after a backslash in a string.
unfoldable pub mode_after : Mode → List ℕ → Mode
mode_after m [] = m
mode_after m (b ∷ t) = mode_after (mode_behind m b) t

-- After the text s, a program may pass on bytes of a string without storing them. The text s has at least 16 bytes, and
-- ends inside a string. Each of the last 8 bytes of s is printable ASCII, and not a quotation mark or a backslash.
pub record MayStream (s : List ℕ) : Type 0 where
  pub quoted : mode_after Outside s ≡ Quoted
  pub long : 16 ≤ length s
  pub plain : IsRun (drop (length s - 8) s)

-- The text t begins after the opening brace of an object, and ends within a member. The text u is the incomplete last
-- member of the text t.
pub data Opens : List ℕ → List ℕ → Type 0 where
  open_last : {u : List ℕ} → first_length u ≡ length u → Opens u u
  open_later : {u : List ℕ} (m t : List ℕ) → first_length (m ++ 44 ∷ t) ≡ length m → Opens t u → Opens (m ++ 44 ∷ t) u

-- A program that has read the bytes f at the beginning of an input may write the bytes F at the beginning of the
-- output. The program passes on runs (bytes in strings) without storing them. The texts s and S are the bytes f and F,
-- respectively, without the runs that the program passed on. The statement `IsStart s S` says: if an input begins with
-- the text s, its output begins with the text S. The statement `IsStart s S` also says that a run (consecutive bytes in
-- a string) may follow s in the input.
pub data Front (IsStart : List ℕ → List ℕ → Type 0) : List ℕ → List ℕ → List ℕ → List ℕ → Type 0 where
  start : {s S : List ℕ} → IsStart s S → Front IsStart s s S S
  run : {f s F S : List ℕ} → Front IsStart f s F S → IsStart s S → (r : List ℕ) → IsRun r
      → Front IsStart (f ++ r) s (F ++ r) S
  next : {f s F S : List ℕ} → Front IsStart f s F S → (t d : List ℕ) → IsStart (s ++ t) (S ++ d)
      → Front IsStart (f ++ t) (s ++ t) (F ++ d) (S ++ d)
