-- Defines the members of a JSON object as texts, as specified in docs/PROFILE.md, "Documents in envelopes".
use Rattle.std.specs.Prelude.{ℕ, ◌+◌, ◌-◌, ◌&&◌, ◌||◌, ◌==◌, length, drop, List, [], ◌∷◌, ◌++◌, Bool, false, not, cond}
use Rattle.std.specs.List.{list_all, filter}

-- ---- byte by byte

-- The mode of a byte in a member says whether the byte is outside of strings, in a string, or after a backslash in a
-- string.
pub data Mode : Type 0 where
  Outside : Mode
  Quoted : Mode
  Escaped : Mode

abbrev pub opens : ℕ → Bool
opens b = b == 123 || b == 91

abbrev pub closes : ℕ → Bool
closes b = b == 125 || b == 93

-- Whether the byte b, after n open brackets in a member, ends the member. A member ends at a comma or a closing bracket
-- that is outside of the member's own strings and brackets.
abbrev pub ends_member : Mode → ℕ → ℕ → Bool
ends_member Outside n b = n == 0 && (b == 44 || closes b)
ends_member Quoted n b = false
ends_member Escaped n b = false

abbrev pub mode_behind : Mode → ℕ → Mode
mode_behind Outside b = cond (b == 34) Quoted Outside
mode_behind Quoted b = cond (b == 34) Outside (cond (b == 92) Escaped Quoted)
mode_behind Escaped b = Quoted

abbrev pub nesting_behind : Mode → ℕ → ℕ → ℕ
nesting_behind Outside n b = cond (opens b) (n + 1) (cond (closes b) (n - 1) n)
nesting_behind Quoted n b = n
nesting_behind Escaped n b = n

-- ---- members

-- The number of bytes of the remaining text before the end of the current member.
unfoldable pub length_in : Mode → ℕ → List ℕ → ℕ
length_in m n [] = 0
length_in m n (b ∷ t) = cond (ends_member m n b) 0 (length_in (mode_behind m b) (nesting_behind m n b) t + 1)

-- The number of bytes of the first member of an object's text.
abbrev pub first_length : List ℕ → ℕ
first_length t = length_in Outside 0 t

-- The texts of the members in an object, from the current member on. A scan of the object's remaining text finds the
-- end of the current member, and then the later members. The scan ends at the bracket that closes the object. The text
-- u is the part of the current member that was already scanned.
unfoldable pub members_in : Mode → ℕ → List ℕ → List ℕ → List (List ℕ)
members_in m n u [] = cond (length u == 0) [] (u ∷ [])
members_in m n u (b ∷ t) =
    cond (ends_member m n b) (u ∷ cond (b == 44) (members_in Outside 0 [] t) [])
    (members_in (mode_behind m b) (nesting_behind m n b) (u ++ b ∷ []) t)

abbrev pub is_blank : List ℕ → Bool
is_blank m = list_all (λ b. b == 32) m

-- The texts of an object's members, without texts that are blank.
abbrev pub members_of : List ℕ → List (List ℕ)
members_of x = filter (λ m. not (is_blank m)) (members_in Outside 0 [] (drop 1 x))

-- The texts of the given members, with commas between them.
abbrev pub joined : List (List ℕ) → List ℕ
joined [] = []
joined (m ∷ []) = m
joined (m ∷ n ∷ ms) = m ++ 44 ∷ joined (n ∷ ms)

-- The text of an object with the given members.
abbrev pub object_of : List (List ℕ) → List ℕ
object_of ms = 123 ∷ (joined ms ++ 125 ∷ [])
