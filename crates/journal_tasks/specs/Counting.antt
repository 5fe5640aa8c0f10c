-- Defines how a task counts the lines that it has read, and finds the first wrong line.
use Rattle.std.specs.Prelude.{◌≡◌, ◌+◌, ℕ, suc, Bool, if◌then◌else◌, nat_eq, List, length, Option, None, Some, option_map}
use Rattle.std.specs.Option.{option_or}
use Rattle.journal_core.specs.Wrong.{first_index}
use Rattle.journal_tasks.specs.declared.count.Count.{Count}

-- The number of an input's first wrong line, given that the line with the number `number` is wrong. If an earlier line
-- is wrong, `before` is the number of the first wrong line, and the result is `before`. If no earlier line is wrong,
-- `before` is `None`, and the result is `number`.
abbrev pub failed : Option ℕ → ℕ → Option ℕ
failed before number = option_or before (Some number)

-- The number of the first wrong line of an input that has `count` complete lines and then the bytes `rest`. If one of
-- the input's complete lines is wrong, `before` is the number of the first such line, counted from 1. If no complete
-- line is wrong, `before` is `None`.
abbrev pub failed_end : Option ℕ → ℕ → List ℕ → Option ℕ
failed_end before count rest = if nat_eq (length rest) 0 then before else failed before (count + 1)

-- The line count of a task after the task has checked the line that it counted last. The Boolean `wrong` says whether
-- this line is wrong. A line count has the number of lines, and the number of the first wrong line.
abbrev pub counted_as : Bool → Count → Count
counted_as wrong count = if wrong then record { lines = count.lines; wrong = failed count.wrong count.lines } else count

-- The number of an input's first wrong line, if lines are counted from 1. The list `lines` has one item for each line.
-- A line is wrong if its item passes the test `test`. If the input has bytes `rest` after its last line end, these
-- bytes are a wrong line.
abbrev pub wrong_line : {A : Type 0} → (A → Bool) → List A → List ℕ → Option ℕ
wrong_line test lines rest =
    option_map suc (option_or (first_index test lines) (if nat_eq (length rest) 0 then None else Some (length lines)))

-- The value `count` is the line count that a task stores after it has counted the given lines. The list `lines` has one
-- item for each line. A line is wrong if its item passes the test `test`.
pub record IsCounting {A : Type 0} (test : A → Bool) (lines : List A) (count : Count) : Type 0 where
  pub lines_is : count.lines ≡ length lines
  pub wrong_is : count.wrong ≡ option_map suc (first_index test lines)
