-- Defines the lines that name the leaves of a list.
use Rattle.std.specs.Prelude.{◌≡◌, ℕ, List, ◌++◌, flat_map, codes, string_bytes}
use Rattle.json.specs.Print.{quoted}
use Rattle.journal_lines.specs.Texts.{rev_text}
use Rattle.journal_tasks.specs.Counting.{IsCounting, wrong_line}
use Rattle.journal_tasks.specs.Lists.{is_wrong, leaves_in}
use Rattle.journal_tasks.specs.declared.name.Name.{Name}

-- The line that names a leaf: the text `word`, the document's id as a JSON string, and the revision.
abbrev pub name_line : List ℕ → List ℕ × List ℕ → List ℕ
name_line word leaf = word ++ codes " " ++ quoted leaf.0 ++ codes " " ++ rev_text leaf.1 ++ codes "\n"

-- The lines that name the given leaves, in order.
abbrev pub name_lines : List ℕ → List (List ℕ × List ℕ) → List ℕ
name_lines word leaves = flat_map (name_line word) leaves

-- A task has read the given lines of a list, and has appended a line for each leaf that these lines name.
pub record IsNaming (word : List ℕ) (lines : List (List ℕ)) (text : List ℕ) (name : Name) : Type 0 where
  pub counting : IsCounting is_wrong lines name.count
  pub word_is : string_bytes name.word ≡ word
  pub text_is : text ≡ name_lines word (leaves_in lines)

-- A task has read the complete list: the output has a line for each leaf of the list, and the number of the first wrong
-- line is known.
pub record HasNamed (word : List ℕ) (lines : List (List ℕ)) (rest text : List ℕ) (name : Name) : Type 0 where
  pub text_is : text ≡ name_lines word (leaves_in lines)
  pub wrong : name.count.wrong ≡ wrong_line is_wrong lines rest
