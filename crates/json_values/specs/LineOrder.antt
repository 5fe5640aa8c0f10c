-- Defines JSON values in which every object has its members in the order of their names.
use Rattle.std.specs.Prelude.{◌≡◌, ℕ, List, ⊤}
use Rattle.std.specs.Ordering.{nat_cmp}
use Rattle.std.specs.declared.cmp.Ordering.TheVariants.{Less}
use Rattle.std.specs.Cmp.Lexicographic.{slice_cmp}
use Rattle.serde_json.specs.Data.{Data, null, boolean, number, string, array, object, Items, no_items, item, Members, no_members, member}

-- Each name of an object's members is greater than the name k.
abbrev pub AllBehind : List ℕ → Members → Type 0
AllBehind k no_members = ⊤
AllBehind k (member l d ms) = (slice_cmp nat_cmp k l ≡ Less) × AllBehind k ms

-- In every object at any depth, each name is greater than the names before it.
abbrev mutual
  pub IsOrdered : Data → Type 0
  IsOrdered null = ⊤
  IsOrdered (boolean b) = ⊤
  IsOrdered (number n) = ⊤
  IsOrdered (string s) = ⊤
  IsOrdered (array ds) = AreOrdered ds
  IsOrdered (object ms) = IsInOrderOfNames ms

  pub AreOrdered : Items → Type 0
  AreOrdered no_items = ⊤
  AreOrdered (item d ds) = IsOrdered d × AreOrdered ds

  pub IsInOrderOfNames : Members → Type 0
  IsInOrderOfNames no_members = ⊤
  IsInOrderOfNames (member k d ms) = AllBehind k ms × IsOrdered d × IsInOrderOfNames ms
