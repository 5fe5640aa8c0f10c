-- Defines the JSON values whose numbers are unchanged if each number is written as text and read again.
use Rattle.std.specs.Prelude.{◌≡◌, Some, ⊤}
use Rattle.json.specs.Print.{IsNumber}
use Rattle.serde_json.specs.Data.{Num, Data, null, boolean, number, string, array, object, Items, no_items, item, Members, no_members, member}
use Rattle.serde_json.specs.Read.{number_of}
use Rattle.serde_json.specs.Written.{number_text}

abbrev pub ReadsBack : Num → Type 0
ReadsBack n = IsNumber (number_text n) × (number_of (number_text n) ≡ Some n)

-- For each number in a JSON value, at any depth, reading the number's text gives the same number.
abbrev mutual
  pub AllReadBack : Data → Type 0
  AllReadBack null = ⊤
  AllReadBack (boolean b) = ⊤
  AllReadBack (number n) = ReadsBack n
  AllReadBack (string s) = ⊤
  AllReadBack (array ds) = ItemsReadBack ds
  AllReadBack (object ms) = MembersReadBack ms

  pub ItemsReadBack : Items → Type 0
  ItemsReadBack no_items = ⊤
  ItemsReadBack (item d ds) = AllReadBack d × ItemsReadBack ds

  pub MembersReadBack : Members → Type 0
  MembersReadBack no_members = ⊤
  MembersReadBack (member k d ms) = AllReadBack d × MembersReadBack ms
