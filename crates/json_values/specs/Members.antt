-- Defines the list of the members of a JSON object that were read, in the order of their names.
use Rattle.std.specs.Prelude.{List}
use Rattle.json_values.specs.Entries.{Entry}
use Rattle.json_values.specs.declared.members.Members.{Members}
use Rattle.json_values.specs.declared.members.Members.TheVariants.{Listed, Mapped}

abbrev pub entries_of : {T : Type 0} → Members T → List (Entry T)
entries_of (Listed entries) = entries.items
entries_of (Mapped map) = map.entries
