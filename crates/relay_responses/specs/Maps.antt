-- Defines the lists by which contracts describe the maps in the code. The keys of the maps are references to strings.
use Rattle.std.specs.Prelude.{List, [], Option, None, Some, map}
use Rattle.std.specs.Borrow.{Bor}
use Rattle.std.specs.Global.{Global}
use Rattle.json.specs.Json.{Json}
use Rattle.json.specs.Value.{value_view}
use Rattle.json.specs.declared.value.Value.{Value}
use Rattle.indexmap.specs.IndexSet.{IndexSet}
use Rattle.relay_core.specs.Messages.{Text, DocView}

-- The strings to which a list of references refers.
abbrev pub texts_in : List (Bor Text) → List Text
texts_in keys = map (λ k. k.now) keys

-- The entries of a map from a name to a JSON value.
abbrev pub values_in : List (Bor Text × Bor (Value Global)) → List (Text × Json)
values_in entries = map (λ e. (e.0.now, value_view e.1.now)) entries

-- The entries of a map from an id to a set of leaves.
abbrev pub docs_in : {S : Type 0} → List (Bor Text × IndexSet (Bor Text) S) → List DocView
docs_in entries = map (λ e. (e.0.now, texts_in e.1.keys)) entries

-- The leaves of an optional set, or the empty list if there is no set.
abbrev pub texts_or_none : {S : Type 0} → Option (IndexSet (Bor Text) S) → List Text
texts_or_none None = []
texts_or_none (Some known) = texts_in known.keys
