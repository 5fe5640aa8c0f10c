-- Defines the values by which contracts describe a `Reading` (a parser) and a `Front` (the beginning of a document's
-- output).
use Rattle.std.specs.Prelude.{ℕ, List}
use Rattle.response_parser.specs.State.{State}
use Rattle.response_parser.specs.declared.reading.Reading.{Reading}
use Rattle.response_parser.specs.declared.fronts.Front.{Front}

abbrev pub state_of : Reading → State
state_of r = record {
  wanted = r.wanted;
  place = r.place;
  some = r.some;
  depth = r.depth;
  known = r.known;
  named = r.named;
  first = r.first;
  inner = r.inner;
  diff = r.diff;
  failed = r.failed;
  nesting = r.nesting;
  text = r.text.items;
  error = r.error.items;
  found = r.found;
  passed = r.passed;
  taken = r.taken;
}

abbrev pub front_of : Front → List ℕ
front_of f = f.text.items

-- The number of stored bytes of the current document from which the text of the `Front` was built.
abbrev pub front_length_of : Front → ℕ
front_length_of f = f.length
