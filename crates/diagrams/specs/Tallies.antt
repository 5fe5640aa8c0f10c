-- Defines how the lines of a script's output are counted, as specified in docs/PROFILE.md, "Pictures".
use Rattle.std.specs.Prelude.{◌==◌, if◌then◌else◌}
use Rattle.script_engine.specs.Device.{counted}
use Rattle.output_parser.specs.declared.told.Told.{Told}
use Rattle.output_parser.specs.declared.told.Told.TheVariants as told
use Rattle.diagrams.specs.declared.tally.Tally.{Tally}

-- The counts of an input's lines before the first line is read: all counts are 0.
abbrev pub none_counted : Tally
none_counted = record { lines = 0; unknown = 0; first = 0 }

-- The counts of an input's lines after one more line, if this line can be output of `couch_replicate`.
abbrev pub with_line : Tally → Tally
with_line old = record { lines = counted old.lines 1; unknown = old.unknown; first = old.first }

-- The counts of input lines, after counting one more line that cannot be output of `couch_replicate`. The field `first`
-- is the number of the first input line that cannot be output of `couch_replicate`. Blank lines are not counted.
abbrev pub with_unknown : Tally → Tally
with_unknown old = record {
  lines = counted old.lines 1;
  unknown = counted old.unknown 1;
  first = if old.unknown == 0 then counted old.lines 1 else old.first;
}

-- The counts of an input's lines after one more line is read. Only a line with the contents `Unknown` is counted as a
-- line that cannot be output of `couch_replicate`.
abbrev pub with_told : Tally → Told → Tally
with_told old told.Unknown = with_unknown old
with_told old line = with_line old
