-- Defines the settings of `couch_replicate` without options, as specified in docs/PROFILE.md, "Options".
use Rattle.std.specs.Prelude.{None, false}
use Rattle.script_databases.specs.Databases.{Program}

-- The default settings: no denied prefix, the seed 0, the timestamp 0, 4 workers, and windows of at most 500 changes.
abbrev pub default_program : Program
default_program = record { deny = None; seed = 0; at = 0; workers = 4; batch = 500; quiet = false }
