-- Defines the exit status of a program that runs nothing because of its command line, as specified in docs/PROFILE.md,
-- "Options" and "Options of `couch_lines`".
use Rattle.std.specs.Prelude.{ℕ}
use Rattle.clap.specs.declared.error.kind.ErrorKind.{ErrorKind}
use Rattle.clap.specs.declared.error.kind.ErrorKind.TheVariants.{DisplayHelp, DisplayVersion, OutOfMemory}
use Rattle.std.specs.declared.io.ErrorKind as io
use Rattle.std.specs.declared.io.ErrorKind.TheVariants as kinds

-- The exit status for an error of `clap`. For a request for help or for the version, which `clap` reports as an error,
-- the exit status is 0.
abbrev pub kind_status : ErrorKind → ℕ
kind_status OutOfMemory = 3
kind_status DisplayHelp = 0
kind_status DisplayVersion = 0
kind_status kind = 2

-- The exit status for an error of reading the arguments: 3 if an allocation failed, and 2 if an argument is not valid
-- Unicode.
abbrev pub argument_status : io.ErrorKind → ℕ
argument_status kinds.OutOfMemory = 3
argument_status kind = 2
