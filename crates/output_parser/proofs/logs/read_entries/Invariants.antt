use Rattle.proof_prelude.proofs.{length, map}
use Rattle.output_parser.specs.{logged}
use Rattle.output_parser.proofs.{ReadsEntries}
use Rattle.output_parser.proofs.logs.read_entries.Given as goal

abbrev pub invariant-loop-begins : goal.invariant-loop-begins
invariant-loop-begins l = ReadsEntries l.text l.rest (map logged l.entries.items)

abbrev pub decreases-loop-begins : goal.decreases-loop-begins
decreases-loop-begins l = length l.rest
