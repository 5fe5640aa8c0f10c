use Rattle.proof_prelude.proofs.{drop}
use Rattle.output_parser.specs.{IsMember, texts_of}
use Rattle.output_parser.proofs.TurnLemmas.{Reads}
use Rattle.output_parser.proofs.logs.read_values.Given as goal

abbrev pub invariant-loop-i : goal.invariant-loop-i
invariant-loop-i l = Reads IsMember l.members l.text l.rest (drop l.i l.members) (texts_of l.values.items)
