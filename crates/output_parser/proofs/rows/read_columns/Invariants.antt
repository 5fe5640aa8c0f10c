use Rattle.proof_prelude.proofs.{drop}
use Rattle.output_parser.specs.{EndsIn}
use Rattle.output_parser.proofs.TurnLemmas.{Reads}
use Rattle.output_parser.proofs.rows.read_columns.Given as goal

abbrev pub invariant-loop-i : goal.invariant-loop-i
invariant-loop-i l = Reads EndsIn l.columns l.text l.rest (drop l.i l.columns) l.numbers.items
