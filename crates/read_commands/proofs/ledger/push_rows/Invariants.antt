-- The rows so far have been printed.
use Rattle.proof_prelude.proofs.{◌≡◌, ◌++◌, take, flat_map}
use Rattle.read_commands.specs.{refused_line}
use Rattle.read_commands.proofs.ledger.push_rows.Given as goal

abbrev pub invariant-loop-row : goal.invariant-loop-row
invariant-loop-row l = l.answer.items ≡ l.fn.answer.items ++ flat_map refused_line (take l.row-index l.rows)
