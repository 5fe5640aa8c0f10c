-- The rest of a comparison of two existing databases.
use Rattle.proof_prelude.proofs.{◌≡◌, ℕ, List, ◌++◌, flat_map}
use Rattle.couch_base.specs.{DatabaseValue, RowValue}
use Rattle.repl_inspect.specs.{comparisons, total_of, Total}
use Rattle.read_commands.specs.{rows_left, rows_walked, compared_line, compared_lines, Walk}

abbrev pub compare_rest : DatabaseValue → DatabaseValue → Walk → List ℕ
compare_rest d t walk = flat_map (compared_lines d t) (rows_left d walk) ++ compared_line (total_of (comparisons d t (rows_walked d walk)))

abbrev pub Counted : Total → DatabaseValue → DatabaseValue → Walk → Type 0
Counted total d t walk = (earlier : List RowValue) × (total ≡ total_of (comparisons d t earlier)) × (earlier ++ rows_left d walk ≡ rows_walked d walk)
