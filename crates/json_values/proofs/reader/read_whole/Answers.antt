use Rattle.proof_prelude.proofs.{◌≡◌, ◌≤◌, [], Some, sym, subst, arith, rules}
use Rattle.serde_json.specs.Data.{depth}
use Rattle.serde_json.specs.Read.{max_depth, read}
use Rattle.serde_json.proofs.Nesting.{depth-read}
use Rattle.json_values.specs.{IsOrdered, line_view}
use Rattle.json_values.proofs.{ordered-read, read-all, some_text}
use Rattle.json_values.proofs.reader.read_whole.Goals as goal

pub returns-in_err-value-clause-memory : goal.returns-in_err-value-clause-memory
returns-in_err-value-clause-memory c full = some_text c.args.text.now (rw c.new-reader.ensures at (c.read_value.ensures.memory (grind arith)))

pub new-requires-clause-order : goal.new-requires-clause-order
new-requires-clause-order c =
    let none : c.read_value.new.reader.tokens ≡ [] = search rules in
    ordered-read c.args.text.now _ (read-all c.args.text.now _ (rw (c.new-reader.ensures, none) at c.in_ok-value.ensures.ok))

pub returns-clause-nests : goal.returns-clause-nests
returns-clause-nests c =
    let none : c.read_value.new.reader.tokens ≡ [] = search rules in
    let all : read c.args.text.now ≡ Some (line_view c.in_ok-value.value) = read-all c.args.text.now _ (rw (c.new-reader.ensures, none) at c.in_ok-value.ensures.ok) in
    subst (λ v. depth (line_view v) ≤ max_depth) (sym c.new.ensures) (depth-read c.args.text.now _ all)

pub returns-clause-ordered : goal.returns-clause-ordered
returns-clause-ordered c =
    let none : c.read_value.new.reader.tokens ≡ [] = search rules in
    let all : read c.args.text.now ≡ Some (line_view c.in_ok-value.value) = read-all c.args.text.now _ (rw (c.new-reader.ensures, none) at c.in_ok-value.ensures.ok) in
    subst (λ v. IsOrdered (line_view v)) (sym c.new.ensures) (ordered-read c.args.text.now _ all)
