use Rattle.proof_prelude.proofs.{◌≡◌, ◌++◌, Option, sym, subst, OnOk}
use Rattle.rev_tree.specs.{Contradiction}
use Rattle.read_commands.specs.{contradicts_line}
use Rattle.read_commands.proofs.compare.push_contradiction.Goals as goal

pub returns-in-Some : goal.returns-in-Some
returns-in-Some c =
    subst (λ (o : Option Contradiction). OnOk c.push_revs_line.result (c.push_revs_line.new.text.items ≡ c.args.answer.now.items ++ contradicts_line c.args.id.now o))
    (sym c.in-Some.is) c.push_revs_line.ensures
