use Rattle.proof_prelude.proofs.{arith, option_map, refl}
use Rattle.journal_lines.specs.Leafs.{head_view}
use Rattle.journal_tasks.proofs.{first_step, opening_more}
use Rattle.journal_tasks.proofs.select.Select.first_line.Goals as goal

pub returns : goal.returns
returns c = λ choice lines text k.
    first_step choice lines text c.args.line.now c.args.self.now _ c.end_first.new.self k c.requires c.in_ok-end_first.ensures
    (λ o. opening_more choice lines c.args.line.now c.args.self.now _ (option_map head_view c.in_ok-leaf.leaf) o refl c.in_ok-leaf.ensures c.in_ok-note_number.ensures (omega (arith, c.in_ok-self.ensures, c.in_ok-bytes.ensures)) c.hash_line.ensures refl refl refl refl)
