use Rattle.proof_prelude.proofs.{[], ◌∷◌, ◌++◌, codes}
use Rattle.rev_core.specs.{rev_text}
use Rattle.read_commands.specs.{parents_part, rev_part}
use Rattle.command_api.proofs.{two_parts}
use Rattle.read_commands.proofs.ledger.push_contradicted.Goals as goal

pub returns : goal.returns
returns c =
    let old = c.args.answer.now.items in
    let a = rev_part (codes "contradicted") c.args.id.now (rev_text c.args.rev) in
    let b = parents_part (rev_text c.args.known) (rev_text c.args.given) in
    let both = two_parts old c.push_rev_of.new.answer.items c.push_parents.new.answer.items a b c.in_ok-push_rev_of.ensures c.in_ok-push_parents.ensures in
    two_parts old c.push_parents.new.answer.items c.extend_from_slice.new.self.items (a ++ b) (10 ∷ []) both c.in_ok-extend_from_slice.ensures.items
