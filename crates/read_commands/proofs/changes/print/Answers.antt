use Rattle.proof_prelude.proofs.{◌++◌, ap, ◌∙◌, flat_map}
use Rattle.couch_base.specs.{feed, chosen-all}
use Rattle.command_api.specs.{last_line}
use Rattle.read_commands.specs.{row_line}
use Rattle.command_api.proofs.{two_parts}
use Rattle.read_commands.proofs.changes.print.Goals as goal

pub returns : goal.returns
returns c =
    let db = c.args.database.now in
    let rows = ap (λ rows. c.args.answer.now.items ++ flat_map row_line rows) (chosen-all (feed db c.args.since db.update_seq)) in
    two_parts _ _ _ _ _ (c.in_ok-print_feed.ensures ∙ rows) (c.in_ok-push_last.ensures ∙ ap (λ n. c.print_feed.new.answer.items ++ last_line n) c.update_seq.ensures.seq)
