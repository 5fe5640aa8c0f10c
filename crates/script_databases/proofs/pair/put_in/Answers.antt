use Rattle.proof_prelude.proofs.{is_some, sym, ap, ◌∙◌, rules, true≢false}
use Rattle.script_databases.proofs.{has_at, one_updated, still_there, two_updated}
use Rattle.script_databases.proofs.pair.put_in.Goals as goal

pub unreachable-requires : goal.unreachable-requires
unreachable-requires c = true≢false (sym c.requires.source ∙ has_at c.args.names.now.entries c.args.source.now ∙ ap is_some (sym c.in_default.ensures.value))

pub unreachable-requires-in_default-get_mut : goal.unreachable-requires-in_default-get_mut
unreachable-requires-in_default-get_mut c =
    let es = c.args.names.now in
    let mid = c.get_mut.follows.lender c.args.sender in
    let one = one_updated es mid c.args.source.now c.args.sender ((c.get_mut.follows.holds c.args.sender).3 (search rules)) in
    true≢false (sym (still_there es.entries mid.entries c.args.source.now c.args.target.now c.args.sender one (sym (has_at es.entries c.args.target.now) ∙ c.requires.target)) ∙ ap is_some (sym c.in_default-get_mut.ensures.value))

pub returns : goal.returns
returns c =
    two_updated c.args.names.now (c.get_mut.follows.lender c.args.sender) (c.get_mut-2.follows.lender c.args.receiver) c.args.source.now c.args.target.now c.args.sender c.args.receiver
    ((c.get_mut.follows.holds c.args.sender).3 (search rules)) ((c.get_mut-2.follows.holds c.args.receiver).3 (search rules))
