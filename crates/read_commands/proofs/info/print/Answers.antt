use Rattle.proof_prelude.proofs.{◌++◌, ℕ, length, ap, ◌∙◌}
use Rattle.couch_base.specs.{DatabaseValue}
use Rattle.repl_inspect.specs.{census_of, trees, Census}
use Rattle.read_commands.specs.{census_part, identity_part, sessions_part}
use Rattle.command_api.proofs.{two_parts}
use Rattle.read_commands.proofs.info.print.Goals as goal

pub returns : goal.returns
returns c =
    let old = c.args.answer.now.items in
    let name = c.args.name.now in
    let db = c.db-database.ensures.value in
    let identity = ap (λ (d : DatabaseValue). old ++ identity_part name d) db in
    let census = ap (λ (n : Census). c.push_identity.new.answer.items ++ census_part n) (c.in_ok-census.ensures ∙ ap (λ (d : DatabaseValue). census_of (trees d)) db) in
    let sessions = ap (λ (n : ℕ). c.push_census.new.answer.items ++ sessions_part n) c.session_count.ensures in
    let l = c.args.peer.now.1 in
    let a = identity_part name l.db in
    let b = census_part (census_of (trees l.db)) in
    let s = sessions_part (length l.sessions) in
    two_parts old c.push_identity.new.answer.items c.push_sessions.new.answer.items a (b ++ s) (c.in_ok-push_identity.ensures ∙ identity)
    (two_parts c.push_identity.new.answer.items c.push_census.new.answer.items c.push_sessions.new.answer.items b s (c.in_ok-push_census.ensures ∙ census) (c.in_ok-push_sessions.ensures ∙ sessions))
