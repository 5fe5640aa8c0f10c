use Rattle.proof_prelude.proofs.{Ok, Err, refl, sym, ap, ◌∙◌, ◌++◌, flat_map}
use Rattle.repl_peer.specs.{PeerValue}
use Rattle.script_engine.specs.{in_full}
use Rattle.script_databases.specs.declared.refusal.Refusal.TheVariants as why
use Rattle.command_api.specs.{last_line}
use Rattle.read_commands.specs.{rows_left, docs_left, leaf_lines, DocsRest}
use Rattle.command_api.proofs.{passes, stops, is_found, is_missing, reads, unless_memory}
use Rattle.read_commands.proofs.{left_found, handed_from, memory_from}
use Rattle.read_commands.proofs.docs.DocsStreamingCommandRefLine.begin.Goals as goal

pub returns-in_default-clause-told : goal.returns-in_default-clause-told
returns-in_default-clause-told c = in_full (reads (Err why.NoDatabase) (stops _ (is_missing why.NoDatabase (sym c.in_default.ensures))))

pub returns-in_err-chosen-clause-told : goal.returns-in_err-chosen-clause-told
returns-in_err-chosen-clause-told c = handed_from c.args.databases.now c.in_err-chosen.field-0.0 c.from_residual.result c.from_residual.ensures.1 (unless_memory _ c.in_err-chosen.ensures refl (λ e. reads (Err c.in_err-chosen.field-0.0) (passes _ (is_found why.NoDatabase (sym c.in-Some.ensures)) ∙ stops _ e)))

pub returns-in_err-db-clause-told : goal.returns-in_err-db-clause-told
returns-in_err-db-clause-told c = memory_from c.args.databases.now c.from_residual-in_err-db.result c.from_residual-in_err-db.ensures.1

pub returns-in_err-block-clause-told : goal.returns-in_err-block-clause-told
returns-in_err-block-clause-told c = memory_from c.args.databases.now c.from_residual-in_err-block.result c.from_residual-in_err-block.ensures.1

pub returns-clause-told : goal.returns-clause-told
returns-clause-told c =
    let rest : DocsRest = record { db = c.in_ok-db.db; walk = record { since = c.args.self.now.since; chosen = c.in_ok-chosen.chosen } } in
    let left = left_found c.args.databases.now (λ (l : PeerValue). flat_map (leaf_lines l.db) (rows_left l.db rest.walk) ++ last_line l.db.update_seq) c.in_ok-db.ensures.ok (sym c.in-Some.ensures) in
    in_full (reads (Ok (docs_left c.args.databases.now c.in_ok-block.block.value)) (passes _ (is_found why.NoDatabase (sym c.in-Some.ensures)) ∙ passes _ c.in_ok-chosen.ensures ∙ ap Ok (sym (ap (docs_left c.args.databases.now) c.in_ok-block.ensures.ok ∙ left))))
