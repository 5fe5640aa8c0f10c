use Rattle.proof_prelude.proofs.{◌≡◌, Ok, Err, None, List, [], map, refl, sym, ap, subst, ◌∙◌, ◌++◌, flat_map}
use Rattle.couch_base.specs.{RowValue, feed, chosen_feed, tree_of, chosen-all}
use Rattle.doc_json.specs.{Choice}
use Rattle.repl_peer.specs.{PeerValue}
use Rattle.repl_inspect.specs.{census_of, trees}
use Rattle.script_engine.specs.{in_full}
use Rattle.script_databases.specs.declared.refusal.Refusal.TheVariants as why
use Rattle.read_commands.specs.{rows_left, conflict_line, conflicts_left, conflicts_line, FitsConflicts, ConflictsRest}
use Rattle.command_api.proofs.{passes, stops, is_found, is_missing, reads}
use Rattle.read_commands.proofs.{left_found, holds_found, memory_from}
use Rattle.read_commands.proofs.conflicts.ConflictsStreamingCommandRefLine.begin.Goals as goal

pub returns-in_default-clause-told : goal.returns-in_default-clause-told
returns-in_default-clause-told c = in_full (reads (Err why.NoDatabase) (stops _ (is_missing why.NoDatabase (sym c.in_default.ensures))))

pub returns-in_err-db-clause-told : goal.returns-in_err-db-clause-told
returns-in_err-db-clause-told c = memory_from c.args.databases.now c.from_residual.result c.from_residual.ensures.1

pub returns-in_err-block-clause-told : goal.returns-in_err-block-clause-told
returns-in_err-block-clause-told c = memory_from c.args.databases.now c.from_residual-in_err-block.result c.from_residual-in_err-block.ensures.1

pub returns-clause-told : goal.returns-clause-told
returns-clause-told c =
    let rest : ConflictsRest = record { db = c.in_ok-db.db; walk = record { since = 0; chosen = None }; census = c.none.result } in
    let l = c.in-Some._peer.now.1 in
    let left = left_found c.args.databases.now (λ (l : PeerValue). flat_map (conflict_line l.db) (rows_left l.db rest.walk) ++ conflicts_line (census_of (trees l.db))) c.in_ok-db.ensures.ok (sym c.in-Some.ensures) in
    let all = ap (λ (rows : List RowValue). flat_map (conflict_line l.db) rows ++ conflicts_line (census_of (trees l.db))) (chosen-all (feed l.db 0 l.db.update_seq)) in
    in_full (reads (Ok (conflicts_left c.args.databases.now c.in_ok-block.block.value)) (passes _ (is_found why.NoDatabase (sym c.in-Some.ensures)) ∙ ap Ok (sym (ap (conflicts_left c.args.databases.now) c.in_ok-block.ensures.ok ∙ left ∙ all))))

pub returns-clause-fits : goal.returns-clause-fits
returns-clause-fits c =
    subst (FitsConflicts c.args.databases.now) (sym c.in_ok-block.ensures.ok) (holds_found c.args.databases.now (λ (l : PeerValue). (earlier : List RowValue) × (c.none.result ≡ census_of (map (λ (x : RowValue). tree_of l.db.docs x.id) earlier)) × (earlier ++ chosen_feed None l.db 0 l.db.update_seq ≡ chosen_feed None l.db 0 l.db.update_seq) × ◌≡◌ {A = Choice} None None) c.in_ok-db.ensures.ok (sym c.in-Some.ensures) ([], c.none.ensures, refl, refl))
