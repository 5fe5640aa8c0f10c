use Rattle.proof_prelude.proofs.{Ok, Err, [], refl, sym, ap, subst, ◌∙◌, string_bytes}
use Rattle.repl_peer.specs.{PeerValue}
use Rattle.script_engine.specs.{in_full}
use Rattle.script_databases.specs.{peer_at}
use Rattle.script_databases.specs.declared.refusal.Refusal.TheVariants as why
use Rattle.read_commands.specs.{left_in, holds_in, compare_left, FitsCompare, Walk, CompareRest}
use Rattle.command_api.proofs.{passes, stops, is_found, is_missing, reads, unless_memory}
use Rattle.read_commands.proofs.{Counted, compare_rest, left_found, holds_found, handed_from, memory_from}
use Rattle.read_commands.proofs.compare.CompareStreamingCommandRefLine.begin.Goals as goal

pub returns-in_default-clause-told : goal.returns-in_default-clause-told
returns-in_default-clause-told c = in_full (reads (Err why.NoDatabase) (stops _ (is_missing why.NoDatabase (sym c.in_default.ensures))))

pub returns-in_default-find-clause-told : goal.returns-in_default-find-clause-told
returns-in_default-find-clause-told c = in_full (reads (Err why.NoDatabase) (passes _ (is_found why.NoDatabase (sym c.in-Some.ensures)) ∙ stops _ (is_missing why.NoDatabase (sym c.in_default-find.ensures))))

pub returns-in_err-chosen-clause-told : goal.returns-in_err-chosen-clause-told
returns-in_err-chosen-clause-told c = handed_from c.args.databases.now c.in_err-chosen.field-0.0 c.from_residual.result c.from_residual.ensures.1 (unless_memory _ c.in_err-chosen.ensures refl (λ e. reads (Err c.in_err-chosen.field-0.0) (passes _ (is_found why.NoDatabase (sym c.in-Some.ensures)) ∙ passes _ (is_found why.NoDatabase (sym c.in-Some-find.ensures)) ∙ stops _ e)))

pub returns-in_err-source-clause-told : goal.returns-in_err-source-clause-told
returns-in_err-source-clause-told c = memory_from c.args.databases.now c.from_residual-in_err-source.result c.from_residual-in_err-source.ensures.1

pub returns-in_err-target-clause-told : goal.returns-in_err-target-clause-told
returns-in_err-target-clause-told c = memory_from c.args.databases.now c.from_residual-in_err-target.result c.from_residual-in_err-target.ensures.1

pub returns-in_err-block-clause-told : goal.returns-in_err-block-clause-told
returns-in_err-block-clause-told c = memory_from c.args.databases.now c.from_residual-in_err-block.result c.from_residual-in_err-block.ensures.1

pub returns-clause-told : goal.returns-clause-told
returns-clause-told c =
    let s = c.args.databases.now in
    let walk : Walk = record { since = 0; chosen = c.in_ok-chosen.chosen } in
    let rest : CompareRest = record { source = c.in_ok-source.source; target = c.in_ok-target.target; walk = walk; total = c.none.result } in
    let a = c.in-Some._source.now.1 in
    let left = left_found s (λ (x : PeerValue). left_in (peer_at s (string_bytes rest.target)) (λ (y : PeerValue). compare_rest x.db y.db walk)) c.in_ok-source.ensures.ok (sym c.in-Some.ensures) ∙ left_found s (λ (y : PeerValue). compare_rest a.db y.db walk) c.in_ok-target.ensures.ok (sym c.in-Some-find.ensures) in
    in_full (reads (Ok (compare_left s c.in_ok-block.block.value)) (passes _ (is_found why.NoDatabase (sym c.in-Some.ensures)) ∙ passes _ (is_found why.NoDatabase (sym c.in-Some-find.ensures)) ∙ passes _ c.in_ok-chosen.ensures ∙ ap Ok (sym (ap (compare_left s) c.in_ok-block.ensures.ok ∙ left))))

pub returns-clause-fits : goal.returns-clause-fits
returns-clause-fits c =
    let s = c.args.databases.now in
    let walk : Walk = record { since = 0; chosen = c.in_ok-chosen.chosen } in
    let a = c.in-Some._source.now.1 in
    subst (FitsCompare s) (sym c.in_ok-block.ensures.ok) (holds_found s (λ (x : PeerValue). holds_in (peer_at s (string_bytes c.in_ok-target.target)) (λ (y : PeerValue). Counted c.none.result x.db y.db walk)) c.in_ok-source.ensures.ok (sym c.in-Some.ensures)
    (holds_found s (λ (y : PeerValue). Counted c.none.result a.db y.db walk) c.in_ok-target.ensures.ok (sym c.in-Some-find.ensures) ([], c.none.ensures, refl)))
