use Rattle.proof_prelude.proofs.{◌++◌, Ok, Err, refl, ap, ◌∙◌}
use Rattle.script_engine.specs.{in_full, served_only}
use Rattle.script_databases.specs.{name_of}
use Rattle.command_api.proofs.{handed_on, refused_memory}
use Rattle.write_commands.proofs.sync.BothWaysCommandRefLine.serve.Goals as goal

pub returns-in_err-serve_replication : goal.returns-in_err-serve_replication
returns-in_err-serve_replication g c =
    let refusal = c.in_err-serve_replication.field-0.0 in
    handed_on refusal c.from_residual.result _ c.from_residual.ensures.1 (in_full (Err (name_of refusal), c.serve_replication.new.databases, c.in_err-serve_replication.ensures, (refl, refl)))

pub returns-in_err-serve_replication-2 : goal.returns-in_err-serve_replication-2
returns-in_err-serve_replication-2 g c =
    let refusal = c.in_err-serve_replication-2.field-0.0 in
    handed_on refusal c.from_residual-in_err-serve_replication-2.result _ c.from_residual-in_err-serve_replication-2.ensures.1
    (in_full (Ok c.serve_replication.new.answer.items, c.serve_replication.new.databases, c.in_ok-serve_replication.ensures, (c.law.ensures, Err (name_of refusal), c.in_err-serve_replication-2.ensures, refl)))

pub returns-in_err-extend_from_slice : goal.returns-in_err-extend_from_slice
returns-in_err-extend_from_slice g c =
    let first = c.serve_replication.new.answer.items in
    let second = c.serve_replication-2.new.answer.items in
    refused_memory c.from_residual-in_err-extend_from_slice.result _ c.from_residual-in_err-extend_from_slice.ensures.1
    (served_only (first ++ second) (Ok first, c.serve_replication.new.databases, c.in_ok-serve_replication.ensures, (c.law.ensures, Ok second, c.in_ok-serve_replication-2.ensures, refl)))

pub returns : goal.returns
returns g c =
    let first = c.serve_replication.new.answer.items in
    let second = c.serve_replication-2.new.answer.items in
    in_full (Ok first, c.serve_replication.new.databases, c.in_ok-serve_replication.ensures, (c.law.ensures, Ok second, c.in_ok-serve_replication-2.ensures, ap Ok (c.in_ok-extend_from_slice.ensures.items ∙ ap (λ t. first ++ t) c.as_slice.ensures.value)))
