use Rattle.proof_prelude.proofs.{◌≡◌, ℕ, List, Bool, Result, refl, ap, subst, ◌∙◌}
use Rattle.script_engine.specs.{ScriptFault}
use Rattle.script_engine.proofs.StreamLemmas.{none_known, same_known}
use Rattle.script_databases.specs.{Program, program_of}
use Rattle.commands.specs.{Prints}
use Rattle.commands.proofs.{prints}
use Rattle.script_runner.specs.{default_program}
use Rattle.script_runner.proofs.run_standard.Goals as goal

-- the settings are the default ones
by_default : (program : Program) (E : Type 0) (input text : List ℕ) (r : Result Bool ScriptFault) → program ≡ default_program → Prints program input E text r → Prints default_program input E text r
by_default program E input text r e h = subst (λ (p : Program). Prints p input E text r) e h

pub returns : goal.returns
returns g c =
    let ran = c.run_script-ended.ensures in
    let r = c.run_script-ended.result in
    let told = prints _ _ r _ _ _ _ _ (none_known c.new-reader.ensures.none_taken) (c.in_ok-writer.ensures.held ∙ none_known c.new.ensures) c.into_inner.ensures.held (same_known r _ c.into_inner.ensures.sent ran.sent) ran.took ran.ended ran.took_until ran.took_in in
    (_, _, refl, refl, by_default (program_of c.new-3.result) _ c.run_script-ended.new.reader.taken.bytes c.into_inner.result.accepted.bytes r (ap program_of c.new-3.ensures) told)
