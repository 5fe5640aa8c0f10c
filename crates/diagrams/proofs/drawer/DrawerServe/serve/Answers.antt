use Rattle.proof_prelude.proofs.{refl, ap, option_map}
use Rattle.script_engine.specs.{in_full}
use Rattle.diagrams.proofs.drawer.DrawerServe.serve.Goals as goal

pub returns-in-Ok-clause-told : goal.returns-in-Ok-clause-told
returns-in-Ok-clause-told c = in_full c.in-Ok.ensures.ok

pub returns-in-Err-clause-refused : goal.returns-in-Err-clause-refused
returns-in-Err-clause-refused c = in_full (refl, c.in-Err.ensures.err.0, c.take_in.ensures.form, ap (option_map (λ s. s.now)) c.take_in.ensures.db, c.in-Err.ensures.err.1)
