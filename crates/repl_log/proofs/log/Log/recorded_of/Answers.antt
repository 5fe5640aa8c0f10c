use Rattle.proof_prelude.proofs.{Some, None, sym, ap, ◌∙◌, option_copied}
use Rattle.repl_log.proofs.{recorded_of-lookup}
use Rattle.repl_log.proofs.log.Log.recorded_of.Goals as goal

pub returns-in_err-entry : goal.returns-in_err-entry
returns-in_err-entry c =
    let is = sym c.get.ensures.value ∙ ap option_copied c.in_err-entry.was in
    rw (← c.self.view_is) (c.from_residual.ensures ∙ sym (recorded_of-lookup c.self.inside.entries.entries c.args.session c.self.invariant.1 c.len-len.ensures.unique None is))

pub returns : goal.returns
returns c =
    let is = sym c.get.ensures.value ∙ ap option_copied c.in_ok-entry.was in
    rw (← c.self.view_is) (sym (recorded_of-lookup c.self.inside.entries.entries c.args.session c.self.invariant.1 c.len-len.ensures.unique (Some c.in_ok-entry.entry.now) is))
