use Rattle.proof_prelude.proofs.{◌≡◌, sym, ap, ◌∙◌, option_copied, IfOk-weaker}
use Rattle.repl_log.specs.{log_in, log_in-found, log_in-absent}
use Rattle.repl_log.proofs.logs.Logs.copy_of.Goals as goal

pub returns-in-Some : goal.returns-in-Some
returns-in-Some c =
    let there = sym c.get.ensures.value ∙ ap option_copied c.in-Some.is in
    let found = sym (log_in-found c.args.rep.now c.self.inside.logs.entries c.in-Some.log.now there) ∙ ap (λ l. log_in l c.args.rep.now) c.self.view_is in
    record { log = IfOk-weaker c.copy.result (λ l. l ≡ c.in-Some.log.now) (λ l. l ≡ log_in c.args.self.now c.args.rep.now) (λ l h. h ∙ found) c.copy.ensures.copied }

pub returns-in-None : goal.returns-in-None
returns-in-None c =
    let there = sym c.get.ensures.value ∙ ap option_copied c.in-None.is in
    let absent = sym (log_in-absent c.args.rep.now c.self.inside.logs.entries there) ∙ ap (λ l. log_in l c.args.rep.now) c.self.view_is in
    record { log = c.new.ensures.value ∙ absent }
