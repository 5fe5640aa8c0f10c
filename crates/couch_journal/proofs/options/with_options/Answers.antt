use Rattle.proof_prelude.proofs.{ap, ap₂, ◌∙◌}
use Rattle.clap.specs.Words.{with_rule, app_of}
use Rattle.couch_journal.proofs.options.with_options.Goals as goal

pub returns : goal.returns
returns c =
    let one = c.in_ok-arg.ensures.shape c.text.ensures.local ∙ ap (with_rule (app_of c.args.command)) c.text.ensures.rule in
    let two = c.in_ok-arg-2.ensures.shape c.text-2.ensures.local ∙ ap₂ with_rule one c.text-2.ensures.rule in
    let three = c.in_ok-arg-3.ensures.shape c.flag.ensures.local ∙ ap₂ with_rule two c.flag.ensures.rule in
    let four = c.in_ok-arg-4.ensures.shape c.flag-2.ensures.local ∙ ap₂ with_rule three c.flag-2.ensures.rule in
    let five = c.in_ok-arg-5.ensures.shape c.flag-3.ensures.local ∙ ap₂ with_rule four c.flag-3.ensures.rule in
    c.in_ok-command.ensures.shape c.flag-4.ensures.local ∙ ap₂ with_rule five c.flag-4.ensures.rule
