use Rattle.proof_prelude.proofs.{ap₂, ◌∙◌}
use Rattle.clap.specs.Words.{with_rule}
use Rattle.couch_replicate.proofs.options.command.Goals as goal

pub returns : goal.returns
returns c =
    let one = c.in_ok-arg.ensures.shape c.deny.ensures.local ∙ ap₂ with_rule c.program.ensures c.deny.ensures.rule in
    let two = c.in_ok-arg-2.ensures.shape c.number.ensures.local ∙ ap₂ with_rule one c.number.ensures.rule in
    let three = c.in_ok-arg-3.ensures.shape c.number-2.ensures.local ∙ ap₂ with_rule two c.number-2.ensures.rule in
    let four = c.in_ok-arg-4.ensures.shape c.number-3.ensures.local ∙ ap₂ with_rule three c.number-3.ensures.rule in
    let five = c.in_ok-arg-5.ensures.shape c.number-4.ensures.local ∙ ap₂ with_rule four c.number-4.ensures.rule in
    let six = c.in_ok-arg-6.ensures.shape c.flag.ensures.local ∙ ap₂ with_rule five c.flag.ensures.rule in
    let seven = c.in_ok-arg-7.ensures.shape c.flag-2.ensures.local ∙ ap₂ with_rule six c.flag-2.ensures.rule in
    let eight = c.in_ok-arg-8.ensures.shape c.flag-3.ensures.local ∙ ap₂ with_rule seven c.flag-3.ensures.rule in
    c.in_ok-command.ensures.shape c.hidden_word.ensures.local ∙ ap₂ with_rule eight c.hidden_word.ensures.rule
