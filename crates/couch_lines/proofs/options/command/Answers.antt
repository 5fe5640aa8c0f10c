use Rattle.proof_prelude.proofs.{ap₂, ◌∙◌}
use Rattle.clap.specs.Words.{with_rule}
use Rattle.couch_lines.proofs.options.command.Goals as goal

pub returns : goal.returns
returns c =
    let one = c.in_ok-arg.ensures.shape c.first_word.ensures.local ∙ ap₂ with_rule c.program.ensures c.first_word.ensures.rule in
    let two = c.in_ok-arg-2.ensures.shape c.second_word.ensures.local ∙ ap₂ with_rule one c.second_word.ensures.rule in
    let three = c.in_ok-arg-3.ensures.shape c.hidden_word.ensures.local ∙ ap₂ with_rule two c.hidden_word.ensures.rule in
    let four = c.in_ok-arg-4.ensures.shape c.flag.ensures.local ∙ ap₂ with_rule three c.flag.ensures.rule in
    c.in_ok-command.ensures.shape c.flag-2.ensures.local ∙ ap₂ with_rule four c.flag-2.ensures.rule
