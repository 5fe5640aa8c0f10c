use Rattle.proof_prelude.proofs.{ap, ◌≡◌, ◌∙◌, true, Option, Some, List, ℕ, Bor}
use Rattle.clap.specs.Words.{app_of}
use Rattle.clap.specs.Simple.{app_of_fields, on_top}
use Rattle.clap.specs.declared.builder.command.Command.{Command}
use Rattle.clap.specs.declared.builder.command.Command.TheViews.{out-Command}
use Rattle.cli_common.proofs.words.program.Goals as goal

-- texts do not affect parsing
with_about : (x y : Command) (text : Option (Bor (List ℕ))) → out-Command y ≡ record (out-Command x) { about = text } → app_of y ≡ app_of x
with_about x y text e = ap app_of_fields e

with_after_help : (x y : Command) (text : Option (Bor (List ℕ))) → out-Command y ≡ record (out-Command x) { after_help = text } → app_of y ≡ app_of x
with_after_help x y text e = ap app_of_fields e

with_version : (x y : Command) (text : Bor (List ℕ)) → out-Command y ≡ record (out-Command x) { version = Some text } → app_of y ≡ on_top (λ s. record s { has_version = true }) (app_of x)
with_version x y text e = ap app_of_fields e

pub returns : goal.returns
returns c =
    with_after_help c.about.result c.after_help.result _ c.after_help.ensures ∙ with_about c.version.result c.about.result _ c.about.ensures
    ∙ with_version c.new.result c.version.result _ c.version.ensures ∙ ap (on_top (λ s. record s { has_version = true })) c.new.ensures.app
