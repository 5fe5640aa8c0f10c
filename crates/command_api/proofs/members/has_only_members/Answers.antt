-- An object's keys are those of its view.
use Rattle.proof_prelude.proofs.{map, ap, ◌∙◌, false, option_map_or}
use Rattle.command_api.specs.{all_among}
use Rattle.command_api.proofs.{all_among-keys}
use Rattle.command_api.proofs.members.has_only_members.Goals as goal

pub returns-in-Some : goal.returns-in-Some
returns-in-Some c =
    c.are_all_among.ensures ∙ all_among-keys c.args.keys.now c.in-Some.members.now
    ∙ ap (λ o. option_map_or (all_among (map (λ x. x.now) c.args.keys.now)) o false) c.in-Some.ensures
