use Rattle.proof_prelude.proofs.{ap, ◌∙◌}
use Rattle.rev_core.specs.{is_among}
use Rattle.rev_core.proofs.{list_any_turned}
use Rattle.rev_core.proofs.ancestry.Ancestry.contains.Goals as goal

pub returns : goal.returns
returns c = c.contains.ensures.value ∙ list_any_turned c.args.rev c.deref.result.now ∙ ap (is_among c.args.rev) (c.deref.ensures.value ∙ c.self.view_is)
