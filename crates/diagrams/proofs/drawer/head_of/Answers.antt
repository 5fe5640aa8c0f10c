use Rattle.proof_prelude.proofs.{[]}
use Rattle.diagrams.specs.declared.markup.Markup.TheVariants.{Head}
use Rattle.diagrams.specs.{mark}
use Rattle.diagrams.proofs.{drawn}
use Rattle.diagrams.proofs.drawer.head_of.Goals as goal

pub returns-in-Svg : goal.returns-in-Svg
returns-in-Svg c = drawn (mark Head) [] c.text.result.now c.text.ensures
