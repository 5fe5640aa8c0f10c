use Rattle.proof_prelude.proofs.{IsPermutation-map, option_map}
use Rattle.diagrams.specs.Drawing.{state_of}
use Rattle.diagrams.proofs.{picture_by}
use Rattle.diagrams.proofs.drawer.Drawer.draw.Goals as goal

pub returns-clause-draws : goal.returns-clause-draws
returns-clause-draws c =
    picture_by c.draw_sorted.result c.args.self.now.form (option_map (λ s. s.now) c.args.self.now.db) c.args.document c.sort.new.self
    c.args.answer.now.items c.draw_sorted.new.answer.items c.requires (IsPermutation-map state_of _ _ c.sort.ensures.leaves) c.sort.ensures.id c.draw_sorted.ensures.draws
