use Rattle.json_values.specs.{line_view}
use Rattle.json_values.proofs.{part_found}
use Rattle.json_values.proofs.line_part.Line.get.Goals as goal

pub invariant_of-result : goal.invariant_of-result
invariant_of-result c =
    let a = c.self.inside in
    part_found a.plain c.args.name.now (line_view a.value) (line_view c.in-Some.value.now) c.in-Some.ensures c.self.invariant.0 c.self.invariant.1
