use Rattle.std.proofs.Common.{Some}
use Rattle.json.specs.Value.{value_view}
use Rattle.relay_responses.proofs.Bodies.{json_in-not_utf8, json_in-utf8}
use Rattle.relay_responses.proofs.parsed.value_of.Goals as goal

pub returns-in_default-clause-value : goal.returns-in_default-clause-value
returns-in_default-clause-value c = json_in-not_utf8 c.args.body.now c.in_default.ensures.cases.0

pub returns-in-Ok-parse-clause-value : goal.returns-in-Ok-parse-clause-value
returns-in-Ok-parse-clause-value c =
    json_in-utf8 c.args.body.now c.in-Ok.text.now (Some (value_view c.in-Ok-parse.value)) c.in-Ok.ensures.cases.0 c.in-Ok.ensures.cases.1 c.in-Ok-parse.ensures.ok
