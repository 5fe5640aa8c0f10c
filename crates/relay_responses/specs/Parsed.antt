-- Defines the response that a parsed body gives, and the syntax of the numbers in the body.
use Rattle.std.specs.Prelude.{⊤}
use Rattle.json.specs.Json.{Json}
use Rattle.json.specs.Tree.{HasNumbers}
use Rattle.json.specs.Value.{value_view}
use Rattle.relay_core.specs.Messages.{ResponseView, fault_response}
use Rattle.relay_core.specs.Views.{fault_view}
use Rattle.relay_responses.specs.declared.parsed.Parsed.{Parsed}
use Rattle.relay_responses.specs.declared.parsed.Parsed.TheVariants as parsed

-- The response that the function f computes from the parsed value, or the fault if parsing failed.
abbrev pub response_by : (Json → ResponseView) → Parsed → ResponseView
response_by f (parsed.Json value) = f (value_view value)
response_by f (parsed.Fault fault) = fault_response (fault_view fault)

-- The text of each number in a parsed JSON value has the syntax of a JSON number.
abbrev pub IsWritable : Parsed → Type 0
IsWritable (parsed.Json value) = HasNumbers (value_view value)
IsWritable (parsed.Fault fault) = ⊤
