-- Encodes the JSON values of lines, so that proofs can decide whether two values are equal.
use Rattle.std.specs.Coded.{Coded}
use denote.Signature.{static_lft}
use Rattle.json_values.specs.declared.line.LineValue.{LineValue}
use Rattle.json_values.specs.contracts.line.LineValue as line_value

abbrev pub line_value_code : Coded LineValue
line_value_code = (line_value.the_row static_lft).coded
