-- Defines the contents of a server's response, or the reason why the response is not the requested one.
use Rattle.std.specs.Prelude.{◌≡◌, ℕ, List, Option, None, Some, codes, option_and_then, string_bytes, ⊤}
use Rattle.json.specs.Json.{Json, document}
use Rattle.journal_lines.specs.Texts.{text_in}
use Rattle.journal_responses.specs.Members.{both, text_at}
use Rattle.journal_responses.specs.declared.said.Said.{Said}
use Rattle.journal_responses.specs.declared.said.Said.TheVariants.{Error, NotJson, Other, Memory}

-- The JSON value of a response, if the response is JSON in UTF-8.
abbrev pub response_in : List ℕ → Option Json
response_in body = option_and_then document (text_in body)

-- The error of reading a server's response. The error is `NotJson` only if the response has no JSON value. The error
-- `Memory` is possible for every response.
abbrev pub IsUnread : Option Json → Said → Type 0
IsUnread value (Error error reason) = ⊥
IsUnread value NotJson = value ≡ None
IsUnread value Other = ⊥
IsUnread value Memory = ⊤

-- The members `error` and `reason` of an error of CouchDB, if both are strings.
abbrev pub error_in : Json → Option (List ℕ × List ℕ)
error_in j = both (text_at (codes "error") j) (text_at (codes "reason") j)

abbrev pub IsErrorOf : List ℕ → List ℕ → Said → Type 0
IsErrorOf error reason (Error e r) = (string_bytes e ≡ error) × (string_bytes r ≡ reason)
IsErrorOf error reason NotJson = ⊥
IsErrorOf error reason Other = ⊥
IsErrorOf error reason Memory = ⊥

-- The error for a JSON value that is not the requested response. If the error is `Error`, the JSON value is an error of
-- CouchDB. If the error is `Other`, the JSON value is not an error of CouchDB. The error `Memory` (an allocation
-- failed) is possible for every JSON value.
abbrev pub IsSaid : Json → Said → Type 0
IsSaid j (Error error reason) = error_in j ≡ Some (string_bytes error, string_bytes reason)
IsSaid j NotJson = ⊥
IsSaid j Other = error_in j ≡ None
IsSaid j Memory = ⊤

-- The error is not `Memory`, but says that a server's response is not the requested response.
abbrev pub IsOther : Said → Type 0
IsOther (Error error reason) = ⊤
IsOther NotJson = ⊤
IsOther Other = ⊤
IsOther Memory = ⊥
