-- Defines the program's write filter, as specified in docs/PROFILE.md, "Write filters".
use Rattle.std.specs.Prelude.{Bool, false, nat_eq, string_bytes}
use Rattle.std.specs.List.{starts_with}
use Rattle.std.specs.Option.{option_map_or}
use Rattle.doc_json.specs.Document.{Document}
use Rattle.repl_peer.specs.declared.peer.filter.Rules.{Rules}

-- Whether the program's filter refuses document d: the id of d begins with the denied prefix.
abbrev pub rules_refuse : Rules → Document → Bool
rules_refuse rules d = option_map_or (λ prefix. starts_with nat_eq d.id (string_bytes prefix)) rules.deny false
