use Rattle.proof_prelude.proofs.{◌≡◌, ℕ, List, ◌++◌, drop, Result, Ok, Err}
use Rattle.json_values.specs.{line_items}
use Rattle.script_databases.specs.{Refusal}
use Rattle.command_api.specs.{ids_given, texts_of}
use Rattle.command_api.proofs.given.read_ids.Given as goal

-- ids, and those that follow
abbrev joined : List (List ℕ) → Result (List (List ℕ)) Refusal → Result (List (List ℕ)) Refusal
joined ids (Ok more) = Ok (ids ++ more)
joined ids (Err refusal) = Err refusal

-- the ids so far and those of the rest are all ids
abbrev pub invariant-loop-item : goal.invariant-loop-item
invariant-loop-item l = joined l.ids.items (ids_given (texts_of (line_items (drop l.item-index l.texts)))) ≡ ids_given (texts_of (line_items l.texts))
