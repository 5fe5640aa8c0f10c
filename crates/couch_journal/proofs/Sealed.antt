-- The task `seal`.
use Rattle.proof_prelude.proofs.{◌≡◌, inl, ℕ, suc, ◌+◌, List, [], Option, None, Some, option_map, Ok, Err, Appends, refl, sym, ap, ◌∙◌, add-one}
use Rattle.line_reader.specs.{joined}
use Rattle.journal_core.specs.{HasSealed}
use Rattle.script_engine.specs.{ScriptFault}
use Rattle.couch_journal.specs.Runs.{RunsSeal}
use Rattle.couch_journal.specs.declared.ended.Outcome.TheVariants as outcomes

-- the block is sealed
pub seal_done : (chain seq : List ℕ) (all : Type 0) (taken taken' held held' : Option (List ℕ)) → all → HasSealed chain seq taken taken' held held' None
    → (input : List ℕ) × (text : List ℕ) × Appends taken taken' input × Appends held held' text × RunsSeal chain seq all input text (Ok outcomes.Done)
seal_done chain seq all taken taken' held held' at s = (joined s.lines, _, s.gives, s.written, (at, (s.lines, refl, s.body, refl)))

-- a line is wrong
pub seal_wrong : (chain seq : List ℕ) (all : Type 0) (taken taken' held held' : Option (List ℕ)) (count line : ℕ) → line ≡ count + 1 → all → HasSealed chain seq taken taken' held held' (Some count)
    → (input : List ℕ) × (text : List ℕ) × Appends taken taken' input × Appends held held' text × RunsSeal chain seq all input text (Ok (outcomes.Wrong line))
seal_wrong chain seq all taken taken' held held' count line e at s =
    (s.input, [], s.gives, s.nothing, (at, (refl, (s.lines, s.rest, s.splits, ap (option_map suc) s.wrong ∙ ap Some (sym (add-one count) ∙ sym e)))))

-- a count is at its maximum
pub seal_over : (chain seq : List ℕ) (all : Type 0) (taken taken' held held' : Option (List ℕ)) (count : ℕ) (fault : ScriptFault) → HasSealed chain seq taken taken' held held' (Some count)
    → (input : List ℕ) × (text : List ℕ) × Appends taken taken' input × Appends held held' text × RunsSeal chain seq all input text (Err fault)
seal_over chain seq all taken taken' held held' count fault s = (s.input, [], s.gives, s.nothing, inl refl)
