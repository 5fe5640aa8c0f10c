-- The outcome of the tasks that find what is missing.
use Rattle.proof_prelude.proofs.{◌≡◌, ℕ, Bool, List, Option, None, Some, is_none, refl, ap, ap₂, ◌∙◌}
use Rattle.journal_tasks.specs.Missing.{HasLacked, missing_in_input, wrong_diffed}
use Rattle.journal_tasks.specs.Receiving.{HasReceived, lacks_any, wrong_received}
use Rattle.journal_tasks.specs.declared.lacking.Lacking.{Lacking}
use Rattle.journal_tasks.specs.declared.received.Received.{Received}
use Rattle.couch_journal.specs.Status.{missing_or_done, other_or_done, wrong_or}
use Rattle.couch_journal.specs.declared.ended.Outcome.{Outcome}

-- a wrong line hides what is missing
hidden : (wrong : Option ℕ) (a b : Bool) → (wrong ≡ None → a ≡ b) → wrong_or wrong (missing_or_done a) ≡ wrong_or wrong (missing_or_done b)
hidden None a b e = ap missing_or_done (e refl)
hidden (Some line) a b e = refl

pub received_outcome : (only : Bool) (lines : List (List ℕ)) (rest text : List ℕ) (task : Received) (wrong : Option ℕ) (lacks : Bool) (otherwise result : Outcome) → HasReceived only lines rest text task → wrong ≡ task.count.wrong → lacks ≡ task.lacks → otherwise ≡ missing_or_done lacks → result ≡ wrong_or wrong otherwise
    → result ≡ wrong_or (wrong_received lines rest) (missing_or_done (lacks_any lines))
received_outcome only lines rest text task wrong lacks otherwise result h w l o r =
    r ∙ ap₂ wrong_or w (o ∙ ap missing_or_done l) ∙ hidden task.count.wrong task.lacks (lacks_any lines) h.lacks ∙ ap (λ z. wrong_or z (missing_or_done (lacks_any lines))) h.wrong

other_hidden : (wrong : Option ℕ) (a b : Bool) → (wrong ≡ None → a ≡ b) → wrong_or wrong (other_or_done a) ≡ wrong_or wrong (other_or_done b)
other_hidden None a b e = ap other_or_done (e refl)
other_hidden (Some line) a b e = refl

pub lacking_outcome : (lines : List (List ℕ)) (rest text : List ℕ) (task : Lacking) (wrong : Option ℕ) (refused : Bool) (otherwise result : Outcome) → HasLacked lines rest text task → wrong ≡ task.count.wrong → refused ≡ task.refused → otherwise ≡ other_or_done refused → result ≡ wrong_or wrong otherwise
    → result ≡ wrong_or (wrong_diffed lines rest) (other_or_done (is_none (missing_in_input lines rest)))
lacking_outcome lines rest text task wrong refused otherwise result h w l o r =
    r ∙ ap₂ wrong_or w (o ∙ ap other_or_done l) ∙ other_hidden task.count.wrong task.refused (is_none (missing_in_input lines rest)) h.refused ∙ ap (λ z. wrong_or z (other_or_done (is_none (missing_in_input lines rest)))) h.wrong
