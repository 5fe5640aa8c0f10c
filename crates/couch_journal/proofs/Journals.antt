-- The tasks that read journals.
use Rattle.proof_prelude.proofs.{◌≡◌, ◌⊎◌, inl, inr, ℕ, Bool, true, false, ◌&&◌, ◌||◌, not, nat_eq, is_none, is_some, if◌then◌else◌, Appends, Appends-nil, List, [], length, All-nil, Option, Result, Err, refl, sym, subst, ap, ap₂, ◌∙◌, append-nil}
use Rattle.script_engine.specs.{ScriptFault}
use Rattle.script_engine.specs.Lines.{has_line_end}
use Rattle.line_reader.specs.{Ended, HasPrintedPart, Kept}
use Rattle.journal_core.specs.{IsAt, Place, is_confirmed, place_after}
use Rattle.journal_tasks.specs.Confirming.{HasConfirmed, is_not_found, is_without_sums}
use Rattle.journal_tasks.specs.declared.confirm.Confirm.{Confirm}
use Rattle.journal_tasks.specs.Selecting.{Choice, HasSelected, first_copy, is_copy_damaged, is_copy_other, lacks_chosen, prints, second_copy, selected_text}
use Rattle.journal_tasks.specs.declared.select.Select.{Select}
use Rattle.journal_tasks.specs.Stating.{HasStated, is_damaged, place_of, wrong_in}
use Rattle.journal_tasks.specs.declared.states.States.{States}
use Rattle.couch_journal.specs.Runs.{RunsConfirm, RunsLines, RunsSelect, select_outcome}
use Rattle.couch_journal.specs.Status.{confirm_outcome, damaged_or, differs_or, missing_or_done, wrong_or}
use Rattle.couch_journal.specs.declared.ended.Outcome.{Outcome}
use Rattle.couch_journal.specs.declared.ended.Outcome.TheVariants as outcomes
use Rattle.couch_journal.proofs.Lines.{lines_part}

-- nothing was printed, or a part
pub nothing_printed : {S : Type 0} (kept : Kept S) (ended : Ended S) (prints : List (List ℕ) → List ℕ) (output : List (List ℕ) → List ℕ → List ℕ) (outcome : List (List ℕ) → List ℕ → Outcome) (all : Type 0) (input text : List ℕ) (fault : ScriptFault) → prints [] ≡ []
    → ((lines : List (List ℕ)) (t : List ℕ) (state : S) → kept lines t state → t ≡ prints lines) → ((lines : List (List ℕ)) (rest t : List ℕ) (state : S) → ended lines rest t state → t ≡ output lines rest) → (text ≡ []) ⊎ HasPrintedPart kept ended all input text
    → RunsLines prints output outcome all input text (Err fault)
nothing_printed kept ended prints output outcome all input text fault none f g (inl e) = inl ([], input, [], refl, All-nil (λ line. has_line_end line ≡ false), append-nil text ∙ e ∙ sym none)
nothing_printed kept ended prints output outcome all input text fault none f g (inr part) = lines_part kept ended prints output outcome all input text fault f g part

-- damage hides a wrong line
hidden : (damaged : Bool) (n : ℕ) (wrong wrong' : Option ℕ) (f : Option ℕ → Outcome) → (damaged ≡ false → wrong ≡ wrong') → damaged_or damaged n (f wrong) ≡ damaged_or damaged n (f wrong')
hidden true n wrong wrong' f e = refl
hidden false n wrong wrong' f e = ap f (e refl)

pub states_outcome : (unverified : Bool) (lines : List (List ℕ)) (rest text : List ℕ) (task : States) (damaged : Bool) (count : ℕ) (wrong : Option ℕ) (otherwise result : Outcome) → HasStated unverified lines rest text task → damaged ≡ task.journal.damaged
    → ((place : Place) → IsAt task.journal.blocks place → count ≡ length place.confirmed) → wrong ≡ task.journal.count.wrong → otherwise ≡ wrong_or wrong outcomes.Done → result ≡ damaged_or damaged count otherwise
    → result ≡ damaged_or (is_damaged unverified lines rest) (length (place_of unverified lines).confirmed) (wrong_or (wrong_in lines rest) outcomes.Done)
states_outcome unverified lines rest text task damaged count wrong otherwise result h d n w o r =
    let is = is_damaged unverified lines rest in
    r ∙ ap (damaged_or damaged count) (o ∙ ap (λ z. wrong_or z outcomes.Done) w) ∙ ap (λ b. damaged_or b count (wrong_or task.journal.count.wrong outcomes.Done)) (d ∙ h.damaged) ∙ ap (λ z. damaged_or is z (wrong_or task.journal.count.wrong outcomes.Done)) (n (place_of unverified lines) h.place)
    ∙ hidden is (length (place_of unverified lines).confirmed) task.journal.count.wrong (wrong_in lines rest) (λ z. wrong_or z outcomes.Done) h.wrong

-- damage hides what else was found
all_hidden : (damaged : Bool) (n : ℕ) (w w' : Option ℕ) (d d' m m' : Bool) → (damaged ≡ false → w ≡ w') → (damaged ≡ false → d ≡ d') → (damaged ≡ false → m ≡ m')
    → damaged_or damaged n (wrong_or w (differs_or d (missing_or_done m))) ≡ damaged_or damaged n (wrong_or w' (differs_or d' (missing_or_done m')))
all_hidden true n w w' d d' m m' e f g = refl
all_hidden false n w w' d d' m m' e f g = ap₂ wrong_or (e refl) (ap₂ differs_or (f refl) (ap missing_or_done (g refl)))

pub selected_outcome : (choice : Choice) (lines : List (List ℕ)) (rest text : List ℕ) (task : Select) (damaged differs missing : Bool) (count : ℕ) (wrong : Option ℕ) (done found otherwise result : Outcome) → HasSelected choice lines rest text task → damaged ≡ task.damaged
    → ((place : Place) → IsAt task.journal.blocks place → count ≡ length place.confirmed) → wrong ≡ task.journal.count.wrong → differs ≡ task.differs → missing ≡ task.lacks → done ≡ missing_or_done missing → found ≡ differs_or differs done → otherwise ≡ wrong_or wrong found → result ≡ damaged_or damaged count otherwise
    → result ≡ select_outcome choice (first_copy choice.size lines) (second_copy choice.size lines) rest
selected_outcome choice lines rest text task damaged differs missing count wrong done found otherwise result h d n w f m e i o r =
    let first = first_copy choice.size lines in
    let is = is_copy_damaged choice first in
    let all : otherwise ≡ wrong_or task.journal.count.wrong (differs_or task.differs (missing_or_done task.lacks)) = o ∙ ap₂ wrong_or w (i ∙ ap₂ differs_or f (e ∙ ap missing_or_done m)) in
    r ∙ ap (damaged_or damaged count) all ∙ ap (λ b. damaged_or b count (wrong_or task.journal.count.wrong (differs_or task.differs (missing_or_done task.lacks)))) (d ∙ h.damaged)
    ∙ ap (λ z. damaged_or is z (wrong_or task.journal.count.wrong (differs_or task.differs (missing_or_done task.lacks)))) (n (place_of choice.unverified first) h.place)
    ∙ all_hidden is (length (place_of choice.unverified first).confirmed) task.journal.count.wrong (wrong_in first []) task.differs (is_copy_other first (second_copy choice.size lines) rest) task.lacks (lacks_chosen choice first) h.wrong h.differs h.lacks

abbrev nil : List ℕ
nil = []

either_nothing : (b : Bool) → (if b then nil else nil) ≡ nil
either_nothing true = refl
either_nothing false = refl

pub selected_nothing : (choice : Choice) → selected_text choice [] ≡ []
selected_nothing choice = either_nothing (prints choice [])

-- the filter of the options
pub select_ran : (choice given : Choice) (all : Type 0) (taken taken' held held' : Option (List ℕ)) (r : Result Outcome ScriptFault) → given ≡ choice → (input : List ℕ) × (text : List ℕ) × Appends taken taken' input × Appends held held' text × RunsSelect given all input text r
    → (input : List ℕ) × (text : List ℕ) × Appends taken taken' input × Appends held held' text × RunsSelect choice all input text r
select_ran choice given all taken taken' held held' r e t = (t.0, t.1, t.2, t.3, subst (λ z. RunsSelect z all t.0 t.1 r) e t.4)

-- no byte went through
pub select_failed : (choice : Choice) (all : Type 0) (taken held : Option (List ℕ)) (fault : ScriptFault) → (input : List ℕ) × (text : List ℕ) × Appends taken taken input × Appends held held text × RunsSelect choice all input text (Err fault)
select_failed choice all taken held fault = ([], [], Appends-nil taken, Appends-nil held, inl ([], [], [], refl, All-nil (λ line. has_line_end line ≡ false), sym (selected_nothing choice)))

not_not : (b : Bool) → not (not b) ≡ b
not_not true = refl
not_not false = refl

pub confirmed_outcome : (at : Option (List ℕ)) (lines : List (List ℕ)) (rest text : List ℕ) (task : Confirm) (missing given sure all without : Bool) (count : ℕ) (result : Outcome) → HasConfirmed at lines rest text task → missing ≡ (is_some task.at && is_none task.found) → given ≡ is_some at
    → ((place : Place) → IsAt task.blocks place → sure ≡ (not task.cut && is_confirmed place)) → all ≡ (given || sure) → without ≡ (task.first_leaf && not task.sums) → ((place : Place) → IsAt task.blocks place → count ≡ length place.confirmed) → result ≡ confirm_outcome missing all without count
    → result ≡ confirm_outcome (is_not_found at lines) (is_some at || nat_eq (length rest) 0 && is_confirmed (place_after lines)) (is_without_sums lines rest) (length (place_after lines).confirmed)
confirmed_outcome at lines rest text task missing given sure all without count result h m i s a w n r =
    let place = place_after lines in
    let whole : sure ≡ (nat_eq (length rest) 0 && is_confirmed place) = s place h.place ∙ ap (λ b. not b && is_confirmed place) h.cut_is ∙ ap (λ b. b && is_confirmed place) (not_not (nat_eq (length rest) 0)) in
    r ∙ ap₂ (λ x y. confirm_outcome x y without count) (m ∙ h.not_found) (a ∙ ap₂ (λ x y. x || y) i whole)
    ∙ ap₂ (λ x y. confirm_outcome (is_not_found at lines) (is_some at || nat_eq (length rest) 0 && is_confirmed place) x y) (w ∙ h.without_sums) (n place h.place)

-- the sequence as bytes
pub confirm_ran : (at given : Option (List ℕ)) (all : Type 0) (taken taken' held held' : Option (List ℕ)) (r : Result Outcome ScriptFault) → given ≡ at → (input : List ℕ) × (text : List ℕ) × Appends taken taken' input × Appends held held' text × RunsConfirm given all input text r
    → (input : List ℕ) × (text : List ℕ) × Appends taken taken' input × Appends held held' text × RunsConfirm at all input text r
confirm_ran at given all taken taken' held held' r e t = (t.0, t.1, t.2, t.3, subst (λ z. RunsConfirm z all t.0 t.1 r) e t.4)
