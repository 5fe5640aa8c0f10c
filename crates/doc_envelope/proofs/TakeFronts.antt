-- An envelope is unwrapped alike with runs and without runs.
use Rattle.proof_prelude.proofs.{◌≡◌, ℕ, ◌<◌, ◌≤◌, length, drop, get_or, List, [], ◌∷◌, ◌++◌, Bool, true, false, cond, refl, sym, ap, ◌∙◌, arith, Option, Some, None, option_map, option_and_then, is_utf8}
use Rattle.doc_envelope.specs.{AppendsOpen, IsTakeStart, TakeFront, added, all_taken, first_length, if_any, is_blank, is_json, is_log, members_in, next, run, start, string_of, taken_with, unfolded, whole_before}
use Rattle.doc_envelope.specs.Members.{Outside}
use Rattle.doc_envelope.specs.Names.{id_of}
use Rattle.doc_envelope.proofs.Fronts.{runs_long, runs_none, runs_output, runs_same, runs_some}
use Rattle.doc_envelope.proofs.RunsUtf8.{json_run, utf8_run}
use Rattle.doc_envelope.proofs.TextRuns.{first_run, log_run}
use Rattle.doc_envelope.proofs.OpenMembers.{comma_members}
use Rattle.doc_envelope.proofs.TakeSteps.{take_step_id, take_step_none, take_step_some}

pub take_front_some : (f s F S t e : List ℕ) → TakeFront f s F S → unfolded (s ++ t) ≡ Some (S ++ e) → unfolded (f ++ t) ≡ Some (F ++ e)
take_front_some = runs_some IsTakeStart unfolded take_step_some

pub take_front_none : (f s F S t : List ℕ) → TakeFront f s F S → unfolded (s ++ t) ≡ None → unfolded (f ++ t) ≡ None
take_front_none = runs_none IsTakeStart unfolded take_step_none

pub take_front_json : (f s F S t : List ℕ) → TakeFront f s F S → is_json (f ++ t) ≡ is_json (s ++ t)
take_front_json = runs_same IsTakeStart is_json (λ s S r t i h. json_run s r t i.may h)

pub take_front_utf8 : (f s F S t : List ℕ) → TakeFront f s F S → is_utf8 (f ++ t) ≡ is_utf8 (s ++ t)
take_front_utf8 = runs_same IsTakeStart is_utf8 (λ s S r t i h. utf8_run s r t i.may h)

pub take_front_log : (f s F S t : List ℕ) → TakeFront f s F S → is_log (f ++ t) ≡ is_log (s ++ t)
take_front_log = runs_same IsTakeStart is_log (λ s S r t i h. log_run s r t i.may h)

pub take_front_first : (f s F S t : List ℕ) → TakeFront f s F S → get_or (f ++ t) 0 0 ≡ get_or (s ++ t) 0 0
take_front_first = runs_same IsTakeStart (λ x. get_or x 0 0) (λ s S r t i h. first_run s r t i.may h)

pub take_front_id : (f s F S e : List ℕ) → TakeFront f s F S → id_of (F ++ e) ≡ id_of (S ++ e)
take_front_id = runs_output IsTakeStart id_of take_step_id

-- A run may follow the stored text.
pub take_front_start : (f s F S : List ℕ) → TakeFront f s F S → IsTakeStart s S
take_front_start f s F S (start i) = i
take_front_start x s X S (run p i r h) = i
take_front_start x y X Y (next p t d i) = i

pub take_front_long : (f s F S : List ℕ) → TakeFront f s F S → (16 ≤ length s) × (16 ≤ length f)
take_front_long = runs_long IsTakeStart 16 (λ s S i. i.may.long)

-- ---- the beginning of an envelope

-- what is unwrapped of the text `rest` and each text that follows it is what is unwrapped of the envelope
abbrev pub Unfolds : List ℕ → List ℕ → List ℕ → Type 0
Unfolds s made rest = (t : List ℕ) → all_taken (123 ∷ []) (members_in Outside 0 [] (drop 1 (s ++ t))) ≡ all_taken made (members_in Outside 0 [] (rest ++ t))

-- the text after the opening brace
pub unfolds_begin : (s made rest : List ℕ) → 0 < length s → made ≡ 123 ∷ [] → rest ≡ drop 1 s → Unfolds s made rest
unfolds_begin [] made rest h e f = absurd (omega arith)
unfolds_begin (b ∷ s) made rest h e f = λ t. ap (λ z. all_taken (123 ∷ []) (members_in Outside 0 [] (z ++ t))) (sym f) ∙ ap (λ z. all_taken z (members_in Outside 0 [] (rest ++ t))) (sym e)

-- one more member
pub unfolds_step : (s made made_new rest m more : List ℕ) → rest ≡ m ++ 44 ∷ more → first_length rest ≡ length m → taken_with made m ≡ Some made_new → Unfolds s made rest → Unfolds s made_new more
unfolding all_taken
unfolds_step s made made_new rest m more e f one h = λ t.
    h t ∙ ap (λ z. all_taken made (members_in Outside 0 [] (z ++ t))) e ∙ ap (all_taken made) (comma_members m more t (sym (ap first_length e) ∙ f))
    ∙ ap (option_and_then (λ u. all_taken u (members_in Outside 0 [] (more ++ t)))) one

-- the part of the member `whole`
pub unfolds_whole : (s made m q : List ℕ) → m ≡ whole_before q → Unfolds s made m → (t : List ℕ)
    → all_taken (123 ∷ []) (members_in Outside 0 [] (drop 1 (s ++ t))) ≡ all_taken made (members_in Outside 0 [] (whole_before (q ++ t)))
unfolds_whole s made m q e h t = h t ∙ ap (λ z. all_taken made (members_in Outside 0 [] (z ++ t))) e

-- the content of the part of a string
appends_by : (q made S : List ℕ) (o : Option (List ℕ)) → string_of (q ++ 34 ∷ []) ≡ o → option_map (added made) (option_and_then if_any o) ≡ Some S → AppendsOpen q made S
appends_by q made S None e h = absurd (cc)
appends_by q made S (Some c) e h = by_blank (is_blank c) refl h where
  by_blank : (b : Bool) → is_blank c ≡ b → option_map (added made) (cond b None (Some c)) ≡ Some S → AppendsOpen q made S
  by_blank true f k = absurd (cc)
  by_blank false f k = record { content = c; says = e; filled = f; front = sym (same (added made c) S k) } where
    same : (a b : List ℕ) → Some a ≡ Some b → a ≡ b
    same a b l = cc

pub appends_open : (q z made S : List ℕ) (ok : Bool) → z ≡ q ++ 34 ∷ [] → option_map (added made) (option_and_then if_any (string_of z)) ≡ cond ok (Some S) None → ok ≡ true → AppendsOpen q made S
appends_open q z made S ok e h t =
    appends_by q made S (string_of (q ++ 34 ∷ [])) refl (ap (λ y. option_map (added made) (option_and_then if_any (string_of y))) (sym e) ∙ h ∙ ap (λ b. cond b (Some S) None) t)
