-- Several bytes of a long document, of which some are not stored.
use Rattle.proof_prelude.proofs.{◌≡◌, ℕ, List, [], ◌∷◌, ◌++◌, true, refl, sym, ap, subst, ◌∙◌, append-nil}
use Rattle.response_parser.specs.{step, is_refused, after, given, pieces, piece_of, Piece, Place, Refusal, Name}
use Rattle.response_parser.specs.State.{State}
use Rattle.response_parser.specs.Steps.{begun}
use Rattle.response_parser.specs.Fronts.{Cut, HasWritten}
use Rattle.response_parser.specs.Mirrors.{Like, equal, alike, Mirrors, Rejected}
use Rattle.response_parser.specs.declared.place.Place.TheVariants.{Refused}
use Rattle.response_parser.specs.declared.place.Found.TheVariants.{Nothing, Document}
use Rattle.response_parser.proofs.Readings.{after-append, pieces-append}
use Rattle.response_parser.proofs.Mirroring.{Outcome, going, rejected, found, late, like_after, step_out}

-- ---- after a rejected byte

refused_place : (p : Place) → is_refused p ≡ true → (why : Refusal) × (p ≡ Refused why)
refused_place (Refused why) h = (why, refl)
refused_place _ h = absurd (cc)

refused_step : (s : State) (why : Refusal) (b : ℕ) → step (record s { place = Refused why }) b ≡ begun (record s { place = Refused why })
unfolding step
refused_step s why b = refl

step_refused : (s : State) (b : ℕ) → is_refused s.place ≡ true → step s b ≡ begun s
step_refused s b h =
    let is = refused_place s.place h in
    let same : s ≡ record s { place = Refused is.0 } = λ i. record s { place = is.1 i } in
    subst (λ z. step z b ≡ begun z) (sym same) (refused_step s is.0 b)

like_place : {a b : State} → Like a b → a.place ≡ b.place
like_place (equal e) = ap (λ (z : State). z.place) e
like_place (alike e h) = ap (λ (z : State). z.place) e

pub like_taken : {a b : State} → Like a b → a.taken ≡ b.taken
like_taken (equal e) = ap (λ (z : State). z.taken) e
like_taken (alike e h) = ap (λ (z : State). z.taken) e

pub like_found : {a b : State} → Like a b → a.found ≡ b.found
like_found (equal e) = ap (λ (z : State). z.found) e
like_found (alike e h) = ap (λ (z : State). z.found) e

written_begun : {s : State} {w : List ℕ} → HasWritten s w → HasWritten (begun s) w
written_begun h = record { cut = h.cut; behind = h.behind; text = h.text; begun = h.begun; length_is = h.length_is; is = h.is }

rejected_step : {c : Cut} {full stored : State} (b : ℕ) → Rejected c full stored → Rejected c (step full b) (step stored b)
rejected_step {c} {full} {stored} b r =
    let stays = step_refused stored b r.refused in
    let refuses = ap is_refused (like_place r.like) ∙ r.refused in
    record {
      like = like_after r.like (b ∷ []);
      refused = ap (λ (z : State). is_refused z.place) stays ∙ r.refused;
      found = ap (λ (z : State). z.found) stays;
      written = subst (λ z. HasWritten z c.written) (sym (step_refused full b refuses)) (written_begun r.written);
    }

none_given : (s : State) → s.found ≡ Nothing → given s ≡ []
none_given s e = ap (λ f. piece_of f s.text) e

pub rejected_after : {c : Cut} {full stored : State} → Rejected c full stored → (bytes : List ℕ) → Rejected c (after full bytes) (after stored bytes)
rejected_after r [] = r
rejected_after {c} {full} {stored} r (b ∷ bytes) = rejected_after {c = c} {full = step full b} {stored = step stored b} (rejected_step b r) bytes

pub rejected_none : {c : Cut} {full stored : State} → Rejected c full stored → (bytes : List ℕ) → (pieces full bytes ≡ []) × (pieces stored bytes ≡ [])
rejected_none r [] = (refl, refl)
rejected_none {c} {full} {stored} r (b ∷ bytes) =
    let next = rejected_step b r in
    let rest = rejected_none {c = c} {full = step full b} {stored = step stored b} next bytes in (
      ap (λ l. l ++ pieces (step full b) bytes) (none_given (step full b) (like_found next.like ∙ next.found)) ∙ rest.0,
      ap (λ l. l ++ pieces (step stored b) bytes) (none_given (step stored b) next.found) ∙ rest.1,
    )

-- ---- bytes that complete nothing

pub data Quiet (c : Cut) (name : Name) (full stored : State) : Type 0 where
  goes : Mirrors c name full stored → Quiet c name full stored
  ends : Rejected c full stored → Quiet c name full stored

some_given : (s : State) (more : List Piece) → s.found ≡ Document → given s ++ more ≡ [] → ⊥
some_given s more e h =
    let is = ap (λ f. piece_of f s.text ++ more) (sym e) ∙ h in absurd (cc)

quiet_nothing : {c : Cut} {name : Name} {full stored : State} → Quiet c name full stored → (full.found ≡ Nothing) × (stored.found ≡ Nothing)
quiet_nothing (goes m) = (ap (λ (z : State). z.found) m.same ∙ m.document.found, m.document.found)
quiet_nothing (ends r) = (like_found r.like ∙ r.found, r.found)

outcome_quiet : {c : Cut} {name : Name} {full stored : State} (more : List Piece) → Outcome c name full stored → given stored ++ more ≡ [] → Quiet c name full stored
outcome_quiet more (going m) h = goes m
outcome_quiet more (rejected l r f w) h = ends (record { like = l; refused = r; found = f; written = w })
outcome_quiet {stored = stored} more (found tail l f x y i) h = absurd (some_given stored more f h)
outcome_quiet {stored = stored} more (late f e d l) h = absurd (some_given stored more f h)

quiet_step : {c : Cut} {name : Name} {full stored : State} → Quiet c name full stored → (b : ℕ) → Outcome c name (step full b) (step stored b)
quiet_step (goes m) b = step_out m b
quiet_step (ends r) b = let n = rejected_step b r in rejected n.like n.refused n.found n.written

pub quiet_after : {c : Cut} {name : Name} {full stored : State} → Quiet c name full stored → (bytes : List ℕ) → pieces stored bytes ≡ []
    → Quiet c name (after full bytes) (after stored bytes) × (pieces full bytes ≡ [])
quiet_after q [] h = (q, refl)
quiet_after {c} {name} {full} {stored} q (b ∷ bytes) h =
    let n = outcome_quiet (pieces (step stored b) bytes) (quiet_step q b) h in
    let nothing = quiet_nothing n in
    let rest = ap (λ l. l ++ pieces (step stored b) bytes) (sym (none_given (step stored b) nothing.1)) ∙ h in
    let more = quiet_after {c = c} {name = name} {full = step full b} {stored = step stored b} n bytes rest in
    (more.0, ap (λ l. l ++ pieces (step full b) bytes) (none_given (step full b) nothing.0) ∙ more.1)

-- bytes of which only the last may complete something
pub bytes_out : {c : Cut} {name : Name} {full stored : State} → Mirrors c name full stored → (bytes : List ℕ) (b : ℕ) → pieces stored bytes ≡ []
    → Outcome c name (after full (bytes ++ b ∷ [])) (after stored (bytes ++ b ∷ [])) × (pieces full (bytes ++ b ∷ []) ≡ given (after full (bytes ++ b ∷ [])))
bytes_out {c} {name} {full} {stored} m bytes b h =
    let q = quiet_after (goes m) bytes h in
    let f = after-append full bytes (b ∷ []) in
    let s = after-append stored bytes (b ∷ []) in (
      subst (λ z. Outcome c name z (after stored (bytes ++ b ∷ []))) (sym f) (subst (λ z. Outcome c name (step (after full bytes) b) z) (sym s) (quiet_step q.0 b)),
      pieces-append full bytes (b ∷ []) ∙ ap (λ l. l ++ pieces (after full bytes) (b ∷ [])) q.1 ∙ append-nil (given (step (after full bytes) b)) ∙ ap given (sym f),
    )
