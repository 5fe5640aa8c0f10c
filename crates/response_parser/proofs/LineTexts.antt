-- Script output is parsed as the documents in it.
use Rattle.proof_prelude.proofs.{◌≡◌, ℕ, ◌&&◌, ◌==◌, length, List, [], ◌∷◌, ◌++◌, Bool, true, false, not, cond, refl, sym, ap, subst, ◌∙◌, arith, ◌⊎◌, inl, inr, Ok, list_all, false≢true, or_right}
use Rattle.doc_envelope.specs.{is_space}
use Rattle.response_parser.specs.{wants_documents, is_strict, start, begins_sign, is_lower, step, after, given, pieces, Piece, has_rest, end_of, Place, LinePlace}
use Rattle.response_parser.specs.State.{State}
use Rattle.response_parser.specs.LineGrammar.{InOneLine, AreLines, no_lines, blank, document, answer}
use Rattle.response_parser.specs.declared.place.Place.TheVariants.{Start, Begin, Sign, Between, Value, Revs, Line}
use Rattle.response_parser.specs.declared.place.LinePlace.TheVariants.{Word, Rest}
use Rattle.response_parser.specs.declared.place.RevPlace.TheVariants as revs
use Rattle.response_parser.specs.declared.place.Wanted.{Wanted}
use Rattle.response_parser.proofs.Bytes.{At, is_settled, o_begin, o_between, s_begin, s_between, spaced, no_leaves, no_changes}
use Rattle.response_parser.proofs.Texts.{Leads, none_read, then, joined}
use Rattle.response_parser.proofs.Itself.{a_document}

-- a parser before a response or a line, if none is required
abbrev pub Before : Wanted → State → Type 0
Before w s = At w Begin 0 s ⊎ At w Between 0 s

pub from_either : {P P' Q : State → Type 0} {t : List ℕ} {ps : List Piece} → Leads P t Q ps → Leads P' t Q ps → Leads (λ s. P s ⊎ P' s) t Q ps
from_either {P} {P'} {Q} {t} {ps} f g = record { runs = runs } where
  runs : (s : State) → P s ⊎ P' s → Q (after s t) × (pieces s t ≡ ps)
  runs s (inl h) = f.runs s h
  runs s (inr h) = g.runs s h

pub to_between : {w : Wanted} {P : State → Type 0} {t : List ℕ} {ps : List Piece} → Leads P t (At w Between 0) ps → Leads P t (Before w) ps
to_between f = record { runs = λ s h. let r = f.runs s h in (inr r.0, r.1) }

-- within a line
pub record InLine (w : Wanted) (p : LinePlace) (s : State) : Type 0 where
  pub wanted : s.wanted ≡ w
  pub inner : s.inner ≡ false
  pub named : s.named ≡ false
  pub place : s.place ≡ Line p
  pub depth : s.depth ≡ 0
  pub diff : s.diff ≡ false

abbrev pub lined : State → Wanted → LinePlace → State
lined s w p = record s { wanted = w; inner = false; named = false; place = Line p; depth = 0; diff = false }

pub is_lined : {w : Wanted} {p : LinePlace} (s : State) → InLine w p s → s ≡ lined s w p
is_lined s h = λ i. record s { wanted = h.wanted i; inner = h.inner i; named = h.named i; place = h.place i; depth = h.depth i; diff = h.diff i }

abbrev Passes : Wanted → State → Type 0
Passes w s = InLine w Word s ⊎ InLine w Rest s

-- white space changes nothing before a line
pub blank_step : (w : Wanted) (b : ℕ) → is_space b ≡ true → (s : State) → Before w s → Before w (step s b) × (given (step s b) ≡ [])
blank_step w b h s (inl at) = let r = spaced w 0 b s_begin h s at in (inl r.0, r.1)
blank_step w b h s (inr at) = let r = spaced w 0 b s_between h s at in (inr r.0, r.1)

module _ (w : Wanted) (docs : wants_documents w ≡ true) (strict : is_strict w ≡ true) where
  word_begins : (b : ℕ) → is_space b ≡ false → (b == 91) ≡ false → (b == 123) ≡ false → is_lower b ≡ true → (s : State) → Before w s → Passes w (step s b) × (given (step s b) ≡ [])
  word_begins b e f k h s (inl at) = unfold step in subst (λ z. Passes w (step z b) × (given (step z b) ≡ [])) (sym (is_settled s at)) (rw (e, f, k, h, no_leaves w docs) (inl (record { wanted = refl; inner = refl; named = refl; place = refl; depth = refl; diff = refl }), refl))
  word_begins b e f k h s (inr at) = unfold step in subst (λ z. Passes w (step z b) × (given (step z b) ≡ [])) (sym (is_settled s at)) (rw (e, f, k, h, no_leaves w docs) (inl (record { wanted = refl; inner = refl; named = refl; place = refl; depth = refl; diff = refl }), refl))

  -- within a line that contains nothing
  in_word : (b : ℕ) (space : Bool) → (b == 10) ≡ false → (b == 32) ≡ space → (s : State) → InLine w Word s → Passes w (step s b) × (given (step s b) ≡ [])
  in_word b true e f s at = unfold step in subst (λ z. Passes w (step z b) × (given (step z b) ≡ [])) (sym (is_lined s at)) (rw (e, f, no_changes w docs) (inr (record { wanted = refl; inner = refl; named = refl; place = refl; depth = refl; diff = refl }), refl))
  in_word b false e f s at = unfold step in subst (λ z. Passes w (step z b) × (given (step z b) ≡ [])) (sym (is_lined s at)) (rw (e, f) (inl (record { wanted = refl; inner = refl; named = refl; place = refl; depth = refl; diff = refl }), refl))

  pass_step : (b : ℕ) → (b == 10) ≡ false → (s : State) → Passes w s → Passes w (step s b) × (given (step s b) ≡ [])
  unfolding step
  pass_step b e s (inl at) = in_word b (b == 32) e refl s at
  pass_step b e s (inr at) = subst (λ z. Passes w (step z b) × (given (step z b) ≡ [])) (sym (is_lined s at)) (rw e (inr (record { wanted = refl; inner = refl; named = refl; place = refl; depth = refl; diff = refl }), refl))

  -- a line end leads to the start of the next line, if nothing is required
  line_end : (s : State) → Passes w s → Before w (step s 10) × (given (step s 10) ≡ [])
  line_end s (inl at) = unfold step in subst (λ z. Before w (step z 10) × (given (step z 10) ≡ [])) (sym (is_lined s at)) (rw (no_changes w docs, or_right s.some (is_strict w) strict) (inr (record { wanted = refl; inner = refl; named = refl; place = refl; depth = refl; diff = refl }), refl))
  line_end s (inr at) = unfold step in subst (λ z. Before w (step z 10) × (given (step z 10) ≡ [])) (sym (is_lined s at)) (rw (or_right s.some (is_strict w) strict) (inr (record { wanted = refl; inner = refl; named = refl; place = refl; depth = refl; diff = refl }), refl))

-- ---- texts

no_end_by : (b c : Bool) → (not b && c) ≡ true → (b ≡ false) × (c ≡ true)
no_end_by false true h = (refl, refl)
no_end_by false false h = absurd (cc)
no_end_by true c h = absurd (cc)

pub no_end : (b : ℕ) (t : List ℕ) → InOneLine (b ∷ t) → ((b == 10) ≡ false) × InOneLine t
no_end b t h = no_end_by (b == 10) (list_all (λ c. not (c == 10)) t) h

-- a lowercase letter is not a bracket
pub lower_bracket : (b : ℕ) → is_lower b ≡ true → ((b == 91) ≡ false) × ((b == 123) ≡ false)
lower_bracket b h = grind arith

module _ (w : Wanted) (docs : wants_documents w ≡ true) (strict : is_strict w ≡ true) where
  passed : (x : List ℕ) → InOneLine x → Leads (Passes w) x (Passes w) []
  passed [] h = none_read
  passed (b ∷ x) h = let parts = no_end b x h in then (pass_step w docs strict b parts.0) (passed x parts.1)

  some_lines : (t : List ℕ) (ps : List Piece) → AreLines w t ps → Leads (Before w) t (Before w) ps
  some_lines t ps no_lines = none_read
  some_lines t ps (blank {b} {t = rest} h m) = then (blank_step w b h) (some_lines rest ps m)
  some_lines t ps (document {o} {t = rest} {ps = ins} {qs} h m) =
      let leaves = no_leaves w docs in
      joined (to_between (from_either (a_document w leaves false 0 o ins docs o_begin refl h) (a_document w leaves false 0 o ins docs o_between refl h))) (some_lines rest qs m)
  some_lines t ps (answer {b} x {t = rest} h e n m) =
      let k = lower_bracket b h in
      then (word_begins w docs strict b e k.0 k.1 h) (joined (passed x n) (then (line_end w docs strict) (some_lines rest ps m)))

-- ---- the end

-- a line may begin there, or the input may end
abbrev pub ends_lines : Place → Bool
ends_lines Begin = true
ends_lines Between = true
ends_lines _ = false

pub lines_end : (p : Place) → ends_lines p ≡ true → end_of p ≡ Ok tt
lines_end Begin h = refl
lines_end Between h = refl
lines_end _ h = absurd (cc)

-- by the places of two states
one_of_two : (b : Bool) (p q : Place) → ends_lines p ≡ false → ends_lines q ≡ false → ends_lines (cond b p q) ≡ false
one_of_two true p q h k = h
one_of_two false p q h k = k

one_state : (b : Bool) (s z : State) → ends_lines s.place ≡ false → ends_lines z.place ≡ false → ends_lines (cond b s z).place ≡ false
one_state true s z h k = h
one_state false s z h k = k

-- outside of lines, a line end leads to the start of a line only from there
stays_out : (s : State) (p : Place) → has_rest p ≡ false → ends_lines p ≡ false → ends_lines (step (record s { place = p }) 10).place ≡ false
unfolding step
stays_out s Begin r h = absurd (cc)
stays_out s Sign r h = one_of_two (begins_sign (s.text ++ 10 ∷ [])) _ _ refl refl
stays_out s Between r h = absurd (cc)
stays_out s (Value n) r h = one_state (length s.text == 0) _ _ refl refl
stays_out s (Line p) r h = absurd (cc)
stays_out s (Revs revs.List) r h = refl
stays_out s _ r h = refl

pub stood_before : (s : State) → ends_lines (step s 10).place ≡ true → has_rest s.place ≡ false → ends_lines s.place ≡ true
stood_before s h r = by (ends_lines s.place) refl where
  by : (b : Bool) → ends_lines s.place ≡ b → ends_lines s.place ≡ true
  by true e = e
  by false e = absurd (false≢true (sym (stays_out s s.place r e) ∙ h))

-- an empty line contains nothing
none_at : (s : State) (p : Place) → ends_lines p ≡ true → given (step (record s { place = p }) 10) ≡ []
unfolding step
none_at s Begin h = refl
none_at s Between h = refl
none_at s _ h = absurd (cc)

pub line_end_given : (s : State) → ends_lines s.place ≡ true → given (step s 10) ≡ []
line_end_given s h = none_at s s.place h

-- places at which lines end
abbrev pub EndsLines : Place → Type 0
EndsLines q = (p : Place) × (q ≡ p) × (ends_lines p ≡ true)

pub before_ends : (w : Wanted) (s : State) → Before w s → EndsLines s.place
before_ends w s (inl at) = (Begin, at.place, refl)
before_ends w s (inr at) = (Between, at.place, refl)

pub starts_strict : (w : Wanted) → is_strict w ≡ true → Before w (start w)
starts_strict w h = inl (record { wanted = refl; inner = refl; named = refl; place = ap (λ b. cond b Begin Start) h; depth = refl; diff = refl })

-- lines are parsed to their end, as the documents in them
pub lines_read : (w : Wanted) → wants_documents w ≡ true → is_strict w ≡ true → (t : List ℕ) (ps : List Piece) → AreLines w t ps → EndsLines (after (start w) t).place × (pieces (start w) t ≡ ps)
lines_read w docs strict t ps h =
    let run = (some_lines w docs strict t ps h).runs (start w) (starts_strict w strict) in
    (before_ends w (after (start w) t) run.0, run.1)
