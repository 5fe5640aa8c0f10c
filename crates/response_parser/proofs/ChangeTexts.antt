-- Script output is parsed as the changes in it.
use Rattle.proof_prelude.proofs.{◌≡◌, ℕ, ◌||◌, ◌==◌, List, [], ◌∷◌, ◌++◌, true, false, inl, inr, refl, sym, ap, subst, ◌∙◌, append_assoc, append-nil, codes, list_all, bytes_eq, and_parts, not-true, or_right}
use Rattle.doc_envelope.specs.{is_space, is_json, EndsString, ends, plain, escaped}
use Rattle.response_parser.specs.State.{State}
use Rattle.response_parser.specs.{start, is_lower, is_digit, is_rev_byte, step, after, given, pieces, Piece, AreRevs, last_rev, rev, is_word_byte, AreChanges, none, empty, change, object, word, words, LinePlace}
use Rattle.response_parser.specs.LineGrammar.{InOneLine}
use Rattle.response_parser.specs.declared.place.Place.TheVariants.{Between, Line}
use Rattle.response_parser.specs.declared.place.LinePlace.TheVariants as at
use Rattle.response_parser.specs.declared.place.Wanted.{Wanted}
use Rattle.response_parser.specs.declared.place.Wanted.TheVariants.{Changes}
use Rattle.response_parser.specs.declared.place.Found.TheVariants.{Id, Rev}
use Rattle.response_parser.proofs.Bytes.{At, is_settled, o_begin, o_between}
use Rattle.response_parser.proofs.Texts.{Leads, none_read, then, then_held, joined}
use Rattle.response_parser.proofs.Itself.{unwanted}
use Rattle.response_parser.proofs.LineTexts.{no_end, lower_bracket, Before, from_either, to_between, EndsLines, before_ends, starts_strict, blank_step, InLine, lined, is_lined}

-- a parser of changes at a place, with this text
abbrev Stands : LinePlace → State → Type 0
Stands p = InLine Changes p

record Holds (p : LinePlace) (u : List ℕ) (s : State) : Type 0 where
  wanted : s.wanted ≡ Changes
  inner : s.inner ≡ false
  named : s.named ≡ false
  place : s.place ≡ Line p
  depth : s.depth ≡ 0
  diff : s.diff ≡ false
  text : s.text ≡ u

abbrev held_in : State → LinePlace → List ℕ → State
held_in s p u = record s { wanted = Changes; inner = false; named = false; place = Line p; depth = 0; diff = false; text = u }

is_held : {p : LinePlace} {u : List ℕ} (s : State) → Holds p u s → s ≡ held_in s p u
is_held s h = λ i. record s { wanted = h.wanted i; inner = h.inner i; named = h.named i; place = h.place i; depth = h.depth i; diff = h.diff i; text = h.text i }

-- a byte from a place, from a text, and from a text to a place
module _ (p q : LinePlace) (b : ℕ) where
  stands : (ps : List Piece) → ((s : State) → Stands q (step (lined s Changes p) b) × (given (step (lined s Changes p) b) ≡ ps)) → (s : State) → Stands p s → Stands q (step s b) × (given (step s b) ≡ ps)
  stands ps f s h = subst (λ z. Stands q (step z b) × (given (step z b) ≡ ps)) (sym (is_lined s h)) (f s)

  begins : (v : List ℕ) → ((s : State) → Holds q v (step (lined s Changes p) b) × (given (step (lined s Changes p) b) ≡ [])) → (s : State) → Stands p s → Holds q v (step s b) × (given (step s b) ≡ [])
  begins v f s h = subst (λ z. Holds q v (step z b) × (given (step z b) ≡ [])) (sym (is_lined s h)) (f s)

  holds : (u v : List ℕ) → ((s : State) → Holds q v (step (held_in s p u) b) × (given (step (held_in s p u) b) ≡ [])) → (s : State) → Holds p u s → Holds q v (step s b) × (given (step s b) ≡ [])
  holds u v f s h = subst (λ z. Holds q v (step z b) × (given (step z b) ≡ [])) (sym (is_held s h)) (f s)

  leaves : (u : List ℕ) (ps : List Piece) → ((s : State) → Stands q (step (held_in s p u) b) × (given (step (held_in s p u) b) ≡ ps)) → (s : State) → Holds p u s → Stands q (step s b) × (given (step s b) ≡ ps)
  leaves u ps f s h = subst (λ z. Stands q (step z b) × (given (step z b) ≡ ps)) (sym (is_held s h)) (f s)

-- from a text to the end of its line
ends_line : (p : LinePlace) (u : List ℕ) (ps : List Piece) → ((s : State) → At Changes Between 0 (step (held_in s p u) 10) × (given (step (held_in s p u) 10) ≡ ps)) → (s : State) → Holds p u s → Before Changes (step s 10) × (given (step s 10) ≡ ps)
ends_line p u ps f s h = subst (λ z. Before Changes (step z 10) × (given (step z 10) ≡ ps)) (sym (is_held s h)) (let r = f s in (inr r.0, r.1))

-- ---- bytes

rest_step : (b : ℕ) → (b == 10) ≡ false → (s : State) → Stands at.Rest s → Stands at.Rest (step s b) × (given (step s b) ≡ [])
rest_step b e = unfold step in stands at.Rest at.Rest b [] (λ s. rw e (record { wanted = refl; inner = refl; named = refl; place = refl; depth = refl; diff = refl }, refl))

rest_end : (s : State) → Stands at.Rest s → Before Changes (step s 10) × (given (step s 10) ≡ [])
rest_end s h = unfold step in subst (λ z. Before Changes (step z 10) × (given (step z 10) ≡ [])) (sym (is_lined s h)) (rw (or_right s.some true refl) (inr (record { wanted = refl; inner = refl; named = refl; place = refl; depth = refl; diff = refl }), refl))

word_begins : (b : ℕ) → is_space b ≡ false → is_lower b ≡ true → (s : State) → Before Changes s → Holds at.Word (b ∷ []) (step s b) × (given (step s b) ≡ [])
word_begins b e h s (inl here) = unfold step in
    let k = lower_bracket b h in
    subst (λ z. Holds at.Word (b ∷ []) (step z b) × (given (step z b) ≡ [])) (sym (is_settled s here)) (rw (e, k.0, k.1, h) (record { wanted = refl; inner = refl; named = refl; place = refl; depth = refl; diff = refl; text = refl }, refl))
word_begins b e h s (inr here) = unfold step in
    let k = lower_bracket b h in
    subst (λ z. Holds at.Word (b ∷ []) (step z b) × (given (step z b) ≡ [])) (sym (is_settled s here)) (rw (e, k.0, k.1, h) (record { wanted = refl; inner = refl; named = refl; place = refl; depth = refl; diff = refl; text = refl }, refl))

word_step : (u : List ℕ) (b : ℕ) → (b == 10 || b == 32) ≡ false → (s : State) → Holds at.Word u s → Holds at.Word (u ++ b ∷ []) (step s b) × (given (step s b) ≡ [])
word_step u b e = unfold step in holds at.Word at.Word b u (u ++ b ∷ []) (λ s. rw e (record { wanted = refl; inner = refl; named = refl; place = refl; depth = refl; diff = refl; text = refl }, refl))

word_end : (u : List ℕ) → bytes_eq u (codes "change") ≡ false → (s : State) → Holds at.Word u s → Before Changes (step s 10) × (given (step s 10) ≡ [])
word_end u e = unfold step in ends_line at.Word u [] (λ s. rw (e, or_right s.some true refl) (record { wanted = refl; inner = refl; named = refl; place = refl; depth = refl; diff = refl }, refl))

word_blank : (u : List ℕ) → bytes_eq u (codes "change") ≡ false → (s : State) → Holds at.Word u s → Stands at.Rest (step s 32) × (given (step s 32) ≡ [])
word_blank u e = unfold step in leaves at.Word at.Rest 32 u [] (λ s. rw e (record { wanted = refl; inner = refl; named = refl; place = refl; depth = refl; diff = refl }, refl))

-- the word `change`
change_end : (s : State) → Holds at.Word (codes "change") s → Stands at.Seq (step s 32) × (given (step s 32) ≡ [])
change_end = unfold step in leaves at.Word at.Seq 32 (codes "change") [] (λ s. (record { wanted = refl; inner = refl; named = refl; place = refl; depth = refl; diff = refl }, refl))

digit_step : (b : ℕ) → is_digit b ≡ true → (s : State) → Stands at.Seq s → Stands at.Seq (step s b) × (given (step s b) ≡ [])
digit_step b h = unfold step in stands at.Seq at.Seq b [] (λ s. rw h (record { wanted = refl; inner = refl; named = refl; place = refl; depth = refl; diff = refl }, refl))

seq_end : (s : State) → Stands at.Seq s → Stands at.BeforeId (step s 32) × (given (step s 32) ≡ [])
seq_end = unfold step in stands at.Seq at.BeforeId 32 [] (λ s. (record { wanted = refl; inner = refl; named = refl; place = refl; depth = refl; diff = refl }, refl))

id_begins : (s : State) → Stands at.BeforeId s → Holds at.Id (34 ∷ []) (step s 34) × (given (step s 34) ≡ [])
id_begins = unfold step in begins at.BeforeId at.Id 34 (34 ∷ []) (λ s. (record { wanted = refl; inner = refl; named = refl; place = refl; depth = refl; diff = refl; text = refl }, refl))

id_plain : (u : List ℕ) (b : ℕ) → (b == 34) ≡ false → (b == 92) ≡ false → (s : State) → Holds at.Id u s → Holds at.Id (u ++ b ∷ []) (step s b) × (given (step s b) ≡ [])
id_plain u b e f = unfold step in holds at.Id at.Id b u (u ++ b ∷ []) (λ s. rw (e, f) (record { wanted = refl; inner = refl; named = refl; place = refl; depth = refl; diff = refl; text = refl }, refl))

id_escape : (u : List ℕ) → (s : State) → Holds at.Id u s → Holds at.IdEscape (u ++ 92 ∷ []) (step s 92) × (given (step s 92) ≡ [])
id_escape u = unfold step in holds at.Id at.IdEscape 92 u (u ++ 92 ∷ []) (λ s. (record { wanted = refl; inner = refl; named = refl; place = refl; depth = refl; diff = refl; text = refl }, refl))

id_escaped : (u : List ℕ) (b : ℕ) → (s : State) → Holds at.IdEscape u s → Holds at.Id (u ++ b ∷ []) (step s b) × (given (step s b) ≡ [])
id_escaped u b = unfold step in holds at.IdEscape at.Id b u (u ++ b ∷ []) (λ s. (record { wanted = refl; inner = refl; named = refl; place = refl; depth = refl; diff = refl; text = refl }, refl))

id_end : (u : List ℕ) → is_json (u ++ 34 ∷ []) ≡ true → (s : State) → Holds at.Id u s → Stands at.AfterId (step s 34) × (given (step s 34) ≡ (Id, u ++ 34 ∷ []) ∷ [])
id_end u json = unfold step in leaves at.Id at.AfterId 34 u ((Id, u ++ 34 ∷ []) ∷ []) (λ s. rw json (record { wanted = refl; inner = refl; named = refl; place = refl; depth = refl; diff = refl }, refl))

id_blank : (s : State) → Stands at.AfterId s → Stands at.BeforeRev (step s 32) × (given (step s 32) ≡ [])
id_blank = unfold step in stands at.AfterId at.BeforeRev 32 [] (λ s. (record { wanted = refl; inner = refl; named = refl; place = refl; depth = refl; diff = refl }, refl))

rev_begins : (b : ℕ) → is_rev_byte b ≡ true → (s : State) → Stands at.BeforeRev s → Holds at.Rev (34 ∷ b ∷ []) (step s b) × (given (step s b) ≡ [])
rev_begins b h = unfold step in begins at.BeforeRev at.Rev b (34 ∷ b ∷ []) (λ s. rw h (record { wanted = refl; inner = refl; named = refl; place = refl; depth = refl; diff = refl; text = refl }, refl))

rev_step : (u : List ℕ) (b : ℕ) → is_rev_byte b ≡ true → (s : State) → Holds at.Rev u s → Holds at.Rev (u ++ b ∷ []) (step s b) × (given (step s b) ≡ [])
rev_step u b h = unfold step in holds at.Rev at.Rev b u (u ++ b ∷ []) (λ s. rw h (record { wanted = refl; inner = refl; named = refl; place = refl; depth = refl; diff = refl; text = refl }, refl))

rev_comma : (u : List ℕ) → (s : State) → Holds at.Rev u s → Stands at.BeforeRev (step s 44) × (given (step s 44) ≡ (Rev, u ++ 34 ∷ []) ∷ [])
rev_comma u = unfold step in leaves at.Rev at.BeforeRev 44 u ((Rev, u ++ 34 ∷ []) ∷ []) (λ s. (record { wanted = refl; inner = refl; named = refl; place = refl; depth = refl; diff = refl }, refl))

rev_end : (u : List ℕ) → (s : State) → Holds at.Rev u s → Before Changes (step s 10) × (given (step s 10) ≡ (Rev, u ++ 34 ∷ []) ∷ [])
rev_end u = unfold step in ends_line at.Rev u ((Rev, u ++ 34 ∷ []) ∷ []) (λ s. (record { wanted = refl; inner = refl; named = refl; place = refl; depth = refl; diff = refl }, refl))

-- ---- texts

to_text : {P : State → Type 0} {p : LinePlace} {t u v : List ℕ} {ps : List Piece} → u ≡ v → Leads P t (Holds p u) ps → Leads P t (Holds p v) ps
to_text {P} {p} {t} {ps = ps} e f = subst (λ z. Leads P t (Holds p z) ps) e f

rest_text : (x : List ℕ) → InOneLine x → Leads (Stands at.Rest) x (Stands at.Rest) []
rest_text [] h = none_read
rest_text (b ∷ x) h = let parts = no_end b x h in then (rest_step b parts.0) (rest_text x parts.1)

word_text : (u w : List ℕ) → list_all is_word_byte w ≡ true → Leads (Holds at.Word u) w (Holds at.Word (u ++ w)) []
word_text u [] h = to_text (sym (append-nil u)) none_read
word_text u (b ∷ w) h =
    let parts = and_parts (is_word_byte b) (list_all is_word_byte w) h in
    to_text (append_assoc u (b ∷ []) w) (then (word_step u b (not-true (b == 10 || b == 32) parts.0)) (word_text (u ++ b ∷ []) w parts.1))

digits : (n : List ℕ) → list_all is_digit n ≡ true → Leads (Stands at.Seq) n (Stands at.Seq) []
digits [] h = none_read
digits (b ∷ n) h = let parts = and_parts (is_digit b) (list_all is_digit n) h in then (digit_step b parts.0) (digits n parts.1)

id_is : {P Q : State → Type 0} {t u v : List ℕ} → u ≡ v → Leads P t Q ((Id, u) ∷ []) → Leads P t Q ((Id, v) ∷ [])
id_is {P} {Q} {t} e f = subst (λ z. Leads P t Q ((Id, z) ∷ [])) e f

id_text : (u k : List ℕ) → EndsString k → is_json (u ++ k) ≡ true → Leads (Holds at.Id u) k (Stands at.AfterId) ((Id, u ++ k) ∷ [])
id_text u k ends json = then_held ((Id, u ++ 34 ∷ []) ∷ []) (id_end u json) none_read
id_text u k (plain {b} {t} e f rest) json =
    let same = append_assoc u (b ∷ []) t in
    id_is same (then (id_plain u b e f) (id_text (u ++ b ∷ []) t rest (ap is_json same ∙ json)))
id_text u k (escaped {b} {t} rest) json =
    let same = append_assoc (u ++ 92 ∷ []) (b ∷ []) t ∙ append_assoc u (92 ∷ []) (b ∷ t) in
    id_is same (then (id_escape u) (then (id_escaped (u ++ 92 ∷ []) b) (id_text ((u ++ 92 ∷ []) ++ b ∷ []) t rest (ap is_json same ∙ json))))

rev_text : (u r : List ℕ) → list_all is_rev_byte r ≡ true → Leads (Holds at.Rev u) r (Holds at.Rev (u ++ r)) []
rev_text u [] h = to_text (sym (append-nil u)) none_read
rev_text u (b ∷ r) h =
    let parts = and_parts (is_rev_byte b) (list_all is_rev_byte r) h in
    to_text (append_assoc u (b ∷ []) r) (then (rev_step u b parts.0) (rev_text (u ++ b ∷ []) r parts.1))

some_revs : (r : List ℕ) (ps : List Piece) → AreRevs r ps → Leads (Stands at.BeforeRev) r (Before Changes) ps
some_revs text ps (last_rev {b} r h k) =
    then (rev_begins b h) (joined (rev_text (34 ∷ b ∷ []) r k) (then_held ((Rev, 34 ∷ b ∷ (r ++ 34 ∷ [])) ∷ []) (rev_end (34 ∷ b ∷ r)) none_read))
some_revs text ps (rev {b} r {more} {ps = qs} h k m) =
    then (rev_begins b h) (joined (rev_text (34 ∷ b ∷ []) r k) (then_held ((Rev, 34 ∷ b ∷ (r ++ 34 ∷ [])) ∷ []) (rev_comma (34 ∷ b ∷ r)) (some_revs more qs m)))

change_word : Leads (Before Changes) (codes "change ") (Stands at.Seq) []
change_word =
    then (word_begins 99 refl refl) (then (word_step (99 ∷ []) 104 refl) (then (word_step (99 ∷ 104 ∷ []) 97 refl) (then (word_step (99 ∷ 104 ∷ 97 ∷ []) 110 refl)
    (then (word_step (99 ∷ 104 ∷ 97 ∷ 110 ∷ []) 103 refl) (then (word_step (99 ∷ 104 ∷ 97 ∷ 110 ∷ 103 ∷ []) 101 refl) (then change_end none_read))))))

some_changes : (t : List ℕ) (ps : List Piece) → AreChanges t ps → Leads (Before Changes) t (Before Changes) ps
some_changes t ps none = none_read
some_changes t ps (empty {b} {t = rest} h m) = then (blank_step Changes b h) (some_changes rest ps m)
some_changes t ps (change n {k} {r} {t = rest} {ps = revs} {qs} h k_ends json m more) =
    joined change_word (joined (digits n h) (then seq_end (then id_begins (joined (id_text (34 ∷ []) k k_ends json) (then id_blank (joined (some_revs r revs m) (some_changes rest qs more)))))))
some_changes t ps (object {o} {u} {t = rest} h m) =
    joined (to_between (from_either (unwanted Changes refl false 0 o u refl o_begin refl h) (unwanted Changes refl false 0 o u refl o_between refl h))) (some_changes rest ps m)
some_changes t ps (word {b} w {t = rest} h e n other m) =
    then (word_begins b e h) (joined (word_text (b ∷ []) w n) (then (word_end (b ∷ w) other) (some_changes rest ps m)))
some_changes t ps (words {b} w x {t = rest} h e n other line m) =
    then (word_begins b e h) (joined (word_text (b ∷ []) w n) (then (word_blank (b ∷ w) other) (joined (rest_text x line) (then rest_end (some_changes rest ps m)))))

-- lines are parsed to their end, as the changes in them
pub changes_read : (w : Wanted) → w ≡ Changes → (t : List ℕ) (ps : List Piece) → AreChanges t ps → EndsLines (after (start w) t).place × (pieces (start w) t ≡ ps)
changes_read w is t ps h =
    let run = (some_changes t ps h).runs (start Changes) (starts_strict Changes refl) in
    subst (λ z. EndsLines (after (start z) t).place × (pieces (start z) t ≡ ps)) (sym is) (before_ends Changes (after (start Changes) t) run.0, run.1)
