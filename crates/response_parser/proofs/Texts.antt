-- Texts from a place on: names, values and white space.
use Rattle.proof_prelude.proofs.{◌≡◌, ℕ, suc, ◌+◌, ◌<◌, ◌==◌, ◌&&◌, nat_lt, length, slice_index, List, [], ◌∷◌, ◌++◌, Bool, true, false, refl, sym, ap, subst, ◌∙◌, append_assoc, append-nil, arith, ◌⊎◌, inl, inr, list_all, and_parts}
use Rattle.doc_envelope.specs.{Spaces, EndsString, ends, plain, escaped, Closed, nothing, space, other, string, object, list, is_space, is_json}
use Rattle.response_parser.specs.{wants_documents, name_of, is_plain, step, after, given, pieces, Piece, IsNamed, Place, Name}
use Rattle.response_parser.specs.State.{State}
use Rattle.response_parser.specs.declared.place.Place.TheVariants.{Key, Colon, Value, Quoted}
use Rattle.response_parser.specs.declared.place.Wanted.{Wanted}
use Rattle.response_parser.proofs.Readings.{after-append, pieces-append}
use Rattle.response_parser.proofs.Bytes.{At, AtIn, Frame, outer, InKey, Within, MaySpace, BeginsKey, Leads1, spaced_in, key_plain, key_escape, key_escaped, key_end, value_lead, value_space, value_plain, value_quote, object_opens, list_opens, object_closes, list_closes, quoted_plain, quoted_escape, quoted_escaped, quoted_end}

-- a text leads from a kind of state to another, and completes these items
pub record Leads (P : State → Type 0) (t : List ℕ) (Q : State → Type 0) (ps : List Piece) : Type 0 where
  pub runs : (s : State) → P s → Q (after s t) × (pieces s t ≡ ps)

pub none_read : {P : State → Type 0} → Leads P [] P []
none_read = record { runs = λ s h. (h, refl) }

-- one byte that completes something, then the rest
pub then_held : {P Q R : State → Type 0} {b : ℕ} {t : List ℕ} {qs : List Piece} (ps : List Piece) → ((s : State) → P s → Q (step s b) × (given (step s b) ≡ ps)) → Leads Q t R qs → Leads P (b ∷ t) R (ps ++ qs)
then_held {b = b} {t} ps f g = record {
  runs = λ s h.
      let one = f s h in
      let more = g.runs (step s b) one.0 in
      (more.0, ap (λ l. l ++ pieces (step s b) t) one.1 ∙ ap (λ l. ps ++ l) more.1);
}

-- one byte, then the rest
pub then : {P Q R : State → Type 0} {b : ℕ} {t : List ℕ} {qs : List Piece} → ((s : State) → P s → Q (step s b) × (given (step s b) ≡ [])) → Leads Q t R qs → Leads P (b ∷ t) R qs
then f g = then_held [] f g

-- one text, then another
pub joined : {P Q R : State → Type 0} {t u : List ℕ} {ps qs : List Piece} → Leads P t Q ps → Leads Q u R qs → Leads P (t ++ u) R (ps ++ qs)
joined {R = R} {t} {u} {ps} {qs} f g = record {
  runs = λ s h.
      let one = f.runs s h in
      let more = g.runs (after s t) one.0 in
      (subst R (sym (after-append s t u)) more.0, pieces-append s t u ∙ ap (λ l. l ++ pieces (after s t) u) one.1 ∙ ap (λ l. ps ++ l) more.1);
}

pub pieces_to : {P Q : State → Type 0} {t : List ℕ} {ps qs : List Piece} → ps ≡ qs → Leads P t Q ps → Leads P t Q qs
pieces_to {P} {Q} {t} e f = subst (λ z. Leads P t Q z) e f

pub text_to : {P Q : State → Type 0} {t u : List ℕ} {ps : List Piece} → t ≡ u → Leads P t Q ps → Leads P u Q ps
text_to {P} {Q} {ps = ps} e f = subst (λ z. Leads P z Q ps) e f

-- ---- white space

module _ (w : Frame) where
  pub spaces_in : {p : Place} (d : ℕ) (s : List ℕ) → MaySpace p → Spaces s → Leads (AtIn w p d) s (AtIn w p d) []
  spaces_in d [] m h = none_read
  spaces_in d (b ∷ s) m h =
      let parts = and_parts (is_space b) (list_all is_space s) h in
      then (spaced_in w d b m parts.0) (spaces_in d s m parts.1)

  pub lead_spaces : (name : Name) (d : ℕ) (s : List ℕ) → Spaces s → Leads (Within w (Value name) d 0 []) s (Within w (Value name) d 0 []) []
  lead_spaces name d [] h = none_read
  lead_spaces name d (b ∷ s) h =
      let parts = and_parts (is_space b) (list_all is_space s) h in
      then (value_lead w name d 0 [] b parts.0) (lead_spaces name d s parts.1)

pub spaces : (w : Wanted) {p : Place} (d : ℕ) (s : List ℕ) → MaySpace p → Spaces s → Leads (At w p d) s (At w p d) []
spaces w = spaces_in (outer w)

to_text : {w : Frame} {P : State → Type 0} {p : Place} {d n : ℕ} {t u v : List ℕ} {ps : List Piece} → u ≡ v → Leads P t (Within w p d n u) ps → Leads P t (Within w p d n v) ps
to_text {w} {P} {p} {d} {n} {t} {ps = ps} e f = subst (λ z. Leads P t (Within w p d n z) ps) e f

-- ---- names

-- a name up to its quotation mark, if that leads to Q of the name
module _ (w : Frame) (f : Bool) (d : ℕ) (name : Name) (Q : List ℕ → State → Type 0)
    (ended : (u : List ℕ) → is_json (u ++ 34 ∷ []) ≡ true → name_of w.wanted f w.inner w.diff d (u ++ 34 ∷ []) ≡ name → Leads1 (InKey w Key f d u) 34 (Q (u ++ 34 ∷ [])) []) where
  key_rest : (u k : List ℕ) → EndsString k → is_json (u ++ k) ≡ true → name_of w.wanted f w.inner w.diff d (u ++ k) ≡ name → Leads (InKey w Key f d u) k (Q (u ++ k)) []
  key_rest u k ends json says = then (ended u json says) none_read
  key_rest u k (plain {b} {t} e g rest) json says =
      let same = append_assoc u (b ∷ []) t in
      subst (λ z. Leads (InKey w Key f d u) (b ∷ t) (Q z) []) same
      (then (key_plain w f d u b e g) (key_rest (u ++ b ∷ []) t rest (ap is_json same ∙ json) (ap (name_of w.wanted f w.inner w.diff d) same ∙ says)))
  key_rest u k (escaped {b} {t} rest) json says =
      let same = append_assoc (u ++ 92 ∷ []) (b ∷ []) t ∙ append_assoc u (92 ∷ []) (b ∷ t) in
      subst (λ z. Leads (InKey w Key f d u) (92 ∷ b ∷ t) (Q z) []) same
      (then (key_escape w f d u) (then (key_escaped w f d (u ++ 92 ∷ []) b) (key_rest ((u ++ 92 ∷ []) ++ b ∷ []) t rest (ap is_json same ∙ json) (ap (name_of w.wanted f w.inner w.diff d) same ∙ says))))

  pub key_to : {p : Place} (k : List ℕ) → BeginsKey w p f d → EndsString k → is_json (34 ∷ k) ≡ true → name_of w.wanted f w.inner w.diff d (34 ∷ k) ≡ name → Leads (AtIn w p d) (34 ∷ k) (Q (34 ∷ k)) []
  key_to k begins k_ends json says = then begins (key_rest (34 ∷ []) k k_ends json says)

pub key : (w : Wanted) → wants_documents w ≡ true → (f : Bool) (d : ℕ) (name : Name) → is_plain name ≡ false → {p : Place} (k : List ℕ) → BeginsKey (outer w) p f d → IsNamed w f d k name → Leads (At w p d) (34 ∷ k) (At w (Colon name) d) []
key w docs f d name no_plain k begins h =
    key_to (outer w) f d name (λ u. At w (Colon name) d) (λ u json says. key_end w docs f d u json name no_plain says) k begins h.string h.json h.says

-- ---- values

true_not_false : (b : Bool) → b ≡ true → b ≡ false → ⊥
true_not_false true h k = absurd (cc)
true_not_false false h k = absurd (cc)

suc_not_zero : (n : ℕ) → (suc n == 0) ≡ false
suc_not_zero n = grind arith

below : (n : ℕ) → n < 128 → nat_lt n 128 ≡ true
below n h = grind arith

pub nonempty : (u : List ℕ) (b : ℕ) (v : List ℕ) → (length (u ++ b ∷ v) == 0) ≡ false
nonempty [] b v = suc_not_zero (length v)
nonempty (a ∷ u) b v = suc_not_zero (length (u ++ b ∷ v))

filled : (u v : List ℕ) → (length u == 0) ≡ false → (length (u ++ v) == 0) ≡ false
filled [] v h = absurd (cc)
filled (a ∷ u) v h = suc_not_zero (length (u ++ v))

-- a closing bracket within others does not close the document
inner_one : (n : ℕ) (b : Bool) → (n == 0 && b) ≡ false → (n + 1 == 1 && b) ≡ false
inner_one n true h = grind arith
inner_one n false h = grind arith

inner_more : (n : ℕ) (b : Bool) → (n + 1 == 0 && b) ≡ false
inner_more n b = grind arith

module _ (w : Frame) (name : Name) (d : ℕ) where
  quoted : (n : ℕ) (u q : List ℕ) → EndsString q → Leads (Within w (Quoted name) d n u) q (Within w (Value name) d n (u ++ q)) []
  quoted n u q ends = then (quoted_end w name d n u) none_read
  quoted n u q (plain {b} {t} e f rest) = to_text (append_assoc u (b ∷ []) t) (then (quoted_plain w name d n u b e f) (quoted n (u ++ b ∷ []) t rest))
  quoted n u q (escaped {b} {t} rest) =
      to_text (append_assoc (u ++ 92 ∷ []) (b ∷ []) t ∙ append_assoc u (92 ∷ []) (b ∷ t))
      (then (quoted_escape w name d n u) (then (quoted_escaped w name d n (u ++ 92 ∷ []) b) (quoted n ((u ++ 92 ∷ []) ++ b ∷ []) t rest)))

  -- the text is not empty, or does not begin with white space
  abbrev Ready : List ℕ → List ℕ → Type 0
  Ready u t = ((length u == 0) ≡ false) ⊎ (is_space (slice_index t 0) ≡ false)

  ready : (u t : List ℕ) (b : ℕ) → is_space b ≡ true → ((length u == 0) ≡ false) ⊎ (is_space b ≡ false) → (length u == 0) ≡ false
  ready u t b h (inl e) = e
  ready u t b h (inr e) = absurd (true_not_false (is_space b) h e)

  pub value_text : (n : ℕ) (u t v : List ℕ) → (n == 0 && is_plain name) ≡ false → Closed n t v → Ready u t → Leads (Within w (Value name) d n u) t (Within w (Value name) d n (u ++ v)) []
  value_text n u t v i nothing r = to_text (sym (append-nil u)) none_read
  value_text n u t v i (space {b} {t = rest} {u = x} h c) r =
      let e = ready u rest b h r in
      to_text (append_assoc u (32 ∷ []) x) (then (value_space w name d n u b h e) (value_text n (u ++ 32 ∷ []) rest x i c (inl (nonempty u 32 []))))
  value_text n u t v i (other {b} {t = rest} {u = x} h c) r =
      to_text (append_assoc u (b ∷ []) x) (then (value_plain w name d n u b h) (value_text n (u ++ b ∷ []) rest x i c (inl (nonempty u b []))))
  value_text n u t v i (string {q} {t = rest} {u = x} h c) r =
      to_text (append_assoc (u ++ 34 ∷ []) q x ∙ append_assoc u (34 ∷ []) (q ++ x))
      (then (value_quote w name d n u) (joined (quoted n (u ++ 34 ∷ []) q h) (value_text n ((u ++ 34 ∷ []) ++ q) rest x i c (inl (filled (u ++ 34 ∷ []) q (nonempty u 34 []))))))
  value_text n u t v i (object {m} {v = y} {t = rest} {u = x} h inside c) r =
      let before = u ++ 123 ∷ [] in
      to_text (append_assoc (before ++ y) (125 ∷ []) x ∙ append_assoc before y (125 ∷ x) ∙ append_assoc u (123 ∷ []) (y ++ 125 ∷ x))
      (then (object_opens w name d n u (below n h)) (joined (value_text (n + 1) before m y (inner_more n (is_plain name)) inside (inl (nonempty u 123 [])))
      (then (object_closes w name d n (before ++ y) (inner_one n (is_plain name) i)) (value_text n ((before ++ y) ++ 125 ∷ []) rest x i c (inl (nonempty (before ++ y) 125 []))))))
  value_text n u t v i (list {m} {v = y} {t = rest} {u = x} h inside c) r =
      let before = u ++ 91 ∷ [] in
      to_text (append_assoc (before ++ y) (93 ∷ []) x ∙ append_assoc before y (93 ∷ x) ∙ append_assoc u (91 ∷ []) (y ++ 93 ∷ x))
      (then (list_opens w name d n u (below n h)) (joined (value_text (n + 1) before m y (inner_more n (is_plain name)) inside (inl (nonempty u 91 [])))
      (then (list_closes w name d n (before ++ y) (inner_one n (is_plain name) i)) (value_text n ((before ++ y) ++ 93 ∷ []) rest x i c (inl (nonempty (before ++ y) 93 []))))))
