-- A parser that does not store the runs of a long document.
use Rattle.proof_prelude.proofs.{◌≡◌, ℕ, ◌+◌, ◌-◌, ◌≤◌, ◌==◌, ◌&&◌, ◌||◌, nat_lt, nat_eq, length, drop, take, slice_index, List, [], ◌∷◌, ◌++◌, Bool, true, false, cond, not, refl, sym, ap, subst, ◌∙◌, append_assoc, arith, Option, Some, None, codes, starts_with, and_parts, take-append-drop}
use Rattle.std.proofs.lemmas.Bool.Decides.{Decides-eqb}
use Rattle.std.proofs.lemmas.Slice.Eq.{starts_is}
use Rattle.std.proofs.lemmas.List.{take-append-le}
use Rattle.std.proofs.Math.Seq.{take-append_seam}
use Rattle.doc_envelope.specs.{is_json, is_log, is_space}
use Rattle.doc_envelope.specs.Names.{id_of}
use Rattle.response_parser.specs.{step, is_refused, is_plain, after, given, pieces, piece_of, Place, Refusal, Name, covered, is_strict, wants_changes, wants_documents, wants_leaves}
use Rattle.response_parser.specs.State.{State, added, more, at, refused}
use Rattle.response_parser.specs.Steps.{begun, moved}
use Rattle.response_parser.specs.Lines.{is_lower}
use Rattle.response_parser.specs.Objects.{opened, closed, list_closed, key_begun, object_closed, behind_object, max_depth}
use Rattle.response_parser.specs.Values.{document_found, found_as, in_quoted, in_value as in_value_step, judged, less_deep, object_ended, plain_ended, shallower, spaced, value_ended, value_passed}
use Rattle.response_parser.specs.Fronts.{Cut, IsCut, HasWritten, IsLate, long}
use Rattle.response_parser.specs.Mirrors.{Like, equal, alike, is_idle, is_document, IsWithin, in_value, in_string, in_escape, Mirrors}
use Rattle.response_parser.specs.declared.place.Place.TheVariants.{Between, Item, NextItem, AfterItem, Member, NextMember, AfterMember, Value, Quoted, Escaped, Refused}
use Rattle.response_parser.specs.declared.place.Refusal.TheVariants.{NoAnswer, NoDocument, NotJson}
use Rattle.response_parser.specs.declared.place.Found.TheVariants.{Nothing, Document}
use Rattle.response_parser.specs.declared.place.Name.TheVariants as names
use Rattle.response_parser.proofs.CutTexts.{cut_first, cut_id, cut_json, cut_log, cut_none, cut_some, cut_wants}

-- ---- places where the parser does not read its text

-- after a byte that completes nothing
data Apart (a b : State) : Type 0 where
  same : a ≡ b → Apart a b
  apart : a ≡ record b { text = a.text } → is_idle b.place ≡ true → b.found ≡ Nothing → Apart a b

apart_like : {a b : State} → Apart a b → Like a b
apart_like (same e) = equal e
apart_like (apart e h f) = alike e h

none_given : (a : State) → a.found ≡ Nothing → given a ≡ []
none_given a e = ap (λ f. piece_of f a.text) e

apart_given : {a b : State} → Apart a b → given a ≡ given b
apart_given (same e) = ap given e
apart_given {a} {b} (apart e h f) = none_given a (ap (λ (z : State). z.found) e ∙ f) ∙ sym (none_given b f)

apart_cond : (q : Bool) {a a' b b' : State} → Apart a a' → Apart b b' → Apart (cond q a b) (cond q a' b')
apart_cond true h k = h
apart_cond false h k = k

idle_cond : (q : Bool) (p p' : Place) → is_idle p ≡ true → is_idle p' ≡ true → is_idle (cond q p p') ≡ true
idle_cond true p p' h k = h
idle_cond false p p' h k = k

module _ (s : State) (t : List ℕ) (f : s.found ≡ Nothing) where
  idle_stays : (p : Place) → is_idle p ≡ true → Apart (record s { place = p; text = t }) (record s { place = p })
  idle_stays p h = apart refl h f

  refused_apart : (why : Refusal) → Apart (refused why (record s { text = t })) (refused why s)
  refused_apart why = apart refl refl f

  opened_apart : (p : Place) → is_idle p ≡ true → Apart (opened p (record s { text = t })) (opened p s)
  opened_apart p h = apart_cond (nat_lt s.depth max_depth) (apart refl h f) (apart refl refl f)

  closed_apart : (p : Place) → is_idle p ≡ true → Apart (closed p (record s { text = t })) (closed p s)
  closed_apart p h = apart refl (idle_cond (nat_lt 1 s.depth) p Between h refl) f

  behind_idle : is_idle (behind_object s) ≡ true
  behind_idle = idle_cond (s.diff && s.depth == 2) AfterMember AfterItem refl refl

object_apart : (s : State) (t : List ℕ) → s.found ≡ Nothing → Apart (object_closed (record s { text = t })) (object_closed s)
object_apart s t f =
    apart_cond s.known (closed_apart s t f (behind_object s) (behind_idle s t f))
    (apart_cond (is_strict s.wanted) (refused_apart s t f NoDocument)
    (closed_apart (record s { passed = more s.passed }) t f (behind_object s) (behind_idle s t f)))

list_apart : (s : State) (t : List ℕ) → s.found ≡ Nothing → Apart (list_closed (record s { text = t })) (list_closed s)
list_apart s t f = closed_apart (record s { inner = false }) t f AfterMember refl

key_apart : (first : Bool) (s : State) (t : List ℕ) → Apart (key_begun first (record s { text = t })) (key_begun first s)
key_apart first s t = same refl

-- the effect of a byte
moved_apart : (p : Place) → is_idle p ≡ true → (s : State) (t : List ℕ) → s.found ≡ Nothing → (b : ℕ) → Apart (moved p (record s { place = p; text = t }) b) (moved p (record s { place = p }) b)
moved_apart Between h s t f b =
    let z = record s { place = Between } in
    apart_cond (is_space b) (idle_stays s t f Between refl)
    (apart_cond (b == 91) (apart_cond (wants_changes s.wanted) (refused_apart z t f NoAnswer) (opened_apart z t f Item refl))
    (apart_cond (b == 123) (opened_apart z t f Member refl)
    (apart_cond (is_lower b && not (wants_leaves s.wanted)) (same refl) (refused_apart z t f NoAnswer))))
moved_apart Item h s t f b =
    let z = record s { place = Item } in
    apart_cond (is_space b) (idle_stays s t f Item refl)
    (apart_cond (b == 123) (opened_apart z t f Member refl) (apart_cond (b == 93) (list_apart z t f) (refused_apart z t f NoAnswer)))
moved_apart NextItem h s t f b =
    let z = record s { place = NextItem } in
    apart_cond (is_space b) (idle_stays s t f NextItem refl) (apart_cond (b == 123) (opened_apart z t f Member refl) (refused_apart z t f NoAnswer))
moved_apart AfterItem h s t f b =
    let z = record s { place = AfterItem } in
    apart_cond (is_space b) (idle_stays s t f AfterItem refl)
    (apart_cond (b == 44) (idle_stays s t f NextItem refl) (apart_cond (b == 93) (list_apart z t f) (refused_apart z t f NotJson)))
moved_apart Member h s t f b =
    let z = record s { place = Member } in
    apart_cond (is_space b) (idle_stays s t f Member refl)
    (apart_cond (b == 34) (key_apart true z t)
    (apart_cond (b == 125) (object_apart (record z { known = wants_leaves s.wanted && s.depth == 1 }) t f) (refused_apart z t f NotJson)))
moved_apart NextMember h s t f b =
    let z = record s { place = NextMember } in
    apart_cond (is_space b) (idle_stays s t f NextMember refl) (apart_cond (b == 34) (key_apart false z t) (refused_apart z t f NotJson))
moved_apart AfterMember h s t f b =
    let z = record s { place = AfterMember } in
    apart_cond (is_space b) (idle_stays s t f AfterMember refl)
    (apart_cond (b == 44) (idle_stays s t f NextMember refl) (apart_cond (b == 125) (object_apart z t f) (refused_apart z t f NotJson)))
moved_apart (Refused why) h s t f b = idle_stays s t f (Refused why) refl
moved_apart _ h s t f b = absurd (cc)

step_apart : (s : State) (t : List ℕ) → is_idle s.place ≡ true → (b : ℕ) → Apart (step (record s { text = t }) b) (step s b)
unfolding step
step_apart s t h b = moved_apart s.place h (begun s) t refl b

like_apart : {s s' : State} → Like s s' → (b : ℕ) → Apart (step s b) (step s' b)
like_apart (equal e) b = same (ap (λ z. step z b) e)
like_apart {s} {s'} (alike e h) b = subst (λ z. Apart (step z b) (step s' b)) (sym e) (step_apart s' s.text h b)

-- after bytes
pub like_after : {s s' : State} → Like s s' → (bytes : List ℕ) → Like (after s bytes) (after s' bytes)
like_after h [] = h
like_after {s} {s'} h (b ∷ bytes) = like_after {s = step s b} {s' = step s' b} (apart_like (like_apart h b)) bytes

pub like_pieces : {s s' : State} → Like s s' → (bytes : List ℕ) → pieces s bytes ≡ pieces s' bytes
like_pieces h [] = refl
like_pieces {s} {s'} h (b ∷ bytes) =
    let d = like_apart h b in
    ap (λ l. l ++ pieces (step s b) bytes) (apart_given d) ∙ ap (λ l. given (step s' b) ++ l) (like_pieces {s = step s b} {s' = step s' b} (apart_like d) bytes)

-- ---- a long document

-- the document goes on, is rejected or is found
pub data Outcome (c : Cut) (name : Name) (full stored : State) : Type 0 where
  going : Mirrors c name full stored → Outcome c name full stored
  rejected : Like full stored → is_refused stored.place ≡ true → stored.found ≡ Nothing → HasWritten full c.written → Outcome c name full stored
  found : (tail : List ℕ) → Like full stored → stored.found ≡ Document → stored.text ≡ c.front ++ tail → full.text ≡ c.written ++ tail
      → id_of (c.written ++ tail) ≡ id_of (c.front ++ tail) → Outcome c name full stored
  late : stored.found ≡ Document → full.taken ≡ stored.taken → starts_with nat_eq stored.text c.front ≡ false → IsLate full c.written → Outcome c name full stored

outcome_cond : {c : Cut} {name : Name} (q : Bool) {a a' b b' : State} → (q ≡ true → Outcome c name a a') → (q ≡ false → Outcome c name b b') → Outcome c name (cond q a b) (cond q a' b')
outcome_cond true h k = h refl
outcome_cond false h k = k refl

outcome_same : {c : Cut} {name : Name} (q q' : Bool) {a a' b b' : State} → q ≡ q' → (q' ≡ true → Outcome c name a a') → (q' ≡ false → Outcome c name b b') → Outcome c name (cond q a b) (cond q' a' b')
outcome_same {c} {name} q q' {a} {a'} {b} {b'} e h k = subst (λ z. Outcome c name (cond z a b) (cond q' a' b')) (sym e) (outcome_cond q' h k)

-- the first byte and the length
pub first_more : (x y : List ℕ) → slice_index x 0 ≡ 123 → slice_index (x ++ y) 0 ≡ 123
first_more [] y h = absurd (cc)
first_more (b ∷ x) y h = h

pub some_first : (x : List ℕ) → slice_index x 0 ≡ 123 → (length x == 0) ≡ false
some_first [] h = absurd (cc)
some_first (b ∷ x) h = grind arith

module _ {c : Cut} {name : Name} {full stored : State} (m : Mirrors c name full stored) where
  -- a byte is added
  grown : (b n : ℕ) (p : Place) → IsWithin name p → (is_plain name ≡ true → (n == 0) ≡ false)
      → Mirrors c name (record full { place = p; nesting = n; text = full.text ++ b ∷ [] }) (record stored { place = p; nesting = n; text = stored.text ++ b ∷ [] })
  grown b n p w h = record {
    place = w;
    same = ap {A = State} (λ z. record z { place = p; nesting = n; text = full.text ++ b ∷ [] }) m.same;
    document = record { document = m.document.document; object = first_more stored.text (b ∷ []) m.document.object; nested = h; found = m.document.found };
    behind = m.behind ++ b ∷ [];
    full_text = ap (λ l. l ++ b ∷ []) m.full_text ∙ append_assoc c.full m.behind (b ∷ []);
    stored_text = ap (λ l. l ++ b ∷ []) m.stored_text ∙ append_assoc c.stored m.behind (b ∷ []);
    begun = m.begun;
    starts = m.starts;
    full_length = m.full_length;
    stored_length = m.stored_length;
    log = m.log;
  }

  pub written : HasWritten full c.written
  written = record {
    cut = c;
    behind = m.behind;
    text = m.full_text;
    begun = subst (λ w. IsCut w c) (sym (ap (λ (z : State). z.wanted) m.same)) m.begun;
    length_is = m.full_length;
    is = refl;
  }

  pub full_first : slice_index full.text 0 ≡ 123
  full_first = ap (λ l. slice_index l 0) m.full_text ∙ cut_first stored.wanted c m.behind m.begun ∙ ap (λ l. slice_index l 0) (sym m.stored_text) ∙ m.document.object

  full_json : is_json full.text ≡ is_json stored.text
  full_json = ap is_json m.full_text ∙ cut_json stored.wanted c m.behind m.begun ∙ ap is_json (sym m.stored_text)

-- ---- the end of a document

-- the states x and z are s with other brackets, and the text of x is u
record Kept (s : State) (u : List ℕ) (x z : State) : Type 0 where
  same : x ≡ record z { text = u }
  text : z.text ≡ s.text
  wanted : z.wanted ≡ s.wanted
  found : z.found ≡ s.found
  idle : is_idle z.place ≡ true

kept_cond : {s : State} {u : List ℕ} (q : Bool) {x x' z z' : State} → Kept s u x z → Kept s u x' z' → Kept s u (cond q x x') (cond q z z')
kept_cond true h k = h
kept_cond false h k = k

kept_closed : (s : State) (u : List ℕ) (p : Place) → is_idle p ≡ true → Kept s u (closed p (record s { text = u })) (closed p s)
kept_closed s u p h = record { same = refl; text = refl; wanted = refl; found = refl; idle = idle_cond (nat_lt 1 s.depth) p Between h refl }

kept_object : (s : State) (u : List ℕ) → Kept s u (object_closed (record s { text = u })) (object_closed s)
kept_object s u =
    let idle = idle_cond (s.diff && s.depth == 2) AfterMember AfterItem refl refl in
    let z = record s { passed = more s.passed } in
    let passed = kept_closed z u (behind_object s) idle in
    kept_cond s.known (kept_closed s u (behind_object s) idle)
    (kept_cond (is_strict s.wanted) (record { same = refl; text = refl; wanted = refl; found = refl; idle = refl })
    (record { same = passed.same; text = passed.text; wanted = passed.wanted; found = passed.found; idle = passed.idle }))

kept_value : (s : State) (u : List ℕ) (b : ℕ) → Kept s u (value_passed (record s { text = u }) b) (value_passed s b)
kept_value s u b = kept_cond (b == 44) (record { same = refl; text = refl; wanted = refl; found = refl; idle = refl }) (kept_object s u)

found_taken : (o : Option (List ℕ)) (s : State) → (found_as o s).taken ≡ s.taken
found_taken (Some t) s = refl
found_taken None s = refl

pub front_begins : (p t : List ℕ) → starts_with nat_eq (p ++ t) p ≡ true
front_begins p t = (starts_is (λ x y. Decides-eqb x y) (p ++ t) p (starts_with nat_eq (p ++ t) p) refl).1 t refl

pub begins_front : (v p : List ℕ) → starts_with nat_eq v p ≡ true → v ≡ p ++ drop (length p) v
begins_front v p h = (starts_is (λ x y. Decides-eqb x y) v p true (sym h)).0 refl

-- the document's end, given its output without the runs
module _ (c : Cut) (name : Name) (z : State) (u t : List ℕ) (begun : IsCut z.wanted c) (enough : long ≤ length c.full) (full_text : u ≡ c.full ++ t) (stored_text : z.text ≡ c.stored ++ t) (idle : is_idle z.place ≡ true) (nothing : z.found ≡ Nothing) where
  abbrev x : State
  x = record z { text = u }

  ended_front : (v : List ℕ) (q : Bool) → starts_with nat_eq v c.front ≡ q → covered z.wanted (c.stored ++ t) ≡ Some v → Outcome c name (document_found x) (found_as (Some v) z)
  ended_front v true h e =
      let tail = drop (length c.front) v in
      let is = begins_front v c.front h in
      let full : covered z.wanted u ≡ Some (c.written ++ tail) = ap (covered z.wanted) full_text ∙ cut_some z.wanted c t tail begun (e ∙ ap Some is) in
      subst (λ o. Outcome c name (found_as o x) (found_as (Some v) z)) (sym full) (found tail (alike refl idle) refl is refl (cut_id z.wanted c tail begun))
  ended_front v false h e = late refl (found_taken (covered z.wanted u) x) h (record {
    cut = c;
    rest = t;
    ended = x;
    found = refl;
    text = full_text;
    begun = begun;
    length_is = enough;
    is = refl;
    made = v;
    makes = e;
    differs = h;
  })

  ended_by : (o : Option (List ℕ)) → covered z.wanted (c.stored ++ t) ≡ o → Outcome c name (document_found x) (found_as o z)
  ended_by (Some v) e = ended_front v (starts_with nat_eq v c.front) refl e
  ended_by None e =
      let none : covered z.wanted u ≡ None = ap (covered z.wanted) full_text ∙ cut_none z.wanted c t begun e in
      subst (λ o. Outcome c name (found_as o x) (found_as None z)) (sym none)
      (rejected (alike refl refl) refl nothing (record { cut = c; behind = t; text = full_text; begun = begun; length_is = enough; is = refl }))

  document_out : Outcome c name (document_found x) (document_found z)
  document_out = subst (λ l. Outcome c name (document_found x) (found_as (covered z.wanted l) z)) (sym stored_text) (ended_by (covered z.wanted (c.stored ++ t)) refl)

kept_out : (c : Cut) (name : Name) (s : State) (u t : List ℕ) (x z : State) → Kept s u x z → IsCut s.wanted c → long ≤ length c.full → u ≡ c.full ++ t → s.text ≡ c.stored ++ t → s.found ≡ Nothing
    → Outcome c name (document_found x) (document_found z)
kept_out c name s u t x z k begun enough full_text stored_text nothing =
    subst (λ a. Outcome c name (document_found a) (document_found z)) (sym k.same)
    (document_out c name z u t (subst (λ w. IsCut w c) (sym k.wanted) begun) enough full_text (k.text ∙ stored_text) k.idle (k.found ∙ nothing))

-- ---- one byte of a document

only_plain : (n : Name) → is_document n ≡ true → is_plain n ≡ true → n ≡ names.Plain
only_plain names.Plain d h = refl
only_plain _ d h = absurd (cc)

only_document : (n : Name) → is_document n ≡ true → is_plain n ≡ false → n ≡ names.Document
only_document names.Document d h = refl
only_document _ d h = absurd (cc)

not_last : (n : ℕ) (p : Bool) → (n == 0) ≡ false → (n == 1 && p) ≡ false → p ≡ true → (n - 1 == 0) ≡ false
not_last n p h k e = grind arith

one_more : (n : ℕ) → (n + 1 == 0) ≡ false
one_more n = grind arith

plain_or_not : (p x : Bool) → (p ≡ true → x ≡ false) → x ≡ true → p ≡ false
plain_or_not false x f e = refl
plain_or_not true x f e = let no = f refl in absurd (cc)

abbrev log_front : List ℕ
log_front = codes "{\"_id\":\"_local/"

log_more : (x t : List ℕ) → long ≤ length x → is_log x ≡ false → is_log (x ++ t) ≡ false
log_more x t h e = by (is_log (x ++ t)) refl where
  by : (q : Bool) → is_log (x ++ t) ≡ q → is_log (x ++ t) ≡ false
  by false k = k
  by true k =
      let n = length log_front in
      let enough : n ≤ length x = omega (arith, h) in
      let front : take n x ≡ log_front = sym (take-append-le n x t enough) ∙ ap (take n) (begins_front (x ++ t) log_front k) ∙ take-append_seam log_front (drop n (x ++ t)) in
      let same : x ≡ log_front ++ drop n x = sym (take-append-drop n x) ∙ ap (λ l. l ++ drop n x) front in
      let yes = ap is_log same ∙ front_begins log_front (drop n x) in
      let no = sym e ∙ yes in absurd (cc)

module _ {c : Cut} {name : Name} (s : State) (u : List ℕ) (m : Mirrors c name (record s { text = u }) s) where
  abbrev full : State
  full = record s { text = u }

  going_at : (b n : ℕ) (p : Place) → IsWithin name p → (is_plain name ≡ true → (n == 0) ≡ false)
      → Outcome c name (record full { place = p; nesting = n; text = u ++ b ∷ [] }) (record s { place = p; nesting = n; text = s.text ++ b ∷ [] })
  going_at b n p w h = going (grown m b n p w h)

  stays_at : (b : ℕ) (p : Place) → IsWithin name p → Outcome c name (at p (added b full)) (at p (added b s))
  stays_at b p w = going_at b s.nesting p w m.document.nested

  rejects : (why : Refusal) → Outcome c name (refused why full) (refused why s)
  rejects why = rejected (alike refl refl) refl m.document.found (record { cut = c; behind = m.behind; text = m.full_text; begun = m.begun; length_is = m.full_length; is = refl })

  -- in a string
  string_out : (b : ℕ) → Outcome c name (in_quoted name full b) (in_quoted name s b)
  string_out b =
      outcome_cond (b == 34) (λ e. stays_at b (Value name) in_value)
      (λ e. outcome_cond (b == 92) (λ k. stays_at b (Escaped name) in_escape) (λ k. stays_at b s.place m.place))

  -- the value of `ok` or `doc` ends
  judged_out : (b : ℕ) → Outcome c name (judged names.Document (slice_index u 0) (value_passed full b)) (judged names.Document (slice_index s.text 0) (value_passed s b))
  judged_out b =
      subst (λ k. Outcome c name (judged names.Document k (value_passed full b)) (judged names.Document (slice_index s.text 0) (value_passed s b))) (sym (full_first m))
      (subst (λ k. Outcome c name (judged names.Document 123 (value_passed full b)) (judged names.Document k (value_passed s b))) (sym m.document.object)
      (kept_out c name s u m.behind (value_passed full b) (value_passed s b) (kept_value s u b) m.begun m.full_length m.full_text m.stored_text m.document.found))

  ended_out : (b : ℕ) → (s.nesting == 0 && (b == 44 || b == 125)) ≡ true → Outcome c name (value_ended name full b) (value_ended name s b)
  ended_out b h =
      let zero = (and_parts (s.nesting == 0) (b == 44 || b == 125) h).0 in
      let is = only_document name m.document.document (plain_or_not (is_plain name) (s.nesting == 0) m.document.nested zero) in
      subst (λ n. Outcome c name (value_ended n full b) (value_ended n s b)) (sym is)
      (outcome_same (is_json u) (is_json s.text) (full_json m) (λ e. judged_out b) (λ e. rejects NotJson))

  -- the document ends at its brace
  abbrev deep : ℕ → State
  deep b = less_deep s b

  text_more : (b : ℕ) → u ++ b ∷ [] ≡ c.full ++ (m.behind ++ b ∷ [])
  text_more b = ap (λ l. l ++ b ∷ []) m.full_text ∙ append_assoc c.full m.behind (b ∷ [])

  stored_more : (b : ℕ) → s.text ++ b ∷ [] ≡ c.stored ++ (m.behind ++ b ∷ [])
  stored_more b = ap (λ l. l ++ b ∷ []) m.stored_text ∙ append_assoc c.stored m.behind (b ∷ [])

  no_log : (b : ℕ) → is_plain name ≡ true → is_log (s.text ++ b ∷ []) ≡ false
  no_log b h = ap is_log (stored_more b) ∙ log_more c.stored (m.behind ++ b ∷ []) m.stored_length (m.log h)

  wants_it : (b : ℕ) → is_plain name ≡ true → (wants_documents s.wanted && not (is_log (s.text ++ b ∷ []))) ≡ true
  wants_it b h = rw (no_log b h, cut_wants s.wanted c m.begun) refl

  full_wants : (b : ℕ) → (wants_documents s.wanted && not (is_log (u ++ b ∷ []))) ≡ (wants_documents s.wanted && not (is_log (s.text ++ b ∷ [])))
  full_wants b = ap (λ l. wants_documents s.wanted && not l) (ap is_log (text_more b) ∙ cut_log s.wanted c (m.behind ++ b ∷ []) m.begun ∙ ap is_log (sym (stored_more b)))

  plain_out : (b : ℕ) → is_plain name ≡ true → Outcome c name (plain_ended (less_deep full b)) (plain_ended (less_deep s b))
  plain_out b h =
      let t = m.behind ++ b ∷ [] in
      let z = record (less_deep s b) { known = true } in
      let json : is_json (u ++ b ∷ []) ≡ is_json (s.text ++ b ∷ []) = ap is_json (text_more b) ∙ cut_json s.wanted c t m.begun ∙ ap is_json (sym (stored_more b)) in
      outcome_same (is_json (u ++ b ∷ [])) (is_json (s.text ++ b ∷ [])) json
      (λ e. outcome_same (wants_documents s.wanted && not (is_log (u ++ b ∷ []))) (wants_documents s.wanted && not (is_log (s.text ++ b ∷ []))) (full_wants b)
      (λ k. kept_out c name z (u ++ b ∷ []) t (object_closed (record z { text = u ++ b ∷ [] })) (object_closed z) (kept_object z (u ++ b ∷ [])) m.begun m.full_length (text_more b) (stored_more b) m.document.found)
      (λ k. let yes = wants_it b h in absurd (cc)))
      (λ e. rejected (alike refl refl) refl m.document.found (record { cut = c; behind = t; text = text_more b; begun = m.begun; length_is = m.full_length; is = refl }))

  object_out : (b : ℕ) → is_plain name ≡ true → Outcome c name (object_ended name (less_deep full b)) (object_ended name (less_deep s b))
  object_out b h =
      subst (λ n. Outcome c name (object_ended n (less_deep full b)) (object_ended n (less_deep s b))) (sym (only_plain name m.document.document h)) (plain_out b h)

  shallower_out : (b : ℕ) → Outcome c name (shallower name full b) (shallower name s b)
  shallower_out b =
      outcome_cond (s.nesting == 0) (λ e. rejects NotJson)
      (λ e. outcome_cond (s.nesting == 1 && is_plain name) (λ k. object_out b (and_parts (s.nesting == 1) (is_plain name) k).1)
      (λ k. going_at b (s.nesting - 1) s.place m.place (not_last s.nesting (is_plain name) e k)))

  spaced_out : Outcome c name (spaced full) (spaced s)
  spaced_out =
      let some = some_first s.text m.document.object in
      outcome_same (length u == 0) (length s.text == 0) (some_first u (full_first m) ∙ sym some) (λ e. absurd (cc)) (λ e. stays_at 32 s.place m.place)

  value_out : (b : ℕ) → Outcome c name (in_value_step name full b) (in_value_step name s b)
  value_out b =
      outcome_cond (is_space b) (λ e. spaced_out)
      (λ e. outcome_cond (s.nesting == 0 && (b == 44 || b == 125)) (λ k. ended_out b k)
      (λ k. outcome_cond (b == 34) (λ q. stays_at b (Quoted name) in_string)
      (λ q. outcome_cond (b == 123 || b == 91)
      (λ o. outcome_cond (nat_lt s.nesting 128) (λ d. going_at b (s.nesting + 1) s.place m.place (λ i. one_more s.nesting)) (λ d. rejects NotJson))
      (λ o. outcome_cond (b == 125 || b == 93) (λ d. shallower_out b) (λ d. stays_at b s.place m.place)))))

  moved_out : (p : Place) → IsWithin name p → (b : ℕ) → Outcome c name (moved p full b) (moved p s b)
  moved_out _ in_value b = value_out b
  moved_out _ in_string b = string_out b
  moved_out _ in_escape b = stays_at b (Quoted name) in_string

begun_mirrors : {c : Cut} {name : Name} {full stored : State} → Mirrors c name full stored → Mirrors c name (begun (record stored { text = full.text })) (begun stored)
begun_mirrors m = record {
  place = m.place;
  same = refl;
  document = record { document = m.document.document; object = m.document.object; nested = m.document.nested; found = refl };
  behind = m.behind;
  full_text = m.full_text;
  stored_text = m.stored_text;
  begun = m.begun;
  starts = m.starts;
  full_length = m.full_length;
  stored_length = m.stored_length;
  log = m.log;
}

pub step_out : {c : Cut} {name : Name} {full stored : State} → Mirrors c name full stored → (b : ℕ) → Outcome c name (step full b) (step stored b)
unfolding step
step_out {c} {name} {full} {stored} m b =
    subst (λ z. Outcome c name (step z b) (step stored b)) (sym m.same) (moved_out (begun stored) full.text (begun_mirrors m) stored.place m.place b)
