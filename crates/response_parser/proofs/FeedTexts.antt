-- Responses to `_changes` and `_revs_diff` are parsed as the leaves in them.
use Rattle.proof_prelude.proofs.{◌≡◌, ℕ, ◌+◌, ◌==◌, ◌&&◌, ◌||◌, nat_lt, slice_index, List, [], ◌∷◌, ◌++◌, Bool, true, false, cond, codes, refl, sym, ap, subst, ◌∙◌, append_assoc, append-nil, inr, list_all, and_parts, is_utf8-from_IsUtf8, bytes_eq, arith}
use Rattle.json.proofs.Printed.Utf8.{IsUtf8-are_ascii}
use Rattle.json.proofs.OnLiterals.{json_on_literals}
use Rattle.doc_envelope.specs.{Spaces, EndsString, Closed, is_space, is_json, ends, plain, escaped}
use Rattle.response_parser.specs.{name_of, is_plain, step, start, after, given, pieces, Piece, IsValue, Place, Name}
use Rattle.response_parser.specs.State.{State}
use Rattle.response_parser.specs.Names.{is_id, leaf_name}
use Rattle.response_parser.specs.Objects.{value_begun}
use Rattle.response_parser.specs.FeedGrammar.{AreMembersOf, last_member, member, IsObjectOf, object_of, AreItemsOf, last_item_of, item_of, IsListOf, no_items_of, items_of, is_skipped, IsSkipped, skipped, skipped_outside, IsRevMember, rev_of, skipped_rev, IsRowMember, id_of, changes_of, skipped_row, IsPageMember, results_of, skipped_page, AreMissing, last_missing, missing, IsEntryMember, missing_of, skipped_entry, IsDiffMember, entry_of, AreLeaves, page, difference, no_difference}
use Rattle.response_parser.specs.declared.place.Place.TheVariants.{Start, Between, Item, NextItem, AfterItem, Member, NextMember, AfterMember, Key, Colon, Ahead, List as ListPlace, Value, Revs}
use Rattle.response_parser.specs.declared.place.RevPlace.{RevPlace}
use Rattle.response_parser.specs.declared.place.RevPlace.TheVariants as revs
use Rattle.response_parser.specs.declared.place.Wanted.TheVariants.{Leaves}
use Rattle.response_parser.specs.declared.place.Name.TheVariants as names
use Rattle.response_parser.specs.declared.place.Found.TheVariants as found
use Rattle.response_parser.proofs.Bytes.{Frame, AtIn, settled_in, from_in, InKey, key_in, is_key_in, keys, BeginsKey, first_key, next_key, Within, held_in, within, within_known, Leads1, BeforeObject, o_start, o_item, o_next, MaySpace, s_start, s_between, s_item, s_next_item, s_after_item, s_member, s_next_member, s_after_member, s_list, less_one}
use Rattle.response_parser.proofs.Texts.{Leads, none_read, then, then_held, joined, pieces_to, text_to, spaces_in, lead_spaces, key_to, value_text}

abbrev framed : Bool → Bool → Bool → Frame
framed inner named diff = record { wanted = Leaves; inner = inner; named = named; diff = diff }

or_no : (b : Bool) → (b || false) ≡ b
or_no true = refl
or_no false = refl

weaken : {P P' Q : State → Type 0} {t : List ℕ} {ps : List Piece} → ((s : State) → P' s → P s) → Leads P t Q ps → Leads P' t Q ps
weaken f g = record { runs = λ s h. g.runs s (f s h) }

-- ---- the byte after a member

-- a comma, or the brace that closes the object
abbrev end_byte : Bool → ℕ
end_byte true = 44
end_byte false = 125

-- the place after an object that closes, of d open lists and objects
abbrev closing : Bool → ℕ → Place
closing diff d = cond (nat_lt 1 d) (cond (diff && d == 2) AfterMember AfterItem) Between

abbrev Ended : Bool → Bool → Bool → ℕ → Bool → State → Type 0
Ended inner named diff o true = AtIn (framed inner named diff) NextMember (o + 1)
Ended inner named diff o false = AtIn (framed inner false diff) (closing diff (o + 1)) o

-- what a value says by its name
data Says : Name → List ℕ → List Piece → Type 0 where
  says_id : {u : List ℕ} → (slice_index u 0 == 34) ≡ true → Says names.Id u ((found.Id, u) ∷ [])
  says_rev : {u : List ℕ} → (slice_index u 0 == 34) ≡ true → Says names.Rev u ((found.Rev, u) ∷ [])
  says_other : {u : List ℕ} → Says names.Other u []
  says_last : {u : List ℕ} → Says names.Last u []

skipped_says : (name : Name) {u : List ℕ} → is_skipped name ≡ true → Says name u []
skipped_says names.Other h = says_other
skipped_says names.Last h = says_last
skipped_says _ h = absurd (cc)

module _ (inner named diff : Bool) (o : ℕ) where
  -- after a list, or after the entry of a document
  list_ends : (e : Bool) → Leads1 (AtIn (framed inner named diff) AfterMember (o + 1)) (end_byte e) (Ended inner named diff o e) []
  unfolding step
  list_ends true = from_in (Ended inner named diff o true) (framed inner named diff) AfterMember (o + 1) 44 [] (λ s. (record { wanted = refl; inner = refl; named = refl; diff = refl; place = refl; depth = refl }, refl))
  list_ends false = from_in (Ended inner named diff o false) (framed inner named diff) AfterMember (o + 1) 125 [] (λ s. by_known s s.known) where
    by_known : (s : State) (k : Bool) → Ended inner named diff o false (step (record (settled_in s (framed inner named diff) AfterMember (o + 1)) { known = k }) 125) × (given (step (record (settled_in s (framed inner named diff) AfterMember (o + 1)) { known = k }) 125) ≡ [])
    by_known s true = (record { wanted = refl; inner = refl; named = refl; diff = refl; place = refl; depth = less_one o }, refl)
    by_known s false = (record { wanted = refl; inner = refl; named = refl; diff = refl; place = refl; depth = less_one o }, refl)

  module _ (u : List ℕ) (json : is_json u ≡ true) where
    value_comma : {name : Name} {ps : List Piece} → Says name u ps → Leads1 (Within (framed inner named diff) (Value name) (o + 1) 0 u) 44 (Ended inner named diff o true) ps
    unfolding step
    value_comma (says_id e) = within (Ended inner named diff o true) (framed inner named diff) (Value names.Id) (o + 1) 0 u 44 ((found.Id, u) ∷ []) (λ s. rw (json, e, e) (record { wanted = refl; inner = refl; named = refl; diff = refl; place = refl; depth = refl }, refl))
    value_comma (says_rev e) = within (Ended inner named diff o true) (framed inner named diff) (Value names.Rev) (o + 1) 0 u 44 ((found.Rev, u) ∷ []) (λ s. rw (json, e, e) (record { wanted = refl; inner = refl; named = refl; diff = refl; place = refl; depth = refl }, refl))
    value_comma says_other = within (Ended inner named diff o true) (framed inner named diff) (Value names.Other) (o + 1) 0 u 44 [] (λ s. rw json (record { wanted = refl; inner = refl; named = refl; diff = refl; place = refl; depth = refl }, refl))
    value_comma says_last = within (Ended inner named diff o true) (framed inner named diff) (Value names.Last) (o + 1) 0 u 44 [] (λ s. rw json (record { wanted = refl; inner = refl; named = refl; diff = refl; place = refl; depth = refl }, refl))

    value_brace : {name : Name} {ps : List Piece} → Says name u ps → Leads1 (Within (framed inner named diff) (Value name) (o + 1) 0 u) 125 (Ended inner named diff o false) ps
    unfolding step
    value_brace (says_id e) = within_known (Ended inner named diff o false) (framed inner named diff) (Value names.Id) (o + 1) 0 u 125 ((found.Id, u) ∷ []) by_known where
      by_known : (s : State) (k : Bool) → Ended inner named diff o false (step (record (held_in s (framed inner named diff) (Value names.Id) (o + 1) 0 u) { known = k }) 125) × (given (step (record (held_in s (framed inner named diff) (Value names.Id) (o + 1) 0 u) { known = k }) 125) ≡ (found.Id, u) ∷ [])
      by_known s true = rw (json, e, e) (record { wanted = refl; inner = refl; named = refl; diff = refl; place = refl; depth = less_one o }, refl)
      by_known s false = rw (json, e, e) (record { wanted = refl; inner = refl; named = refl; diff = refl; place = refl; depth = less_one o }, refl)
    value_brace (says_rev e) = within_known (Ended inner named diff o false) (framed inner named diff) (Value names.Rev) (o + 1) 0 u 125 ((found.Rev, u) ∷ []) by_known where
      by_known : (s : State) (k : Bool) → Ended inner named diff o false (step (record (held_in s (framed inner named diff) (Value names.Rev) (o + 1) 0 u) { known = k }) 125) × (given (step (record (held_in s (framed inner named diff) (Value names.Rev) (o + 1) 0 u) { known = k }) 125) ≡ (found.Rev, u) ∷ [])
      by_known s true = rw (json, e, e) (record { wanted = refl; inner = refl; named = refl; diff = refl; place = refl; depth = less_one o }, refl)
      by_known s false = rw (json, e, e) (record { wanted = refl; inner = refl; named = refl; diff = refl; place = refl; depth = less_one o }, refl)
    value_brace says_other = within_known (Ended inner named diff o false) (framed inner named diff) (Value names.Other) (o + 1) 0 u 125 [] by_known where
      by_known : (s : State) (k : Bool) → Ended inner named diff o false (step (record (held_in s (framed inner named diff) (Value names.Other) (o + 1) 0 u) { known = k }) 125) × (given (step (record (held_in s (framed inner named diff) (Value names.Other) (o + 1) 0 u) { known = k }) 125) ≡ [])
      by_known s true = rw json (record { wanted = refl; inner = refl; named = refl; diff = refl; place = refl; depth = less_one o }, refl)
      by_known s false = rw json (record { wanted = refl; inner = refl; named = refl; diff = refl; place = refl; depth = less_one o }, refl)
    value_brace says_last = within_known (Ended inner named diff o false) (framed inner named diff) (Value names.Last) (o + 1) 0 u 125 [] by_known where
      by_known : (s : State) (k : Bool) → Ended inner named diff o false (step (record (held_in s (framed inner named diff) (Value names.Last) (o + 1) 0 u) { known = k }) 125) × (given (step (record (held_in s (framed inner named diff) (Value names.Last) (o + 1) 0 u) { known = k }) 125) ≡ [])
      by_known s true = rw json (record { wanted = refl; inner = refl; named = refl; diff = refl; place = refl; depth = less_one o }, refl)
      by_known s false = rw json (record { wanted = refl; inner = refl; named = refl; diff = refl; place = refl; depth = less_one o }, refl)

    value_ends : (e : Bool) {name : Name} {ps : List Piece} → Says name u ps → Leads1 (Within (framed inner named diff) (Value name) (o + 1) 0 u) (end_byte e) (Ended inner named diff o e) ps
    value_ends true h = value_comma h
    value_ends false h = value_brace h

-- ---- names

said_not_plain : {name : Name} {u : List ℕ} {ps : List Piece} → Says name u ps → is_plain name ≡ false
said_not_plain (says_id e) = refl
said_not_plain (says_rev e) = refl
said_not_plain says_other = refl
said_not_plain says_last = refl

first_same : (f inner diff : Bool) (d : ℕ) (t : List ℕ) → name_of Leaves f inner diff d t ≡ name_of Leaves false inner diff d t
first_same f inner diff d t = unfold name_of in refl

-- by the tests of a name
leaf_by : (e m i r s d c l : Bool)
    → is_plain (cond e (cond m names.Missing names.Other) (cond i (cond r names.Rev names.Other) (cond s names.List (cond d names.Id (cond c names.Changes (cond l names.Last names.Other)))))) ≡ false
leaf_by true true i r s d c l = refl
leaf_by true false i r s d c l = refl
leaf_by false m true true s d c l = refl
leaf_by false m true false s d c l = refl
leaf_by false m false r true d c l = refl
leaf_by false m false r false true c l = refl
leaf_by false m false r false false true l = refl
leaf_by false m false r false false false true = refl
leaf_by false m false r false false false false = refl

outer_by : (a b : Bool) (name : Name) → is_plain name ≡ false → is_plain (cond a names.Error (cond b names.Reason name)) ≡ false
outer_by true b name h = refl
outer_by false true name h = refl
outer_by false false name h = h

-- no name begins a document if leaves are requested
leaf_not_plain : (f inner diff : Bool) (d : ℕ) (t : List ℕ) → is_plain (name_of Leaves f inner diff d t) ≡ false
leaf_not_plain f inner diff d t = unfold name_of in
    outer_by (d == 1 && bytes_eq t (codes "\"error\"")) (d == 1 && bytes_eq t (codes "\"reason\"")) (leaf_name inner (diff && d == 2) t)
    (leaf_by (diff && d == 2) (bytes_eq t (codes "\"missing\"")) inner (bytes_eq t (codes "\"rev\"")) (bytes_eq t (codes "\"results\"")) (bytes_eq t (codes "\"id\"")) (bytes_eq t (codes "\"changes\"")) (bytes_eq t (codes "\"last_seq\"")))

module _ (inner named diff f : Bool) (d : ℕ) where
  key_ends : (name : Name) → is_plain name ≡ false → (u : List ℕ) → is_json (u ++ 34 ∷ []) ≡ true → name_of Leaves f inner diff d (u ++ 34 ∷ []) ≡ name
      → Leads1 (InKey (framed inner named diff) Key f d u) 34 (InKey (framed inner named diff) (Colon name) f d (u ++ 34 ∷ [])) []
  key_ends name other u json says = unfold step in keys (InKey (framed inner named diff) (Colon name) f d (u ++ 34 ∷ [])) (framed inner named diff) Key f d u 34 []
      (λ s. rw (json, says, other) (record { wanted = refl; inner = refl; named = refl; diff = refl; place = refl; depth = refl; first = refl; text = refl }, refl))

  key_of : {p : Place} (k : List ℕ) (name : Name) → is_plain name ≡ false → BeginsKey (framed inner named diff) p f d → EndsString k → is_json (34 ∷ k) ≡ true
      → name_of Leaves false inner diff d (34 ∷ k) ≡ name → Leads (AtIn (framed inner named diff) p d) (34 ∷ k) (InKey (framed inner named diff) (Colon name) f d (34 ∷ k)) []
  key_of k name other begins string json says =
      key_to (framed inner named diff) f d name (InKey (framed inner named diff) (Colon name) f d) (key_ends name other) k begins string json (first_same f inner diff d (34 ∷ k) ∙ says)

  -- white space before and after a colon
  colon_space : (u : List ℕ) (name : Name) (b : ℕ) → is_space b ≡ true → Leads1 (InKey (framed inner named diff) (Colon name) f d u) b (InKey (framed inner named diff) (Colon name) f d u) []
  colon_space u name b h = unfold step in keys (InKey (framed inner named diff) (Colon name) f d u) (framed inner named diff) (Colon name) f d u b []
      (λ s. rw h (record { wanted = refl; inner = refl; named = refl; diff = refl; place = refl; depth = refl; first = refl; text = refl }, refl))

  colon_spaces : (u : List ℕ) (name : Name) (s : List ℕ) → Spaces s → Leads (InKey (framed inner named diff) (Colon name) f d u) s (InKey (framed inner named diff) (Colon name) f d u) []
  colon_spaces u name [] h = none_read
  colon_spaces u name (b ∷ s) h = let parts = and_parts (is_space b) (list_all is_space s) h in then (colon_space u name b parts.0) (colon_spaces u name s parts.1)

  ahead_space : (u : List ℕ) (name : Name) (b : ℕ) → is_space b ≡ true → Leads1 (InKey (framed inner named diff) (Ahead name) f d u) b (InKey (framed inner named diff) (Ahead name) f d u) []
  ahead_space u name b h = unfold step in keys (InKey (framed inner named diff) (Ahead name) f d u) (framed inner named diff) (Ahead name) f d u b []
      (λ s. rw h (record { wanted = refl; inner = refl; named = refl; diff = refl; place = refl; depth = refl; first = refl; text = refl }, refl))

  ahead_spaces : (u : List ℕ) (name : Name) (s : List ℕ) → Spaces s → Leads (InKey (framed inner named diff) (Ahead name) f d u) s (InKey (framed inner named diff) (Ahead name) f d u) []
  ahead_spaces u name [] h = none_read
  ahead_spaces u name (b ∷ s) h = let parts = and_parts (is_space b) (list_all is_space s) h in then (ahead_space u name b parts.0) (ahead_spaces u name s parts.1)

  -- the value of a member within others
  colon_value : (u : List ℕ) {name : Name} {v : List ℕ} {ps : List Piece} → (d == 1) ≡ false → Says name v ps
      → Leads1 (InKey (framed inner named diff) (Colon name) f d u) 58 (Within (framed inner (named || is_id name) diff) (Value name) d 0 []) []
  unfolding step
  colon_value u h (says_id e) = keys (Within (framed inner (named || true) diff) (Value names.Id) d 0 []) (framed inner named diff) (Colon names.Id) f d u 58 []
      (λ s. rw (h, or_no inner) (record { wanted = refl; inner = refl; named = refl; diff = refl; place = refl; depth = refl; nesting = refl; text = refl }, refl))
  colon_value u h (says_rev e) = keys (Within (framed inner (named || false) diff) (Value names.Rev) d 0 []) (framed inner named diff) (Colon names.Rev) f d u 58 []
      (λ s. rw (h, or_no inner) (record { wanted = refl; inner = refl; named = refl; diff = refl; place = refl; depth = refl; nesting = refl; text = refl }, refl))
  colon_value u h says_other = keys (Within (framed inner (named || false) diff) (Value names.Other) d 0 []) (framed inner named diff) (Colon names.Other) f d u 58 []
      (λ s. rw (h, or_no inner) (record { wanted = refl; inner = refl; named = refl; diff = refl; place = refl; depth = refl; nesting = refl; text = refl }, refl))
  colon_value u h says_last = keys (Within (framed inner (named || false) diff) (Value names.Last) d 0 []) (framed inner named diff) (Colon names.Last) f d u 58 []
      (λ s. rw (h, or_no inner) (record { wanted = refl; inner = refl; named = refl; diff = refl; place = refl; depth = refl; nesting = refl; text = refl }, refl))

-- ---- members

-- the byte after a member, as part of its text
ended_text : (k s s' t : List ℕ) (b : ℕ) → 34 ∷ (k ++ (s ++ 58 ∷ (s' ++ (t ++ b ∷ [])))) ≡ (34 ∷ (k ++ (s ++ 58 ∷ (s' ++ t)))) ++ b ∷ []
ended_text k s s' t b =
    sym (ap (λ z. 34 ∷ z) (append_assoc k (s ++ 58 ∷ (s' ++ t)) (b ∷ []) ∙ ap (λ z. k ++ z) (append_assoc s (58 ∷ (s' ++ t)) (b ∷ []) ∙ ap (λ z. s ++ 58 ∷ z) (append_assoc s' t (b ∷ [])))))

outside : (b : Bool) → b ≡ false → (0 == 0 && b) ≡ false
outside b h = h

-- a member with a value, within others
value_member : (inner named diff f : Bool) (o : ℕ) {p : Place} (e : Bool) → (o + 1 == 1) ≡ false → BeginsKey (framed inner named diff) p f (o + 1)
    → (k s s' t u : List ℕ) (name : Name) (ps : List Piece) → EndsString k → is_json (34 ∷ k) ≡ true → name_of Leaves false inner diff (o + 1) (34 ∷ k) ≡ name → Says name u ps
    → Spaces s → Spaces s' → IsValue t u
    → Leads (AtIn (framed inner named diff) p (o + 1)) ((34 ∷ (k ++ (s ++ 58 ∷ (s' ++ t)))) ++ end_byte e ∷ []) (Ended inner (named || is_id name) diff o e) ps
value_member inner named diff f o e within_others begins k s s' t u name ps string json says of h h' v =
    text_to (ended_text k s s' t (end_byte e)) (pieces_to (append-nil ps)
    (joined (key_of inner named diff f (o + 1) k name (said_not_plain of) begins string json says) (joined (colon_spaces inner named diff f (o + 1) (34 ∷ k) name s h)
    (then (colon_value inner named diff f (o + 1) (34 ∷ k) within_others of) (joined (lead_spaces (framed inner (named || is_id name) diff) name (o + 1) s' h')
    (joined (value_text (framed inner (named || is_id name) diff) name (o + 1) 0 [] t u (outside (is_plain name) (said_not_plain of)) v.closed (inr v.first))
    (then_held ps (value_ends inner (named || is_id name) diff o u v.json e of) none_read)))))))

-- the place of the first name of an object, or of a later one
abbrev name_place : Bool → Place
name_place true = Member
name_place false = NextMember

key_begins : (w : Frame) (f : Bool) (d : ℕ) → BeginsKey w (name_place f) f d
key_begins w true d = first_key w d
key_begins w false d = next_key w d

may_space : (f : Bool) → MaySpace (name_place f)
may_space true = s_member
may_space false = s_next_member

skipped_member : (inner diff f : Bool) (o : ℕ) (e : Bool) → (o + 1 == 1) ≡ false → {t : List ℕ} → IsSkipped inner diff (o + 1) t
    → (n : Bool) → Leads (AtIn (framed inner n diff) (name_place f) (o + 1)) (t ++ end_byte e ∷ []) (Ended inner n diff o e) []
skipped_member inner diff f o e h (skipped {k} {t} {u} {name} s s' string json says skips blanks blanks' v) n =
    by n (skip n)
  where
    skip : (n : Bool) → Leads (AtIn (framed inner n diff) (name_place f) (o + 1)) ((34 ∷ (k ++ (s ++ 58 ∷ (s' ++ t)))) ++ end_byte e ∷ []) (Ended inner (n || is_id name) diff o e) []
    skip n = value_member inner n diff f o e h (key_begins (framed inner n diff) f (o + 1)) k s s' t u name [] string json says (skipped_says name skips) blanks blanks' v

    not_id : (name : Name) → is_skipped name ≡ true → is_id name ≡ false
    not_id names.Other h = refl
    not_id names.Last h = refl
    not_id _ h = absurd (cc)

    by : (n : Bool) → Leads (AtIn (framed inner n diff) (name_place f) (o + 1)) ((34 ∷ (k ++ (s ++ 58 ∷ (s' ++ t)))) ++ end_byte e ∷ []) (Ended inner (n || is_id name) diff o e) []
        → Leads (AtIn (framed inner n diff) (name_place f) (o + 1)) ((34 ∷ (k ++ (s ++ 58 ∷ (s' ++ t)))) ++ end_byte e ∷ []) (Ended inner n diff o e) []
    by n = subst (λ z. Leads (AtIn (framed inner n diff) (name_place f) (o + 1)) ((34 ∷ (k ++ (s ++ 58 ∷ (s' ++ t)))) ++ end_byte e ∷ []) (Ended inner z diff o e) []) (ap (λ z. n || z) (not_id name skips) ∙ or_no n)

-- ---- objects and lists

-- The contents of an object, given those of its members. `one` reads a member from the first name of the object or a
-- later one; after it the frame is the second one.
module _ (Member' : Bool → Bool → List ℕ → List Piece → Type 0) (inner diff diff' : Bool) (o : ℕ)
    (one : (f e n n' : Bool) (m : List ℕ) (ps : List Piece) → Member' n n' m ps
    → Leads (AtIn (framed inner n (cond f diff diff')) (name_place f) (o + 1)) (m ++ end_byte e ∷ []) (Ended inner n' diff' o e) ps) where
  members_read : (f : Bool) {n : Bool} {t : List ℕ} {ps : List Piece} → AreMembersOf Member' n t ps
      → Leads (AtIn (framed inner n (cond f diff diff')) (name_place f) (o + 1)) t (AtIn (framed inner false diff') (closing diff' (o + 1)) o) ps
  members_read f {n} {t} {ps} (last_member {n' = n'} {m = m'} h) = one f false n n' m' ps h
  members_read f {n} (member {n' = n'} {m = m'} {t} {ps} {qs} s m h more) =
      text_to (append_assoc m' (44 ∷ []) (s ++ t)) (joined (one f true n n' m' ps m) (joined (spaces_in (framed inner n' diff') (o + 1) s s_next_member h) (members_read false more)))

  object_read : {S : State → Type 0} {t : List ℕ} {ps qs : List Piece} → Leads1 S 123 (AtIn (framed inner false diff) Member (o + 1)) ps → IsObjectOf Member' t qs
      → Leads S t (AtIn (framed inner false diff') (closing diff' (o + 1)) o) (ps ++ qs)
  object_read {ps = ps} opens (object_of s h m) = then_held ps opens (joined (spaces_in (framed inner false diff) (o + 1) s s_member h) (members_read true m))

-- the contents of a list, given those of its items
module _ (Item' : List ℕ → List Piece → Type 0) (inner : Bool) (d : ℕ)
    (one : (p : Place) → BeforeObject p → (m : List ℕ) (ps : List Piece) → Item' m ps → Leads (AtIn (framed inner false false) p d) m (AtIn (framed inner false false) AfterItem d) ps) where
  list_comma : Leads1 (AtIn (framed inner false false) AfterItem d) 44 (AtIn (framed inner false false) NextItem d) []
  list_comma = unfold step in from_in (AtIn (framed inner false false) NextItem d) (framed inner false false) AfterItem d 44 [] (λ s. (record { wanted = refl; inner = refl; named = refl; diff = refl; place = refl; depth = refl }, refl))

  items_read : {Q : State → Type 0} {p : Place} → BeforeObject p → Leads1 (AtIn (framed inner false false) AfterItem d) 93 Q [] → {t : List ℕ} {ps : List Piece} → AreItemsOf Item' t ps
      → Leads (AtIn (framed inner false false) p d) t Q ps
  items_read {p = p} before closes (last_item_of {o} {ps} s m h) =
      pieces_to (append-nil ps) (joined (one p before o ps m) (joined (spaces_in (framed inner false false) d s s_after_item h) (then closes none_read)))
  items_read {p = p} before closes (item_of {o} {ps = ps} s s' m h h' more) =
      joined (one p before o ps m) (joined (spaces_in (framed inner false false) d s s_after_item h) (then list_comma (joined (spaces_in (framed inner false false) d s' s_next_item h') (items_read o_next closes more))))

  list_read : {S Q : State → Type 0} → Leads1 S 91 (AtIn (framed inner false false) Item d) [] → Leads1 (AtIn (framed inner false false) Item d) 93 Q []
      → Leads1 (AtIn (framed inner false false) AfterItem d) 93 Q [] → {t : List ℕ} {ps : List Piece} → IsListOf Item' t ps → Leads S t Q ps
  list_read opens closes_empty closes (no_items_of s h) = then opens (joined (spaces_in (framed inner false false) d s s_item h) (then closes_empty none_read))
  list_read opens closes_empty closes (items_of s h m) = then opens (joined (spaces_in (framed inner false false) d s s_item h) (items_read o_item closes m))

-- an object opens, within d lists and objects
opens_item : (inner : Bool) {p : Place} (d : ℕ) → nat_lt d 8 ≡ true → BeforeObject p → Leads1 (AtIn (framed inner false false) p d) 123 (AtIn (framed inner false false) Member (d + 1)) []
opens_item inner d h o_start = unfold step in from_in (AtIn (framed inner false false) Member (d + 1)) (framed inner false false) Start d 123 [] (λ s. rw h (record { wanted = refl; inner = refl; named = refl; diff = refl; place = refl; depth = refl }, refl))
opens_item inner d h _ = unfold step in from_in (AtIn (framed inner false false) Member (d + 1)) (framed inner false false) _ d 123 [] (λ s. rw h (record { wanted = refl; inner = refl; named = refl; diff = refl; place = refl; depth = refl }, refl))

-- a list closes, within d lists and objects
closes_items : (inner : Bool) (d : ℕ) → (nat_lt 1 (d + 1)) ≡ true → Leads1 (AtIn (framed inner false false) AfterItem (d + 1)) 93 (AtIn (framed false false false) AfterMember d) []
closes_items inner d h = unfold step in from_in (AtIn (framed false false false) AfterMember d) (framed inner false false) AfterItem (d + 1) 93 [] (λ s. rw h (record { wanted = refl; inner = refl; named = refl; diff = refl; place = refl; depth = less_one d }, refl))

closes_none : (inner : Bool) (d : ℕ) → (nat_lt 1 (d + 1)) ≡ true → Leads1 (AtIn (framed inner false false) Item (d + 1)) 93 (AtIn (framed false false false) AfterMember d) []
closes_none inner d h = unfold step in from_in (AtIn (framed false false false) AfterMember d) (framed inner false false) Item (d + 1) 93 [] (λ s. rw h (record { wanted = refl; inner = refl; named = refl; diff = refl; place = refl; depth = less_one d }, refl))

opens_value : (inner named : Bool) (d : ℕ) → nat_lt d 8 ≡ true → Leads1 (AtIn (framed inner named false) ListPlace d) 91 (AtIn (framed inner false false) Item (d + 1)) []
opens_value inner named d h = unfold step in from_in (AtIn (framed inner false false) Item (d + 1)) (framed inner named false) ListPlace d 91 [] (λ s. rw h (record { wanted = refl; inner = refl; named = refl; diff = refl; place = refl; depth = refl }, refl))

-- ---- the feed

-- the names of members
rev_string : EndsString (codes "rev\"")
rev_string = plain refl refl (plain refl refl (plain refl refl ends))

id_string : EndsString (codes "id\"")
id_string = plain refl refl (plain refl refl ends)

changes_string : EndsString (codes "changes\"")
changes_string = plain refl refl (plain refl refl (plain refl refl (plain refl refl (plain refl refl (plain refl refl (plain refl refl ends))))))

results_string : EndsString (codes "results\"")
results_string = plain refl refl (plain refl refl (plain refl refl (plain refl refl (plain refl refl (plain refl refl (plain refl refl ends))))))

missing_string : EndsString (codes "missing\"")
missing_string = plain refl refl (plain refl refl (plain refl refl (plain refl refl (plain refl refl (plain refl refl (plain refl refl ends))))))

rev_json : is_json (34 ∷ codes "rev\"") ≡ true
rev_json = unfold json_on_literals in ap (λ b. b && true) (is_utf8-from_IsUtf8 (34 ∷ codes "rev\"") (IsUtf8-are_ascii (34 ∷ codes "rev\"") refl))

id_json : is_json (34 ∷ codes "id\"") ≡ true
id_json = unfold json_on_literals in ap (λ b. b && true) (is_utf8-from_IsUtf8 (34 ∷ codes "id\"") (IsUtf8-are_ascii (34 ∷ codes "id\"") refl))

changes_json : is_json (34 ∷ codes "changes\"") ≡ true
changes_json = unfold json_on_literals in ap (λ b. b && true) (is_utf8-from_IsUtf8 (34 ∷ codes "changes\"") (IsUtf8-are_ascii (34 ∷ codes "changes\"") refl))

results_json : is_json (34 ∷ codes "results\"") ≡ true
results_json = unfold json_on_literals in ap (λ b. b && true) (is_utf8-from_IsUtf8 (34 ∷ codes "results\"") (IsUtf8-are_ascii (34 ∷ codes "results\"") refl))

missing_json : is_json (34 ∷ codes "missing\"") ≡ true
missing_json = unfold json_on_literals in ap (λ b. b && true) (is_utf8-from_IsUtf8 (34 ∷ codes "missing\"") (IsUtf8-are_ascii (34 ∷ codes "missing\"") refl))

-- their meanings
rev_name : name_of Leaves false true false 5 (34 ∷ codes "rev\"") ≡ names.Rev
rev_name = unfold name_of in refl

id_name : name_of Leaves false false false 3 (34 ∷ codes "id\"") ≡ names.Id
id_name = unfold name_of in refl

changes_name : name_of Leaves false false false 3 (34 ∷ codes "changes\"") ≡ names.Changes
changes_name = unfold name_of in refl

results_name : name_of Leaves false false false 1 (34 ∷ codes "results\"") ≡ names.List
results_name = unfold name_of in refl

missing_name : name_of Leaves false false true 2 (34 ∷ codes "missing\"") ≡ names.Missing
missing_name = unfold name_of in refl

-- a list and the byte after its member, as parts of its text
list_text : (k s s' l s'' : List ℕ) (b : ℕ) → 34 ∷ (k ++ (s ++ 58 ∷ (s' ++ (l ++ (s'' ++ b ∷ []))))) ≡ (34 ∷ (k ++ (s ++ 58 ∷ (s' ++ (l ++ s''))))) ++ b ∷ []
list_text k s s' l s'' b = ap (λ z. 34 ∷ (k ++ (s ++ 58 ∷ (s' ++ z)))) (sym (append_assoc l s'' (b ∷ []))) ∙ ended_text k s s' (l ++ s'') b

a_rev : (f e : Bool) {n n' : Bool} {m : List ℕ} {ps : List Piece} → IsRevMember n n' m ps
    → Leads (AtIn (framed true n (cond f false false)) (name_place f) 5) (m ++ end_byte e ∷ []) (Ended true n' false 4 e) ps
a_rev true e (rev_of {t} {u} s s' h h' v str) =
    value_member true false false true 4 e refl (key_begins (framed true false false) true 5) (codes "rev\"") s s' t u names.Rev ((found.Rev, u) ∷ []) rev_string rev_json rev_name (says_rev str) h h' v
a_rev false e (rev_of {t} {u} s s' h h' v str) =
    value_member true false false false 4 e refl (key_begins (framed true false false) false 5) (codes "rev\"") s s' t u names.Rev ((found.Rev, u) ∷ []) rev_string rev_json rev_name (says_rev str) h h' v
a_rev true e (skipped_rev m) = skipped_member true false true 4 e refl m false
a_rev false e (skipped_rev m) = skipped_member true false false 4 e refl m false

an_entry : {p : Place} → BeforeObject p → {m : List ℕ} {ps : List Piece} → IsObjectOf IsRevMember m ps
    → Leads (AtIn (framed true false false) p 4) m (AtIn (framed true false false) AfterItem 4) ps
an_entry before h = object_read IsRevMember true false false 4 (λ f e n n' m ps h. a_rev f e h) (opens_item true 4 refl before) h

-- the colon before the list of revisions
changes_colon : (f : Bool) (u : List ℕ) → Leads1 (InKey (framed false true false) (Colon names.Changes) f 3 u) 58 (AtIn (framed true true false) ListPlace 3) []
changes_colon f u = unfold step in keys (AtIn (framed true true false) ListPlace 3) (framed false true false) (Colon names.Changes) f 3 u 58 []
    (λ s. (record { wanted = refl; inner = refl; named = refl; diff = refl; place = refl; depth = refl }, refl))

some_changes : (f e : Bool) (s s' s'' : List ℕ) {l : List ℕ} {ps : List Piece} → Spaces s → Spaces s' → IsListOf (IsObjectOf IsRevMember) l ps → Spaces s''
    → Leads (AtIn (framed false true false) (name_place f) 3) ((34 ∷ (codes "changes\"" ++ (s ++ 58 ∷ (s' ++ (l ++ s''))))) ++ end_byte e ∷ []) (Ended false false false 2 e) ps
some_changes f e s s' s'' {l} {ps} h h' inside h'' =
    text_to (list_text (codes "changes\"") s s' l s'' (end_byte e)) (pieces_to (append-nil ps)
    (joined (key_of false true false f 3 (codes "changes\"") names.Changes refl (key_begins (framed false true false) f 3) changes_string changes_json changes_name)
    (joined (colon_spaces false true false f 3 (34 ∷ codes "changes\"") names.Changes s h) (then (changes_colon f (34 ∷ codes "changes\""))
    (joined (spaces_in (framed true true false) 3 s' s_list h')
    (joined (list_read (IsObjectOf IsRevMember) true 4 (λ p before m ps h. an_entry before h) (opens_value true true 3 refl) (closes_none true 3 refl) (closes_items true 3 refl) inside)
    (joined (spaces_in (framed false false false) 3 s'' s_after_member h'') (then (list_ends false false false 2 e) none_read))))))))

a_row_member : (f e : Bool) {n n' : Bool} {m : List ℕ} {ps : List Piece} → IsRowMember n n' m ps
    → Leads (AtIn (framed false n (cond f false false)) (name_place f) 3) (m ++ end_byte e ∷ []) (Ended false n' false 2 e) ps
a_row_member true e (id_of {n = true} {t} {u} s s' h h' v str) =
    value_member false true false true 2 e refl (key_begins (framed false true false) true 3) (codes "id\"") s s' t u names.Id ((found.Id, u) ∷ []) id_string id_json id_name (says_id str) h h' v
a_row_member true e (id_of {n = false} {t} {u} s s' h h' v str) =
    value_member false false false true 2 e refl (key_begins (framed false false false) true 3) (codes "id\"") s s' t u names.Id ((found.Id, u) ∷ []) id_string id_json id_name (says_id str) h h' v
a_row_member false e (id_of {n = true} {t} {u} s s' h h' v str) =
    value_member false true false false 2 e refl (key_begins (framed false true false) false 3) (codes "id\"") s s' t u names.Id ((found.Id, u) ∷ []) id_string id_json id_name (says_id str) h h' v
a_row_member false e (id_of {n = false} {t} {u} s s' h h' v str) =
    value_member false false false false 2 e refl (key_begins (framed false false false) false 3) (codes "id\"") s s' t u names.Id ((found.Id, u) ∷ []) id_string id_json id_name (says_id str) h h' v
a_row_member true e (changes_of s s' s'' h h' inside h'') = some_changes true e s s' s'' h h' inside h''
a_row_member false e (changes_of s s' s'' h h' inside h'') = some_changes false e s s' s'' h h' inside h''
a_row_member true e (skipped_row {n} m) = skipped_member false false true 2 e refl m n
a_row_member false e (skipped_row {n} m) = skipped_member false false false 2 e refl m n

a_row : {p : Place} → BeforeObject p → {m : List ℕ} {ps : List Piece} → IsObjectOf IsRowMember m ps
    → Leads (AtIn (framed false false false) p 2) m (AtIn (framed false false false) AfterItem 2) ps
a_row before h = object_read IsRowMember false false false 2 (λ f e n n' m ps h. a_row_member f e h) (opens_item false 2 refl before) h

-- ---- members of an outermost object

-- the first name of an object may be the id of a document
ahead_colon : (u : List ℕ) (name : Name) → Leads1 (InKey (framed false false false) (Colon name) true 1 u) 58 (InKey (framed false false false) (Ahead name) true 1 u) []
ahead_colon u name = unfold step in keys (InKey (framed false false false) (Ahead name) true 1 u) (framed false false false) (Colon name) true 1 u 58 []
    (λ s. (record { wanted = refl; inner = refl; named = refl; diff = refl; place = refl; depth = refl; first = refl; text = refl }, refl))

ahead_list : (u : List ℕ) → Leads1 (InKey (framed false false false) (Ahead names.List) true 1 u) 91 (AtIn (framed false false false) Item 2) []
ahead_list u = unfold step in keys (AtIn (framed false false false) Item 2) (framed false false false) (Ahead names.List) true 1 u 91 []
    (λ s. (record { wanted = refl; inner = refl; named = refl; diff = refl; place = refl; depth = refl }, refl))

later_colon : (u : List ℕ) → Leads1 (InKey (framed false false false) (Colon names.List) false 1 u) 58 (AtIn (framed false false false) ListPlace 1) []
later_colon u = unfold step in keys (AtIn (framed false false false) ListPlace 1) (framed false false false) (Colon names.List) false 1 u 58 []
    (λ s. (record { wanted = refl; inner = refl; named = refl; diff = refl; place = refl; depth = refl }, refl))

-- the results, as the value of the first name or of a later one
some_results : (f : Bool) (s s' : List ℕ) {l t : List ℕ} {Q : State → Type 0} {ps qs : List Piece} → Spaces s → Spaces s' → IsListOf (IsObjectOf IsRowMember) l ps
    → Leads (AtIn (framed false false false) AfterMember 1) t Q qs
    → Leads (InKey (framed false false false) (Colon names.List) f 1 (34 ∷ codes "results\"")) (s ++ 58 ∷ (s' ++ (l ++ t))) Q (ps ++ qs)
some_results true s s' h h' inside g =
    joined (colon_spaces false false false true 1 (34 ∷ codes "results\"") names.List s h) (then (ahead_colon (34 ∷ codes "results\"") names.List)
    (joined (ahead_spaces false false false true 1 (34 ∷ codes "results\"") names.List s' h')
    (joined (list_read (IsObjectOf IsRowMember) false 2 (λ p before m ps h. a_row before h) (ahead_list (34 ∷ codes "results\"")) (closes_none false 1 refl) (closes_items false 1 refl) inside) g)))
some_results false s s' h h' inside g =
    joined (colon_spaces false false false false 1 (34 ∷ codes "results\"") names.List s h) (then (later_colon (34 ∷ codes "results\""))
    (joined (spaces_in (framed false false false) 1 s' s_list h')
    (joined (list_read (IsObjectOf IsRowMember) false 2 (λ p before m ps h. a_row before h) (opens_value false false 1 refl) (closes_none false 1 refl) (closes_items false 1 refl) inside) g)))

-- the first byte of a value that may be the entry of a document, but is not
abbrev valued : State → Name → List ℕ → State
valued s name u = value_begun name (key_in s (framed false false false) (Ahead name) true 1 u)

begins_value : (s : State) (u : List ℕ) (b : ℕ) → is_space b ≡ false → (b == 123) ≡ false → (name : Name) → is_skipped name ≡ true
    → step (key_in s (framed false false false) (Ahead name) true 1 u) b ≡ step (valued s name u) b
begins_value s u b e g names.Other h = unfold step in rw (e, g) refl
begins_value s u b e g names.Last h = unfold step in rw (e, g) refl
begins_value s u b e g _ h = absurd (cc)

valued_within : (s : State) (u : List ℕ) (name : Name) → is_skipped name ≡ true → Within (framed false false false) (Value name) 1 0 [] (valued s name u)
valued_within s u names.Other h = record { wanted = refl; inner = refl; named = refl; diff = refl; place = refl; depth = refl; nesting = refl; text = refl }
valued_within s u names.Last h = record { wanted = refl; inner = refl; named = refl; diff = refl; place = refl; depth = refl; nesting = refl; text = refl }
valued_within s u _ h = absurd (cc)

ahead_value : (u : List ℕ) (name : Name) → is_skipped name ≡ true → {b : ℕ} {t : List ℕ} {Q : State → Type 0} {ps : List Piece} → is_space b ≡ false → (b == 123) ≡ false
    → Leads (Within (framed false false false) (Value name) 1 0 []) (b ∷ t) Q ps → Leads (InKey (framed false false false) (Ahead name) true 1 u) (b ∷ t) Q ps
ahead_value u name h {b} {t} {Q} {ps} e g f = record { runs = runs } where
  at_key : (s : State) → Q (after (key_in s (framed false false false) (Ahead name) true 1 u) (b ∷ t)) × (pieces (key_in s (framed false false false) (Ahead name) true 1 u) (b ∷ t) ≡ ps)
  at_key s = subst (λ z. Q (after z t) × (given z ++ pieces z t ≡ ps)) (sym (begins_value s u b e g name h)) (f.runs (valued s name u) (valued_within s u name h))

  runs : (s : State) → InKey (framed false false false) (Ahead name) true 1 u s → Q (after s (b ∷ t)) × (pieces s (b ∷ t) ≡ ps)
  runs s k = subst (λ z. Q (after z (b ∷ t)) × (pieces z (b ∷ t) ≡ ps)) (sym (is_key_in s k)) (at_key s)

later_value : (u : List ℕ) (name : Name) → is_skipped name ≡ true → Leads1 (InKey (framed false false false) (Colon name) false 1 u) 58 (Within (framed false false false) (Value name) 1 0 []) []
later_value u names.Other h = unfold step in keys (Within (framed false false false) (Value names.Other) 1 0 []) (framed false false false) (Colon names.Other) false 1 u 58 []
    (λ s. (record { wanted = refl; inner = refl; named = refl; diff = refl; place = refl; depth = refl; nesting = refl; text = refl }, refl))
later_value u names.Last h = unfold step in keys (Within (framed false false false) (Value names.Last) 1 0 []) (framed false false false) (Colon names.Last) false 1 u 58 []
    (λ s. (record { wanted = refl; inner = refl; named = refl; diff = refl; place = refl; depth = refl; nesting = refl; text = refl }, refl))
later_value u _ h = absurd (cc)

-- the value of a skipped member, from its name on
skipped_value : (f : Bool) (k s s' : List ℕ) (b : ℕ) (t u : List ℕ) (name : Name) (e : Bool) → is_skipped name ≡ true → Spaces s → Spaces s' → is_space b ≡ false → (b == 123) ≡ false
    → Closed 0 (b ∷ t) u → is_json u ≡ true
    → Leads (InKey (framed false false false) (Colon name) f 1 (34 ∷ k)) (s ++ 58 ∷ (s' ++ ((b ∷ t) ++ end_byte e ∷ []))) (Ended false false false 0 e) []
skipped_value f k s s' b t u name e skips h h' space brace closed json = by f where
  says : Says name u []
  says = skipped_says name skips

  rest : Leads (Within (framed false false false) (Value name) 1 0 []) ((b ∷ t) ++ end_byte e ∷ []) (Ended false false false 0 e) []
  rest = joined (value_text (framed false false false) name 1 0 [] (b ∷ t) u (outside (is_plain name) (said_not_plain says)) closed (inr space)) (then_held [] (value_ends false false false 0 u json e says) none_read)

  by : (f : Bool) → Leads (InKey (framed false false false) (Colon name) f 1 (34 ∷ k)) (s ++ 58 ∷ (s' ++ ((b ∷ t) ++ end_byte e ∷ []))) (Ended false false false 0 e) []
  by true = joined (colon_spaces false false false true 1 (34 ∷ k) name s h) (then (ahead_colon (34 ∷ k) name) (joined (ahead_spaces false false false true 1 (34 ∷ k) name s' h') (ahead_value (34 ∷ k) name skips space brace rest)))
  by false = joined (colon_spaces false false false false 1 (34 ∷ k) name s h) (then (later_value (34 ∷ k) name skips) (joined (lead_spaces (framed false false false) name 1 s' h') rest))

skipped_not_plain : (name : Name) → is_skipped name ≡ true → is_plain name ≡ false
skipped_not_plain names.Other h = refl
skipped_not_plain names.Last h = refl
skipped_not_plain _ h = absurd (cc)

page_member : (f e : Bool) {n n' : Bool} {m : List ℕ} {ps : List Piece} → IsPageMember n n' m ps
    → Leads (AtIn (framed false false false) (name_place f) 1) (m ++ end_byte e ∷ []) (Ended false false false 0 e) ps
page_member f e (results_of {l} {ps} s s' s'' h h' inside h'') =
    text_to (list_text (codes "results\"") s s' l s'' (end_byte e)) (pieces_to (append-nil ps)
    (joined (key_of false false false f 1 (codes "results\"") names.List refl (key_begins (framed false false false) f 1) results_string results_json results_name)
    (some_results f s s' h h' inside (joined (spaces_in (framed false false false) 1 s'' s_after_member h'') (then (list_ends false false false 0 e) none_read)))))
page_member f e (skipped_page (skipped_outside {k} {t} {u} {b} {name} s s' string json says skips h h' space brace closed is)) =
    text_to (ended_text k s s' (b ∷ t) (end_byte e))
    (joined (key_of false false false f 1 k name (skipped_not_plain name skips) (key_begins (framed false false false) f 1) string json says)
    (skipped_value f k s s' b t u name e skips h h' space brace closed is))

a_page_member : (f e : Bool) {n n' : Bool} {m : List ℕ} {ps : List Piece} → IsPageMember n n' m ps
    → Leads (AtIn (framed false n (cond f false false)) (name_place f) 1) (m ++ end_byte e ∷ []) (Ended false n' false 0 e) ps
a_page_member true e (results_of s s' s'' h h' inside h'') = page_member true e (results_of s s' s'' h h' inside h'')
a_page_member true e (skipped_page m) = page_member true e (skipped_page m)
a_page_member false e (results_of s s' s'' h h' inside h'') = page_member false e (results_of s s' s'' h h' inside h'')
a_page_member false e (skipped_page m) = page_member false e (skipped_page m)

-- ---- missing revisions

-- a parser in a list of missing revisions, with this text
record InRevs (p : RevPlace) (u : List ℕ) (s : State) : Type 0 where
  wanted : s.wanted ≡ Leaves
  inner : s.inner ≡ false
  named : s.named ≡ false
  diff : s.diff ≡ true
  place : s.place ≡ Revs p
  depth : s.depth ≡ 2
  text : s.text ≡ u

abbrev revs_in : State → RevPlace → List ℕ → State
revs_in s p u = record s { wanted = Leaves; inner = false; named = false; diff = true; place = Revs p; depth = 2; text = u }

is_revs_in : {p : RevPlace} {u : List ℕ} (s : State) → InRevs p u s → s ≡ revs_in s p u
is_revs_in s h = λ i. record s { wanted = h.wanted i; inner = h.inner i; named = h.named i; diff = h.diff i; place = h.place i; depth = h.depth i; text = h.text i }

from_revs : (Q : State → Type 0) (p : RevPlace) (u : List ℕ) (b : ℕ) (ps : List Piece) → ((s : State) → Q (step (revs_in s p u) b) × (given (step (revs_in s p u) b) ≡ ps)) → Leads1 (InRevs p u) b Q ps
from_revs Q p u b ps g s h = subst (λ z. Q (step z b) × (given (step z b) ≡ ps)) (sym (is_revs_in s h)) (g s)

-- at a place of such a list
abbrev AtRevs : RevPlace → State → Type 0
AtRevs p = AtIn (framed false false true) (Revs p) 2

-- white space may be there
data MaySpaceRevs : RevPlace → Type 0 where
  r_list : MaySpaceRevs revs.List
  r_first : MaySpaceRevs revs.First
  r_next : MaySpaceRevs revs.Next
  r_behind : MaySpaceRevs revs.Behind

-- white space is not a bracket
not_bracket : (b : ℕ) → is_space b ≡ true → (b == 93) ≡ false
not_bracket b h = grind arith

revs_space : {p : RevPlace} (b : ℕ) → MaySpaceRevs p → is_space b ≡ true → Leads1 (AtRevs p) b (AtRevs p) []
revs_space b r_first h = unfold step in from_in (AtRevs revs.First) (framed false false true) (Revs revs.First) 2 b [] (λ s. rw (not_bracket b h, h) (record { wanted = refl; inner = refl; named = refl; diff = refl; place = refl; depth = refl }, refl))
revs_space b _ h = unfold step in from_in (AtRevs _) (framed false false true) (Revs _) 2 b [] (λ s. rw h (record { wanted = refl; inner = refl; named = refl; diff = refl; place = refl; depth = refl }, refl))

revs_spaces : {p : RevPlace} (s : List ℕ) → MaySpaceRevs p → Spaces s → Leads (AtRevs p) s (AtRevs p) []
revs_spaces [] m h = none_read
revs_spaces (b ∷ s) m h = let parts = and_parts (is_space b) (list_all is_space s) h in then (revs_space b m parts.0) (revs_spaces s m parts.1)

missing_colon : (f : Bool) (u : List ℕ) → Leads1 (InKey (framed false false true) (Colon names.Missing) f 2 u) 58 (AtRevs revs.List) []
missing_colon f u = unfold step in keys (AtRevs revs.List) (framed false false true) (Colon names.Missing) f 2 u 58 []
    (λ s. (record { wanted = refl; inner = refl; named = refl; diff = refl; place = refl; depth = refl }, refl))

revs_open : Leads1 (AtRevs revs.List) 91 (AtRevs revs.First) []
revs_open = unfold step in from_in (AtRevs revs.First) (framed false false true) (Revs revs.List) 2 91 [] (λ s. (record { wanted = refl; inner = refl; named = refl; diff = refl; place = refl; depth = refl }, refl))

-- the place of the first revision of a list, or of a later one
abbrev rev_place : Bool → RevPlace
rev_place true = revs.First
rev_place false = revs.Next

rev_begins : (f : Bool) → Leads1 (AtRevs (rev_place f)) 34 (InRevs revs.Rev (34 ∷ [])) []
unfolding step
rev_begins true = from_in (InRevs revs.Rev (34 ∷ [])) (framed false false true) (Revs revs.First) 2 34 [] (λ s. (record { wanted = refl; inner = refl; named = refl; diff = refl; place = refl; depth = refl; text = refl }, refl))
rev_begins false = from_in (InRevs revs.Rev (34 ∷ [])) (framed false false true) (Revs revs.Next) 2 34 [] (λ s. (record { wanted = refl; inner = refl; named = refl; diff = refl; place = refl; depth = refl; text = refl }, refl))

rev_plain : (u : List ℕ) (b : ℕ) → (b == 34) ≡ false → (b == 92) ≡ false → Leads1 (InRevs revs.Rev u) b (InRevs revs.Rev (u ++ b ∷ [])) []
rev_plain u b e g = unfold step in from_revs (InRevs revs.Rev (u ++ b ∷ [])) revs.Rev u b [] (λ s. rw (e, g) (record { wanted = refl; inner = refl; named = refl; diff = refl; place = refl; depth = refl; text = refl }, refl))

rev_escape : (u : List ℕ) → Leads1 (InRevs revs.Rev u) 92 (InRevs revs.Escape (u ++ 92 ∷ [])) []
rev_escape u = unfold step in from_revs (InRevs revs.Escape (u ++ 92 ∷ [])) revs.Rev u 92 [] (λ s. (record { wanted = refl; inner = refl; named = refl; diff = refl; place = refl; depth = refl; text = refl }, refl))

rev_escaped : (u : List ℕ) (b : ℕ) → Leads1 (InRevs revs.Escape u) b (InRevs revs.Rev (u ++ b ∷ [])) []
rev_escaped u b = unfold step in from_revs (InRevs revs.Rev (u ++ b ∷ [])) revs.Escape u b [] (λ s. (record { wanted = refl; inner = refl; named = refl; diff = refl; place = refl; depth = refl; text = refl }, refl))

rev_end : (u : List ℕ) → is_json (u ++ 34 ∷ []) ≡ true → Leads1 (InRevs revs.Rev u) 34 (AtRevs revs.Behind) ((found.Rev, u ++ 34 ∷ []) ∷ [])
rev_end u json = unfold step in from_revs (AtRevs revs.Behind) revs.Rev u 34 ((found.Rev, u ++ 34 ∷ []) ∷ []) (λ s. rw json (record { wanted = refl; inner = refl; named = refl; diff = refl; place = refl; depth = refl }, refl))

rev_is : {P Q : State → Type 0} {t u v : List ℕ} → u ≡ v → Leads P t Q ((found.Rev, u) ∷ []) → Leads P t Q ((found.Rev, v) ∷ [])
rev_is {P} {Q} {t} e f = subst (λ z. Leads P t Q ((found.Rev, z) ∷ [])) e f

rev_text : (u r : List ℕ) → EndsString r → is_json (u ++ r) ≡ true → Leads (InRevs revs.Rev u) r (AtRevs revs.Behind) ((found.Rev, u ++ r) ∷ [])
rev_text u r ends json = then_held ((found.Rev, u ++ 34 ∷ []) ∷ []) (rev_end u json) none_read
rev_text u r (plain {b} {t} e g rest) json =
    let same = append_assoc u (b ∷ []) t in
    rev_is same (then (rev_plain u b e g) (rev_text (u ++ b ∷ []) t rest (ap is_json same ∙ json)))
rev_text u r (escaped {b} {t} rest) json =
    let same = append_assoc (u ++ 92 ∷ []) (b ∷ []) t ∙ append_assoc u (92 ∷ []) (b ∷ t) in
    rev_is same (then (rev_escape u) (then (rev_escaped (u ++ 92 ∷ []) b) (rev_text ((u ++ 92 ∷ []) ++ b ∷ []) t rest (ap is_json same ∙ json))))

revs_close : Leads1 (AtRevs revs.Behind) 93 (AtIn (framed false false true) AfterMember 2) []
revs_close = unfold step in from_in (AtIn (framed false false true) AfterMember 2) (framed false false true) (Revs revs.Behind) 2 93 [] (λ s. (record { wanted = refl; inner = refl; named = refl; diff = refl; place = refl; depth = refl }, refl))

revs_comma : Leads1 (AtRevs revs.Behind) 44 (AtRevs revs.Next) []
revs_comma = unfold step in from_in (AtRevs revs.Next) (framed false false true) (Revs revs.Behind) 2 44 [] (λ s. (record { wanted = refl; inner = refl; named = refl; diff = refl; place = refl; depth = refl }, refl))

some_missing : (f : Bool) {t : List ℕ} {ps : List Piece} → AreMissing t ps → Leads (AtRevs (rev_place f)) t (AtIn (framed false false true) AfterMember 2) ps
some_missing f (last_missing {r} s string json h) =
    then (rev_begins f) (joined (rev_text (34 ∷ []) r string json) (joined (revs_spaces s r_behind h) (then revs_close none_read)))
some_missing f (missing {r} s s' string json h h' more) =
    then (rev_begins f) (joined (rev_text (34 ∷ []) r string json) (joined (revs_spaces s r_behind h) (then revs_comma (joined (revs_spaces s' r_next h') (some_missing false more)))))

-- the bracket of a list as part of its text
bracket_text : (l s s' : List ℕ) (b : ℕ) → 91 ∷ (s ++ (l ++ (s' ++ b ∷ []))) ≡ (91 ∷ (s ++ (l ++ s'))) ++ b ∷ []
bracket_text l s s' b = sym (ap (λ z. 91 ∷ z) (append_assoc s (l ++ s') (b ∷ []) ∙ ap (λ z. s ++ z) (append_assoc l s' (b ∷ []))))

entry_member : (f e : Bool) {n n' : Bool} {m : List ℕ} {ps : List Piece} → IsEntryMember n n' m ps
    → Leads (AtIn (framed false false true) (name_place f) 2) (m ++ end_byte e ∷ []) (Ended false false true 1 e) ps
entry_member f e (missing_of {l} {ps} s s' s'' w h h' h'' inside blanks) =
    text_to (ap (λ z. 34 ∷ (codes "missing\"" ++ (s ++ 58 ∷ (s' ++ z)))) (bracket_text l s'' w (end_byte e)) ∙ ended_text (codes "missing\"") s s' (91 ∷ (s'' ++ (l ++ w))) (end_byte e)) (pieces_to (append-nil ps)
    (joined (key_of false false true f 2 (codes "missing\"") names.Missing refl (key_begins (framed false false true) f 2) missing_string missing_json missing_name)
    (joined (colon_spaces false false true f 2 (34 ∷ codes "missing\"") names.Missing s h) (then (missing_colon f (34 ∷ codes "missing\""))
    (joined (revs_spaces s' r_list h') (then revs_open (joined (revs_spaces s'' r_first h'') (joined (some_missing true inside)
    (joined (spaces_in (framed false false true) 2 w s_after_member blanks) (then (list_ends false false true 1 e) none_read))))))))))
entry_member f e (skipped_entry m) = skipped_member false true f 1 e refl m false

an_entry_member : (f e : Bool) {n n' : Bool} {m : List ℕ} {ps : List Piece} → IsEntryMember n n' m ps
    → Leads (AtIn (framed false n (cond f true true)) (name_place f) 2) (m ++ end_byte e ∷ []) (Ended false n' true 1 e) ps
an_entry_member true e (missing_of s s' s'' w h h' h'' inside blanks) = entry_member true e (missing_of s s' s'' w h h' h'' inside blanks)
an_entry_member true e (skipped_entry m) = entry_member true e (skipped_entry m)
an_entry_member false e (missing_of s s' s'' w h h' h'' inside blanks) = entry_member false e (missing_of s s' s'' w h h' h'' inside blanks)
an_entry_member false e (skipped_entry m) = entry_member false e (skipped_entry m)

-- after its colon, a name is the id of a document
id_colon : (f : Bool) (u : List ℕ) (name : Name) → Leads1 (InKey (framed false false (cond f false true)) (Colon name) f 1 u) 58 (InKey (framed false false (cond f false true)) (Ahead name) f 1 u) []
unfolding step
id_colon true u name = keys (InKey (framed false false false) (Ahead name) true 1 u) (framed false false false) (Colon name) true 1 u 58 []
    (λ s. (record { wanted = refl; inner = refl; named = refl; diff = refl; place = refl; depth = refl; first = refl; text = refl }, refl))
id_colon false u name = keys (InKey (framed false false true) (Ahead name) false 1 u) (framed false false true) (Colon name) false 1 u 58 []
    (λ s. (record { wanted = refl; inner = refl; named = refl; diff = refl; place = refl; depth = refl; first = refl; text = refl }, refl))

entry_opens : (f diff : Bool) (u : List ℕ) (name : Name) → Leads1 (InKey (framed false false diff) (Ahead name) f 1 u) 123 (AtIn (framed false false true) Member 2) ((found.Id, u) ∷ [])
entry_opens f diff u name = unfold step in keys (AtIn (framed false false true) Member 2) (framed false false diff) (Ahead name) f 1 u 123 ((found.Id, u) ∷ [])
    (λ s. (record { wanted = refl; inner = refl; named = refl; diff = refl; place = refl; depth = refl }, refl))

difference_member : (f e : Bool) {n n' : Bool} {m : List ℕ} {ps : List Piece} → IsDiffMember n n' m ps
    → Leads (AtIn (framed false false (cond f false true)) (name_place f) 1) (m ++ end_byte e ∷ []) (Ended false false true 0 e) ps
difference_member f e (entry_of {k} {o} {ps} s s' s'' string json h h' inside h'') =
    let name = name_of Leaves false false (cond f false true) 1 (34 ∷ k) in
    text_to (list_text k s s' o s'' (end_byte e)) (pieces_to (append-nil ((found.Id, 34 ∷ k) ∷ ps))
    (joined (key_of false false (cond f false true) f 1 k name (leaf_not_plain false false (cond f false true) 1 (34 ∷ k)) (key_begins (framed false false (cond f false true)) f 1) string json refl)
    (joined (colon_spaces false false (cond f false true) f 1 (34 ∷ k) name s h) (then (id_colon f (34 ∷ k) name)
    (joined (ahead_spaces false false (cond f false true) f 1 (34 ∷ k) name s' h')
    (joined (object_read IsEntryMember false true true 1 (λ f e n n' m ps h. an_entry_member f e h) (entry_opens f (cond f false true) (34 ∷ k) name) inside)
    (joined (spaces_in (framed false false true) 1 s'' s_after_member h'') (then (list_ends false false true 0 e) none_read))))))))

a_difference : (f e : Bool) {n n' : Bool} {m : List ℕ} {ps : List Piece} → IsDiffMember n n' m ps
    → Leads (AtIn (framed false n (cond f false true)) (name_place f) 1) (m ++ end_byte e ∷ []) (Ended false n' true 0 e) ps
a_difference f e (entry_of s s' s'' string json h h' inside h'') = difference_member f e (entry_of s s' s'' string json h h' inside h'')

-- ---- responses

-- after a response
abbrev Over : State → Type 0
Over s = s.place ≡ Between

over : {diff : Bool} {t : List ℕ} {ps : List Piece} {P : State → Type 0} → Leads P t (AtIn (framed false false diff) Between 0) ps → Leads P t Over ps
over f = record { runs = λ s h. let r = f.runs s h in (r.0.place, r.1) }

-- an object without members means that nothing is missing
none_missing : Leads1 (AtIn (framed false false false) Member 1) 125 (AtIn (framed false false false) Between 0) []
none_missing = unfold step in from_in (AtIn (framed false false false) Between 0) (framed false false false) Member 1 125 [] (λ s. (record { wanted = refl; inner = refl; named = refl; diff = refl; place = refl; depth = refl }, refl))

some_leaves : {t : List ℕ} {ps : List Piece} → AreLeaves t ps → Leads (AtIn (framed false false false) Start 0) t Over ps
some_leaves (page {ps = ps} s s' h m h') =
    over (pieces_to (append-nil ps) (joined (spaces_in (framed false false false) 0 s s_start h)
    (joined (object_read IsPageMember false false false 0 (λ f e n n' m ps h. a_page_member f e h) (opens_item false 0 refl o_start) m) (spaces_in (framed false false false) 0 s' s_between h'))))
some_leaves (difference {ps = ps} s s' h m h') =
    over (pieces_to (append-nil ps) (joined (spaces_in (framed false false false) 0 s s_start h)
    (joined (object_read IsDiffMember false false true 0 (λ f e n n' m ps h. a_difference f e h) (opens_item false 0 refl o_start) m) (spaces_in (framed false false true) 0 s' s_between h'))))
some_leaves (no_difference s s' s'' h h' h'') =
    over (joined (spaces_in (framed false false false) 0 s s_start h) (joined (then (opens_item false 0 refl o_start) (joined (spaces_in (framed false false false) 1 s' s_member h') (then none_missing none_read)))
    (spaces_in (framed false false false) 0 s'' s_between h'')))

-- responses are parsed to their end, as the leaves in them
pub leaves_read : (t : List ℕ) (ps : List Piece) → AreLeaves t ps → ((after (start Leaves) t).place ≡ Between) × (pieces (start Leaves) t ≡ ps)
leaves_read t ps h = (some_leaves h).runs (start Leaves) (record { wanted = refl; inner = refl; named = refl; diff = refl; place = refl; depth = refl })
