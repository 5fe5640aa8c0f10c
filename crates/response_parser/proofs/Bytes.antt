-- Single bytes of responses, from a place on, if documents are requested.
use Rattle.proof_prelude.proofs.{◌≡◌, ℕ, ◌+◌, ◌-◌, ◌==◌, ◌&&◌, nat_lt, length, List, [], ◌∷◌, ◌++◌, Bool, true, false, cond, refl, sym, subst, arith, Some, and_right}
use Rattle.doc_envelope.specs.{is_space, is_json, IsPlain, has_id, is_log}
use Rattle.response_parser.specs.{wants_documents, wants_leaves, wants_changes, is_strict, covered, name_of, is_plain, step, given, Piece, Holds, document, no_object, of_passed, of_last, of_seq, of_other, Place, Name}
use Rattle.response_parser.specs.State.{State}
use Rattle.response_parser.specs.declared.place.Place.TheVariants.{Start, Begin, Between, Item, NextItem, AfterItem, Member, NextMember, AfterMember, Key, KeyEscape, Colon, List as ListPlace, Value, Quoted, Escaped}
use Rattle.response_parser.specs.declared.place.Wanted.{Wanted}
use Rattle.response_parser.specs.declared.place.Wanted.TheVariants.{Leaves, Changes}
use Rattle.response_parser.specs.declared.place.Name.TheVariants as names
use Rattle.response_parser.specs.declared.place.Found.TheVariants as found

-- ---- what is requested

pub no_leaves : (w : Wanted) → wants_documents w ≡ true → wants_leaves w ≡ false
no_leaves Leaves h = absurd (cc)
no_leaves _ h = refl

pub no_changes : (w : Wanted) → wants_documents w ≡ true → wants_changes w ≡ false
no_changes Changes h = absurd (cc)
no_changes _ h = refl

-- ---- outside of values

-- What is the same before and after a value: what is requested, whether the innermost list is a document's list of
-- revisions, whether the innermost object has an id, and whether the response is one of `_revs_diff`.
pub record Frame : Type 0 where
  pub wanted : Wanted
  pub inner : Bool
  pub named : Bool
  pub diff : Bool

-- the frame if documents are requested
abbrev pub outer : Wanted → Frame
outer w = record { wanted = w; inner = false; named = false; diff = false }

-- the same within the list `docs` of an outermost object, if the flag says so
abbrev pub listing : Wanted → Bool → Frame
listing w inner = record { wanted = w; inner = inner; named = false; diff = false }

-- a parser at a place, with d open lists and objects
pub record AtIn (f : Frame) (p : Place) (d : ℕ) (s : State) : Type 0 where
  pub wanted : s.wanted ≡ f.wanted
  pub inner : s.inner ≡ f.inner
  pub named : s.named ≡ f.named
  pub diff : s.diff ≡ f.diff
  pub place : s.place ≡ p
  pub depth : s.depth ≡ d

abbrev pub At : Wanted → Place → ℕ → State → Type 0
At w = AtIn (outer w)

abbrev pub settled_in : State → Frame → Place → ℕ → State
settled_in s f p d = record s { wanted = f.wanted; inner = f.inner; named = f.named; diff = f.diff; place = p; depth = d }

pub is_settled_in : {f : Frame} {p : Place} {d : ℕ} (s : State) → AtIn f p d s → s ≡ settled_in s f p d
is_settled_in s h = λ i. record s { wanted = h.wanted i; inner = h.inner i; named = h.named i; diff = h.diff i; place = h.place i; depth = h.depth i }

abbrev pub settled : State → Wanted → Place → ℕ → State
settled s w = settled_in s (outer w)

pub is_settled : {w : Wanted} {p : Place} {d : ℕ} (s : State) → At w p d s → s ≡ settled s w p d
is_settled s h = is_settled_in s h

-- a byte leads from one place to another, and completes these items
abbrev pub Steps : Wanted → Place → ℕ → ℕ → Place → ℕ → List Piece → Type 0
Steps w p d b p' d' ps = (s : State) → At w p d s → At w p' d' (step s b) × (given (step s b) ≡ ps)

steps : (w : Wanted) (p : Place) (d b : ℕ) (p' : Place) (d' : ℕ) (ps : List Piece) → ((s : State) → At w p' d' (step (settled s w p d) b) × (given (step (settled s w p d) b) ≡ ps)) → Steps w p d b p' d' ps
steps w p d b p' d' ps f s h = subst (λ z. At w p' d' (step z b) × (given (step z b) ≡ ps)) (sym (is_settled s h)) (f s)

-- the same with other frames
abbrev pub StepsIn : Frame → Place → ℕ → ℕ → Frame → Place → ℕ → List Piece → Type 0
StepsIn f p d b f' p' d' ps = (s : State) → AtIn f p d s → AtIn f' p' d' (step s b) × (given (step s b) ≡ ps)

steps_in : (f : Frame) (p : Place) (d b : ℕ) (f' : Frame) (p' : Place) (d' : ℕ) (ps : List Piece) → ((s : State) → AtIn f' p' d' (step (settled_in s f p d) b) × (given (step (settled_in s f p d) b) ≡ ps)) → StepsIn f p d b f' p' d' ps
steps_in f p d b f' p' d' ps g s h = subst (λ z. AtIn f' p' d' (step z b) × (given (step z b) ≡ ps)) (sym (is_settled_in s h)) (g s)

-- the same, whether or not the object has a known member
steps_known : (w : Wanted) (p : Place) (d b : ℕ) (p' : Place) (d' : ℕ) (ps : List Piece)
    → ((s : State) (k : Bool) → At w p' d' (step (record (settled s w p d) { known = k }) b) × (given (step (record (settled s w p d) { known = k }) b) ≡ ps)) → Steps w p d b p' d' ps
steps_known w p d b p' d' ps f = steps w p d b p' d' ps (λ s. f s s.known)

-- ---- brackets and commas

-- an object or a list may begin there
pub data BeforeObject : Place → Type 0 where
  o_start : BeforeObject Start
  o_begin : BeforeObject Begin
  o_between : BeforeObject Between
  o_item : BeforeObject Item
  o_next : BeforeObject NextItem

pub data BeforeList : Place → Type 0 where
  l_start : BeforeList Start
  l_between : BeforeList Between
  l_list : BeforeList ListPlace

module _ (w : Wanted) (l : Bool) where
  pub opens_object : {p : Place} (d : ℕ) → BeforeObject p → nat_lt d 8 ≡ true → StepsIn (listing w l) p d 123 (listing w l) Member (d + 1) []
  opens_object d o_start h = unfold step in steps_in (listing w l) Start d 123 (listing w l) Member (d + 1) [] (λ s. rw h (record { wanted = refl; inner = refl; named = refl; diff = refl; place = refl; depth = refl }, refl))
  opens_object d _ h = unfold step in steps_in (listing w l) _ d 123 (listing w l) Member (d + 1) [] (λ s. rw h (record { wanted = refl; inner = refl; named = refl; diff = refl; place = refl; depth = refl }, refl))

module _ (w : Wanted) where
  -- the list `docs` opens
  pub opens_docs : StepsIn (listing w true) ListPlace 1 91 (listing w true) Item 2 []
  opens_docs = unfold step in steps_in (listing w true) ListPlace 1 91 (listing w true) Item 2 [] (λ s. (record { wanted = refl; inner = refl; named = refl; diff = refl; place = refl; depth = refl }, refl))

  pub opens_list : {p : Place} (d : ℕ) → BeforeList p → wants_changes w ≡ false → nat_lt d 8 ≡ true → Steps w p d 91 Item (d + 1) []
  opens_list d l_start c h = unfold step in steps w Start d 91 Item (d + 1) [] (λ s. rw (c, h) (record { wanted = refl; inner = refl; named = refl; diff = refl; place = refl; depth = refl }, refl))
  opens_list d l_between c h = unfold step in steps w Between d 91 Item (d + 1) [] (λ s. rw (c, h) (record { wanted = refl; inner = refl; named = refl; diff = refl; place = refl; depth = refl }, refl))
  opens_list d l_list c h = unfold step in steps w ListPlace d 91 Item (d + 1) [] (λ s. rw h (record { wanted = refl; inner = refl; named = refl; diff = refl; place = refl; depth = refl }, refl))

-- the place after a closing bracket, with this number still open
abbrev pub closed_at : ℕ → Place → Place
closed_at d p = cond (nat_lt 1 (d + 1)) p Between

pub less_one : (d : ℕ) → (d + 1) - 1 ≡ d
less_one d = omega arith

module _ (w : Wanted) (l : Bool) where
  pub closes_empty : (d : ℕ) → wants_leaves w ≡ false → is_strict w ≡ false → StepsIn (listing w l) Member (d + 1) 125 (listing w l) (closed_at d AfterItem) d []
  closes_empty d leaves h = unfold step in steps_in (listing w l) Member (d + 1) 125 (listing w l) (closed_at d AfterItem) d [] (λ s. rw (leaves, h) (record { wanted = refl; inner = refl; named = refl; diff = refl; place = refl; depth = less_one d }, refl))

module _ (w : Wanted) where
  pub closes_object : (d : ℕ) → is_strict w ≡ false → Steps w AfterMember (d + 1) 125 (closed_at d AfterItem) d []
  unfolding step
  closes_object d h = steps_known w AfterMember (d + 1) 125 (closed_at d AfterItem) d [] by_known where
    by_known : (s : State) (k : Bool) → At w (closed_at d AfterItem) d (step (record (settled s w AfterMember (d + 1)) { known = k }) 125) × (given (step (record (settled s w AfterMember (d + 1)) { known = k }) 125) ≡ [])
    by_known s true = (record { wanted = refl; inner = refl; named = refl; diff = refl; place = refl; depth = less_one d }, refl)
    by_known s false = rw h (record { wanted = refl; inner = refl; named = refl; diff = refl; place = refl; depth = less_one d }, refl)

  pub closes_no_items : (d : ℕ) → Steps w Item (d + 1) 93 (closed_at d AfterMember) d []
  closes_no_items d = unfold step in steps w Item (d + 1) 93 (closed_at d AfterMember) d [] (λ s. (record { wanted = refl; inner = refl; named = refl; diff = refl; place = refl; depth = less_one d }, refl))

  pub closes_list : (d : ℕ) → Steps w AfterItem (d + 1) 93 (closed_at d AfterMember) d []
  closes_list d = unfold step in steps w AfterItem (d + 1) 93 (closed_at d AfterMember) d [] (λ s. (record { wanted = refl; inner = refl; named = refl; diff = refl; place = refl; depth = less_one d }, refl))

  -- the list `docs` closes
  pub closes_no_docs : StepsIn (listing w true) Item 2 93 (outer w) AfterMember 1 []
  closes_no_docs = unfold step in steps_in (listing w true) Item 2 93 (outer w) AfterMember 1 [] (λ s. (record { wanted = refl; inner = refl; named = refl; diff = refl; place = refl; depth = refl }, refl))

  pub closes_docs : StepsIn (listing w true) AfterItem 2 93 (outer w) AfterMember 1 []
  closes_docs = unfold step in steps_in (listing w true) AfterItem 2 93 (outer w) AfterMember 1 [] (λ s. (record { wanted = refl; inner = refl; named = refl; diff = refl; place = refl; depth = refl }, refl))

  pub doc_comma : StepsIn (listing w true) AfterItem 2 44 (listing w true) NextItem 2 []
  doc_comma = unfold step in steps_in (listing w true) AfterItem 2 44 (listing w true) NextItem 2 [] (λ s. (record { wanted = refl; inner = refl; named = refl; diff = refl; place = refl; depth = refl }, refl))

  pub item_comma : (d : ℕ) → Steps w AfterItem d 44 NextItem d []
  item_comma d = unfold step in steps w AfterItem d 44 NextItem d [] (λ s. (record { wanted = refl; inner = refl; named = refl; diff = refl; place = refl; depth = refl }, refl))

  pub member_comma : (d : ℕ) → Steps w AfterMember d 44 NextMember d []
  member_comma d = unfold step in steps w AfterMember d 44 NextMember d [] (λ s. (record { wanted = refl; inner = refl; named = refl; diff = refl; place = refl; depth = refl }, refl))

  pub list_colon : (d : ℕ) → wants_leaves w ≡ false → Steps w (Colon names.List) d 58 ListPlace d []
  list_colon d l = unfold step in steps w (Colon names.List) d 58 ListPlace d [] (λ s. rw l (record { wanted = refl; inner = refl; named = refl; diff = refl; place = refl; depth = refl }, refl))

  pub docs_colon : wants_leaves w ≡ false → StepsIn (outer w) (Colon names.Docs) 1 58 (listing w true) ListPlace 1 []
  docs_colon leaves = unfold step in steps_in (outer w) (Colon names.Docs) 1 58 (listing w true) ListPlace 1 [] (λ s. rw leaves (record { wanted = refl; inner = refl; named = refl; diff = refl; place = refl; depth = refl }, refl))

-- ---- white space

-- white space may be there
pub data MaySpace : Place → Type 0 where
  s_start : MaySpace Start
  s_begin : MaySpace Begin
  s_between : MaySpace Between
  s_item : MaySpace Item
  s_next_item : MaySpace NextItem
  s_after_item : MaySpace AfterItem
  s_member : MaySpace Member
  s_next_member : MaySpace NextMember
  s_after_member : MaySpace AfterMember
  s_colon : {name : Name} → MaySpace (Colon name)
  s_list : MaySpace ListPlace

-- a byte leads from one state to another, and completes these items
abbrev pub Leads1 : (State → Type 0) → ℕ → (State → Type 0) → List Piece → Type 0
Leads1 P b Q ps = (s : State) → P s → Q (step s b) × (given (step s b) ≡ ps)

pub from_in : (Q : State → Type 0) (f : Frame) (p : Place) (d b : ℕ) (ps : List Piece) → ((s : State) → Q (step (settled_in s f p d) b) × (given (step (settled_in s f p d) b) ≡ ps)) → Leads1 (AtIn f p d) b Q ps
from_in Q f p d b ps g s h = subst (λ z. Q (step z b) × (given (step z b) ≡ ps)) (sym (is_settled_in s h)) (g s)

module _ (f : Frame) where
  pub spaced_in : {p : Place} (d b : ℕ) → MaySpace p → is_space b ≡ true → Leads1 (AtIn f p d) b (AtIn f p d) []
  spaced_in d b s_start h = unfold step in from_in (AtIn f Start d) f Start d b [] (λ s. rw h (record { wanted = refl; inner = refl; named = refl; diff = refl; place = refl; depth = refl }, refl))
  spaced_in d b _ h = unfold step in from_in (AtIn f _ d) f _ d b [] (λ s. rw h (record { wanted = refl; inner = refl; named = refl; diff = refl; place = refl; depth = refl }, refl))

pub spaced : (w : Wanted) {p : Place} (d b : ℕ) → MaySpace p → is_space b ≡ true → Steps w p d b p d []
spaced w = spaced_in (outer w)

-- ---- names

-- a parser within a name, of which u was read
pub record InKey (w : Frame) (p : Place) (f : Bool) (d : ℕ) (u : List ℕ) (s : State) : Type 0 where
  pub wanted : s.wanted ≡ w.wanted
  pub inner : s.inner ≡ w.inner
  pub named : s.named ≡ w.named
  pub diff : s.diff ≡ w.diff
  pub place : s.place ≡ p
  pub depth : s.depth ≡ d
  pub first : s.first ≡ f
  pub text : s.text ≡ u

abbrev pub key_in : State → Frame → Place → Bool → ℕ → List ℕ → State
key_in s w p f d u = record s { wanted = w.wanted; inner = w.inner; named = w.named; diff = w.diff; place = p; depth = d; first = f; text = u }

pub is_key_in : {w : Frame} {p : Place} {f : Bool} {d : ℕ} {u : List ℕ} (s : State) → InKey w p f d u s → s ≡ key_in s w p f d u
is_key_in s h = λ i. record s { wanted = h.wanted i; inner = h.inner i; named = h.named i; diff = h.diff i; place = h.place i; depth = h.depth i; first = h.first i; text = h.text i }

pub keys : (Q : State → Type 0) (w : Frame) (p : Place) (f : Bool) (d : ℕ) (u : List ℕ) (b : ℕ) (ps : List Piece) → ((s : State) → Q (step (key_in s w p f d u) b) × (given (step (key_in s w p f d u) b) ≡ ps)) → Leads1 (InKey w p f d u) b Q ps
keys Q w p f d u b ps g s h = subst (λ z. Q (step z b) × (given (step z b) ≡ ps)) (sym (is_key_in s h)) (g s)

from_at : (Q : State → Type 0) (w : Wanted) (p : Place) (d b : ℕ) (ps : List Piece) → ((s : State) → Q (step (settled s w p d) b) × (given (step (settled s w p d) b) ≡ ps)) → Leads1 (At w p d) b Q ps
from_at Q w = from_in Q (outer w)

abbrev pub BeginsKey : Frame → Place → Bool → ℕ → Type 0
BeginsKey w p f d = Leads1 (AtIn w p d) 34 (InKey w Key f d (34 ∷ [])) []

module _ (w : Frame) where
  pub first_key : (d : ℕ) → BeginsKey w Member true d
  first_key d = unfold step in from_in (InKey w Key true d (34 ∷ [])) w Member d 34 [] (λ s. (record { wanted = refl; inner = refl; named = refl; diff = refl; place = refl; depth = refl; first = refl; text = refl }, refl))

  pub next_key : (d : ℕ) → BeginsKey w NextMember false d
  next_key d = unfold step in from_in (InKey w Key false d (34 ∷ [])) w NextMember d 34 [] (λ s. (record { wanted = refl; inner = refl; named = refl; diff = refl; place = refl; depth = refl; first = refl; text = refl }, refl))

  module _ (f : Bool) (d : ℕ) (u : List ℕ) where
    pub key_plain : (b : ℕ) → (b == 34) ≡ false → (b == 92) ≡ false → Leads1 (InKey w Key f d u) b (InKey w Key f d (u ++ b ∷ [])) []
    unfolding step
    key_plain b e g = keys (InKey w Key f d (u ++ b ∷ [])) w Key f d u b [] (λ s. rw (e, g) (record { wanted = refl; inner = refl; named = refl; diff = refl; place = refl; depth = refl; first = refl; text = refl }, refl))

    pub key_escape : Leads1 (InKey w Key f d u) 92 (InKey w KeyEscape f d (u ++ 92 ∷ [])) []
    unfolding step
    key_escape = keys (InKey w KeyEscape f d (u ++ 92 ∷ [])) w Key f d u 92 [] (λ s. (record { wanted = refl; inner = refl; named = refl; diff = refl; place = refl; depth = refl; first = refl; text = refl }, refl))

    pub key_escaped : (b : ℕ) → Leads1 (InKey w KeyEscape f d u) b (InKey w Key f d (u ++ b ∷ [])) []
    unfolding step
    key_escaped b = keys (InKey w Key f d (u ++ b ∷ [])) w KeyEscape f d u b [] (λ s. (record { wanted = refl; inner = refl; named = refl; diff = refl; place = refl; depth = refl; first = refl; text = refl }, refl))

-- ---- values

-- a parser within a text, of which u was read
pub record Within (f : Frame) (p : Place) (d n : ℕ) (u : List ℕ) (s : State) : Type 0 where
  pub wanted : s.wanted ≡ f.wanted
  pub inner : s.inner ≡ f.inner
  pub named : s.named ≡ f.named
  pub diff : s.diff ≡ f.diff
  pub place : s.place ≡ p
  pub depth : s.depth ≡ d
  pub nesting : s.nesting ≡ n
  pub text : s.text ≡ u

abbrev pub held_in : State → Frame → Place → ℕ → ℕ → List ℕ → State
held_in s f p d n u = record s { wanted = f.wanted; inner = f.inner; named = f.named; diff = f.diff; place = p; depth = d; nesting = n; text = u }

is_held : {w : Frame} {p : Place} {d n : ℕ} {u : List ℕ} (s : State) → Within w p d n u s → s ≡ held_in s w p d n u
is_held s h = λ i. record s { wanted = h.wanted i; inner = h.inner i; named = h.named i; diff = h.diff i; place = h.place i; depth = h.depth i; nesting = h.nesting i; text = h.text i }

pub within : (Q : State → Type 0) (w : Frame) (p : Place) (d n : ℕ) (u : List ℕ) (b : ℕ) (ps : List Piece) → ((s : State) → Q (step (held_in s w p d n u) b) × (given (step (held_in s w p d n u) b) ≡ ps)) → Leads1 (Within w p d n u) b Q ps
within Q w p d n u b ps g s h = subst (λ z. Q (step z b) × (given (step z b) ≡ ps)) (sym (is_held s h)) (g s)

-- the same, whether or not the object has a known member
pub within_known : (Q : State → Type 0) (w : Frame) (p : Place) (d n : ℕ) (u : List ℕ) (b : ℕ) (ps : List Piece)
    → ((s : State) (k : Bool) → Q (step (record (held_in s w p d n u) { known = k }) b) × (given (step (record (held_in s w p d n u) { known = k }) b) ≡ ps)) → Leads1 (Within w p d n u) b Q ps
within_known Q w p d n u b ps g = within Q w p d n u b ps (λ s. g s s.known)

abbrev pub Takes : Frame → Place → ℕ → ℕ → List ℕ → ℕ → Place → ℕ → List ℕ → Type 0
Takes w p d n u b p' n' u' = Leads1 (Within w p d n u) b (Within w p' d n' u') []

-- the end of a name

module _ (w : Wanted) (docs : wants_documents w ≡ true) (f : Bool) (d : ℕ) (u : List ℕ) (json : is_json (u ++ 34 ∷ []) ≡ true) where
  pub key_end : (name : Name) → is_plain name ≡ false → name_of w f false false d (u ++ 34 ∷ []) ≡ name → Leads1 (InKey (outer w) Key f d u) 34 (At w (Colon name) d) []
  key_end name other says = unfold step in keys (At w (Colon name) d) (outer w) Key f d u 34 [] (λ s. rw (json, says, other) (record { wanted = refl; inner = refl; named = refl; diff = refl; place = refl; depth = refl }, refl))

module _ (w : Wanted) (f : Bool) (d : ℕ) (u : List ℕ) (json : is_json (u ++ 34 ∷ []) ≡ true) where
  pub key_itself : (l : Bool) (name : Name) → is_plain name ≡ true → name_of w f l false d (u ++ 34 ∷ []) ≡ name → Leads1 (InKey (listing w l) Key f d u) 34 (Within (listing w l) (Value name) d 1 (123 ∷ (u ++ 34 ∷ []))) []
  key_itself l name plain says = unfold step in keys (Within (listing w l) (Value name) d 1 (123 ∷ (u ++ 34 ∷ []))) (listing w l) Key f d u 34 [] (λ s. rw (json, says, plain) (record { wanted = refl; inner = refl; named = refl; diff = refl; place = refl; depth = refl; nesting = refl; text = refl }, refl))

module _ (w : Wanted) (leaves : wants_leaves w ≡ false) where
  pub value_colon : {name : Name} {u : List ℕ} {ps : List Piece} (d : ℕ) → Holds w name u ps → Leads1 (At w (Colon name) d) 58 (Within (outer w) (Value name) d 0 []) []
  value_colon d (document e c) = unfold step in from_at (Within (outer w) (Value names.Document) d 0 []) w (Colon names.Document) d 58 [] (λ s. rw leaves (record { wanted = refl; inner = refl; named = refl; diff = refl; place = refl; depth = refl; nesting = refl; text = refl }, refl))
  value_colon d (no_object e) = unfold step in from_at (Within (outer w) (Value names.Document) d 0 []) w (Colon names.Document) d 58 [] (λ s. rw leaves (record { wanted = refl; inner = refl; named = refl; diff = refl; place = refl; depth = refl; nesting = refl; text = refl }, refl))
  value_colon {name} d _ = unfold step in from_at (Within (outer w) (Value name) d 0 []) w (Colon name) d 58 [] (λ s. rw leaves (record { wanted = refl; inner = refl; named = refl; diff = refl; place = refl; depth = refl; nesting = refl; text = refl }, refl))

some_not_zero : (n : ℕ) → (n + 1 == 0) ≡ false
some_not_zero n = grind arith

module _ (w : Frame) (name : Name) (d n : ℕ) (u : List ℕ) where
  pub value_lead : (b : ℕ) → is_space b ≡ true → Takes w (Value name) d 0 [] b (Value name) 0 []
  unfolding step
  value_lead b e = within (Within w (Value name) d 0 []) w (Value name) d 0 [] b [] (λ s. rw e (record { wanted = refl; inner = refl; named = refl; diff = refl; place = refl; depth = refl; nesting = refl; text = refl }, refl))

  pub value_space : (b : ℕ) → is_space b ≡ true → (length u == 0) ≡ false → Takes w (Value name) d n u b (Value name) n (u ++ 32 ∷ [])
  value_space b e f = unfold step in within (Within w (Value name) d n (u ++ 32 ∷ [])) w (Value name) d n u b [] (λ s. rw (e, f) (record { wanted = refl; inner = refl; named = refl; diff = refl; place = refl; depth = refl; nesting = refl; text = refl }, refl))

  pub value_plain : (b : ℕ) → IsPlain n b → Takes w (Value name) d n u b (Value name) n (u ++ b ∷ [])
  value_plain b h = unfold step in within (Within w (Value name) d n (u ++ b ∷ [])) w (Value name) d n u b [] (λ s. rw (h.space, h.comma, h.quote, h.opens, h.closes) (record { wanted = refl; inner = refl; named = refl; diff = refl; place = refl; depth = refl; nesting = refl; text = refl }, refl))

  pub value_quote : Takes w (Value name) d n u 34 (Quoted name) n (u ++ 34 ∷ [])
  value_quote = unfold step in within (Within w (Quoted name) d n (u ++ 34 ∷ [])) w (Value name) d n u 34 [] (λ s. rw (and_right (n == 0) false refl) (record { wanted = refl; inner = refl; named = refl; diff = refl; place = refl; depth = refl; nesting = refl; text = refl }, refl))

  pub object_opens : nat_lt n 128 ≡ true → Takes w (Value name) d n u 123 (Value name) (n + 1) (u ++ 123 ∷ [])
  object_opens e = unfold step in within (Within w (Value name) d (n + 1) (u ++ 123 ∷ [])) w (Value name) d n u 123 [] (λ s. rw (and_right (n == 0) false refl, e) (record { wanted = refl; inner = refl; named = refl; diff = refl; place = refl; depth = refl; nesting = refl; text = refl }, refl))

  pub list_opens : nat_lt n 128 ≡ true → Takes w (Value name) d n u 91 (Value name) (n + 1) (u ++ 91 ∷ [])
  list_opens e = unfold step in within (Within w (Value name) d (n + 1) (u ++ 91 ∷ [])) w (Value name) d n u 91 [] (λ s. rw (and_right (n == 0) false refl, e) (record { wanted = refl; inner = refl; named = refl; diff = refl; place = refl; depth = refl; nesting = refl; text = refl }, refl))

  pub object_closes : (n + 1 == 1 && is_plain name) ≡ false → Takes w (Value name) d (n + 1) u 125 (Value name) n (u ++ 125 ∷ [])
  object_closes e = unfold step in within (Within w (Value name) d n (u ++ 125 ∷ [])) w (Value name) d (n + 1) u 125 [] (λ s. rw (some_not_zero n, e) (record { wanted = refl; inner = refl; named = refl; diff = refl; place = refl; depth = refl; nesting = less_one n; text = refl }, refl))

  pub list_closes : (n + 1 == 1 && is_plain name) ≡ false → Takes w (Value name) d (n + 1) u 93 (Value name) n (u ++ 93 ∷ [])
  list_closes e = unfold step in within (Within w (Value name) d n (u ++ 93 ∷ [])) w (Value name) d (n + 1) u 93 [] (λ s. rw (some_not_zero n, e) (record { wanted = refl; inner = refl; named = refl; diff = refl; place = refl; depth = refl; nesting = less_one n; text = refl }, refl))

  pub quoted_plain : (b : ℕ) → (b == 34) ≡ false → (b == 92) ≡ false → Takes w (Quoted name) d n u b (Quoted name) n (u ++ b ∷ [])
  quoted_plain b e f = unfold step in within (Within w (Quoted name) d n (u ++ b ∷ [])) w (Quoted name) d n u b [] (λ s. rw (e, f) (record { wanted = refl; inner = refl; named = refl; diff = refl; place = refl; depth = refl; nesting = refl; text = refl }, refl))

  pub quoted_escape : Takes w (Quoted name) d n u 92 (Escaped name) n (u ++ 92 ∷ [])
  quoted_escape = unfold step in within (Within w (Escaped name) d n (u ++ 92 ∷ [])) w (Quoted name) d n u 92 [] (λ s. (record { wanted = refl; inner = refl; named = refl; diff = refl; place = refl; depth = refl; nesting = refl; text = refl }, refl))

  pub quoted_escaped : (b : ℕ) → Takes w (Escaped name) d n u b (Quoted name) n (u ++ b ∷ [])
  quoted_escaped b = unfold step in within (Within w (Quoted name) d n (u ++ b ∷ [])) w (Escaped name) d n u b [] (λ s. (record { wanted = refl; inner = refl; named = refl; diff = refl; place = refl; depth = refl; nesting = refl; text = refl }, refl))

  pub quoted_end : Takes w (Quoted name) d n u 34 (Value name) n (u ++ 34 ∷ [])
  quoted_end = unfold step in within (Within w (Value name) d n (u ++ 34 ∷ [])) w (Quoted name) d n u 34 [] (λ s. (record { wanted = refl; inner = refl; named = refl; diff = refl; place = refl; depth = refl; nesting = refl; text = refl }, refl))

-- ---- the byte after a value

module _ (w : Wanted) (d : ℕ) (u : List ℕ) (json : is_json u ≡ true) where
  pub ends_comma : {name : Name} {ps : List Piece} → Holds w name u ps → Leads1 (Within (outer w) (Value name) d 0 u) 44 (At w NextMember d) ps
  unfolding step
  ends_comma (document {v} e c) = within (At w NextMember d) (outer w) (Value names.Document) d 0 u 44 ((found.Document, v) ∷ []) (λ s. rw (json, e, c) (record { wanted = refl; inner = refl; named = refl; diff = refl; place = refl; depth = refl }, refl))
  ends_comma (no_object e) = within (At w NextMember d) (outer w) (Value names.Document) d 0 u 44 [] (λ s. rw (json, e) (record { wanted = refl; inner = refl; named = refl; diff = refl; place = refl; depth = refl }, refl))
  ends_comma {name} _ = within (At w NextMember d) (outer w) (Value name) d 0 u 44 [] (λ s. rw json (record { wanted = refl; inner = refl; named = refl; diff = refl; place = refl; depth = refl }, refl))

  pub ends_brace : {name : Name} {ps : List Piece} → is_strict w ≡ false → Holds w name u ps → Leads1 (Within (outer w) (Value name) (d + 1) 0 u) 125 (At w (closed_at d AfterItem) d) ps
  unfolding step
  ends_brace h (document {v} e c) = within_known (At w (closed_at d AfterItem) d) (outer w) (Value names.Document) (d + 1) 0 u 125 ((found.Document, v) ∷ []) by_known where
    by_known : (s : State) (k : Bool) → At w (closed_at d AfterItem) d (step (record (held_in s (outer w) (Value names.Document) (d + 1) 0 u) { known = k }) 125) × (given (step (record (held_in s (outer w) (Value names.Document) (d + 1) 0 u) { known = k }) 125) ≡ (found.Document, v) ∷ [])
    by_known s true = rw (json, e, c) (record { wanted = refl; inner = refl; named = refl; diff = refl; place = refl; depth = less_one d }, refl)
    by_known s false = rw (json, e, h, c) (record { wanted = refl; inner = refl; named = refl; diff = refl; place = refl; depth = less_one d }, refl)
  ends_brace h (no_object e) = within_known (At w (closed_at d AfterItem) d) (outer w) (Value names.Document) (d + 1) 0 u 125 [] by_known where
    by_known : (s : State) (k : Bool) → At w (closed_at d AfterItem) d (step (record (held_in s (outer w) (Value names.Document) (d + 1) 0 u) { known = k }) 125) × (given (step (record (held_in s (outer w) (Value names.Document) (d + 1) 0 u) { known = k }) 125) ≡ [])
    by_known s true = rw (json, e) (record { wanted = refl; inner = refl; named = refl; diff = refl; place = refl; depth = less_one d }, refl)
    by_known s false = rw (json, e, h) (record { wanted = refl; inner = refl; named = refl; diff = refl; place = refl; depth = less_one d }, refl)
  ends_brace h of_passed = within_known (At w (closed_at d AfterItem) d) (outer w) (Value names.Passed) (d + 1) 0 u 125 [] by_known where
    by_known : (s : State) (k : Bool) → At w (closed_at d AfterItem) d (step (record (held_in s (outer w) (Value names.Passed) (d + 1) 0 u) { known = k }) 125) × (given (step (record (held_in s (outer w) (Value names.Passed) (d + 1) 0 u) { known = k }) 125) ≡ [])
    by_known s true = rw json (record { wanted = refl; inner = refl; named = refl; diff = refl; place = refl; depth = less_one d }, refl)
    by_known s false = rw (json, h) (record { wanted = refl; inner = refl; named = refl; diff = refl; place = refl; depth = less_one d }, refl)
  ends_brace h of_last = within_known (At w (closed_at d AfterItem) d) (outer w) (Value names.Last) (d + 1) 0 u 125 [] by_known where
    by_known : (s : State) (k : Bool) → At w (closed_at d AfterItem) d (step (record (held_in s (outer w) (Value names.Last) (d + 1) 0 u) { known = k }) 125) × (given (step (record (held_in s (outer w) (Value names.Last) (d + 1) 0 u) { known = k }) 125) ≡ [])
    by_known s true = rw json (record { wanted = refl; inner = refl; named = refl; diff = refl; place = refl; depth = less_one d }, refl)
    by_known s false = rw (json, h) (record { wanted = refl; inner = refl; named = refl; diff = refl; place = refl; depth = less_one d }, refl)
  ends_brace h of_seq = within_known (At w (closed_at d AfterItem) d) (outer w) (Value names.Seq) (d + 1) 0 u 125 [] by_known where
    by_known : (s : State) (k : Bool) → At w (closed_at d AfterItem) d (step (record (held_in s (outer w) (Value names.Seq) (d + 1) 0 u) { known = k }) 125) × (given (step (record (held_in s (outer w) (Value names.Seq) (d + 1) 0 u) { known = k }) 125) ≡ [])
    by_known s true = rw json (record { wanted = refl; inner = refl; named = refl; diff = refl; place = refl; depth = less_one d }, refl)
    by_known s false = rw (json, h) (record { wanted = refl; inner = refl; named = refl; diff = refl; place = refl; depth = less_one d }, refl)
  ends_brace h of_other = within_known (At w (closed_at d AfterItem) d) (outer w) (Value names.Other) (d + 1) 0 u 125 [] by_known where
    by_known : (s : State) (k : Bool) → At w (closed_at d AfterItem) d (step (record (held_in s (outer w) (Value names.Other) (d + 1) 0 u) { known = k }) 125) × (given (step (record (held_in s (outer w) (Value names.Other) (d + 1) 0 u) { known = k }) 125) ≡ [])
    by_known s true = rw json (record { wanted = refl; inner = refl; named = refl; diff = refl; place = refl; depth = less_one d }, refl)
    by_known s false = rw (json, h) (record { wanted = refl; inner = refl; named = refl; diff = refl; place = refl; depth = less_one d }, refl)

-- ---- the brace that closes a document that is the object itself

module _ (w : Wanted) (l : Bool) (d : ℕ) (u : List ℕ) (json : is_json (u ++ 125 ∷ []) ≡ true) where
  pub itself_ends : (v : List ℕ) → wants_documents w ≡ true → is_log (u ++ 125 ∷ []) ≡ false → covered w (u ++ 125 ∷ []) ≡ Some v
      → Leads1 (Within (listing w l) (Value names.Plain) (d + 1) 1 u) 125 (AtIn (listing w l) (closed_at d AfterItem) d) ((found.Document, v) ∷ [])
  itself_ends v docs e c = unfold step in within (AtIn (listing w l) (closed_at d AfterItem) d) (listing w l) (Value names.Plain) (d + 1) 1 u 125 ((found.Document, v) ∷ []) (λ s. rw (json, docs, e, c) (record { wanted = refl; inner = refl; named = refl; diff = refl; place = refl; depth = less_one d }, refl))

  pub log_ends : wants_documents w ≡ true → is_log (u ++ 125 ∷ []) ≡ true → Leads1 (Within (listing w l) (Value names.Plain) (d + 1) 1 u) 125 (AtIn (listing w l) (closed_at d AfterItem) d) []
  log_ends docs e = unfold step in within (AtIn (listing w l) (closed_at d AfterItem) d) (listing w l) (Value names.Plain) (d + 1) 1 u 125 [] (λ s. rw (json, docs, e) (record { wanted = refl; inner = refl; named = refl; diff = refl; place = refl; depth = less_one d }, refl))

  -- if no documents are requested
  pub unwanted_ends : wants_documents w ≡ false → Leads1 (Within (listing w l) (Value names.Plain) (d + 1) 1 u) 125 (AtIn (listing w l) (closed_at d AfterItem) d) []
  unwanted_ends docs = unfold step in within (AtIn (listing w l) (closed_at d AfterItem) d) (listing w l) (Value names.Plain) (d + 1) 1 u 125 [] (λ s. rw (json, docs) (record { wanted = refl; inner = refl; named = refl; diff = refl; place = refl; depth = less_one d }, refl))

-- ---- the brace that closes an item of `docs` whose first member is not `_id`

module _ (w : Wanted) (d : ℕ) (u : List ℕ) (json : is_json (u ++ 125 ∷ []) ≡ true) where
  pub late_ends : (v : List ℕ) → has_id (u ++ 125 ∷ []) ≡ true → covered w (u ++ 125 ∷ []) ≡ Some v
      → Leads1 (Within (listing w true) (Value names.Item) (d + 1) 1 u) 125 (AtIn (listing w true) (closed_at d AfterItem) d) ((found.Document, v) ∷ [])
  late_ends v e c = unfold step in within (AtIn (listing w true) (closed_at d AfterItem) d) (listing w true) (Value names.Item) (d + 1) 1 u 125 ((found.Document, v) ∷ []) (λ s. rw (json, e, c) (record { wanted = refl; inner = refl; named = refl; diff = refl; place = refl; depth = less_one d }, refl))

  pub no_id_ends : is_strict w ≡ false → has_id (u ++ 125 ∷ []) ≡ false → Leads1 (Within (listing w true) (Value names.Item) (d + 1) 1 u) 125 (AtIn (listing w true) (closed_at d AfterItem) d) []
  no_id_ends h e = unfold step in within (AtIn (listing w true) (closed_at d AfterItem) d) (listing w true) (Value names.Item) (d + 1) 1 u 125 [] (λ s. rw (json, e, h) (record { wanted = refl; inner = refl; named = refl; diff = refl; place = refl; depth = less_one d }, refl))
