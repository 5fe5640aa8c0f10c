-- The parts of a line, and the lines of the bytes that were read.
use Rattle.proof_prelude.proofs.{◌≡◌, ℕ, suc, ◌+◌, ◌-◌, ◌<◌, ◌≤◌, length-drop, Bool, true, false, not, cond, ◌||◌, List, [], ◌∷◌, ◌++◌, length, take, drop, take_all, drop_all, Option, None, Some, MatchOption, refl, sym, ap, subst, ◌∙◌, arith, eqb-true, append_assoc, Result, Ok, Err, OnErr, nat_lt, ltb-false, unwrap_or, none-some, position, prefix_len-le-length, length-take-le, drop-drop, Appends, Appends-trans}
use Rattle.std.proofs.Math.Numerals.{one-add}
use Rattle.std.specs.List.{position_or_len}
use Rattle.std.specs.Str.{IsUtf8, trim}
use Rattle.std.proofs.lemmas.List.{drop-append-le, take-append-drop}
use Rattle.script_engine.specs.Lines.{is_line_end, has_line_end}
use Rattle.relay_core.specs.Messages.{Text}
use Rattle.relay_core.specs.declared.messages.Side.{Side}
use Rattle.couch_relay.specs.Frames.{HeadView, is_space, word_in, rest_in, side_in, IsNumber, IsHead, IsLine, IsFrame, NoFrame, bad_head, cut_body}
use Rattle.couch_relay.specs.declared.inbox.Head.{Head}
use Rattle.couch_relay.specs.Inbox.{HasLine, Took, Filled, ReadsHead, head_view}

-- what holds after any result, holds after an error
pub any_err : {T E Q : Type 0} (r : Result T E) → Q → OnErr r Q
any_err (Ok x) q = tt
any_err (Err e) q = q

-- ---- words

pub no_space-word : (text : Text) → position_or_len is_space text ≡ length text → text ≡ word_in text
no_space-word text e = sym (take_all (position_or_len is_space text) text (omega (arith, e)))

pub no_space-rest : (text : Text) → position_or_len is_space text ≡ length text → [] ≡ rest_in text
no_space-rest text e = sym (drop_all (position_or_len is_space text + 1) text (omega (arith, e)))

-- ---- heads

module _ (line text w1 r1 w2 r2 w3 r3 : Text) (text_is : text ≡ line) (utf8 : IsUtf8 text) (w1_is : w1 ≡ word_in text) (r1_is : r1 ≡ rest_in text) (w2_is : w2 ≡ word_in r1) (r2_is : r2 ≡ rest_in r1) (w3_is : w3 ≡ word_in r2) (r3_is : r3 ≡ rest_in r2) where
  status_text : w1 ≡ word_in line
  status_text = w1_is ∙ ap word_in text_is

  size_text : w2 ≡ word_in (rest_in line)
  size_text = w2_is ∙ ap word_in (r1_is ∙ ap rest_in text_is)

  after_size : r2 ≡ rest_in (rest_in line)
  after_size = r2_is ∙ ap rest_in (r1_is ∙ ap rest_in text_is)

  pub head_is : (status size : ℕ) (who : Option Side) (date date_text : Text) → IsNumber 16 w1 status → IsNumber 64 w2 size → who ≡ side_in w3 → date ≡ date_text → date_text ≡ trim r3
      → IsHead line (record { status = status; size = size; who = who; date = date })
  head_is status size who date date_text s n who_is date_is trimmed = record {
    text = subst (λ (t : Text). IsUtf8 t) text_is utf8;
    status = subst (λ (t : Text). IsNumber 16 t status) status_text s;
    size = subst (λ (t : Text). IsNumber 64 t size) size_text n;
    who = who_is ∙ ap side_in (w3_is ∙ ap word_in after_size);
    date = date_is ∙ trimmed ∙ ap trim (r3_is ∙ ap rest_in after_size);
  }

  pub bad_status : ((n : ℕ) → ¬ IsNumber 16 w1 n) → (head : HeadView) → ¬ IsHead line head
  bad_status none head h = none head.status (subst (λ (t : Text). IsNumber 16 t head.status) (sym status_text) h.status)

  pub bad_size : ((n : ℕ) → ¬ IsNumber 64 w2 n) → (head : HeadView) → ¬ IsHead line head
  bad_size none head h = none head.size (subst (λ (t : Text). IsNumber 64 t head.size) (sym size_text) h.size)

-- ---- lines

end_step : (c : Bool) (n : ℕ) (b : ℕ) (bs : List ℕ) → is_line_end b ≡ c → has_line_end (take n bs) ≡ false → has_line_end (take (cond (not c) (1 + n) 0) (b ∷ bs)) ≡ false
end_step true n b bs e h = refl
end_step false n b bs e h = ap (λ (k : ℕ). has_line_end (take k (b ∷ bs))) (one-add n) ∙ ap (λ (d : Bool). d || has_line_end (take n bs)) e ∙ h

-- no line end is before the first line end
no_end : (bs : List ℕ) → has_line_end (take (position_or_len is_line_end bs) bs) ≡ false
no_end [] = refl
no_end (b ∷ bs) = end_step (is_line_end b) (position_or_len is_line_end bs) b bs refl (no_end bs)

line_step : (c : Bool) (n : ℕ) (b : ℕ) (bs : List ℕ) → is_line_end b ≡ c → cond (not c) (1 + n) 0 < length (b ∷ bs) → (n < length bs → bs ≡ take n bs ++ 10 ∷ drop (n + 1) bs)
    → b ∷ bs ≡ take (cond (not c) (1 + n) 0) (b ∷ bs) ++ 10 ∷ drop (cond (not c) (1 + n) 0 + 1) (b ∷ bs)
line_step true n b bs e l rest = ap (λ (x : ℕ). x ∷ bs) (eqb-true b 10 e)
line_step false n b bs e l rest =
    let first : suc n ≡ 1 + n = sym (one-add n) in
    let next : suc (n + 1) ≡ 1 + n + 1 = omega arith in
    ap (λ (xs : List ℕ). b ∷ xs) (rest (omega (arith, l))) ∙ (λ j. take (first j) (b ∷ bs) ++ 10 ∷ drop (next j) (b ∷ bs))

at_end : (bs : List ℕ) → position_or_len is_line_end bs < length bs → bs ≡ take (position_or_len is_line_end bs) bs ++ 10 ∷ drop (position_or_len is_line_end bs + 1) bs
at_end [] l = absurd (omega arith)
at_end (b ∷ bs) l = line_step (is_line_end b) (position_or_len is_line_end bs) b bs refl l (at_end bs)

-- the bytes begin with a line
pub has_line : (bs : List ℕ) (n : ℕ) → n ≡ position_or_len is_line_end bs → n < length bs → HasLine bs n
has_line bs n e l =
    let P : ℕ → Type 0 = λ k. k < length bs → HasLine bs k in
    subst P (sym e) (λ m. (record { is = at_end bs m; one = no_end bs }, m)) l

-- or they have no line end
pub no_line : (bs : List ℕ) (n : ℕ) → n ≡ position_or_len is_line_end bs → length bs ≤ n → has_line_end bs ≡ false
no_line bs n e l =
    ap has_line_end (sym (take_all (position_or_len is_line_end bs) bs (omega (arith, e, l)))) ∙ no_end bs

some_step : (c : Bool) (n k : ℕ) → Some k ≡ cond c (Some n) None → k ≡ n
some_step true n k e = ap (λ (o : Option ℕ). unwrap_or o 0) e
some_step false n k e = absurd (none-some k (sym e))

pub position_some : (bs : List ℕ) (k : ℕ) → Some k ≡ position is_line_end bs → k ≡ position_or_len is_line_end bs
position_some bs k e = some_step (nat_lt (position_or_len is_line_end bs) (length bs)) (position_or_len is_line_end bs) k e

none_step : (c : Bool) (n : ℕ) → None ≡ cond c (Some n) None → c ≡ false
none_step true n e = absurd (none-some n e)
none_step false n e = refl

pub position_none : (bs : List ℕ) → None ≡ position is_line_end bs → length bs ≡ position_or_len is_line_end bs
position_none bs e =
    let p : ℕ = position_or_len is_line_end bs in
    let most : p ≤ length bs = prefix_len-le-length (λ b. not (is_line_end b)) bs in
    omega (arith, most, ltb-false p (length bs) (none_step (nat_lt p (length bs)) p e))

-- ---- bytes that are pending

-- more bytes are pending
pub more_pending : (held new chunk : List ℕ) (at : ℕ) → at ≤ length held → new ≡ held ++ chunk → drop at new ≡ drop at held ++ chunk
more_pending held new chunk at l e = ap (λ (xs : List ℕ). drop at xs) e ∙ drop-append-le at held chunk l

-- the bytes after a head
pub after_head : (held : List ℕ) (at size : ℕ) → drop (at + size + 1) held ≡ drop (size + 1) (drop at held)
after_head held at size = ap (λ (n : ℕ). drop n held) (omega arith) ∙ sym (drop-drop (size + 1) at held)

-- ---- what a reader returned

pub took_more : (a b c : Option (List ℕ)) (x y : List ℕ) → Filled a b x y → Took b c → Took a c
took_more a b c x y f t = (f.0 ++ t.0, Appends-trans a b c f.0 t.0 f.1 t.1)

pub filled_more : (a b c : Option (List ℕ)) (x y z : List ℕ) → Filled a b x y → Filled b c y z → Filled a c x z
filled_more a b c x y z f t = (
  f.0 ++ t.0,
  Appends-trans a b c f.0 t.0 f.1 t.1,
  t.2 ∙ ap (λ (xs : List ℕ). xs ++ t.0) f.2 ∙ append_assoc x f.0 t.0,
)

pub took_after : (a b c : Option (List ℕ)) (x : List ℕ) → Appends a b x → Took b c → Took a c
took_after a b c x p t = (x ++ t.0, Appends-trans a b c x t.0 p t.1)

-- the rest of the bytes that are held
pub rest_is : (xs ys : List ℕ) (at : ℕ) → xs ≡ ys → take (length xs - at) (drop at xs) ≡ drop at ys
rest_is xs ys at e = take_all (length xs - at) (drop at xs) (omega (arith, length-drop at xs)) ∙ ap (λ (zs : List ℕ). drop at zs) e

-- a value that is not Some is None
pub none_of : {A : Type 0} (o : Option A) → ((x : A) → o ≡ Some x → ⊥) → o ≡ None
none_of None h = refl
none_of (Some x) h = absurd (h x refl)

-- the head of the line that was read
pub head_read : (o : Option Head) (taken taken₁ : Option (List ℕ)) (ended : Type 0) (before now after line : List ℕ) (size : ℕ)
    → Filled taken taken₁ before now → HasLine now size → line ≡ take size now → after ≡ drop (size + 1) now
    → MatchOption o ((head : HeadView) → ¬ IsHead line head) (λ h. IsHead line (head_view h)) → ReadsHead taken taken₁ ended before after o
head_read None taken taken₁ ended before now after line size f has line_is after_is h = (
  f.0,
  f.1,
  bad_head (take size now) (drop (size + 1) now) (subst (λ (xs : List ℕ). IsLine xs (take size now) (drop (size + 1) now)) f.2 has.0)
      (λ head is. h head (subst (λ (xs : List ℕ). IsHead xs head) (sym line_is) is)),
)
head_read (Some x) taken taken₁ ended before now after line size f has line_is after_is h = (
  f.0,
  f.1,
  (
    take size now,
    subst (λ (xs : List ℕ). IsLine xs (take size now) after) f.2 (subst (λ (xs : List ℕ). IsLine now (take size now) xs) (sym after_is) has.0),
    subst (λ (xs : List ℕ). IsHead xs (head_view x)) line_is h,
  ),
)

-- ---- responses

module _ (taken taken₁ taken₂ : Option (List ℕ)) (before read pending₁ more pending₂ line : List ℕ) (head : HeadView) (took : Appends taken taken₁ read) (parts : IsLine (before ++ read) line pending₁) (is_head : IsHead line head) (took_more : Appends taken₁ taken₂ more) (more_is : pending₂ ≡ pending₁ ++ more) where
  pub all_is : before ++ (read ++ more) ≡ line ++ 10 ∷ pending₂
  all_is =
      sym (append_assoc before read more) ∙ ap (λ (xs : List ℕ). xs ++ more) parts.is ∙ append_assoc line (10 ∷ pending₁) more
      ∙ ap (λ (xs : List ℕ). line ++ 10 ∷ xs) (sym more_is)

  -- the body is there: a response was read
  pub a_frame : (size : ℕ) → size ≡ head.size → size ≤ length pending₂ → IsFrame (line ++ 10 ∷ take size pending₂) head (take size pending₂)
  a_frame size e l = record { line = line; parts = record { is = refl; one = parts.one }; head_is = is_head; size_is = length-take-le size pending₂ l ∙ e }

  pub frame_parts : (size : ℕ) (pending₃ : List ℕ) → pending₃ ≡ drop size pending₂ → before ++ (read ++ more) ≡ (line ++ 10 ∷ take size pending₂) ++ pending₃
  frame_parts size pending₃ e =
      all_is ∙ ap (λ (xs : List ℕ). line ++ 10 ∷ xs) (sym (take-append-drop size pending₂)) ∙ sym (append_assoc line (10 ∷ take size pending₂) (drop size pending₂))
      ∙ ap (λ (xs : List ℕ). (line ++ 10 ∷ take size pending₂) ++ xs) (sym e)

  -- the input ended in the body
  pub no_frame : {ended : Type 0} → ended → length pending₂ < head.size → NoFrame ended (before ++ (read ++ more))
  no_frame e l = cut_body line pending₂ head e (record { is = all_is; one = parts.one }) is_head l

  pub took_all : Appends taken taken₂ (read ++ more)
  took_all = Appends-trans taken taken₁ taken₂ read more took took_more

-- after a head was read: the bytes of the body
module _ (taken taken₁ taken₂ : Option (List ℕ)) (ended₁ : Type 0) (before pending₁ pending₂ : List ℕ) (h : Head) (hs : ReadsHead taken taken₁ ended₁ before pending₁ (Some h)) (fs : Filled taken₁ taken₂ pending₁ pending₂) where
  abbrev pub body_took : Took taken taken₂
  body_took = (hs.0 ++ fs.0, Appends-trans taken taken₁ taken₂ hs.0 fs.0 hs.1 fs.1)

  pub body_cut : (ended : Type 0) → ended → length pending₂ < h.size → (bytes : List ℕ) × Appends taken taken₂ bytes × NoFrame ended (before ++ bytes)
  body_cut ended e l =
      (hs.0 ++ fs.0, body_took.1, no_frame taken taken₁ taken₂ before hs.0 pending₁ fs.0 pending₂ hs.2.0 (head_view h) hs.1 hs.2.1 hs.2.2 fs.1 fs.2 e l)

  abbrev pub body_frame : List ℕ
  body_frame = hs.2.0 ++ 10 ∷ take h.size pending₂

  pub body_parts : (pending₃ : List ℕ) → pending₃ ≡ drop h.size pending₂ → before ++ (hs.0 ++ fs.0) ≡ body_frame ++ pending₃
  body_parts pending₃ e = frame_parts taken taken₁ taken₂ before hs.0 pending₁ fs.0 pending₂ hs.2.0 (head_view h) hs.1 hs.2.1 hs.2.2 fs.1 fs.2 h.size pending₃ e

  pub body_is : h.size ≤ length pending₂ → IsFrame body_frame (head_view h) (take h.size pending₂)
  body_is l = a_frame taken taken₁ taken₂ before hs.0 pending₁ fs.0 pending₂ hs.2.0 (head_view h) hs.1 hs.2.1 hs.2.2 fs.1 fs.2 h.size refl l
