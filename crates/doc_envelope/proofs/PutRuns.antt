-- A run in the member `_attachments` of a document that is wrapped.
use Rattle.proof_prelude.proofs.{◌≡◌, ℕ, suc, ◌≤◌, ◌<◌, List, [], ◌∷◌, ◌++◌, length, take, drop, codes, Bool, true, false, cond, ◌&&◌, ◌||◌, ◌==◌, nat_eq, nat_lt, refl, sym, ap, subst, ◌∙◌, arith, append_assoc, append-nil, and_parts, eqb-true, starts_with, length-append}
use Rattle.std.proofs.lemmas.List.{drop-append-le}
use Rattle.doc_envelope.specs.{IsPutStart, IsRun, added, behind_comma, first_length, has_name, held_by, held_from, held_with, helds_by, is_blank, length_in, made_from, members_in, stays, text_with, texts_with, trimmed}
use Rattle.doc_envelope.specs.Members.{Outside, Quoted}
use Rattle.doc_envelope.proofs.Splits.{first_by}
use Rattle.doc_envelope.proofs.OpenMembers.{Before, before_of, nesting_after, run_members}

-- ---- names

starts_split : (name s : List ℕ) → starts_with nat_eq s name ≡ true → s ≡ name ++ drop (length name) s
starts_split [] s h = refl
starts_split (n ∷ name) [] h = absurd (cc)
starts_split (n ∷ name) (x ∷ s) h =
    let parts = and_parts (nat_eq n x) (starts_with nat_eq s name) h in
    ap (λ c. c ∷ s) (sym (eqb-true n x parts.0)) ∙ ap (λ t. n ∷ t) (starts_split name s parts.1)

-- a text whose first byte that is not a blank is known
trimmed_more : (u x w : List ℕ) (b : ℕ) → trimmed u ≡ b ∷ w → (trimmed (u ++ x) ≡ b ∷ (w ++ x)) × (is_blank (u ++ x) ≡ false) × (suc (length w) ≤ length u)
trimmed_more [] x w b h = absurd (cc)
trimmed_more (c ∷ u) x w b h = by (c == 32) refl (trimmed_more u x w b) where
  by : (k : Bool) → (c == 32) ≡ k → (trimmed u ≡ b ∷ w → (trimmed (u ++ x) ≡ b ∷ (w ++ x)) × (is_blank (u ++ x) ≡ false) × (suc (length w) ≤ length u))
      → (trimmed ((c ∷ u) ++ x) ≡ b ∷ (w ++ x)) × (is_blank ((c ∷ u) ++ x) ≡ false) × (suc (length w) ≤ length (c ∷ u))
  by true e ih =
      let r = ih (sym (ap (λ k. cond k (trimmed u) (c ∷ u)) e) ∙ h) in
      let n = r.2 in
      (ap (λ k. cond k (trimmed (u ++ x)) (c ∷ (u ++ x))) e ∙ r.0, ap (λ k. k && is_blank (u ++ x)) e ∙ r.1, omega (arith, n))
  by false e ih =
      let same = sym (ap (λ k. cond k (trimmed u) (c ∷ u)) e) ∙ h in
      let n = ap length same in
      (ap (λ k. cond k (trimmed (u ++ x)) (c ∷ (u ++ x))) e ∙ ap (λ t. t ++ x) same, ap (λ k. k && is_blank (u ++ x)) e, omega (arith, n))

-- a member `_attachments` is wrapped, whatever follows
pub record Goes (u : List ℕ) : Type 0 where
  pub stays : (x : List ℕ) → stays (u ++ x) ≡ false
  pub filled : (x : List ℕ) → is_blank (u ++ x) ≡ false
  pub long : 14 ≤ length u

goes_of : (u : List ℕ) → has_name u (codes "\"_attachments\"") ≡ true → Goes u
goes_of u h = record {
  stays = λ x. subst (λ t. (starts_with nat_eq t (codes "\"_id\"") || starts_with nat_eq t (codes "\"_rev\"") || starts_with nat_eq t (codes "\"_revisions\"") || starts_with nat_eq t (codes "\"_deleted\"")) ≡ false) (sym (trimmed_more u x w 34 is).0) refl;
  filled = λ x. (trimmed_more u x w 34 is).1;
  long = (let n = (trimmed_more u [] w 34 is).2 in omega (arith, n));
} where
  w : List ℕ
  w = 95 ∷ 97 ∷ 116 ∷ 116 ∷ 97 ∷ 99 ∷ 104 ∷ 109 ∷ 101 ∷ 110 ∷ 116 ∷ 115 ∷ 34 ∷ drop 14 (trimmed u)

  is : trimmed u ≡ 34 ∷ w
  is = starts_split (codes "\"_attachments\"") (trimmed u) h

-- ---- members in order

texts_append : (t : List ℕ) (ms ns : List (List ℕ)) → texts_with t (ms ++ ns) ≡ texts_with (texts_with t ms) ns
unfolding texts_with
texts_append t [] ns = refl
texts_append t (m ∷ ms) ns = texts_append (text_with t m) ms ns

helds_append : (h : List ℕ) (ms ns : List (List ℕ)) → helds_by h (ms ++ ns) ≡ helds_by (helds_by h ms) ns
unfolding helds_by
helds_append h [] ns = refl
helds_append h (m ∷ ms) ns = helds_append (held_by h m) ms ns

text_goes : (t m : List ℕ) (b : Bool) → stays m ≡ false → cond b t (cond (stays m) (added t m) t) ≡ t
text_goes t m true h = refl
text_goes t m false h = ap (λ c. cond c (added t m) t) h

text_first : (t m : List ℕ) (ms : List (List ℕ)) → stays m ≡ false → texts_with t (m ∷ ms) ≡ texts_with t ms
unfolding texts_with
text_first t m ms h = ap (λ u. texts_with u ms) (text_goes t m (is_blank m) h)

held_first : (h m : List ℕ) (ms : List (List ℕ)) → is_blank m ≡ false → stays m ≡ false → helds_by h (m ∷ ms) ≡ helds_by (held_with h m) ms
unfolding helds_by
held_first h m ms e f = ap (λ b. helds_by (cond b h (cond (stays m) h (held_with h m))) ms) e ∙ ap (λ b. helds_by (cond b h (held_with h m)) ms) f

-- the text in front of a member that is wrapped
abbrev pub comma_after : List ℕ → List ℕ
comma_after h = cond (length h == 0) h (h ++ 44 ∷ [])

held_is : (h m : List ℕ) → held_with h m ≡ comma_after h ++ m
held_is h m = by (length h == 0) where
  by : (b : Bool) → cond b (h ++ m) (h ++ 44 ∷ m) ≡ cond b h (h ++ 44 ∷ []) ++ m
  by true = refl
  by false = sym (append_assoc h (44 ∷ []) m)

-- what the following members append to wrapped members
pub later : List (List ℕ) → List ℕ
later [] = []
later (m ∷ ms) = cond (is_blank m) (later ms) (cond (stays m) (later ms) (44 ∷ (m ++ later ms)))

more_length : (h x : List ℕ) → (length h == 0) ≡ false → (length (h ++ x) == 0) ≡ false
more_length [] x e = absurd (cc)
more_length (b ∷ h) x e = positive (length (h ++ x)) where
  positive : (n : ℕ) → (suc n == 0) ≡ false
  positive n = grind arith

helds_later : (ms : List (List ℕ)) (h : List ℕ) → (length h == 0) ≡ false → helds_by h ms ≡ h ++ later ms
unfolding helds_by later
helds_later [] h e = sym (append-nil h)
helds_later (m ∷ ms) h e = by (is_blank m) (stays m) (λ g. helds_later ms g) where
  by : (b c : Bool) → ((g : List ℕ) → (length g == 0) ≡ false → helds_by g ms ≡ g ++ later ms)
      → helds_by (cond b h (cond c h (held_with h m))) ms ≡ h ++ cond b (later ms) (cond c (later ms) (44 ∷ (m ++ later ms)))
  by true c ih = ih h e
  by false true ih = ih h e
  by false false ih =
      ap (λ k. helds_by (cond k (h ++ m) (h ++ 44 ∷ m)) ms) e ∙ ih (h ++ 44 ∷ m) (more_length h (44 ∷ m) e) ∙ append_assoc h (44 ∷ m) (later ms)

-- the text outside of the string is the same, or goes on with an unwrapped member
pub data Grown (t u : List ℕ) : Type 0 where
  nothing_more : u ≡ t → Grown t u
  member_more : (m y : List ℕ) → stays m ≡ true → u ≡ t ++ 44 ∷ (m ++ y) → Grown t u

pub longer : (t x : List ℕ) → nat_lt 1 (length t) ≡ true → nat_lt 1 (length (t ++ x)) ≡ true
longer t x h = (let n = length-append t x in grind (arith, n))

pub grown_of : (ms : List (List ℕ)) (t : List ℕ) → nat_lt 1 (length t) ≡ true → Grown t (texts_with t ms)
unfolding texts_with
grown_of [] t h = nothing_more refl
grown_of (m ∷ ms) t h = by (is_blank m) (stays m) refl (λ u. grown_of ms u) where
  joined_more : (u : List ℕ) → Grown (t ++ 44 ∷ m) u → stays m ≡ true → Grown t u
  joined_more u (nothing_more e) f = member_more m [] f (e ∙ ap (λ z. t ++ 44 ∷ z) (sym (append-nil m)))
  joined_more u (member_more n y g e) f =
      member_more m (44 ∷ (n ++ y)) f (e ∙ append_assoc t (44 ∷ m) (44 ∷ (n ++ y)))

  by : (b c : Bool) → stays m ≡ c → ((u : List ℕ) → nat_lt 1 (length u) ≡ true → Grown u (texts_with u ms)) → Grown t (texts_with (cond b t (cond c (added t m) t)) ms)
  by true c e ih = ih t h
  by false true e ih =
      let same : added t m ≡ t ++ 44 ∷ m = ap (λ k. cond k (t ++ 44 ∷ m) (t ++ m)) h in
      subst (λ u. Grown t (texts_with u ms)) (sym same) (joined_more (texts_with (t ++ 44 ∷ m) ms) (ih (t ++ 44 ∷ m) (longer t (44 ∷ m) h)) e)
  by false false e ih = ih t h

-- ---- a beginning, and what follows

module _ (s S : List ℕ) (i : IsPutStart s S) where
  pub goes_on : Goes i.inside.member
  goes_on = goes_of i.inside.member i.inside.named

  abbrev pub front : Before (drop 1 s) i.inside.member
  front = before_of (drop 1 s) i.inside.member i.inside.opens

  behind : (z : List ℕ) → drop 1 (s ++ z) ≡ drop 1 s ++ z
  behind z = let n = i.may.long in drop-append-le 1 s z (omega arith)

  members_are : (z : List ℕ) → members_in Outside 0 [] (drop 1 (s ++ z)) ≡ front.members ++ members_in Quoted (nesting_after Outside 0 i.inside.member) i.inside.member z
  members_are z =
      ap (members_in Outside 0 []) (behind z) ∙ front.all z
      ∙ ap (λ m. front.members ++ members_in m (nesting_after Outside 0 i.inside.member) i.inside.member z) i.inside.quoted

  abbrev made : List ℕ
  made = texts_with (123 ∷ []) front.members

  abbrev pub held : List ℕ
  held = helds_by [] front.members

  -- the open member, and the members that follow it
  texts_are : (z x : List ℕ) (ms : List (List ℕ)) → members_in Outside 0 [] (drop 1 (s ++ z)) ≡ front.members ++ ((i.inside.member ++ x) ∷ ms) → made_from (s ++ z) ≡ texts_with made ms
  texts_are z x ms e =
      ap (texts_with (123 ∷ [])) e ∙ texts_append (123 ∷ []) front.members ((i.inside.member ++ x) ∷ ms) ∙ text_first made (i.inside.member ++ x) ms (goes_on.stays x)

  helds_are : (z x : List ℕ) (ms : List (List ℕ)) → members_in Outside 0 [] (drop 1 (s ++ z)) ≡ front.members ++ ((i.inside.member ++ x) ∷ ms)
      → held_from (s ++ z) ≡ (comma_after held ++ i.inside.member) ++ (x ++ later ms)
  helds_are z x ms e =
      let first = helds_append [] front.members ((i.inside.member ++ x) ∷ ms) ∙ held_first held (i.inside.member ++ x) ms (goes_on.filled x) (goes_on.stays x) in
      let joined = held_is held (i.inside.member ++ x) ∙ sym (append_assoc (comma_after held) i.inside.member x) in
      ap (helds_by []) e ∙ first ∙ ap (λ h. helds_by h ms) joined
      ∙ helds_later ms ((comma_after held ++ i.inside.member) ++ x) (more_length (comma_after held ++ i.inside.member) x (filled (comma_after held) i.inside.member (long i.inside.member goes_on.long)))
      ∙ append_assoc (comma_after held ++ i.inside.member) x (later ms) where
        long : (v : List ℕ) → 14 ≤ length v → (length v == 0) ≡ false
        long v h = grind arith

        filled : (p v : List ℕ) → (length v == 0) ≡ false → (length (p ++ v) == 0) ≡ false
        filled [] v e = e
        filled (b ∷ p) v e = positive (length (p ++ v)) where
          positive : (n : ℕ) → (suc n == 0) ≡ false
          positive n = grind arith

  alone : members_in Outside 0 [] (drop 1 (s ++ [])) ≡ front.members ++ ((i.inside.member ++ []) ∷ [])
  unfolding members_in
  alone =
      members_are [] ∙ ap (λ b. front.members ++ cond b [] (i.inside.member ∷ [])) (some (length i.inside.member) goes_on.long) ∙ ap (λ v. front.members ++ v ∷ []) (sym (append-nil i.inside.member)) where
        some : (n : ℕ) → 14 ≤ n → (n == 0) ≡ false
        some n h = grind arith

  made_is : made_from s ≡ made
  unfolding texts_with
  made_is = ap made_from (sym (append-nil s)) ∙ texts_are [] [] [] alone

  pub held_all : held_from s ≡ comma_after held ++ i.inside.member
  unfolding later
  held_all = ap held_from (sym (append-nil s)) ∙ helds_are [] [] [] alone ∙ append-nil (comma_after held ++ i.inside.member)

  pub made_long : nat_lt 1 (length (made_from s)) ≡ true
  made_long = long (made_from s) i.two where
    long : (t : List ℕ) → first_length (drop 1 t) < length (drop 1 t) → nat_lt 1 (length t) ≡ true
    long [] h = absurd (omega arith)
    long (b ∷ t) h = grind arith

  -- a run in front of the text t
  module _ (r t : List ℕ) (run : IsRun r) where
    abbrev tail_length : ℕ
    tail_length = length_in Quoted (nesting_after Outside 0 i.inside.member) t

    abbrev pub rest_of : List (List ℕ)
    rest_of = members_in Outside 0 [] (behind_comma t tail_length)

    abbrev pub tail : List ℕ
    tail = take tail_length t ++ later rest_of

    filled_by : (v x : List ℕ) → 14 ≤ length v → (length (v ++ x) == 0) ≡ false
    filled_by v x h = let n = length-append v x in grind (arith, n)

    stored_members : members_in Outside 0 [] (drop 1 (s ++ t)) ≡ front.members ++ ((i.inside.member ++ take tail_length t) ∷ rest_of)
    stored_members =
        members_are t ∙ ap (λ ms. front.members ++ ms) (first_by Quoted (nesting_after Outside 0 i.inside.member) i.inside.member t (filled_by i.inside.member t goes_on.long))

    full_members : members_in Outside 0 [] (drop 1 (s ++ (r ++ t))) ≡ front.members ++ ((i.inside.member ++ (r ++ take tail_length t)) ∷ rest_of)
    full_members =
        members_are (r ++ t) ∙ ap (λ ms. front.members ++ ms) (run_members r (nesting_after Outside 0 i.inside.member) i.inside.member t run
        ∙ first_by Quoted (nesting_after Outside 0 i.inside.member) (i.inside.member ++ r) t
        (ap (λ v. length v == 0) (append_assoc i.inside.member r t) ∙ filled_by i.inside.member (r ++ t) goes_on.long)
        ∙ ap (λ v. v ∷ rest_of) (append_assoc i.inside.member r (take tail_length t)))

    pub made_stored : made_from (s ++ t) ≡ texts_with (made_from s) rest_of
    made_stored = texts_are t (take tail_length t) rest_of stored_members ∙ ap (λ m. texts_with m rest_of) (sym made_is)

    pub made_full : made_from (s ++ (r ++ t)) ≡ texts_with (made_from s) rest_of
    made_full = texts_are (r ++ t) (r ++ take tail_length t) rest_of full_members ∙ ap (λ m. texts_with m rest_of) (sym made_is)

    pub held_stored : held_from (s ++ t) ≡ held_from s ++ tail
    held_stored = helds_are t (take tail_length t) rest_of stored_members ∙ ap (λ h. h ++ tail) (sym held_all)

    pub held_full : held_from (s ++ (r ++ t)) ≡ held_from s ++ (r ++ tail)
    held_full =
        helds_are (r ++ t) (r ++ take tail_length t) rest_of full_members ∙ ap (λ x. (comma_after held ++ i.inside.member) ++ x) (append_assoc r (take tail_length t) (later rest_of))
        ∙ ap (λ h. h ++ (r ++ tail)) (sym held_all)
