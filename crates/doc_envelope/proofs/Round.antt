-- Wrapped members are unwrapped, member by member.
use Rattle.proof_prelude.proofs.{◌≡◌, ℕ, ◌+◌, ◌-◌, ◌&&◌, ◌||◌, ◌==◌, ◌/◌, ◌%◌, nat_lt, List, [], ◌∷◌, ◌++◌, Bool, true, false, not, cond, refl, sym, ap, subst, ◌∙◌, append_assoc, append-nil, arith, Option, Some, None, option_map, option_and_then, is_utf8, and_right, or_parts, IsUtf8-from_is_utf8, is_utf8-from_IsUtf8, digit_char, filter}
use Rattle.json.specs.Json.{document, value, items, members, if_last, max_depth}
use Rattle.json.specs.Token.{string as json_string}
use Rattle.json.specs.Lex.{lex, punctuate, in_string, between, fresh, token, string_token}
use Rattle.json.specs.Print.{quoted, escape, escape_byte, escape_letter}
use Rattle.json.specs.Find.{as_str}
use Rattle.json.proofs.Printed.Strings.{content-escape, lex-escape}
use Rattle.json.proofs.Printed.Utf8.{IsUtf8-quoted}
use Rattle.doc_envelope.specs.{EndsString, ends, plain, escaped, is_json, members_in, members_of, is_blank, joined, object_of, value_of, whole_name, stays, goes, whole_of, is_envelope, envelope_of, enveloped, if_any, string_of, unfolded_members, unfolded, if_json, Mode}
use Rattle.doc_envelope.specs.Carried.{IsByte, Paired, nothing, byte, string, object, list, IsMember, AreMembers, HasMembers, Carries, none, whole, AreOthers, Envelops}
use Rattle.doc_envelope.specs.Members.{Outside, Quoted}
use Rattle.doc_envelope.proofs.Folds.{is_filled}

-- ---- the members of a text are those from which it was made

no_end : (z c k : Bool) → (z && c) ≡ false → k ≡ false → (z && (c || k)) ≡ false
no_end true true k h e = h
no_end true false k h e = e
no_end false c k h e = refl

some_more : (n : ℕ) → (n + 1 == 0) ≡ false
some_more n = grind arith

less_one : (n : ℕ) → (n + 1) - 1 ≡ n
less_one n = omega arith

-- a text that is skipped leaves the rest
abbrev Passes : Mode → ℕ → List ℕ → Mode → Type 0
Passes m n t m' = (u rest : List ℕ) → members_in m n u (t ++ rest) ≡ members_in m' n (u ++ t) rest

quoted_passes : (n : ℕ) (q : List ℕ) → EndsString q → Passes Quoted n q Outside
unfolding members_in
quoted_passes n q ends u rest = refl
quoted_passes n q (plain {b} {t} e f more) u rest =
    rw (e, f) (quoted_passes n t more (u ++ b ∷ []) rest ∙ ap (λ z. members_in Outside n z rest) (append_assoc u (b ∷ []) t))
quoted_passes n q (escaped {b} {t} more) u rest =
    quoted_passes n t more ((u ++ 92 ∷ []) ++ b ∷ []) rest
    ∙ ap (λ z. members_in Outside n z rest) (append_assoc (u ++ 92 ∷ []) (b ∷ []) t ∙ append_assoc u (92 ∷ []) (b ∷ t))

opens_in : (n b : ℕ) (u t : List ℕ) → (b == 123 || b == 91) ≡ true → (b == 44 || (b == 125 || b == 93)) ≡ false → (b == 34) ≡ false → members_in Outside n u (b ∷ t) ≡ members_in Outside (n + 1) (u ++ b ∷ []) t
opens_in n b u t o c q = unfold members_in in rw (c, and_right (n == 0) false refl, q, o)

closes_in : (n b : ℕ) (u t : List ℕ) → (b == 125 || b == 93) ≡ true → (b == 123 || b == 91) ≡ false → (b == 34) ≡ false → members_in Outside (n + 1) u (b ∷ t) ≡ members_in Outside n (u ++ b ∷ []) t
closes_in n b u t c o q = unfold members_in in rw (some_more n, q, o, c, less_one n)

byte_in : (n b : ℕ) (u t : List ℕ) → IsByte n b → members_in Outside n u (b ∷ t) ≡ members_in Outside n (u ++ b ∷ []) t
byte_in n b u t h = unfold members_in in rw (no_end (n == 0) (b == 44) (b == 125 || b == 93) h.comma h.closes, h.quote, h.opens, h.closes)

quote_in : (n : ℕ) (u t : List ℕ) → members_in Outside n u (34 ∷ t) ≡ members_in Quoted n (u ++ 34 ∷ []) t
quote_in n u t = unfold members_in in rw (and_right (n == 0) false refl)

bracketed : (n b c : ℕ) (m t : List ℕ) → (b == 123 || b == 91) ≡ true → (b == 44 || (b == 125 || b == 93)) ≡ false → (b == 34) ≡ false → (c == 125 || c == 93) ≡ true → (c == 123 || c == 91) ≡ false → (c == 34) ≡ false
    → Passes Outside (n + 1) m Outside → Passes Outside n t Outside → Passes Outside n (b ∷ (m ++ c ∷ t)) Outside
bracketed n b c m t o other q k inner q' inside more u rest =
    opens_in n b u ((m ++ c ∷ t) ++ rest) o other q
    ∙ ap (members_in Outside (n + 1) (u ++ b ∷ [])) (append_assoc m (c ∷ t) rest)
    ∙ inside (u ++ b ∷ []) (c ∷ (t ++ rest))
    ∙ closes_in n c ((u ++ b ∷ []) ++ m) (t ++ rest) k inner q'
    ∙ more (((u ++ b ∷ []) ++ m) ++ c ∷ []) rest
    ∙ ap (λ z. members_in Outside n z rest) (append_assoc ((u ++ b ∷ []) ++ m) (c ∷ []) t ∙ append_assoc (u ++ b ∷ []) m (c ∷ t) ∙ append_assoc u (b ∷ []) (m ++ c ∷ t))

paired_passes : (n : ℕ) (t : List ℕ) → Paired n t → Passes Outside n t Outside
paired_passes n t nothing u rest = ap (λ z. members_in Outside n z rest) (sym (append-nil u))
paired_passes n t (byte {b} {t = more} h p) u rest =
    byte_in n b u (more ++ rest) h ∙ paired_passes n more p (u ++ b ∷ []) rest ∙ ap (λ z. members_in Outside n z rest) (append_assoc u (b ∷ []) more)
paired_passes n t (string {q} {t = more} h p) u rest =
    ap (members_in Outside n u) (append_assoc (34 ∷ q) more rest) ∙ quote_in n u (q ++ (more ++ rest)) ∙ quoted_passes n q h (u ++ 34 ∷ []) (more ++ rest)
    ∙ paired_passes n more p ((u ++ 34 ∷ []) ++ q) rest
    ∙ ap (λ z. members_in Outside n z rest) (append_assoc (u ++ 34 ∷ []) q more ∙ append_assoc u (34 ∷ []) (q ++ more))
paired_passes n t (object {m} {t = more} i p) u rest = bracketed n 123 125 m more refl refl refl refl refl refl (paired_passes (n + 1) m i) (paired_passes n more p) u rest
paired_passes n t (list {m} {t = more} i p) u rest = bracketed n 91 93 m more refl refl refl refl refl refl (paired_passes (n + 1) m i) (paired_passes n more p) u rest

last_member : (u : List ℕ) → members_in Outside 0 u (125 ∷ []) ≡ u ∷ []
last_member u = unfold members_in in refl

next_member : (u t : List ℕ) → members_in Outside 0 u (44 ∷ t) ≡ u ∷ members_in Outside 0 [] t
next_member u t = unfold members_in in refl

split : (m : List ℕ) (ms : List (List ℕ)) → AreMembers (m ∷ ms) → members_in Outside 0 [] (joined (m ∷ ms) ++ 125 ∷ []) ≡ m ∷ ms
split m [] h = paired_passes 0 m h.0.paired [] (125 ∷ []) ∙ last_member m
split m (n ∷ ms) h =
    ap (members_in Outside 0 []) (append_assoc m (44 ∷ joined (n ∷ ms)) (125 ∷ [])) ∙ paired_passes 0 m h.0.paired [] (44 ∷ (joined (n ∷ ms) ++ 125 ∷ []))
    ∙ next_member m (joined (n ∷ ms) ++ 125 ∷ []) ∙ ap (λ z. m ∷ z) (split n ms h.1)

all_filled : (ms : List (List ℕ)) → AreMembers ms → filter is_filled ms ≡ ms
all_filled [] h = refl
all_filled (m ∷ ms) h = ap (λ b. cond (not b) (m ∷ filter is_filled ms) (filter is_filled ms)) h.0.filled ∙ ap (λ z. m ∷ z) (all_filled ms h.1)

none_split : members_in Outside 0 [] (125 ∷ []) ≡ [] ∷ []
none_split = last_member []

pub members_are : (x : List ℕ) (ms : List (List ℕ)) → HasMembers x ms → members_of x ≡ ms
members_are x [] h = ap members_of h.text ∙ ap (filter is_filled) none_split
members_are x (m ∷ ms) h = ap members_of h.text ∙ ap (filter is_filled) (split m ms h.members) ∙ all_filled (m ∷ ms) h.members

-- ---- members of parts

pub members_append : (ms ns : List (List ℕ)) → AreMembers ms → AreMembers ns → AreMembers (ms ++ ns)
members_append [] ns h k = k
members_append (m ∷ ms) ns h k = (h.0, members_append ms ns h.1 k)

pub members_front : (ms ns : List (List ℕ)) → AreMembers (ms ++ ns) → AreMembers ms
members_front [] ns h = tt
members_front (m ∷ ms) ns h = (h.0, members_front ms ns h.1)

members_among : (p : List ℕ → Bool) (ms : List (List ℕ)) → AreMembers ms → AreMembers (filter p ms)
members_among p [] h = tt
members_among p (m ∷ ms) h = among (p m) (members_among p ms h.1) where
  among : (b : Bool) → AreMembers (filter p ms) → AreMembers (cond b (m ∷ filter p ms) (filter p ms))
  among true k = (h.0, k)
  among false k = k

-- ---- wrapping

-- the escapes of a string
clash : (x : ℕ) → (x == 34 || x == 92) ≡ true → nat_lt 0 x ≡ false → ⊥
clash x e h = grind arith

letter_of : (x : ℕ) → (x == 34 || x == 92) ≡ true → escape_letter x ≡ x
letter_of x e = rw e

no_letter : (x : ℕ) → nat_lt 0 (escape_letter x) ≡ false → ((x == 34) ≡ false) × ((x == 92) ≡ false)
no_letter x h = by (x == 34 || x == 92) refl where
  by : (b : Bool) → (x == 34 || x == 92) ≡ b → ((x == 34) ≡ false) × ((x == 92) ≡ false)
  by true e = absurd (clash x e (ap (nat_lt 0) (sym (letter_of x e)) ∙ h))
  by false e = or_parts (x == 34) (x == 92) e

digit_by : (d : ℕ) (b : Bool) → nat_lt d 10 ≡ b → ((cond b (48 + d) (87 + d) == 34) ≡ false) × ((cond b (48 + d) (87 + d) == 92) ≡ false)
digit_by d true h = (grind arith, grind arith)
digit_by d false h = (grind arith, grind arith)

digit_plain : (d : ℕ) → ((digit_char d == 34) ≡ false) × ((digit_char d == 92) ≡ false)
digit_plain d = digit_by d (nat_lt d 10) refl

escape_one : (x : ℕ) (rest : List ℕ) (b c : Bool) → nat_lt 0 (escape_letter x) ≡ b → EndsString rest
    → EndsString (cond b (92 ∷ escape_letter x ∷ []) (cond c (92 ∷ 117 ∷ 48 ∷ 48 ∷ digit_char (x / 16) ∷ digit_char (x % 16) ∷ []) (x ∷ [])) ++ rest)
escape_one x rest true c h more = escaped more
escape_one x rest false true h more =
    let one = digit_plain (x / 16) in
    let two = digit_plain (x % 16) in
    escaped (plain refl refl (plain refl refl (plain one.0 one.1 (plain two.0 two.1 more))))
escape_one x rest false false h more = let is = no_letter x h in plain is.0 is.1 more

escape_ends : (s : List ℕ) → EndsString (escape s ++ 34 ∷ [])
unfolding escape_byte
escape_ends [] = ends
escape_ends (x ∷ s) = subst EndsString (sym (append_assoc (escape_byte x) (escape s) (34 ∷ []))) (escape_one x (escape s ++ 34 ∷ []) (nat_lt 0 (escape_letter x)) (nat_lt x 32) refl (escape_ends s))

whole_member : (t : List ℕ) → IsMember (whole_name ++ 58 ∷ quoted t)
whole_member t = record {
  paired = string (plain refl refl (plain refl refl (plain refl refl (plain refl refl (plain refl refl ends))))) (byte (record { comma = refl; quote = refl; opens = refl; closes = refl }) (subst (Paired 0) (append-nil (quoted t)) (string (escape_ends t) nothing)));
  filled = refl;
}

quoted_lexeme : (s : List ℕ) → lex between (quoted s) ≡ token (json_string s) ∷ []
quoted_lexeme s = unfold lex in
    ap (λ o. token (string_token o) ∷ lex in_string (escape s ++ 34 ∷ [])) (content-escape s []) ∙ ap (λ ls. token (json_string s) ∷ ls) (lex-escape s [])

lexeme_document : (s : List ℕ) → option_and_then as_str (option_and_then (λ p. if_last p.0 p.1) (value max_depth (punctuate fresh (token (json_string s) ∷ [])))) ≡ Some s
lexeme_document s = unfold punctuate value items members in refl

string_document : (s : List ℕ) → option_and_then as_str (document (quoted s)) ≡ Some s
string_document s = ap (λ ls. option_and_then as_str (option_and_then (λ p. if_last p.0 p.1) (value max_depth (punctuate fresh ls)))) (quoted_lexeme s) ∙ lexeme_document s

whole_carries : (o : List ℕ) (os : List (List ℕ)) → is_utf8 (joined (o ∷ os)) ≡ true → Carries (whole_of (o ∷ os)) (o ∷ os)
whole_carries o os u =
    let s = joined (o ∷ os) in
    whole o os refl (ap (λ b. cond b (option_and_then as_str (document (quoted s))) None) (is_utf8-from_IsUtf8 (quoted s) (IsUtf8-quoted s (IsUtf8-from_is_utf8 s u))) ∙ string_document s)

pub envelops : (x : List ℕ) (ms : List (List ℕ)) → HasMembers x ms → is_utf8 (joined (filter goes (members_of x))) ≡ true → Envelops ms (envelope_of x)
envelops x ms h u =
    let is = members_are x ms h in
    subst (λ z. Envelops ms (object_of (filter stays z ++ whole_of (filter goes z)))) (sym is) (by (filter goes ms) refl (ap (λ z. is_utf8 (joined (filter goes z))) (sym is) ∙ u)) where
      by : (os : List (List ℕ)) → filter goes ms ≡ os → is_utf8 (joined (filter goes ms)) ≡ true → Envelops ms (object_of (filter stays ms ++ whole_of (filter goes ms)))
      by [] e v = record {
        carrier = whole_of (filter goes ms);
        members = record { members = members_append (filter stays ms) (whole_of (filter goes ms)) (members_among stays ms h.members) (subst (λ z. AreMembers (whole_of z)) (sym e) tt); text = refl };
        carries = subst (λ z. Carries (whole_of z) z) (sym e) none;
      }
      by (o ∷ os) e v = record {
        carrier = whole_of (filter goes ms);
        members = record { members = members_append (filter stays ms) (whole_of (filter goes ms)) (members_among stays ms h.members) (subst (λ z. AreMembers (whole_of z)) (sym e) (whole_member (joined (o ∷ os)), tt)); text = refl };
        carries = subst (λ z. Carries (whole_of z) z) (sym e) (whole_carries o os (ap (λ z. is_utf8 (joined z)) (sym e) ∙ v));
      }

-- ---- unwrapping

others_stay : (fs : List (List ℕ)) (ws : List (List ℕ)) → AreOthers fs → unfolded_members (fs ++ ws) ≡ option_map (λ ts. fs ++ ts) (unfolded_members ws)
others_stay [] ws h = same (unfolded_members ws) where
  same : (o : Option (List (List ℕ))) → o ≡ option_map (λ ts. ts) o
  same None = refl
  same (Some ts) = refl
others_stay (f ∷ fs) ws h =
    ap (λ b. option_and_then (λ t. option_map (λ ts. t ∷ ts) (unfolded_members (fs ++ ws))) (cond b (option_and_then if_any (string_of (value_of f whole_name))) (Some f))) h.0
    ∙ ap (option_map (λ ts. f ∷ ts)) (others_stay fs ws h.1) ∙ twice (unfolded_members ws) where
      twice : (o : Option (List (List ℕ))) → option_map (λ ts. f ∷ ts) (option_map (λ ts. fs ++ ts) o) ≡ option_map (λ ts. f ∷ (fs ++ ts)) o
      twice None = refl
      twice (Some ts) = refl

-- members with commas between them are not blank
blank_more : (f : List ℕ) (t : List ℕ) → is_blank f ≡ false → is_blank (f ++ t) ≡ false
blank_more [] t h = absurd (cc)
blank_more (b ∷ f) t h = by (b == 32) refl (blank_more f t) where
  by : (c : Bool) → (b == 32) ≡ c → (is_blank f ≡ false → is_blank (f ++ t) ≡ false) → is_blank ((b ∷ f) ++ t) ≡ false
  by true e more = ap (λ c. c && is_blank (f ++ t)) e ∙ more (ap (λ c. c && is_blank f) (sym e) ∙ h)
  by false e more = ap (λ c. c && is_blank (f ++ t)) e

joined_blank : (o : List ℕ) (os : List (List ℕ)) → is_blank o ≡ false → is_blank (joined (o ∷ os)) ≡ false
joined_blank o [] h = h
joined_blank o (p ∷ os) h = blank_more o (44 ∷ joined (p ∷ os)) h

joined_two : (fs : List (List ℕ)) (o : List ℕ) (os : List (List ℕ)) → joined (fs ++ joined (o ∷ os) ∷ []) ≡ joined (fs ++ (o ∷ os))
joined_two [] o os = refl
joined_two (f ∷ []) o os = refl
joined_two (f ∷ g ∷ fs) o os = ap (λ z. f ++ 44 ∷ z) (joined_two (g ∷ fs) o os)

carried : (ws os : List (List ℕ)) → Carries ws os → AreMembers os → (fs : List (List ℕ)) → AreOthers fs → (ts : List (List ℕ)) × (unfolded_members (fs ++ ws) ≡ Some ts) × (joined ts ≡ joined (fs ++ os))
carried ws os none a fs h = (fs ++ [], others_stay fs [] h, refl)
carried ws os (whole {w} o more named says) a fs h =
    let s = joined (o ∷ more) in
    let one : unfolded_members (w ∷ []) ≡ Some (s ∷ []) =
    ap (λ b. option_and_then (λ t. option_map (λ ts. t ∷ ts) (Some [])) (cond b (option_and_then if_any (string_of (value_of w whole_name))) (Some w))) named
    ∙ ap (λ r. option_and_then (λ t. option_map (λ ts. t ∷ ts) (Some [])) (option_and_then if_any r)) says
    ∙ ap (λ b. option_and_then (λ t. option_map (λ ts. t ∷ ts) (Some [])) (cond b None (Some s))) (joined_blank o more a.0.filled) in
    (fs ++ s ∷ [], others_stay fs (w ∷ []) h ∙ ap (option_map (λ ts. fs ++ ts)) one, joined_two fs o more)

-- the unwrapped document, if it is JSON, has the unwrapped members and the wrapped ones
pub gives_back : (y : List ℕ) (fs ws os : List (List ℕ)) → HasMembers y (fs ++ ws) → AreOthers fs → Carries ws os → AreMembers os → (made : List ℕ) → unfolded y ≡ Some made → HasMembers made (fs ++ os)
gives_back y fs ws os h others carrying are made e =
    let c = carried ws os carrying are fs others in
    let is : unfolded y ≡ if_json (object_of c.0) = ap (λ ms. option_and_then (λ ts. if_json (object_of ts)) (unfolded_members ms)) (members_are y (fs ++ ws) h) ∙ ap (option_and_then (λ ts. if_json (object_of ts))) c.1 in
    record {
      members = members_append fs os (members_front fs ws h.members) are;
      text = only (object_of c.0) made (sym is ∙ e) ∙ ap (λ t. 123 ∷ (t ++ 125 ∷ [])) c.2;
    } where
      only_by : (b : Bool) (t made : List ℕ) → cond b (Some t) None ≡ Some made → made ≡ t
      only_by true t made e = cc
      only_by false t made e = absurd (cc)

      only : (t made : List ℕ) → if_json t ≡ Some made → made ≡ t
      only t made e = only_by (is_json t) t made e

pub take_gives_back : (y : List ℕ) (fs ws os : List (List ℕ)) → HasMembers y (fs ++ ws) → AreOthers fs → Carries ws os → AreMembers os → (made : List ℕ) (ok : Bool) → unfolded y ≡ cond ok (Some made) None → ok ≡ true → HasMembers made (fs ++ os)
take_gives_back y fs ws os h others carrying are made ok e is = gives_back y fs ws os h others carrying are made (e ∙ ap (λ b. cond b (Some made) None) is)

envelope_by : (u i : Bool) (t made : List ℕ) → cond (u && i) (Some t) None ≡ Some made → (u ≡ true) × (made ≡ t)
envelope_by true true t made e = (refl, cc)
envelope_by true false t made e = absurd (cc)
envelope_by false i t made e = absurd (cc)

pub put_envelops : (x : List ℕ) (ms : List (List ℕ)) (made : List ℕ) (ok : Bool) → HasMembers x ms → enveloped x ≡ cond ok (Some made) None → ok ≡ true → Envelops ms made
put_envelops x ms made ok h e is =
    let parts = envelope_by (is_utf8 (joined (filter goes (members_of x)))) (is_envelope (envelope_of x)) (envelope_of x) made (e ∙ ap (λ b. cond b (Some made) None) is) in
    subst (Envelops ms) (sym parts.1) (envelops x ms h parts.0)
