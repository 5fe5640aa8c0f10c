-- The envelope of a document whose runs are not stored.
use Rattle.proof_prelude.proofs.{◌≡◌, ℕ, ◌+◌, ◌≤◌, ◌<◌, List, [], ◌∷◌, ◌++◌, length, take, drop, get_or, codes, Bool, true, false, cond, ◌&&◌, ◌==◌, nat_lt, refl, sym, ap, subst, ◌∙◌, arith, append_assoc, list_all, and_parts, Some, None, length-append, append_cancel_left, flat_map-append, is_utf8, IsUtf8-from_is_utf8, append-nil, take-append_seam, ◌-◌, Result, Ok, Err, IfOk}
use Rattle.std.proofs.lemmas.List.{take-append-le}
use Rattle.json.specs.Print.{quoted, escape, escape_byte}
use Rattle.json.specs.Run.{is_plain}
use Rattle.doc_envelope.specs.{InAttachments, IsPutStart, IsRun, MayStream, PutFront, added, before_last, envelope_of, enveloped, first_length, has_name, held_from, is_envelope, is_json, is_log, is_streamable, made_from, next, run, start, stays, texts_with, value_of, whole_name, with_held}
use Rattle.doc_envelope.specs.Members.{Outside}
use Rattle.doc_envelope.specs.Names.{first_member, id_of}
use Rattle.doc_envelope.proofs.Folds.{fold_enveloped}
use Rattle.doc_envelope.proofs.Fronts.{runs_long, runs_none, runs_output, runs_same, runs_some}
use Rattle.doc_envelope.proofs.EnvelopeStrings.{other_string}
use Rattle.doc_envelope.proofs.OpenMembers.{length-append_end}
use Rattle.doc_envelope.proofs.PrintedMembers.{escape_plain_byte}
use Rattle.doc_envelope.proofs.PutRuns.{Grown, comma_after, front, goes_on, grown_of, held, held_all, held_full, held_stored, longer, made_full, made_long, made_stored, member_more, nothing_more, rest_of, tail}
use Rattle.doc_envelope.proofs.Runs.{parts_of}
use Rattle.doc_envelope.proofs.RunsUtf8.{json_run, utf8_insert, utf8_run}
use Rattle.doc_envelope.proofs.TextRuns.{first_run, log_run}

-- the first member of a text is within its beginning
first_within : (t z : List ℕ) → first_length (drop 1 t) < length (drop 1 t) → first_member (t ++ z) ≡ first_member t
first_within [] z h = absurd (omega arith)
first_within (b ∷ t) z h =
    ap (λ n. take n (t ++ z)) (length-append_end Outside 0 t z h) ∙ take-append-le (first_length t) t z (omega (arith, h))

-- ---- the last bytes of the wrapped members are streamable

-- two ends of one text
shared_end : (p u f e : List ℕ) → p ++ u ≡ f ++ e → length e ≤ length u → (v : List ℕ) × (u ≡ v ++ e)
shared_end [] u f e h n = (f, h)
shared_end (b ∷ p) u [] e h n =
    let k = ap length h in
    let l = length-append (b ∷ p) u in
    absurd (omega (arith, k, l, n))
shared_end (b ∷ p) u (c ∷ f) e h n = shared_end p u f e (rest h) n where
  rest : b ∷ (p ++ u) ≡ c ∷ (f ++ e) → p ++ u ≡ f ++ e
  rest h = cc

drop_front : (s : List ℕ) → (p : List ℕ) × (s ≡ p ++ drop 1 s)
drop_front [] = ([], refl)
drop_front (b ∷ s) = (b ∷ [], refl)

module _ (s S : List ℕ) (i : IsPutStart s S) where
  held_end : (q : List ℕ) × (e : List ℕ) × (held_from s ≡ q ++ e) × IsRun e × (1 ≤ length e)
  held_end =
      let p = parts_of s i.may in
      let one = drop_front s in
      let two = front s S i in
      let whole : (one.0 ++ two.text) ++ i.inside.member ≡ p.front ++ p.back = append_assoc one.0 two.text i.inside.member ∙ ap (λ t. one.0 ++ t) (sym two.is) ∙ sym one.1 ∙ p.is in
      let n = (goes_on s S i).long in
      let k = p.long in
      let v = shared_end (one.0 ++ two.text) i.inside.member p.front p.back whole (omega (arith, n, k)) in
      let b = comma_after (held s S i) in
      (b ++ v.0, p.back, held_all s S i ∙ ap (λ t. b ++ t) v.1 ∙ sym (append_assoc b v.0 p.back), p.run, omega (arith, k))

  held_utf8 : (r x : List ℕ) → IsRun r → is_utf8 (held_from s ++ (r ++ x)) ≡ is_utf8 (held_from s ++ x)
  held_utf8 r x h =
      let e = held_end in
      ap (λ t. is_utf8 (t ++ (r ++ x))) e.2 ∙ utf8_insert e.0 e.1 r x e.3 e.4 h ∙ sym (ap (λ t. is_utf8 (t ++ x)) e.2)

  held_some : (x : List ℕ) → (length (held_from s ++ x) == 0) ≡ false
  held_some x = by (ap (λ t. t ++ x) (held_all s S i)) where
    positive : (n a b c d : ℕ) → n ≡ (a + b) + c → 14 ≤ b → (n == 0) ≡ false
    positive n a b c d e h = grind arith

    by : held_from s ++ x ≡ (comma_after (held s S i) ++ i.inside.member) ++ x → (length (held_from s ++ x) == 0) ≡ false
    by e =
        let b = comma_after (held s S i) in
        let n = ap length e ∙ length-append (b ++ i.inside.member) x ∙ ap (λ k. k + length x) (length-append b i.inside.member) in
        positive (length (held_from s ++ x)) (length b) (length i.inside.member) (length x) 0 n (goes_on s S i).long

-- ---- the envelope, by its parts

-- the text of an envelope with the wrapped members h
abbrev text_of : List ℕ → List ℕ → List ℕ
text_of t h = with_held t h ++ 125 ∷ []

abbrev is_good : List ℕ → List ℕ → Bool
is_good t h = is_utf8 h && is_envelope (text_of t h)

enveloped_is : (x : List ℕ) → enveloped x ≡ cond (is_good (made_from x) (held_from x)) (Some (text_of (made_from x) (held_from x))) None
enveloped_is x =
    let p = fold_enveloped x (made_from x) (held_from x) refl refl in
    ap (λ t. cond (is_utf8 t && is_envelope (envelope_of x)) (Some (envelope_of x)) None) (sym p.1)
    ∙ ap (λ t. cond (is_utf8 (held_from x) && is_envelope t) (Some t) None) (sym p.0)

-- the text in front of the member `whole`
abbrev front_of : List ℕ → List ℕ
front_of t = cond (nat_lt 1 (length t)) (t ++ 44 ∷ []) t

text_is : (t h : List ℕ) → (length h == 0) ≡ false → text_of t h ≡ front_of t ++ 34 ∷ 119 ∷ 104 ∷ 111 ∷ 108 ∷ 101 ∷ 34 ∷ 58 ∷ (quoted h ++ 125 ∷ [])
text_is t h e =
    let w = whole_name ++ 58 ∷ [] in
    ap (λ b. cond b t (added t w ++ quoted h) ++ 125 ∷ []) e ∙ by (nat_lt 1 (length t)) where
      by : (b : Bool) → (cond b (t ++ 44 ∷ (whole_name ++ 58 ∷ [])) (t ++ (whole_name ++ 58 ∷ [])) ++ quoted h) ++ 125 ∷ []
          ≡ cond b (t ++ 44 ∷ []) t ++ 34 ∷ 119 ∷ 104 ∷ 111 ∷ 108 ∷ 101 ∷ 34 ∷ 58 ∷ (quoted h ++ 125 ∷ [])
      by true =
          append_assoc (t ++ 44 ∷ (whole_name ++ 58 ∷ [])) (quoted h) (125 ∷ []) ∙ append_assoc t (44 ∷ (whole_name ++ 58 ∷ [])) (quoted h ++ 125 ∷ [])
          ∙ sym (append_assoc t (44 ∷ []) ((whole_name ++ 58 ∷ []) ++ (quoted h ++ 125 ∷ [])))
      by false = append_assoc (t ++ (whole_name ++ 58 ∷ [])) (quoted h) (125 ∷ []) ∙ append_assoc t (whole_name ++ 58 ∷ []) (quoted h ++ 125 ∷ [])

good_same : (t g h : List ℕ) → (length g == 0) ≡ false → (length h == 0) ≡ false → is_utf8 g ≡ is_utf8 h → is_good t g ≡ is_good t h
good_same t g h e f u = by (is_utf8 g) (is_utf8 h) refl refl u where
  by : (a b : Bool) → is_utf8 g ≡ a → is_utf8 h ≡ b → a ≡ b → (a && is_envelope (text_of t g)) ≡ (b && is_envelope (text_of t h))
  by true true k l s =
      ap is_envelope (text_is t g e) ∙ other_string (front_of t) g h (IsUtf8-from_is_utf8 g k) (IsUtf8-from_is_utf8 h l) ∙ sym (ap is_envelope (text_is t h f))
  by true false k l s = absurd (cc)
  by false true k l s = absurd (cc)
  by false false k l s = refl

-- a member outside of the string does not begin as the member `whole` does
no_whole : (m y z : List ℕ) → stays m ≡ true → m ++ y ≡ 34 ∷ 119 ∷ z → ⊥
no_whole [] y z h e = absurd (cc)
no_whole (b ∷ m) y z h e = by (first e) (rest e) where
  first : b ∷ (m ++ y) ≡ 34 ∷ 119 ∷ z → b ≡ 34
  first e = cc

  rest : b ∷ (m ++ y) ≡ 34 ∷ 119 ∷ z → m ++ y ≡ 119 ∷ z
  rest e = cc

  after : (m : List ℕ) → stays (34 ∷ m) ≡ true → m ++ y ≡ 119 ∷ z → ⊥
  after [] h e = absurd (cc)
  after (c ∷ m) h e = never (second e) where
    second : c ∷ (m ++ y) ≡ 119 ∷ z → c ≡ 119
    second e = cc

    never : c ≡ 119 → ⊥
    never k = clash (subst (λ d. stays (34 ∷ d ∷ m) ≡ true) k h) where
      clash : false ≡ true → ⊥
      clash e = absurd (cc)

  by : b ≡ 34 → m ++ y ≡ 119 ∷ z → ⊥
  by f g = after m (subst (λ d. stays (d ∷ m) ≡ true) f h) g

some_same : {A : Type 0} (x y : A) → Some x ≡ Some y → x ≡ y
some_same x y e = cc

-- ---- the text after the front

escape_run : (r : List ℕ) → IsRun r → escape r ≡ r
escape_run [] h = refl
escape_run (x ∷ r) h =
    let parts = and_parts (is_streamable x) (list_all is_streamable r) h in
    ap (λ l. l ++ escape r) (escape_plain_byte x (plain x parts.0)) ∙ ap (λ l. x ∷ l) (escape_run r parts.1) where
      plain : (x : ℕ) → is_streamable x ≡ true → is_plain x ≡ true
      plain x h = grind arith

whole_text : (m h : List ℕ) → nat_lt 1 (length m) ≡ true → (length h == 0) ≡ false → text_of m h ≡ m ++ (codes ",\"whole\":\"" ++ (escape h ++ 34 ∷ 125 ∷ []))
whole_text m h e f =
    text_is m h f ∙ ap (λ b. cond b (m ++ 44 ∷ []) m ++ 34 ∷ 119 ∷ 104 ∷ 111 ∷ 108 ∷ 101 ∷ 34 ∷ 58 ∷ (quoted h ++ 125 ∷ [])) e
    ∙ append_assoc m (44 ∷ []) (34 ∷ 119 ∷ 104 ∷ 111 ∷ 108 ∷ 101 ∷ 34 ∷ 58 ∷ (quoted h ++ 125 ∷ []))
    ∙ ap (λ z. m ++ (codes ",\"whole\":\"" ++ z)) (append_assoc (escape h) (34 ∷ []) (125 ∷ []))

after_front : (m g x S : List ℕ) → nat_lt 1 (length m) ≡ true → (length (g ++ x) == 0) ≡ false → S ≡ m ++ (codes ",\"whole\":\"" ++ escape g)
    → text_of m (g ++ x) ≡ S ++ (escape x ++ 34 ∷ 125 ∷ [])
after_front m g x S e f k =
    whole_text m (g ++ x) e f ∙ ap (λ z. m ++ (codes ",\"whole\":\"" ++ (z ++ 34 ∷ 125 ∷ []))) (flat_map-append escape_byte g x)
    ∙ ap (λ z. m ++ (codes ",\"whole\":\"" ++ z)) (append_assoc (escape g) (escape x) (34 ∷ 125 ∷ []))
    ∙ ap (λ z. m ++ z) (sym (append_assoc (codes ",\"whole\":\"") (escape g) (escape x ++ 34 ∷ 125 ∷ [])))
    ∙ sym (append_assoc m (codes ",\"whole\":\"" ++ escape g) (escape x ++ 34 ∷ 125 ∷ [])) ∙ ap (λ z. z ++ (escape x ++ 34 ∷ 125 ∷ [])) (sym k)

-- an unwrapped member in the place of the member `whole`
not_behind : (m n y h S e g : List ℕ) → stays n ≡ true → nat_lt 1 (length (m ++ 44 ∷ (n ++ y))) ≡ true → (length h == 0) ≡ false → S ≡ m ++ (codes ",\"whole\":\"" ++ escape g)
    → text_of (m ++ 44 ∷ (n ++ y)) h ≡ S ++ e → ⊥
not_behind m n y h S e g f l k s q =
    let x = codes ",\"whole\":\"" ++ (escape h ++ 34 ∷ 125 ∷ []) in
    let z = (codes "hole\":\"" ++ escape g) ++ e in
    let left = whole_text (m ++ 44 ∷ (n ++ y)) h l k ∙ append_assoc m (44 ∷ (n ++ y)) x ∙ ap (λ v. m ++ 44 ∷ v) (append_assoc n y x) in
    let right : S ++ e ≡ m ++ 44 ∷ 34 ∷ 119 ∷ z = ap (λ v. v ++ e) s ∙ append_assoc m (codes ",\"whole\":\"" ++ escape g) e in
    no_whole n (y ++ x) z f (inner (n ++ (y ++ x)) (34 ∷ 119 ∷ z) (append_cancel_left m (44 ∷ (n ++ (y ++ x))) (44 ∷ 34 ∷ 119 ∷ z) (sym left ∙ q ∙ right))) where
      inner : (a b : List ℕ) → 44 ∷ a ≡ 44 ∷ b → a ≡ b
      inner a b e = cc

module _ (s S : List ℕ) (i : IsPutStart s S) (r t : List ℕ) (run : IsRun r) where
  abbrev texts : List ℕ
  texts = texts_with (made_from s) (rest_of s S i r t run)

  abbrev added_held : List ℕ
  added_held = tail s S i r t run

  stored_is : enveloped (s ++ t) ≡ cond (is_good texts (held_from s ++ added_held)) (Some (text_of texts (held_from s ++ added_held))) None
  stored_is =
      enveloped_is (s ++ t) ∙ ap (λ m. cond (is_good m (held_from (s ++ t))) (Some (text_of m (held_from (s ++ t)))) None) (made_stored s S i r t run)
      ∙ ap (λ h. cond (is_good texts h) (Some (text_of texts h)) None) (held_stored s S i r t run)

  full_is : enveloped (s ++ (r ++ t)) ≡ cond (is_good texts (held_from s ++ (r ++ added_held))) (Some (text_of texts (held_from s ++ (r ++ added_held)))) None
  full_is =
      enveloped_is (s ++ (r ++ t)) ∙ ap (λ m. cond (is_good m (held_from (s ++ (r ++ t)))) (Some (text_of m (held_from (s ++ (r ++ t))))) None) (made_full s S i r t run)
      ∙ ap (λ h. cond (is_good texts h) (Some (text_of texts h)) None) (held_full s S i r t run)

  goods : is_good texts (held_from s ++ (r ++ added_held)) ≡ is_good texts (held_from s ++ added_held)
  goods =
      good_same texts (held_from s ++ (r ++ added_held)) (held_from s ++ added_held) (held_some s S i (r ++ added_held)) (held_some s S i added_held) (held_utf8 s S i r added_held run)

  pub put_run_none : enveloped (s ++ t) ≡ None → enveloped (s ++ (r ++ t)) ≡ None
  put_run_none h = by (is_good texts (held_from s ++ added_held)) refl where
    by : (b : Bool) → is_good texts (held_from s ++ added_held) ≡ b → enveloped (s ++ (r ++ t)) ≡ None
    by true e = absurd (clash (sym (stored_is ∙ ap (λ b. cond b (Some (text_of texts (held_from s ++ added_held))) None) e) ∙ h)) where
      clash : Some (text_of texts (held_from s ++ added_held)) ≡ None → ⊥
      clash k = absurd (cc)
    by false e = full_is ∙ ap (λ b. cond b (Some (text_of texts (held_from s ++ (r ++ added_held)))) None) (goods ∙ e)

  good_of : {b : Bool} (x e : List ℕ) → cond b (Some x) None ≡ Some e → (b ≡ true) × (x ≡ e)
  good_of {b} x e h = by b h where
    by : (c : Bool) → cond c (Some x) None ≡ Some e → (c ≡ true) × (x ≡ e)
    by true k = (refl, some_same x e k)
    by false k = absurd (cc)

  pub put_run_some : (e : List ℕ) → enveloped (s ++ t) ≡ Some (S ++ e) → enveloped (s ++ (r ++ t)) ≡ Some (S ++ (r ++ e))
  put_run_some e h = by (grown_of (rest_of s S i r t run) (made_from s) (made_long s S i)) where
    got : (is_good texts (held_from s ++ added_held) ≡ true) × (text_of texts (held_from s ++ added_held) ≡ S ++ e)
    got = good_of (text_of texts (held_from s ++ added_held)) (S ++ e) (sym stored_is ∙ h)

    by : Grown (made_from s) texts → enveloped (s ++ (r ++ t)) ≡ Some (S ++ (r ++ e))
    by (nothing_more q) =
        let first = after_front (made_from s) (held_from s) added_held S (made_long s S i) (held_some s S i added_held) i.front in
        let rest = append_cancel_left S (escape added_held ++ 34 ∷ 125 ∷ []) e (sym first ∙ ap (λ m. text_of m (held_from s ++ added_held)) (sym q) ∙ got.1) in
        let all = after_front (made_from s) (held_from s) (r ++ added_held) S (made_long s S i) (held_some s S i (r ++ added_held)) i.front in
        full_is ∙ ap (λ b. cond b (Some (text_of texts (held_from s ++ (r ++ added_held)))) None) (goods ∙ got.0)
        ∙ ap Some (ap (λ m. text_of m (held_from s ++ (r ++ added_held))) q ∙ all
        ∙ ap (λ z. S ++ (z ++ 34 ∷ 125 ∷ [])) (flat_map-append escape_byte r added_held ∙ ap (λ z. z ++ escape added_held) (escape_run r run))
        ∙ ap (λ z. S ++ z) (append_assoc r (escape added_held) (34 ∷ 125 ∷ []) ∙ ap (λ z. r ++ z) rest))
    by (member_more n y f q) =
        absurd (not_behind (made_from s) n y (held_from s ++ added_held) S e (held_from s) f (longer (made_from s) (44 ∷ (n ++ y)) (made_long s S i)) (held_some s S i added_held) i.front
        (ap (λ m. text_of m (held_from s ++ added_held)) (sym q) ∙ got.1))

-- ---- the document's id

id_run : (s S r t : List ℕ) → IsPutStart s S → IsRun r → id_of (S ++ (r ++ t)) ≡ id_of (S ++ t)
id_run s S r t i h =
    let x = codes ",\"whole\":\"" ++ escape (held_from s) in
    let within = λ (z : List ℕ). ap (λ f. first_member (f ++ z)) i.front ∙ ap first_member (append_assoc (made_from s) x z) ∙ first_within (made_from s) (x ++ z) i.two in
    ap (λ m. cond (has_name m (codes "\"_id\"")) (value_of m (codes "\"_id\"")) []) (within (r ++ t) ∙ sym (within t))

-- ---- the complete document

pub put_front_some : (f s F S t e : List ℕ) → PutFront f s F S → enveloped (s ++ t) ≡ Some (S ++ e) → enveloped (f ++ t) ≡ Some (F ++ e)
put_front_some = runs_some IsPutStart enveloped (λ s S r t e i h. put_run_some s S i r t h e)

pub put_front_none : (f s F S t : List ℕ) → PutFront f s F S → enveloped (s ++ t) ≡ None → enveloped (f ++ t) ≡ None
put_front_none = runs_none IsPutStart enveloped (λ s S r t i h. put_run_none s S i r t h)

pub put_front_json : (f s F S t : List ℕ) → PutFront f s F S → is_json (f ++ t) ≡ is_json (s ++ t)
put_front_json = runs_same IsPutStart is_json (λ s S r t i h. json_run s r t i.may h)

pub put_front_utf8 : (f s F S t : List ℕ) → PutFront f s F S → is_utf8 (f ++ t) ≡ is_utf8 (s ++ t)
put_front_utf8 = runs_same IsPutStart is_utf8 (λ s S r t i h. utf8_run s r t i.may h)

pub put_front_log : (f s F S t : List ℕ) → PutFront f s F S → is_log (f ++ t) ≡ is_log (s ++ t)
put_front_log = runs_same IsPutStart is_log (λ s S r t i h. log_run s r t i.may h)

pub put_front_first : (f s F S t : List ℕ) → PutFront f s F S → get_or (f ++ t) 0 0 ≡ get_or (s ++ t) 0 0
put_front_first = runs_same IsPutStart (λ x. get_or x 0 0) (λ s S r t i h. first_run s r t i.may h)

pub put_front_id : (f s F S e : List ℕ) → PutFront f s F S → id_of (F ++ e) ≡ id_of (S ++ e)
put_front_id = runs_output IsPutStart id_of id_run

pub put_front_long : (f s F S : List ℕ) → PutFront f s F S → (16 ≤ length s) × (16 ≤ length f)
put_front_long = runs_long IsPutStart 16 (λ s S i. i.may.long)

-- A run may follow the stored text.
pub put_front_start : (f s F S : List ℕ) → PutFront f s F S → IsPutStart s S
put_front_start f s F S (start i) = i
put_front_start x s X S (run p i r h) = i
put_front_start x y X Y (next p t d i) = i

-- ---- the front of an envelope

quoted_front : (m h : List ℕ) → nat_lt 1 (length m) ≡ true → (length h == 0) ≡ false → with_held m h ≡ (m ++ (codes ",\"whole\":\"" ++ escape h)) ++ 34 ∷ []
quoted_front m h e f =
    let w = whole_name ++ 58 ∷ [] in
    ap (λ b. cond b m (added m w ++ quoted h)) f ∙ ap (λ b. cond b (m ++ 44 ∷ w) (m ++ w) ++ quoted h) e ∙ append_assoc m (44 ∷ w) (quoted h)
    ∙ ap (λ z. m ++ z) (sym (append_assoc (codes ",\"whole\":\"") (escape h) (34 ∷ []))) ∙ sym (append_assoc m (codes ",\"whole\":\"" ++ escape h) (34 ∷ []))

all_but_last : (t : List ℕ) (b : ℕ) → before_last (t ++ b ∷ []) ≡ t
all_but_last t b =
    let n = length-append t (b ∷ []) in
    let one : length (t ++ b ∷ []) - 1 ≡ length t = omega (arith, n) in
    ap (λ k. take k (t ++ b ∷ [])) one ∙ take-append_seam t (b ∷ [])

pub put_start : (s S : List ℕ) → MayStream s → InAttachments s → first_length (drop 1 (made_from s)) < length (drop 1 (made_from s)) → S ≡ before_last (with_held (made_from s) (held_from s)) → IsPutStart s S
put_start s S m a two e =
    let front = made_from s ++ (codes ",\"whole\":\"" ++ escape (held_from s)) in
    let i : IsPutStart s front = record { may = m; inside = a; two = two; front = refl } in
    let some = ap (λ h. length h == 0) (sym (append-nil (held_from s))) ∙ held_some s front i [] in
    record { may = m; inside = a; two = two; front = e ∙ ap before_last (quoted_front (made_from s) (held_from s) (made_long s front i) some) ∙ all_but_last front 34 }

pub put_started : {E : Type 0} (s S text wrapped : List ℕ) (r : Result Bool E) → MayStream s → InAttachments s → text ≡ made_from s → wrapped ≡ held_from s
    → first_length (drop 1 text) < length (drop 1 text) → IfOk r (λ ok. ok ≡ true → S ≡ before_last (with_held text wrapped)) → IfOk r (λ ok. ok ≡ true → IsPutStart s S)
put_started s S text wrapped (Err w) m a e f two h = tt
put_started s S text wrapped (Ok b) m a e f two h = λ ok.
    put_start s S m a (subst (λ t. first_length (drop 1 t) < length (drop 1 t)) e two) (h ok ∙ ap (λ t. before_last (with_held t wrapped)) e ∙ ap (λ t. before_last (with_held (made_from s) t)) f)
