-- The contents of a log are unique.
use Rattle.proof_prelude.proofs.{◌≡◌, ℕ, ◌<◌, ◌≤◌, true, List, [], ◌∷◌, ◌++◌, length, refl, sym, ap, subst, ◌∙◌, append_assoc, codes, map, arith, append_cancel_left, map-append, IsUtf8, append-nil, length-append}
use Rattle.output_parser.specs.{lacks, InTurn, AreEntries, AreFurther, IsEntry, IsHead, IsHistory, IsMember, Logged, Values, all_members, logged, member_end, member_text, Entry, Member}
use Rattle.output_parser.proofs.ColumnLemmas.{number_unique}
use Rattle.output_parser.proofs.LineLemmas.{after, first_apart}
use Rattle.output_parser.proofs.TurnLemmas.{OneWay, turns_unique}
use Rattle.output_parser.proofs.WordLemmas.{first_unique}

-- ---- the start

abbrev front : List ℕ
front = codes "{\"_id\":\"_local/"

abbrev history : List ℕ
history = codes ",\"history\":["

pub head_cut : (line rest word tail id text : List ℕ) → line ≡ front ++ rest → rest ≡ word ++ 34 ∷ tail → lacks 34 word ≡ true → IsHead line id text → (word ≡ id) × (tail ≡ history ++ text)
head_cut line rest word tail id text a b h p =
    first_unique 34 word id tail (history ++ text) h p.lacks_mark (sym b ∙ after front line rest _ a p.form)

pub head_is : (line rest word tail id text : List ℕ) → line ≡ front ++ rest → rest ≡ word ++ 34 ∷ tail → lacks 34 word ≡ true → tail ≡ history ++ text → id ≡ word → IsUtf8 word → IsHead line id text
head_is line rest word tail id text a b h c is utf8 =
    subst (λ w. IsHead line w text) (sym is)
    (record { form = a ∙ ap (λ r. front ++ r) (b ∙ ap (λ t. word ++ 34 ∷ t) c); lacks_mark = h; utf8 = utf8 })

pub heads_same : (line i j x y : List ℕ) → IsHead line i x → IsHead line j y → x ≡ y
heads_same line i j x y p q =
    append_cancel_left history x y (head_cut line _ i (history ++ x) j y p.form refl p.lacks_mark q).1

-- ---- a session

pub member_unique : OneWay IsMember
member_unique m v w a b text p q =
    let u = first_unique (member_end m) v w a b p.lacks_end q.lacks_end (after (member_text m) text _ _ p.form q.form) in
    (u.1, u.0)

pub values_same : (text a b : List ℕ) (xs ys : List (List ℕ)) → InTurn IsMember all_members xs a text → InTurn IsMember all_members ys b text → (a ≡ b) × (xs ≡ ys)
values_same text a b xs ys p q = turns_unique IsMember member_unique all_members xs ys a b text p q

told : List ℕ → List ℕ → ℕ → ℕ → ℕ → Logged
told s b r w n = record { session = s; begun = b; read = r; written = w; failed = n }

told_same : (values : List (List ℕ)) (e f : Logged) → Values values e → Values values f → e ≡ f
unfolding told
told_same values e f p q =
    let s : e.session ≡ f.session = sym p.session ∙ q.session in
    let b : e.begun ≡ f.begun = sym p.begun ∙ q.begun in
    let r : e.read ≡ f.read = number_unique _ e.read f.read p.read q.read in
    let w : e.written ≡ f.written = number_unique _ e.written f.written p.written q.written in
    let n : e.failed ≡ f.failed = number_unique _ e.failed f.failed p.failed q.failed in
    let same : told e.session e.begun e.read e.written e.failed ≡ told f.session f.begun f.read f.written f.failed = cc in
    same

pub entry_unique : (e f : Logged) (a b text : List ℕ) → IsEntry e a text → IsEntry f b text → (a ≡ b) × (e ≡ f)
entry_unique e f a b text p q =
    let u = values_same text (125 ∷ a) (125 ∷ b) p.values q.values p.listed q.listed in
    (append_cancel_left (125 ∷ []) a b u.0, told_same q.values e f (subst (λ vs. Values vs e) u.1 p.tells) q.tells)

-- ---- the rest becomes shorter

behind_shorter : (x y : List ℕ) → length y ≤ length (x ++ y)
behind_shorter x y = let l = length-append x y in omega (arith, l)

member_shorter : (m : Member) (v a text : List ℕ) → IsMember m v a text → length a ≤ length text
member_shorter m v a text p =
    let l = behind_shorter (member_text m) (v ++ member_end m ∷ a) in
    let k = behind_shorter v (member_end m ∷ a) in
    let e = ap length p.form in
    let s : length a ≤ length (member_end m ∷ a) = omega arith in
    omega (arith, l, k, e, s)

turns_shorter : (ms : List Member) (vs : List (List ℕ)) (a text : List ℕ) → InTurn IsMember ms vs a text → length a ≤ length text
turns_shorter [] [] a text p = let e = ap length p in omega (arith, e)
turns_shorter [] (v ∷ vs) a text p = absurd p
turns_shorter (m ∷ ms) [] a text p = absurd p
turns_shorter (m ∷ ms) (v ∷ vs) a text p =
    let s = member_shorter m v p.0 text p.1 in
    let t = turns_shorter ms vs a p.0 p.2 in
    omega (arith, s, t)

pub entry_shorter : (e : Logged) (a text : List ℕ) → IsEntry e a text → length a < length text
entry_shorter e a text p = let s = turns_shorter all_members p.values (125 ∷ a) text p.listed in omega (arith, s)

-- ---- sessions in order

abbrev close : List ℕ
close = codes "],\"replication_id_version\":3,\"session_id\":\""

no_comma : (begins tail : List ℕ) → close ++ tail ≡ 44 ∷ begins → ⊥
no_comma begins tail e = first_apart 93 44 _ begins (λ h. omega (arith, h)) e

-- These sessions were parsed, and others may follow in the rest.
pub record ReadsEntries (text rest : List ℕ) (done : List Logged) : Type 0 where
  pub yes : (last : List ℕ) (more : List Logged) → AreFurther more last rest → AreEntries (done ++ more) last text
  pub only : (tail : List ℕ) (es : List Logged) → AreEntries es (close ++ tail) text → (more : List Logged) × (es ≡ done ++ more) × AreFurther more (close ++ tail) rest

only_first : (text rest last : List ℕ) (e : Logged) (es : List Logged) → IsEntry e rest text → AreEntries es last text → (more : List Logged) × (es ≡ e ∷ more) × AreFurther more last rest
only_first text rest last e [] p h = absurd h
only_first text rest last e (f ∷ es) p h =
    let u = entry_unique f e h.0 rest text h.1 p in
    (es, ap (λ x. x ∷ es) u.1, subst (λ t. AreFurther es last t) u.0 h.2)

pub one_entry : (text rest : List ℕ) (e : Logged) → IsEntry e rest text → ReadsEntries text rest (e ∷ [])
one_entry text rest e p = record {
  yes = λ last more h. (rest, p, h);
  only = λ tail es h. only_first text rest (close ++ tail) e es p h;
}

same_begins : (rest x y : List ℕ) → rest ≡ 44 ∷ x → rest ≡ 44 ∷ y → x ≡ y
same_begins rest x y p q = append_cancel_left (44 ∷ []) x y (sym p ∙ q)

only_next : (rest begins after tail : List ℕ) (e : Logged) (done more es : List Logged) → rest ≡ 44 ∷ begins → IsEntry e after begins → es ≡ done ++ more → AreFurther more (close ++ tail) rest → (more : List Logged) × (es ≡ (done ++ e ∷ []) ++ more) × AreFurther more (close ++ tail) after
only_next rest begins after tail e done [] es comma p is h = absurd (no_comma begins tail (sym h ∙ comma))
only_next rest begins after tail e done (f ∷ more) es comma p is h =
    let same = same_begins rest h.1.begins begins h.1.comma comma in
    let u = entry_unique f e h.0 after begins (subst (λ b. IsEntry f h.0 b) same h.1.entry) p in
    (more, is ∙ (ap (λ x. done ++ x ∷ more) u.1 ∙ sym (append_assoc done (e ∷ []) more)), subst (λ a. AreFurther more (close ++ tail) a) u.0 h.2)

next_entry : (text rest begins after : List ℕ) (done : List Logged) (e : Logged) → ReadsEntries text rest done → rest ≡ 44 ∷ begins → IsEntry e after begins → ReadsEntries text after (done ++ e ∷ [])
next_entry text rest begins after done e r comma p = record {
  yes = λ last more h.
      subst (λ es. AreEntries es last text) (sym (append_assoc done (e ∷ []) more))
      (r.yes last (e ∷ more) (after, record { begins = begins; comma = comma; entry = p }, h));
  only = λ tail es h. let k = r.only tail es h in only_next rest begins after tail e done k.0 es comma p k.1 k.2;
}

-- one more session
pub entries_more : (text rest begins after : List ℕ) (done new : List Entry) (e : Entry) → ReadsEntries text rest (map logged done) → rest ≡ 44 ∷ begins → IsEntry (logged e) after begins → new ≡ done ++ e ∷ [] → ReadsEntries text after (map logged new)
entries_more text rest begins after done new e r comma p added =
    subst (λ es. ReadsEntries text after es) (sym (ap (map logged) added ∙ map-append logged done (e ∷ [])))
    (next_entry text rest begins after (map logged done) (logged e) r comma p)

none_further : (rest begins tail : List ℕ) (more : List Logged) → rest ≡ 44 ∷ begins → ((e : Logged) (after : List ℕ) → IsEntry e after begins → ⊥) → AreFurther more (close ++ tail) rest → ⊥
none_further rest begins tail [] comma bad h = no_comma begins tail (sym h ∙ comma)
none_further rest begins tail (f ∷ more) comma bad h =
    bad f h.0 (subst (λ b. IsEntry f h.0 b) (same_begins rest h.1.begins begins h.1.comma comma) h.1.entry)

-- no session follows the comma
pub entries_none : (text rest begins : List ℕ) (done es : List Logged) → ReadsEntries text rest done → rest ≡ 44 ∷ begins → ((e : Logged) (after : List ℕ) → IsEntry e after begins → ⊥) → IsHistory text es → ⊥
entries_none text rest begins done es r comma bad h =
    let k = r.only h.tail es h.listed in none_further rest begins h.tail k.0 comma bad k.2

no_entry : (text : List ℕ) (es : List Logged) (last : List ℕ) → ((e : Logged) (after : List ℕ) → IsEntry e after text → ⊥) → AreEntries es last text → ⊥
no_entry text [] last bad h = h
no_entry text (e ∷ es) last bad h = bad e h.0 h.1

pub none_at_all : (text : List ℕ) (es : List Logged) → ((e : Logged) (after : List ℕ) → IsEntry e after text → ⊥) → IsHistory text es → ⊥
none_at_all text es bad h = no_entry text es (close ++ h.tail) bad h.listed

unclosed : (rest tail : List ℕ) (more : List Logged) → ((x : List ℕ) → rest ≡ 44 ∷ x → ⊥) → ((x : List ℕ) → rest ≡ close ++ x → ⊥) → AreFurther more (close ++ tail) rest → ⊥
unclosed rest tail [] comma end h = end tail h
unclosed rest tail (f ∷ more) comma end h = comma h.1.begins h.1.comma

-- neither a comma nor the end of the list follows
pub entries_unclosed : (text rest : List ℕ) (done es : List Logged) → ReadsEntries text rest done → ((x : List ℕ) → rest ≡ 44 ∷ x → ⊥) → ((x : List ℕ) → rest ≡ close ++ x → ⊥) → IsHistory text es → ⊥
entries_unclosed text rest done es r comma end h =
    let k = r.only h.tail es h.listed in unclosed rest h.tail k.0 comma end k.2

pub entries_all : (text rest tail : List ℕ) (done : List Logged) → ReadsEntries text rest done → rest ≡ close ++ tail → IsHistory text done
entries_all text rest tail done r end = record {
  tail = tail;
  listed = subst (λ es. AreEntries es (close ++ tail) text) (append-nil done) (r.yes (close ++ tail) [] end);
}
