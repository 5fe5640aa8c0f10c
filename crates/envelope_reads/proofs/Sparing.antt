-- The data of an envelope, and the errors of reading it as a document.
use Rattle.proof_prelude.proofs.{◌≡◌, ◌⊎◌, ℕ, List, [], ◌∷◌, ◌&&◌, ◌||◌, Bool, true, false, cond, codes, not, refl, sym, ap, subst, ◌∙◌, Option, Some, None, option_map, option_and_then, is_some, if◌then◌else◌, Result, Ok, Err, IfErr, inl, inr, length, ◌==◌, bytes_eq, nat_cmp, match_ordering, is_eq, slice_cmp, bytes_eq-Decides, is_eq-slice_cmp, is_utf8, Ordering, Less, Equal, Greater, filter}
use Rattle.std.specs.Str.{IsUtf8}
use Rattle.std.proofs.lemmas.Str.{IsUtf8-from_is_utf8}
use Rattle.json.specs.Json as json
use Rattle.json.specs.Token.{Token}
use Rattle.json.specs.Lex.{tokens}
use Rattle.json.specs.Find as jfind
use Rattle.serde_json.specs.Data.{Num, Data, null, boolean, number, string, array, object, Items, Members, no_members, member, put}
use Rattle.serde_json.specs.Read.{of_json, of_items, of_members, number_of, read}
use Rattle.serde_json.specs.Find.{get_member, get, as_str, as_bool}
use Rattle.serde_json.specs.Written.{has_float, members_have_float}
use Rattle.rev_core.specs.{◌>>=◌, or_refused, refused_if, named, RevId, rev_read, ancestry_read}
use Rattle.doc_envelope.specs.{may_stand, all_may_stand, is_envelope_value, is_envelope, envelope_of, enveloped, goes, members_of, joined}
use Rattle.doc_json.specs.{has_unknown, is_unknown, plain_members, is_special, is_design, doc_id_read, doc_read, id_of, flag_of, revs_read, rev_of_text, rev_member, with_revisions, revisions_read, numbered_from, start_of, ids_read, alone, matched, agrees, GivesUnlessMemory, DocFault}
use Rattle.doc_json.specs.declared.fault.DocFault.TheVariants as faults
use Rattle.doc_json.specs.Document.{Document}
use Rattle.envelope_reads.specs.{looks_into, may_be, envelope_read, read_if_any, AllMayBe, IsSpared}
use Rattle.envelope_reads.proofs.Depths.{value_within}

-- ---- from JSON to data

same_some : {A : Type 0} (a b : A) → Some a ≡ Some b → a ≡ b
same_some a b e = cc

bool_of : (j : json.Json) (d : Data) → of_json j ≡ Some d → as_bool d ≡ jfind.as_bool j
bool_of json.null d e = ap as_bool (sym (same_some null d e))
bool_of (json.boolean b) d e = ap as_bool (sym (same_some (boolean b) d e))
bool_of (json.string s) d e = ap as_bool (sym (same_some (string s) d e))
bool_of (json.number s) d e = by (number_of s) e where
  by : (o : Option Num) → option_map number o ≡ Some d → as_bool d ≡ None
  by None e = absurd (cc)
  by (Some n) e = ap as_bool (sym (same_some (number n) d e))
bool_of (json.array js) d e = by (of_items js) e where
  by : (o : Option Items) → option_map array o ≡ Some d → as_bool d ≡ None
  by None e = absurd (cc)
  by (Some n) e = ap as_bool (sym (same_some (array n) d e))
bool_of (json.object ms) d e = by (of_members ms no_members) e where
  by : (o : Option Members) → option_map object o ≡ Some d → as_bool d ≡ None
  by None e = absurd (cc)
  by (Some n) e = ap as_bool (sym (same_some (object n) d e))

text_of : (j : json.Json) (d : Data) → of_json j ≡ Some d → as_str d ≡ jfind.as_str j
text_of json.null d e = ap as_str (sym (same_some null d e))
text_of (json.boolean b) d e = ap as_str (sym (same_some (boolean b) d e))
text_of (json.string s) d e = ap as_str (sym (same_some (string s) d e))
text_of (json.number s) d e = by (number_of s) e where
  by : (o : Option Num) → option_map number o ≡ Some d → as_str d ≡ None
  by None e = absurd (cc)
  by (Some n) e = ap as_str (sym (same_some (number n) d e))
text_of (json.array js) d e = by (of_items js) e where
  by : (o : Option Items) → option_map array o ≡ Some d → as_str d ≡ None
  by None e = absurd (cc)
  by (Some n) e = ap as_str (sym (same_some (array n) d e))
text_of (json.object ms) d e = by (of_members ms no_members) e where
  by : (o : Option Members) → option_map object o ≡ Some d → as_str d ≡ None
  by None e = absurd (cc)
  by (Some n) e = ap as_str (sym (same_some (object n) d e))

-- a member that is allowed as JSON is allowed as data
may_by : (k : List ℕ) (b c : Option Bool) (s t : Option (List ℕ)) → b ≡ c → s ≡ t
    → cond (bytes_eq k (codes "_id") || bytes_eq k (codes "_rev") || bytes_eq k (codes "_revisions")) true (cond (bytes_eq k (codes "_deleted")) (is_some b) (cond (bytes_eq k (codes "whole")) (is_some s) false))
    ≡ cond (bytes_eq k (codes "_id") || bytes_eq k (codes "_rev") || bytes_eq k (codes "_revisions")) true (cond (bytes_eq k (codes "_deleted")) (is_some c) (cond (bytes_eq k (codes "whole")) (is_some t) false))
may_by k b c s t e f = cc

may_same : (k : List ℕ) (j : json.Json) (d : Data) → of_json j ≡ Some d → may_be k d ≡ may_stand k j
may_same k j d e = may_by k (as_bool d) (jfind.as_bool j) (as_str d) (jfind.as_str j) (bool_of j d e) (text_of j d e)

-- a member replaces one with the same name
equal_names : (k l : List ℕ) → slice_cmp nat_cmp k l ≡ Equal → k ≡ l
equal_names k l e = (bytes_eq-Decides k l).0 (sym (is_eq-slice_cmp k l) ∙ ap is_eq e)

put_may : (k : List ℕ) (d : Data) (ms : Members) → may_be k d ≡ true → AllMayBe ms → AllMayBe (put k d ms)
put_may k d no_members h m = (h, tt)
put_may k d (member l e ms) h m = at_name (slice_cmp nat_cmp k l) refl (put_may k d ms h m.1) where
  at_name : (o : Ordering) → slice_cmp nat_cmp k l ≡ o → AllMayBe (put k d ms) → AllMayBe (match_ordering o (member k d (member l e ms)) (member l d ms) (member l e (put k d ms)))
  at_name Less is more = (h, m)
  at_name Equal is more = (subst (λ n. may_be n d ≡ true) (equal_names k l is) h, m.1)
  at_name Greater is more = (m.0, more)

both : (b c : Bool) → (b && c) ≡ true → (b ≡ true) × (c ≡ true)
both true c h = (refl, h)
both false c h = absurd (cc)

members_may : (ms : json.Members) (found r : Members) → all_may_stand ms ≡ true → AllMayBe found → of_members ms found ≡ Some r → AllMayBe r
members_may json.no_members found r h m e = subst AllMayBe (same_some found r e) m
members_may (json.member k j ms) found r h m e = one (of_json j) refl e (λ f g n x. members_may ms f r g n x) where
  parts : (may_stand k j ≡ true) × (all_may_stand ms ≡ true)
  parts = both (may_stand k j) (all_may_stand ms) h

  one : (o : Option Data) → of_json j ≡ o → option_and_then (λ d. of_members ms (put k d found)) o ≡ Some r
      → ((f : Members) → all_may_stand ms ≡ true → AllMayBe f → of_members ms f ≡ Some r → AllMayBe r) → AllMayBe r
  one None is e more = absurd (cc)
  one (Some d) is e more = more (put k d found) parts.1 (put_may k d found (may_same k j d is ∙ parts.0) m) e

pub spared : (j : json.Json) (d : Data) → is_envelope_value (Some j) ≡ true → of_json j ≡ Some d → IsSpared d
spared json.null d h e = absurd (cc)
spared (json.boolean b) d h e = absurd (cc)
spared (json.number s) d h e = absurd (cc)
spared (json.string s) d h e = absurd (cc)
spared (json.array js) d h e = absurd (cc)
spared (json.object ms) d h e = by (of_members ms no_members) refl e where
  by : (o : Option Members) → of_members ms no_members ≡ o → option_map object o ≡ Some d → IsSpared d
  by None is e = absurd (cc)
  by (Some r) is e = subst IsSpared (same_some (object r) d e) (members_may ms no_members r h tt is)

-- data that is parsed within 127 brackets is the JSON text within 128
pub read_spared : (t : List ℕ) (d : Data) → is_envelope_value (json.document t) ≡ true → read t ≡ Some d → IsSpared d
read_spared t d h e = by (json.value 127 (tokens t)) refl e where
  last : (j : json.Json) (ts : List Token) → is_envelope_value (json.if_last j ts) ≡ true → option_and_then of_json (json.if_last j ts) ≡ Some d → IsSpared d
  last j [] g e = spared j d g e
  last j (u ∷ us) g e = absurd (cc)

  by : (o : Option (json.Json × List Token)) → json.value 127 (tokens t) ≡ o → option_and_then of_json (option_and_then (λ p. json.if_last p.0 p.1) o) ≡ Some d → IsSpared d
  by None is e = absurd (cc)
  by (Some p) is e = last p.0 p.1 (ap (λ o. is_envelope_value (option_and_then (λ p. json.if_last p.0 p.1) o)) (sym (value_within 127 (tokens t) p is)) ∙ h) e

-- ---- the names

data IsOne : List ℕ → Data → Type 0 where
  of_id : {k : List ℕ} {d : Data} → k ≡ codes "_id" → IsOne k d
  of_rev : {k : List ℕ} {d : Data} → k ≡ codes "_rev" → IsOne k d
  of_revisions : {k : List ℕ} {d : Data} → k ≡ codes "_revisions" → IsOne k d
  of_deleted : {k : List ℕ} {d : Data} → k ≡ codes "_deleted" → is_some (as_bool d) ≡ true → IsOne k d
  of_whole : {k : List ℕ} {d : Data} → k ≡ codes "whole" → is_some (as_str d) ≡ true → IsOne k d

is_name : (k name : List ℕ) → bytes_eq k name ≡ true → k ≡ name
is_name k name h = (bytes_eq-Decides k name).0 h

one_of : (k : List ℕ) (d : Data) (a b c e f : Bool) → bytes_eq k (codes "_id") ≡ a → bytes_eq k (codes "_rev") ≡ b → bytes_eq k (codes "_revisions") ≡ c → bytes_eq k (codes "_deleted") ≡ e → bytes_eq k (codes "whole") ≡ f
    → cond (a || b || c) true (cond e (is_some (as_bool d)) (cond f (is_some (as_str d)) false)) ≡ true → IsOne k d
one_of k d true b c e f ha hb hc he hf h = of_id (is_name k (codes "_id") ha)
one_of k d false true c e f ha hb hc he hf h = of_rev (is_name k (codes "_rev") hb)
one_of k d false false true e f ha hb hc he hf h = of_revisions (is_name k (codes "_revisions") hc)
one_of k d false false false true f ha hb hc he hf h = of_deleted (is_name k (codes "_deleted") he) h
one_of k d false false false false true ha hb hc he hf h = of_whole (is_name k (codes "whole") hf) h
one_of k d false false false false false ha hb hc he hf h = absurd (cc)

is_one : (k : List ℕ) (d : Data) → may_be k d ≡ true → IsOne k d
is_one k d h = one_of k d (bytes_eq k (codes "_id")) (bytes_eq k (codes "_rev")) (bytes_eq k (codes "_revisions")) (bytes_eq k (codes "_deleted")) (bytes_eq k (codes "whole")) refl refl refl refl refl h

-- ---- no attachments

no_attachments : (k : List ℕ) (d : Data) → IsOne k d → bytes_eq (codes "_attachments") k ≡ false
no_attachments k d (of_id h) = subst (λ z. bytes_eq (codes "_attachments") z ≡ false) (sym h) refl
no_attachments k d (of_rev h) = subst (λ z. bytes_eq (codes "_attachments") z ≡ false) (sym h) refl
no_attachments k d (of_revisions h) = subst (λ z. bytes_eq (codes "_attachments") z ≡ false) (sym h) refl
no_attachments k d (of_deleted h e) = subst (λ z. bytes_eq (codes "_attachments") z ≡ false) (sym h) refl
no_attachments k d (of_whole h e) = subst (λ z. bytes_eq (codes "_attachments") z ≡ false) (sym h) refl

true_not_false : true ≡ false → ⊥
true_not_false e = absurd (cc)

none_attached : (ms : Members) → AllMayBe ms → get_member (codes "_attachments") ms ≡ None
none_attached no_members m = refl
none_attached (member l e ms) m = at_name (slice_cmp nat_cmp (codes "_attachments") l) refl (none_attached ms m.1) where
  at_name : (o : Ordering) → slice_cmp nat_cmp (codes "_attachments") l ≡ o → get_member (codes "_attachments") ms ≡ None → match_ordering o (get_member (codes "_attachments") ms) (Some e) (get_member (codes "_attachments") ms) ≡ None
  at_name Less is more = more
  at_name Equal is more = absurd (true_not_false (sym (ap is_eq is) ∙ is_eq-slice_cmp (codes "_attachments") l ∙ no_attachments l e (is_one l e m.0)))
  at_name Greater is more = more

-- ---- Booleans

abbrev Flag : Option Data → Type 0
Flag None = Unit {0}
Flag (Some d) = is_some (as_bool d) ≡ true

flag_at : (k : List ℕ) (d : Data) → IsOne k d → bytes_eq (codes "_deleted") k ≡ true → is_some (as_bool d) ≡ true
flag_at k d (of_id h) e = absurd (true_not_false (sym e ∙ ap (bytes_eq (codes "_deleted")) h))
flag_at k d (of_rev h) e = absurd (true_not_false (sym e ∙ ap (bytes_eq (codes "_deleted")) h))
flag_at k d (of_revisions h) e = absurd (true_not_false (sym e ∙ ap (bytes_eq (codes "_deleted")) h))
flag_at k d (of_deleted h f) e = f
flag_at k d (of_whole h f) e = absurd (true_not_false (sym e ∙ ap (bytes_eq (codes "_deleted")) h))

flag_good : (ms : Members) → AllMayBe ms → Flag (get_member (codes "_deleted") ms)
flag_good no_members m = tt
flag_good (member l e ms) m = at_name (slice_cmp nat_cmp (codes "_deleted") l) refl (flag_good ms m.1) where
  at_name : (o : Ordering) → slice_cmp nat_cmp (codes "_deleted") l ≡ o → Flag (get_member (codes "_deleted") ms) → Flag (match_ordering o (get_member (codes "_deleted") ms) (Some e) (get_member (codes "_deleted") ms))
  at_name Less is more = more
  at_name Equal is more = flag_at l e (is_one l e m.0) (sym (is_eq-slice_cmp (codes "_deleted") l) ∙ ap is_eq is)
  at_name Greater is more = more

-- ---- no unknown special member, and no fraction

known_one : (k : List ℕ) (d : Data) → IsOne k d → is_unknown k ≡ false
known_one k d (of_id h) = ap is_unknown h
known_one k d (of_rev h) = ap is_unknown h
known_one k d (of_revisions h) = ap is_unknown h
known_one k d (of_deleted h e) = ap is_unknown h
known_one k d (of_whole h e) = ap is_unknown h

all_known : (ms : Members) → AllMayBe ms → has_unknown ms ≡ false
all_known no_members m = refl
all_known (member l e ms) m = ap (λ b. b || has_unknown ms) (known_one l e (is_one l e m.0)) ∙ all_known ms m.1

no_float : (d : Data) → is_some (as_str d) ≡ true → has_float d ≡ false
no_float null h = absurd (cc)
no_float (boolean b) h = absurd (cc)
no_float (number n) h = absurd (cc)
no_float (string s) h = refl
no_float (array ds) h = absurd (cc)
no_float (object ms) h = absurd (cc)

all_whole : (ms : Members) → AllMayBe ms → members_have_float (plain_members ms) ≡ false
all_whole no_members m = refl
all_whole (member l e ms) m = by (is_one l e m.0) (all_whole ms m.1) where
  hidden : is_special l ≡ true → members_have_float (plain_members ms) ≡ false → members_have_float (if is_special l then plain_members ms else member l e (plain_members ms)) ≡ false
  hidden h more = ap (λ b. members_have_float (if b then plain_members ms else member l e (plain_members ms))) h ∙ more

  by : IsOne l e → members_have_float (plain_members ms) ≡ false → members_have_float (if is_special l then plain_members ms else member l e (plain_members ms)) ≡ false
  by (of_id h) more = hidden (ap is_special h) more
  by (of_rev h) more = hidden (ap is_special h) more
  by (of_revisions h) more = hidden (ap is_special h) more
  by (of_deleted h f) more = hidden (ap is_special h) more
  by (of_whole h f) more = ap (λ b. members_have_float (if b then plain_members ms else member l e (plain_members ms))) (ap is_special h) ∙ ap (λ b. b || members_have_float (plain_members ms)) (no_float e f) ∙ more

-- ---- the checks in order

abbrev pub Spares : {A : Type 0} → Result A DocFault → Type 0
Spares (Ok x) = Unit {0}
Spares (Err e) = looks_into e ≡ false

then_spares : {A B : Type 0} (r : Result A DocFault) (f : A → Result B DocFault) → Spares r → ((a : A) → Spares (f a)) → Spares (r >>= f)
then_spares (Ok x) f h g = g x
then_spares (Err e) f h g = h

named_spares : {A E : Type 0} (e : DocFault) (r : Result A E) → looks_into e ≡ false → Spares (named e r)
named_spares e (Ok x) h = tt
named_spares e (Err why) h = h

or_spares : {A : Type 0} (e : DocFault) (o : Option A) → looks_into e ≡ false → Spares (or_refused e o)
or_spares e None h = h
or_spares e (Some x) h = tt

if_spares : {A : Type 0} (b : Bool) (r s : Result A DocFault) → Spares r → Spares s → Spares (if b then r else s)
if_spares true r s h k = h
if_spares false r s h k = k

id_text_spares : (t : List ℕ) → Spares (doc_id_read t)
id_text_spares t =
    if_spares {A = List ℕ} (length t == 0) (Err faults.NoId) (if is_special t && not (is_design t) then Err faults.ReservedId else Ok t) refl
    (if_spares {A = List ℕ} (is_special t && not (is_design t)) (Err faults.ReservedId) (Ok t) refl tt)

id_spares : (o : Option Data) → Spares (id_of o)
id_spares o = then_spares (or_refused faults.NoId (option_and_then as_str o)) doc_id_read (or_spares faults.NoId (option_and_then as_str o) refl) id_text_spares

text_spares : (o : Option (List ℕ)) → Spares (rev_of_text o)
text_spares None = refl
text_spares (Some t) = then_spares (named faults.NoRev (rev_read t)) (λ r. Ok (Some r)) (named_spares faults.NoRev (rev_read t) refl) (λ a. tt)

rev_spares : (o : Option Data) → Spares (rev_member o)
rev_spares None = tt
rev_spares (Some d) = text_spares (as_str d)

numbered_spares : (a : Option ℕ) (b : Option (List (List ℕ))) → Spares (numbered_from a b)
numbered_spares None b = refl
numbered_spares (Some n) None = refl
numbered_spares (Some n) (Some sigs) = if_spares _ (named faults.BadRevisions (ancestry_read n sigs)) (Err faults.BadRevisions) (named_spares faults.BadRevisions (ancestry_read n sigs) refl) refl

alone_spares : (o : Option RevId) → Spares (alone o)
alone_spares None = refl
alone_spares (Some r) = tt

with_spares : (o : Option Data) (rev : Option RevId) → Spares (with_revisions o rev)
with_spares None rev = alone_spares rev
with_spares (Some d) rev = then_spares (revisions_read d) (matched rev) (numbered_spares (start_of d) (ids_read d)) (λ revs. if_spares (agrees rev revs) (Ok revs) (Err faults.RevMismatch) tt refl)

revs_spares : (d : Data) → Spares (revs_read d)
unfolding revs_read
revs_spares d = then_spares (rev_member (get (codes "_rev") d)) (with_revisions (get (codes "_revisions") d)) (rev_spares (get (codes "_rev") d)) (with_spares (get (codes "_revisions") d))

flag_spares : (o : Option Data) → Flag o → Spares (flag_of o)
flag_spares None h = tt
flag_spares (Some d) h = by (as_bool d) h where
  by : (o : Option Bool) → is_some o ≡ true → Spares (or_refused faults.SpecialMember o)
  by None h = absurd (cc)
  by (Some b) h = tt

test_spares : (b : Bool) (e : DocFault) → b ≡ false → Spares (refused_if b e)
test_spares b e h = subst (λ z. Spares (refused_if z e)) (sym h) tt

pub doc_spares : (d : Data) → IsSpared d → Spares (doc_read d)
unfolding doc_read
doc_spares null h = absurd h
doc_spares (boolean b) h = absurd h
doc_spares (number n) h = absurd h
doc_spares (string s) h = absurd h
doc_spares (array ds) h = absurd h
doc_spares (object ms) h =
    let d = object ms in
    then_spares (id_of (get (codes "_id") d)) _ (id_spares (get (codes "_id") d)) (λ id.
    then_spares (refused_if (is_some (get (codes "_attachments") d)) faults.Attachments) _ (test_spares (is_some (get (codes "_attachments") d)) faults.Attachments (ap is_some (none_attached ms h))) (λ a.
    then_spares (refused_if (has_unknown ms) faults.SpecialMember) _ (test_spares (has_unknown ms) faults.SpecialMember (all_known ms h)) (λ n.
    then_spares (flag_of (get (codes "_deleted") d)) _ (flag_spares (get (codes "_deleted") d) (flag_good ms h)) (λ deleted.
    then_spares (revs_read d) _ (revs_spares d) (λ ancestry.
    then_spares (refused_if (members_have_float (plain_members ms)) faults.Fraction) _ (test_spares (members_have_float (plain_members ms)) faults.Fraction (all_whole ms h)) (λ f. tt))))))

-- the result of a call that may run out of memory
pub given_spares : {A : Type 0} (r : Result A DocFault) (expected : Result A DocFault) → Spares expected → GivesUnlessMemory r expected → IfErr r (λ why. looks_into why ≡ false)
given_spares (Ok x) expected h g = tt
given_spares (Err e) expected h (inl is) = subst Spares is h
given_spares (Err e) expected h (inr p) = ap looks_into p.0

-- an error of reading a value as a document, unless an allocation failed
pub failed_read : (d : Data) (why : DocFault) → GivesUnlessMemory {A = Document} (Err why) (doc_read d) → (read_if_any (Some d) ≡ Err why) ⊎ (why ≡ faults.Memory)
failed_read d why (inl is) = inl (ap (λ r. r >>= λ doc. Ok (Some doc)) is)
failed_read d why (inr p) = inr p.0

-- the text of an envelope is UTF-8
made_utf8 : (x made : List ℕ) → enveloped x ≡ Some made → IsUtf8 made
made_utf8 x made e = by (is_utf8 (joined (filter goes (members_of x)))) (is_envelope (envelope_of x)) refl e where
  first : (b c : Bool) → (b && c) ≡ true → b ≡ true
  first true c h = refl
  first false c h = absurd (cc)

  by : (u i : Bool) → is_envelope (envelope_of x) ≡ i → cond (u && i) (Some (envelope_of x)) None ≡ Some made → IsUtf8 made
  by true true h e = IsUtf8-from_is_utf8 made (subst (λ t. is_utf8 t ≡ true) (same_some (envelope_of x) made e) (first (is_utf8 (envelope_of x)) (is_envelope_value (json.document (envelope_of x))) h))
  by true false h e = absurd (cc)
  by false i h e = absurd (cc)

-- a text that is UTF-8 and not read holds nothing
pub nothing_read : (x made : List ℕ) → enveloped x ≡ Some made → (IsUtf8 made → read made ≡ None) → envelope_read x ≡ Ok None
nothing_read x made e none = ap (λ o. read_if_any (option_and_then read o)) e ∙ ap read_if_any (none (made_utf8 x made e))

-- the text of an envelope is the result
pub made_envelope : (x made : List ℕ) → enveloped x ≡ Some made → is_envelope_value (json.document made) ≡ true
made_envelope x made e = by (is_utf8 (joined (filter goes (members_of x)))) (is_envelope (envelope_of x)) refl e where
  second : (b c : Bool) → (b && c) ≡ true → c ≡ true
  second true c h = h
  second false c h = absurd (cc)

  by : (u i : Bool) → is_envelope (envelope_of x) ≡ i → cond (u && i) (Some (envelope_of x)) None ≡ Some made → is_envelope_value (json.document made) ≡ true
  by true true h e = subst (λ t. is_envelope_value (json.document t) ≡ true) (same_some (envelope_of x) made e) (second (is_utf8 (envelope_of x)) (is_envelope_value (json.document (envelope_of x))) h)
  by true false h e = absurd (cc)
  by false i h e = absurd (cc)
