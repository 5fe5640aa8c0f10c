-- Members in order of their names, with and without special ones.
use Rattle.proof_prelude.proofs.{◌≡◌, ℕ, List, Bool, true, false, ◌||◌, cond, Ordering, Less, Equal, Greater, Option, Some, None, option_and_then, nat_cmp, is_eq, refl, sym, ap, ◌∙◌, ⊤, match_ordering, ordering_reverse, slice_cmp, nat_list_cmp_total, is_eq-slice_cmp, bytes_eq-Decides, true≢false}
use Rattle.json.specs.Json as json
use Rattle.serde_json.specs.Data.{Data, Members, no_members, member, put}
use Rattle.serde_json.specs.Find.{get_member}
use Rattle.serde_json.specs.Read.{of_json, of_members}
use Rattle.serde_json.proofs.Views.{get_member-put_other}
use Rattle.doc_json.specs.{is_special, plain_members, has_unknown, is_unknown}

-- every name is greater
abbrev pub Above : List ℕ → Members → Type 0
Above k no_members = ⊤
Above k (member name d ms) = (slice_cmp nat_cmp k name ≡ Less) × Above k ms

-- each name is less than the following ones
abbrev pub IsSorted : Members → Type 0
IsSorted no_members = ⊤
IsSorted (member name d ms) = Above name ms × IsSorted ms

turned : (k l : List ℕ) → slice_cmp nat_cmp k l ≡ Greater → slice_cmp nat_cmp l k ≡ Less
turned k l e = nat_list_cmp_total.antisymm l k ∙ ap ordering_reverse e

same_name : (k l : List ℕ) → slice_cmp nat_cmp k l ≡ Equal → k ≡ l
same_name k l e = (bytes_eq-Decides k l).0 (sym (is_eq-slice_cmp k l) ∙ ap is_eq e)

Above-less : (k l : List ℕ) (ms : Members) → slice_cmp nat_cmp k l ≡ Less → Above l ms → Above k ms
Above-less k l no_members e h = tt
Above-less k l (member name d ms) e h = (nat_list_cmp_total.trans k l name e h.0, Above-less k l ms e h.1)

Above-put_at : (o : Ordering) (l k name : List ℕ) (d e : Data) (ms : Members) → slice_cmp nat_cmp l k ≡ Less → Above l (member name e ms) → Above l (put k d ms)
    → Above l (match_ordering o (member k d (member name e ms)) (member name d ms) (member name e (put k d ms)))
Above-put_at Less l k name d e ms less h later = (less, h)
Above-put_at Equal l k name d e ms less h later = h
Above-put_at Greater l k name d e ms less h later = (h.0, later)

Above-put : (l k : List ℕ) (d : Data) (ms : Members) → slice_cmp nat_cmp l k ≡ Less → Above l ms → Above l (put k d ms)
Above-put l k d no_members less h = (less, tt)
Above-put l k d (member name e ms) less h = Above-put_at (slice_cmp nat_cmp k name) l k name d e ms less h (Above-put l k d ms less h.1)

IsSorted-put_at : (o : Ordering) (k name : List ℕ) (d e : Data) (ms : Members) → slice_cmp nat_cmp k name ≡ o → IsSorted (member name e ms) → IsSorted (put k d ms)
    → IsSorted (match_ordering o (member k d (member name e ms)) (member name d ms) (member name e (put k d ms)))
IsSorted-put_at Less k name d e ms is h later = ((is, Above-less k name ms is h.0), h)
IsSorted-put_at Equal k name d e ms is h later = h
IsSorted-put_at Greater k name d e ms is h later = (Above-put name k d ms (turned k name is) h.0, later)

pub IsSorted-put : (k : List ℕ) (d : Data) (ms : Members) → IsSorted ms → IsSorted (put k d ms)
IsSorted-put k d no_members h = (tt, tt)
IsSorted-put k d (member name e ms) h = IsSorted-put_at _ k name d e ms refl h (IsSorted-put k d ms h.1)

-- ---- the plain members

put_first : (k : List ℕ) (d : Data) (ms : Members) → Above k ms → put k d ms ≡ member k d ms
put_first k d no_members h = refl
put_first k d (member name e ms) h = rw h.0 refl

Above-if : (b : Bool) (k name : List ℕ) (d : Data) (ms rest : Members) → slice_cmp nat_cmp k name ≡ Less → Above k rest → Above k (cond b rest (member name d rest))
Above-if true k name d ms rest e h = h
Above-if false k name d ms rest e h = (e, h)

Above-plain : (k : List ℕ) (ms : Members) → Above k ms → Above k (plain_members ms)
Above-plain k no_members h = tt
Above-plain k (member name d ms) h = Above-if (is_special name) k name d ms (plain_members ms) h.0 (Above-plain k ms h.1)

-- a plain member that is prepended, replaced or appended
plain_in_front : (k : List ℕ) (d : Data) (ms : Members) → is_special k ≡ false → Above k ms → plain_members (member k d ms) ≡ put k d (plain_members ms)
plain_in_front k d ms plain h = rw plain (sym (put_first k d (plain_members ms) (Above-plain k ms h)))

plain_in_place : (b : Bool) (k name : List ℕ) (d e : Data) (ms : Members) → b ≡ false → slice_cmp nat_cmp k name ≡ Equal → cond b ms (member name d ms) ≡ put k d (cond b ms (member name e ms))
plain_in_place true k name d e ms plain is = absurd (true≢false plain)
plain_in_place false k name d e ms plain is = rw is refl

plain_behind : (b : Bool) (k name : List ℕ) (d e : Data) (ms rest : Members) → slice_cmp nat_cmp k name ≡ Greater → rest ≡ put k d ms → cond b rest (member name e rest) ≡ put k d (cond b ms (member name e ms))
plain_behind true k name d e ms rest is h = h
plain_behind false k name d e ms rest is h = rw is (ap (member name e) h)

plain-put_at : (o : Ordering) (k name : List ℕ) (d e : Data) (ms : Members) → slice_cmp nat_cmp k name ≡ o → is_special k ≡ false → IsSorted (member name e ms) → plain_members (put k d ms) ≡ put k d (plain_members ms)
    → plain_members (match_ordering o (member k d (member name e ms)) (member name d ms) (member name e (put k d ms))) ≡ put k d (plain_members (member name e ms))
plain-put_at Less k name d e ms is plain h later = plain_in_front k d (member name e ms) plain (is, Above-less k name ms is h.0)
plain-put_at Equal k name d e ms is plain h later = plain_in_place (is_special name) k name d e (plain_members ms) (sym (ap is_special (same_name k name is)) ∙ plain) is
plain-put_at Greater k name d e ms is plain h later = plain_behind (is_special name) k name d e (plain_members ms) _ is later

pub plain-put : (k : List ℕ) (d : Data) (ms : Members) → is_special k ≡ false → IsSorted ms → plain_members (put k d ms) ≡ put k d (plain_members ms)
plain-put k d no_members plain h = rw plain refl
plain-put k d (member name e ms) plain h = plain-put_at _ k name d e ms refl plain h (plain-put k d ms plain h.1)

not_unknown : (k : List ℕ) → is_special k ≡ false → is_unknown k ≡ false
not_unknown k plain = rw plain refl

unknown-put_at : (o : Ordering) (k name : List ℕ) (d e : Data) (ms : Members) → is_unknown k ≡ false → has_unknown (put k d ms) ≡ has_unknown ms
    → has_unknown (match_ordering o (member k d (member name e ms)) (member name d ms) (member name e (put k d ms))) ≡ has_unknown (member name e ms)
unknown-put_at Less k name d e ms known later = ap (λ b. b || (is_unknown name || has_unknown ms)) known
unknown-put_at Equal k name d e ms known later = refl
unknown-put_at Greater k name d e ms known later = ap (λ b. is_unknown name || b) later

pub unknown-put : (k : List ℕ) (d : Data) (ms : Members) → is_unknown k ≡ false → has_unknown (put k d ms) ≡ has_unknown ms
unknown-put k d no_members known = rw known refl
unknown-put k d (member name e ms) known = unknown-put_at (slice_cmp nat_cmp k name) k name d e ms known (unknown-put k d ms known)

-- ---- members that are read and inserted one after another

-- no name is special
abbrev pub ArePlain : json.Members → Type 0
ArePlain json.no_members = ⊤
ArePlain (json.member name j ms) = (is_special name ≡ false) × ArePlain ms

-- the members beside the special ones are as they would be without them
pub record IsBeside (ms : json.Members) (found out : Members) : Type 0 where
  pub plain : of_members ms (plain_members found) ≡ Some (plain_members out)
  pub special : (k : List ℕ) → is_special k ≡ true → get_member k out ≡ get_member k found
  pub known : has_unknown out ≡ has_unknown found

beside_more : (name : List ℕ) (j : json.Json) (ms : json.Members) (found out : Members) (d : Data) → is_special name ≡ false → IsSorted found → of_json j ≡ Some d → IsBeside ms (put name d found) out → IsBeside (json.member name j ms) found out
beside_more name j ms found out d plain sorted e h = record {
  plain = rw e (ap (of_members ms) (sym (plain-put name d found plain sorted)) ∙ h.plain);
  special = λ k special. h.special k special ∙ get_member-put_other k name d found (λ same. true≢false (sym special ∙ ap is_special same ∙ plain));
  known = h.known ∙ unknown-put name d found (not_unknown name plain);
}

beside_at : (name : List ℕ) (j : json.Json) (ms : json.Members) (found out : Members) → is_special name ≡ false → IsSorted found
    → ((d : Data) → of_members ms (put name d found) ≡ Some out → IsBeside ms (put name d found) out)
    → (o : Option Data) → of_json j ≡ o → option_and_then (λ d. of_members ms (put name d found)) o ≡ Some out → IsBeside (json.member name j ms) found out
beside_at name j ms found out plain sorted later None is e = absurd (cc)
beside_at name j ms found out plain sorted later (Some d) is e = beside_more name j ms found out d plain sorted is (later d e)

pub beside : (ms : json.Members) (found out : Members) → ArePlain ms → IsSorted found → of_members ms found ≡ Some out → IsBeside ms found out
beside json.no_members found out plain sorted e =
    let same : found ≡ out = cc in
    record { plain = ap (λ x. Some (plain_members x)) same; special = λ k special. ap (get_member k) (sym same); known = ap has_unknown (sym same) }
beside (json.member name j ms) found out plain sorted e =
    beside_at name j ms found out plain.0 sorted (λ d. beside ms (put name d found) out plain.1 (IsSorted-put name d found sorted)) (of_json j) refl e
