-- Strings that need no escapes stay so while more is read.
use Rattle.proof_prelude.proofs.{◌≡◌, ℕ, suc, ◌+◌, Bool, true, false, cond, List, [], ◌∷◌, ◌++◌, length, take, Ordering, Less, Equal, Greater, nat_cmp, Bor, refl, sym, ap, ◌∙◌, subst, arith, match_ordering, slice_cmp, prefix_len}
use Rattle.serde_json.specs.Data.{Data, string, array, object, Items, no_items, item, Members, no_members, member, put}
use Rattle.json_values.specs.{put_entry, line_view, line_items, line_members, PlainIf, ArePlain, AreItemsPlain, AreMembersPlain, Narrows, PlainTexts, LineValue}
use Rattle.json_values.proofs.LineReads.{Named, members-put}

one_more : (n : ℕ) → 1 + n ≡ suc n
one_more n = omega arith

-- the prefix before the first failing element passes the test
pub passing_front : (p : ℕ → Bool) (xs : List ℕ) → prefix_len p (take (prefix_len p xs) xs) ≡ length (take (prefix_len p xs) xs)
passing_front p [] = refl
passing_front p (x ∷ xs) = by (p x) refl (passing_front p xs)
  where
    by : (b : Bool) → p x ≡ b → prefix_len p (take (prefix_len p xs) xs) ≡ length (take (prefix_len p xs) xs)
        → prefix_len p (take (cond b (1 + prefix_len p xs) 0) (x ∷ xs)) ≡ length (take (cond b (1 + prefix_len p xs) 0) (x ∷ xs))
    by false is more = refl
    by true is more =
        let front = take (prefix_len p xs) xs in
        let longer : take (1 + prefix_len p xs) (x ∷ xs) ≡ x ∷ front = ap (λ n. take n (x ∷ xs)) (one_more (prefix_len p xs)) in
        let run : prefix_len p (x ∷ front) ≡ 1 + prefix_len p front = ap (λ b. cond b (1 + prefix_len p front) 0) is in
        ap (prefix_len p) longer ∙ run ∙ ap (λ n. 1 + n) more ∙ one_more (length front) ∙ sym (ap length longer)

pub narrows_on : (a b c : PlainTexts) → Narrows a b → Narrows b c → Narrows a c
narrows_on a b c first next = (λ known. first.0 (next.0 known), λ known. first.1 (next.1 known))

module _ (old new : PlainTexts) (less : Narrows old new) where
  mutual
    pub plain_still : (d : Data) → ArePlain old d → ArePlain new d
    plain_still (string s) plain = λ known. plain (less.1 known)
    plain_still (array ds) plain = items_still ds plain
    plain_still (object ms) plain = members_still ms plain
    plain_still _ plain = tt

    pub items_still : (ds : Items) → AreItemsPlain old ds → AreItemsPlain new ds
    items_still no_items plain = tt
    items_still (item d ds) plain = (plain_still d plain.0, items_still ds plain.1)

    pub members_still : (ms : Members) → AreMembersPlain old ms → AreMembersPlain new ms
    members_still no_members plain = tt
    members_still (member k d ms) plain = (λ known. plain.0 (less.0 known), plain_still d plain.1, members_still ms plain.2)

module _ (p : PlainTexts) where
  pub items_more : (vs : List LineValue) (v : LineValue) → AreItemsPlain p (line_items vs) → ArePlain p (line_view v) → AreItemsPlain p (line_items (vs ++ v ∷ []))
  items_more [] v plain new = (new, tt)
  items_more (w ∷ vs) v plain new = (plain.0, items_more vs v plain.1 new)

  put_plain : (k : List ℕ) (d : Data) (ms : Members) → PlainIf p.names k → ArePlain p d → AreMembersPlain p ms → AreMembersPlain p (put k d ms)
  put_plain k d no_members name new plain = (name, new, tt)
  put_plain k d (member y e ms) name new plain = by (slice_cmp nat_cmp k y) (put_plain k d ms name new plain.2)
    where
      by : (o : Ordering) → AreMembersPlain p (put k d ms) → AreMembersPlain p (match_ordering o (member k d (member y e ms)) (member y d ms) (member y e (put k d ms)))
      by Less more = (name, new, plain)
      by Equal more = (plain.0, new, plain.2)
      by Greater more = (plain.0, plain.1, more)

  pub members_more : (name : Bor (List ℕ)) (v : LineValue) (es : List Named) → PlainIf p.names name.now → ArePlain p (line_view v) → AreMembersPlain p (line_members es)
      → AreMembersPlain p (line_members (put_entry name v es))
  members_more name v es named new plain = subst (AreMembersPlain p) (sym (members-put name v es)) (put_plain name.now (line_view v) (line_members es) named new plain)
