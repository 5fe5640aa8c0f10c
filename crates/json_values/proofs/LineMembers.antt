-- The members of a value of a line.
use Rattle.proof_prelude.proofs.{◌≡◌, ℕ, List, true, false, Some, Option, Ordering, Less, Equal, Greater, nat_cmp, is_eq, bytes_eq, refl, ◌∙◌, match_ordering, slice_cmp, is_eq-slice_cmp}
use Rattle.serde_json.specs.Data.{Data, Members, member}
use Rattle.serde_json.specs.Find.{get_member}

matched : (o : Ordering) (a b : Option Data) → is_eq o ≡ true → match_ordering o a b a ≡ b
matched Less a b e = absurd (cc)
matched Equal a b e = refl
matched Greater a b e = absurd (cc)

passed : (o : Ordering) (a b : Option Data) → is_eq o ≡ false → match_ordering o a b a ≡ a
passed Less a b e = refl
passed Equal a b e = absurd (cc)
passed Greater a b e = refl

pub get_member-here : (k l : List ℕ) (d : Data) (ms : Members) → bytes_eq k l ≡ true → get_member k (member l d ms) ≡ Some d
get_member-here k l d ms same = matched (slice_cmp nat_cmp k l) (get_member k ms) (Some d) (is_eq-slice_cmp k l ∙ same)

pub get_member-past : (k l : List ℕ) (d : Data) (ms : Members) → bytes_eq k l ≡ false → get_member k (member l d ms) ≡ get_member k ms
get_member-past k l d ms other = passed (slice_cmp nat_cmp k l) (get_member k ms) (Some d) (is_eq-slice_cmp k l ∙ other)
