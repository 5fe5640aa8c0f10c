-- A member of an ordered value is ordered, and its strings need no more escapes.
use Rattle.proof_prelude.proofs.{◌≡◌, ℕ, List, Option, Some, Ordering, Less, Equal, Greater, nat_cmp, sym, subst, IfSome, match_ordering, slice_cmp}
use Rattle.serde_json.specs.Data.{Data, object, Members, no_members, member}
use Rattle.serde_json.specs.Find.{get, get_member}
use Rattle.json_values.specs.{IsOrdered, IsInOrderOfNames, ArePlain, AreMembersPlain, PlainTexts}

module _ (p : PlainTexts) where
  abbrev IsPart : Data → Type 0
  IsPart d = IsOrdered d × ArePlain p d

  one_of : (o : Ordering) (e : Data) (rest : Option Data) → IsPart e → IfSome rest IsPart → IfSome (match_ordering o rest (Some e) rest) IsPart
  one_of Less e rest this more = more
  one_of Equal e rest this more = this
  one_of Greater e rest this more = more

  part_member : (k : List ℕ) (ms : Members) → IsInOrderOfNames ms → AreMembersPlain p ms → IfSome (get_member k ms) IsPart
  part_member k no_members order plain = tt
  part_member k (member l e ms) order plain = one_of (slice_cmp nat_cmp k l) e (get_member k ms) (order.1, plain.1) (part_member k ms order.2 plain.2)

  part_get : (k : List ℕ) (d : Data) → IsOrdered d → ArePlain p d → IfSome (get k d) IsPart
  part_get k (object ms) order plain = part_member k ms order plain
  part_get k _ order plain = tt

  pub part_found : (k : List ℕ) (d e : Data) → Some e ≡ get k d → IsOrdered d → ArePlain p d → IsOrdered e × ArePlain p e
  part_found k d e is order plain = subst (λ o. IfSome o IsPart) (sym is) (part_get k d order plain)
