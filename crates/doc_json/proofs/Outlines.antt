-- The serialized form of data whose numbers read back and whose members are in order.
use Rattle.proof_prelude.proofs.{◌≡◌, ℕ, List, [], Bool, true, false, cond, Some, option_map, option_and_then, Less, Greater, nat_cmp, refl, sym, ap, ap₂, ◌∙◌, subst, arith, if◌then◌else◌, or_parts, nat_list_cmp_total, slice_cmp, ordering_reverse, match_ordering}
use Rattle.json.specs.Json as json
use Rattle.json.specs.Lex.{tokens}
use Rattle.json.specs.Tree.{json_tokens, HasNumbers, ItemsHaveNumbers, MembersHaveNumbers}
use Rattle.serde_json.specs.Data.{Data, number, array, object, Items, no_items, item, Members, no_members, member, put}
use Rattle.serde_json.specs.Read.{of_json, of_items, of_members}
use Rattle.serde_json.specs.Written.{number_text, outline, items_outline, members_outline, blank, blank_items, blank_members, compact_text, has_float, items_have_float, members_have_float}
use Rattle.serde_json.proofs.Texts.{print-outline, unless_float-number_of}
use Rattle.json_values.specs.{AllBehind, IsOrdered, AreOrdered, IsInOrderOfNames}
use Rattle.doc_json.specs.{IsWritten, is_special, plain_members, AllReadBack, ItemsReadBack, MembersReadBack}
use Rattle.doc_json.proofs.BodyReads.{is_written}
use Rattle.doc_json.proofs.WrittenTexts.{compact_tokens, depth-outline}

-- ---- members that are inserted one after another

abbrev onto : Members → Members → Members
onto no_members more = more
onto (member k d ms) more = member k d (onto ms more)

onto-none : (ms : Members) → onto ms no_members ≡ ms
onto-none no_members = refl
onto-none (member k d ms) = ap (member k d) (onto-none ms)

onto-one : (found : Members) (k : List ℕ) (d : Data) (ms : Members) → onto found (member k d ms) ≡ onto (onto found (member k d no_members)) ms
onto-one no_members k d ms = refl
onto-one (member l e found) k d ms = ap (member l e) (onto-one found k d ms)

below_middle : (l : List ℕ) (found : Members) (k : List ℕ) (d : Data) (ms : Members) → AllBehind l (onto found (member k d ms)) → slice_cmp nat_cmp l k ≡ Less
below_middle l no_members k d ms h = h.0
below_middle l (member m e found) k d ms h = below_middle l found k d ms h.1

above : (k l : List ℕ) → slice_cmp nat_cmp l k ≡ Less → slice_cmp nat_cmp k l ≡ Greater
above k l less = nat_list_cmp_total.antisymm k l ∙ ap ordering_reverse less

put_last : (found : Members) (k : List ℕ) (d : Data) (ms : Members) → IsInOrderOfNames (onto found (member k d ms)) → put k d found ≡ onto found (member k d no_members)
put_last no_members k d ms h = refl
put_last (member l e found) k d ms h =
    ap (λ o. match_ordering o (member k d (member l e found)) (member l d found) (member l e (put k d found))) (above k l (below_middle l found k d ms h.0)) ∙ ap (member l e) (put_last found k d ms h.2)

middle : (found : Members) (k : List ℕ) (d : Data) (ms : Members) → IsInOrderOfNames (onto found (member k d ms)) → IsOrdered d
middle no_members k d ms h = h.1
middle (member l e found) k d ms h = middle found k d ms h.2

-- the numbers of the outline can be written, none is a float, and the outline reads as the data
mutual
  outlined : (d : Data) → AllReadBack d → IsOrdered d → has_float d ≡ false → HasNumbers (outline d) × (blank (outline d) ≡ outline d) × (of_json (outline d) ≡ Some d)
  outlined (number n) h o e = (h.0, ap json.number (unless_float-number_of _ n h.1 ∙ ap (λ b. cond b [] (number_text n)) e), ap (option_map number) h.1)
  outlined (array ds) h o e = let all = items_outlined ds h o e in (all.0, ap json.array all.1, ap (option_map array) all.2)
  outlined (object ms) h o e = let all = members_outlined ms no_members h o e in (all.0, ap json.object all.1, ap (option_map object) all.2)
  outlined _ h o e = (tt, refl, refl)

  items_outlined : (ds : Items) → ItemsReadBack ds → AreOrdered ds → items_have_float ds ≡ false
      → ItemsHaveNumbers (items_outline ds) × (blank_items (items_outline ds) ≡ items_outline ds) × (of_items (items_outline ds) ≡ Some ds)
  items_outlined no_items h o e = (tt, refl, refl)
  items_outlined (item d ds) h o e =
      let p = or_parts (has_float d) _ e in
      let one = outlined d h.0 o.0 p.0 in
      let more = items_outlined ds h.1 o.1 p.1 in
      ((one.0, more.0), ap₂ json.item one.1 more.1, ap (option_and_then (λ e. option_map (item e) (of_items (items_outline ds)))) one.2 ∙ ap (option_map (item d)) more.2)

  members_outlined : (ms found : Members) → MembersReadBack ms → IsInOrderOfNames (onto found ms) → members_have_float ms ≡ false
      → MembersHaveNumbers (members_outline ms) × (blank_members (members_outline ms) ≡ members_outline ms) × (of_members (members_outline ms) found ≡ Some (onto found ms))
  members_outlined no_members found h o e = (tt, refl, ap Some (sym (onto-none found)))
  members_outlined (member k d ms) found h o e =
      let p = or_parts (has_float d) _ e in
      let one = outlined d h.0 (middle found k d ms o) p.0 in
      let more = members_outlined ms (onto found (member k d no_members)) h.1 (subst IsInOrderOfNames (onto-one found k d ms) o) p.1 in
      let read = ap (option_and_then (λ e. of_members (members_outline ms) (put k e found))) one.2 ∙ ap (of_members (members_outline ms)) (put_last found k d ms o) in
      ((one.0, more.0), ap₂ (json.member k) one.1 more.1, read ∙ more.2 ∙ ap Some (sym (onto-one found k d ms)))

-- the compact form of such data is what the writer guarantees
pub written_text : (d : Data) (text : List ℕ) → text ≡ compact_text d → AllReadBack d → IsOrdered d → has_float d ≡ false → IsWritten text d
written_text d text is numbers order exact =
    let all = outlined d numbers order exact in
    is_written d (json_tokens (outline d)) text (outline d, refl, all.2, omega (arith, depth-outline d), all.1) (is ∙ sym (print-outline d)) (ap tokens is ∙ compact_tokens d all.0) exact

-- ---- the plain members are in order too

behind_if : (b : Bool) (k l : List ℕ) (d : Data) (ms : Members) → slice_cmp nat_cmp k l ≡ Less → AllBehind k ms → AllBehind k (if b then ms else member l d ms)
behind_if true k l d ms less h = h
behind_if false k l d ms less h = (less, h)

pub behind_plain : (k : List ℕ) (ms : Members) → AllBehind k ms → AllBehind k (plain_members ms)
behind_plain k no_members h = tt
behind_plain k (member l d ms) h = behind_if (is_special l) k l d (plain_members ms) h.0 (behind_plain k ms h.1)
