-- Values that were read are in order.
use Rattle.proof_prelude.proofs.{◌≡◌, ℕ, List, Option, Some, None, option_map, option_and_then, Ordering, Less, Equal, Greater, nat_cmp, refl, ap, subst, ◌∙◌, ⊤, match_ordering, ordering_reverse, slice_cmp, nat_list_cmp_total}
use Rattle.json.specs.Lex.{tokens}
use Rattle.json.specs.Json as json
use Rattle.serde_json.specs.Data.{Data, number, array, object, item, Members, no_members, member, put}
use Rattle.serde_json.specs.Read.{number_of, of_json, of_items, of_members, max_depth, read}
use Rattle.json_values.specs.{AllBehind, IsOrdered, AreOrdered, IsInOrderOfNames}

further : (k l : List ℕ) (ms : Members) → slice_cmp nat_cmp k l ≡ Less → AllBehind l ms → AllBehind k ms
further k l no_members less all = tt
further k l (member y d ms) less all = (nat_list_cmp_total.trans k l y less all.0, further k l ms less all.1)

module _ (k : List ℕ) (d : Data) where
  behind-put : (l : List ℕ) (ms : Members) → slice_cmp nat_cmp l k ≡ Less → AllBehind l ms → AllBehind l (put k d ms)
  behind-put l no_members less all = (less, tt)
  behind-put l (member y e ms) less all = by (slice_cmp nat_cmp k y) (behind-put l ms less all.1)
    where
      by : (o : Ordering) → AllBehind l (put k d ms) → AllBehind l (match_ordering o (member k d (member y e ms)) (member y d ms) (member y e (put k d ms)))
      by Less more = (less, all)
      by Equal more = all
      by Greater more = (all.0, more)

  pub ordered-put : (ms : Members) → IsOrdered d → IsInOrderOfNames ms → IsInOrderOfNames (put k d ms)
  ordered-put no_members new r = (tt, new, tt)
  ordered-put (member y e ms) new r = by (slice_cmp nat_cmp k y) refl (ordered-put ms new r.2)
    where
      by : (o : Ordering) → slice_cmp nat_cmp k y ≡ o → IsInOrderOfNames (put k d ms) → IsInOrderOfNames (match_ordering o (member k d (member y e ms)) (member y d ms) (member y e (put k d ms)))
      by Less is more = ((is, further k y ms is r.0), new, r)
      by Equal is more = (r.0, new, r.2)
      by Greater is more = (behind-put y ms (nat_list_cmp_total.antisymm y k ∙ ap ordering_reverse is) r.0, r.1, more)

abbrev Where : {A : Type 0} → (A → Type 0) → Option A → Type 0
Where P None = ⊤
Where P (Some a) = P a

where-map : {A B : Type 0} (P : A → Type 0) (Q : B → Type 0) (h : A → B) → ((a : A) → P a → Q (h a)) → (o : Option A) → Where P o → Where Q (option_map h o)
where-map P Q h k None x = tt
where-map P Q h k (Some a) x = k a x

where-then : {A B : Type 0} (P : A → Type 0) (Q : B → Type 0) (h : A → Option B) → ((a : A) → P a → Where Q (h a)) → (o : Option A) → Where P o → Where Q (option_and_then h o)
where-then P Q h k None x = tt
where-then P Q h k (Some a) x = k a x

anything : {A : Type 0} (o : Option A) → Where (λ _. ⊤) o
anything None = tt
anything (Some a) = tt

mutual
  ordered-of_json : (j : json.Json) → Where IsOrdered (of_json j)
  ordered-of_json (json.number s) = where-map (λ _. ⊤) IsOrdered number (λ a x. tt) (number_of s) (anything _)
  ordered-of_json (json.array js) = where-map AreOrdered IsOrdered array (λ a x. x) _ (ordered-of_items js)
  ordered-of_json (json.object ms) = where-map IsInOrderOfNames IsOrdered object (λ a x. x) _ (ordered-of_members ms no_members tt)
  ordered-of_json _ = tt

  ordered-of_items : (js : json.Items) → Where AreOrdered (of_items js)
  ordered-of_items json.no_items = tt
  ordered-of_items (json.item j js) = where-then IsOrdered AreOrdered _ (λ d x. where-map AreOrdered AreOrdered (item d) (λ ds y. (x, y)) _ (ordered-of_items js)) _ (ordered-of_json j)

  ordered-of_members : (ms : json.Members) (found : Members) → IsInOrderOfNames found → Where IsInOrderOfNames (of_members ms found)
  ordered-of_members json.no_members found r = r
  ordered-of_members (json.member name j ms) found r = where-then IsOrdered IsInOrderOfNames _ (λ d x. ordered-of_members ms (put name d found) (ordered-put name d found x r)) _ (ordered-of_json j)

pub ordered-read : (text : List ℕ) (d : Data) → read text ≡ Some d → IsOrdered d
ordered-read text d e =
    let o : Option json.Json = option_and_then (λ p. json.if_last p.0 p.1) (json.value max_depth (tokens text)) in
    subst (Where IsOrdered) e (where-then (λ _. ⊤) IsOrdered of_json (λ j x. ordered-of_json j) o (anything o))
