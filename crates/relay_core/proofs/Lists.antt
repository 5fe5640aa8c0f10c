-- Lists of documents and rows.
use Rattle.proof_prelude.proofs.{◌≡◌, ℕ, ◌+◌, ◌-◌, ◌<◌, suc, Bor, Option, None, Some, option_map, option_copied, take, min, refl, arith, length-drop, Bool, true, List, [], ◌∷◌, ◌++◌, ◌==◌, Vec, Global, vec_len, nil_from_length, eqb-true, filter, get_or, drop, length, string_bytes, ap, ap₂, sym, ◌∙◌, add-one, append_assoc, drop-cons}
use Rattle.std.proofs.lemmas.List.{take_min, drop_min, take_all}
use Rattle.relay_core.specs.declared.messages.Fault.{Fault}
use Rattle.relay_core.specs.declared.messages.DocLeaves.{DocLeaves}
use Rattle.relay_core.specs.Messages.{Text, DocView}
use Rattle.relay_core.specs.Views.{texts_of, doc_view, docs_view, fault_view}
use Rattle.relay_core.specs.Leaves.{doc_if_any, docs_where}

-- an element, and the elements after it
pub at_drop : {A : Type 0} (xs : List A) (i : ℕ) (x : A) → i < length xs → x ≡ get_or xs i x → drop i xs ≡ x ∷ drop (i + 1) xs
at_drop xs i x l e = drop-cons xs i x l ∙ ap (λ y. y ∷ drop (suc i) xs) (sym e) ∙ ap (λ n. x ∷ drop n xs) (sym (add-one i))

-- a document more is filtered
pub one_more : (p : Text → Text → Bool) (docs : List DocLeaves) (i : ℕ) (x : DocLeaves) (old new all : List DocView) (id key : Text) (revs : List Text)
    → i < length docs → x ≡ get_or docs i x → id ≡ string_bytes x.id → key ≡ string_bytes x.id → revs ≡ filter (λ r. p key r) (texts_of x.revs.items)
    → new ≡ old ++ doc_if_any id revs → old ++ docs_where p (docs_view (drop i docs)) ≡ all → new ++ docs_where p (docs_view (drop (i + 1) docs)) ≡ all
one_more p docs i x old new all id key revs l is id_is key_is revs_is new_is before =
    let rest : List DocView = docs_where p (docs_view (drop (i + 1) docs)) in
    let same : doc_if_any id revs ≡ doc_if_any (string_bytes x.id) (filter (λ r. p (string_bytes x.id) r) (texts_of x.revs.items)) =
    ap₂ doc_if_any id_is (revs_is ∙ ap (λ (k : Text). filter (λ r. p k r) (texts_of x.revs.items)) key_is) in
    ap (λ (ds : List DocView). ds ++ rest) new_is ∙ append_assoc old (doc_if_any id revs) rest ∙ ap (λ (ds : List DocView). old ++ (ds ++ rest)) same
    ∙ ap (λ (ds : List DocLeaves). old ++ docs_where p (docs_view ds)) (sym (at_drop docs i x l is)) ∙ before

-- a part of a list, by bounds that are cut to its length
pub part_is : {A : Type 0} (xs : List A) (k s : ℕ) → take (min s (length (take (length xs - min k (length xs)) (drop (min k (length xs)) xs)))) (take (length xs - min k (length xs)) (drop (min k (length xs)) xs)) ≡ take s (drop k xs)
part_is xs k s =
    let f : ℕ = min k (length xs) in
    take_min s (take (length xs - f) (drop f xs))
    ∙ ap (λ ys. take s ys) (take_all (length xs - f) (drop f xs) (omega (arith, length-drop f xs)) ∙ drop_min k xs)

pub fault_is : (o : Option (Bor Fault)) → option_map (λ f. fault_view f.now) o ≡ option_map fault_view (option_copied o)
fault_is None = refl
fault_is (Some f) = refl

pub nil_of_length : {A : Type 0} (v : Vec A Global) → true ≡ (vec_len v == 0) → v.items ≡ []
nil_of_length v e = nil_from_length v.items (sym v.ok.0 ∙ eqb-true (vec_len v) 0 (sym e))

-- a carry of one document
pub part_one : (xs : List DocLeaves) (k s : ℕ) (d : DocLeaves) → s ≡ 1 → k < length xs → d ≡ get_or xs k d → docs_view (take s (drop k xs)) ≡ doc_view d ∷ []
part_one xs k s d one l e =
    ap (λ (n : ℕ). docs_view (take n (drop k xs))) one ∙ ap (λ (ys : List DocLeaves). docs_view (take 1 ys)) (at_drop xs k d l e)
