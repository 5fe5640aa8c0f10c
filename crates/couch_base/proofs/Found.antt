-- The result of a lookup by id.
use Rattle.proof_prelude.proofs.{◌≡◌, ℕ, List, [], ◌∷◌, Option, Some, None, Bool, true, false, cond, sym, ap, ◌∙◌, refl, arith, inl, inr, cond_both, both_ways, nat_cmp, is_at, unwrap_or, unsigned_ties, bytes_eq, same_Some, none-some, eqb-true}
use Rattle.rev_tree.specs.{no_revisions}
use Rattle.couch_base.specs.{id_is, id_same, Among, Id, tree_in, tree_of, TableValue, at_seq, documents, documents_of, feed_of, found, seq_of, tree_at, IsKept, Kept}

-- sequences that compare as equal are equal
pub seq_is : (a b : ℕ) → is_at (nat_cmp a) b ≡ true → a ≡ b
seq_is a b h = eqb-true a b (unsigned_ties a b ∙ h)

pub seq_same : (a : ℕ) → is_at (nat_cmp a) a ≡ true
seq_same a = sym (unsigned_ties a a) ∙ grind (arith)

-- an id that the table does not have is not a document's
pub none_in : (g : Id → Option Kept) (index : List (ℕ × Id)) (id : Id) → ((e : ℕ × Id) → Among e index → seq_of (g e.1) ≡ Some e.0) → g id ≡ None → tree_in (documents g index) id ≡ None
none_in g [] id held gone = refl
none_in g (e ∷ es) id held gone =
    cond_both (bytes_eq e.1 id) (Some (tree_at (g e.1))) (tree_in (documents g es) id) (λ o. o ≡ None)
    (λ same. absurd (none-some e.0 (sym (ap seq_of (ap g (id_is e.1 id same) ∙ gone)) ∙ held e (inl refl))))
    (λ _. none_in g es id (λ x m. held x (inr m)) gone)

pub not_first : (b : Bool) (x y : Id) (o : Option Id) → cond b (Some x) o ≡ Some y → bytes_eq x y ≡ false → o ≡ Some y
not_first true x y o h apart = absurd (both_ways (bytes_eq x y) apart (ap (bytes_eq x) (sym (same_Some x y h)) ∙ id_same x))
not_first false x y o h apart = h

-- an id that the index has at its sequence is a document's
pub found_in : (g : Id → Option Kept) (index : List (ℕ × Id)) (id : Id) (k : Kept) → g id ≡ Some k → at_seq k.seq index ≡ Some id → tree_in (documents g index) id ≡ Some k.tree
found_in g [] id k is at = absurd (none-some id at)
found_in g (e ∷ es) id k is at =
    cond_both (bytes_eq e.1 id) (Some (tree_at (g e.1))) (tree_in (documents g es) id) (λ o. o ≡ Some k.tree)
    (λ same. ap (λ o. Some (tree_at o)) (ap g (id_is e.1 id same) ∙ is))
    (λ apart. found_in g es id k is (not_first (is_at (nat_cmp k.seq) e.0) e.1 id (at_seq k.seq es) at apart))

-- the tree of a document is the table's
pub tree_of-documents_of : (t : TableValue) → IsKept t → (id : Id) → tree_of (documents_of t) id ≡ tree_at (found t.entries id)
tree_of-documents_of t kept id = go (found t.entries id) refl
  where
    go : (o : Option Kept) → found t.entries id ≡ o → tree_of (documents_of t) id ≡ tree_at (found t.entries id)
    go None is = ap (λ o. unwrap_or o no_revisions) (none_in (found t.entries) (feed_of t.entries t.rows) id kept.table.held is) ∙ sym (ap tree_at is)
    go (Some k) is = ap (λ o. unwrap_or o no_revisions) (found_in (found t.entries) (feed_of t.entries t.rows) id k is (kept.table.indexed id k is)) ∙ sym (ap tree_at is)
