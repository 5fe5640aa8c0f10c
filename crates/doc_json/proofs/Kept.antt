-- What was found for a name among the members so far.
use Rattle.proof_prelude.proofs.{◌≡◌, ℕ, List, Bool, true, false, cond, Option, Some, None, is_some, refl, sym, ap, ◌∙◌, option_or, nat_cmp, match_ordering, is_eq, bytes_eq, slice_cmp, is_eq-slice_cmp, bytes_eq-Decides, false≢true, Ordering, Less, true≢false, false_from_ne_true}
use Rattle.serde_json.specs.Data.{Data, Members, no_members, member}
use Rattle.serde_json.specs.Find.{get_member}

pub none_yet : {X : Type 0} (o p : Option X) → false ≡ is_some o → option_or o p ≡ p
none_yet None p e = refl
none_yet (Some x) p e = absurd (true≢false (sym e))

chosen : (o : Ordering) (d : Data) (rest : Option Data) (b : Bool) → is_eq o ≡ b → match_ordering o rest (Some d) rest ≡ cond b (Some d) rest
chosen Less d rest b e = ap (λ t. cond t (Some d) rest) e
chosen _ d rest b e = ap (λ t. cond t (Some d) rest) e

turned : (xs ys : List ℕ) (b : Bool) → b ≡ bytes_eq xs ys → bytes_eq ys xs ≡ b
turned xs ys true e = (bytes_eq-Decides ys xs).1 (sym ((bytes_eq-Decides xs ys).0 (sym e)))
turned xs ys false e = false_from_ne_true _ (λ t. false≢true (e ∙ (bytes_eq-Decides xs ys).1 (sym ((bytes_eq-Decides ys xs).0 t))))

-- the member with a name, or the rest
pub looked_at : (k name : List ℕ) (d : Data) (ms : Members) (b : Bool) → b ≡ bytes_eq name k → get_member k (member name d ms) ≡ cond b (Some d) (get_member k ms)
looked_at k name d ms b e = chosen (slice_cmp nat_cmp k name) d (get_member k ms) b (is_eq-slice_cmp k name ∙ turned name k b e)

-- one more member
pub one_more : (k name : List ℕ) (d : Data) (ms : Members) (o found out : Option Data)
    → found ≡ option_or o (get_member k (member name d no_members)) → option_or o (get_member k (member name d ms)) ≡ out → option_or found (get_member k ms) ≡ out
one_more k name d ms (Some x) found out e h = ap (λ t. option_or t (get_member k ms)) e ∙ h
one_more k name d ms None found out e h = ap (λ t. option_or t (get_member k ms)) e ∙ behind (slice_cmp nat_cmp k name) d (get_member k ms) ∙ h
  where
    behind : (o : Ordering) (d : Data) (rest : Option Data) → option_or (match_ordering o None (Some d) None) rest ≡ match_ordering o rest (Some d) rest
    behind Less d rest = refl
    behind _ d rest = refl

pub more : (k name : List ℕ) (d : Data) (ms before : Members) (o found out : Option Data) → before ≡ member name d ms
    → found ≡ option_or o (get_member k (member name d no_members)) → option_or o (get_member k before) ≡ out → option_or found (get_member k ms) ≡ out
more k name d ms before o found out seen e h = one_more k name d ms o found out e (ap (λ b. option_or o (get_member k b)) (sym seen) ∙ h)
