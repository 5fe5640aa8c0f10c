-- Requests and parcels for a tied window are tied.
use Rattle.proof_prelude.proofs.{◌≡◌, ◌⊎◌, Bool, true, false, not, ◌||◌, List, [], ◌∷◌, ◌++◌, map, filter, refl, sym, ap, ◌∙◌, subst, inl, inr, list_any, list_all, and_parts, cond_both, both_ways, or_cases, false≢true, not_from_true, not_from_false, bytes_eq-Decides}
use Rattle.rev_core.specs.{RevId, is_among}
use Rattle.rev_tree.specs.{has, missing}
use Rattle.doc_json.specs.Document.{Document}
use Rattle.doc_json.specs.{Choice}
use Rattle.couch_base.specs.{Among, Id, DocumentValue, DatabaseValue, tree_of, RowValue, WindowValue, WantedValue, AskedValue, ParcelValue, want_first, wanted, revs_diff, open_revs, gone_of, brings, is_rev_of, is_answered, IsParcel, IsLater, any_member, all_member}
use Rattle.repl_target.specs.{IsTiedWindow, Asks, Names, IsTiedAsked, IsTiedParcel}
use Rattle.repl_peer.proofs.{Among-filter, Among-filtered}

-- ---- requesting

want-cases : (id : Id) (revs : List RevId) (others : List WantedValue) (q : Id) (r : RevId) → Asks (want_first id revs others) q r → ((id ≡ q) × Among r revs) ⊎ Asks others q r
want-cases id [] others q r a = inr a
want-cases id (x ∷ revs) others q r a =
    elim a.1 [
      | inl e ↦ inl (ap (λ (y : WantedValue). y.id) (sym e) ∙ a.2, subst (λ (y : WantedValue). Among r y.revs) e a.3)
      | inr m ↦ inr (a.0, m, a.2, a.3)
    ]

want-here : (id : Id) (revs : List RevId) (others : List WantedValue) (r : RevId) → Among r revs → Asks (want_first id revs others) id r
want-here id [] others r m = absurd m
want-here id (x ∷ revs) others r m = (record { id = id; revs = x ∷ revs }, inl refl, refl, m)

want-others : (id : Id) (revs : List RevId) (others : List WantedValue) (q : Id) (r : RevId) → Asks others q r → Asks (want_first id revs others) q r
want-others id [] others q r a = a
want-others id (x ∷ revs) others q r a = (a.0, inr a.1, a.2, a.3)

wanted-named : (ds : List DocumentValue) (rows : List RowValue) (id : Id) (r : RevId) → Asks (wanted ds rows) id r → Names rows id r
wanted-named ds [] id r a = absurd a.1
wanted-named ds (x ∷ rows) id r a =
    elim (want-cases x.id (missing (tree_of ds x.id) x.leaves) (wanted ds rows) id r a) [
      | inl h ↦ (x, inl refl, h.0, (Among-filter (λ l. not (has (tree_of ds x.id) l)) r x.leaves h.1).0)
      | inr b ↦ let k = wanted-named ds rows id r b in (k.0, inr k.1, k.2, k.3)
    ]

wanted-whole : (ds : List DocumentValue) (rows : List RowValue) (id : Id) (r : RevId) (x : RowValue) → Among x rows → x.id ≡ id → Among r x.leaves → has (tree_of ds id) r ≡ false → Asks (wanted ds rows) id r
wanted-whole ds [] id r x m e l h = absurd m
wanted-whole ds (y ∷ rows) id r x (inl i) e l h =
    let same : y.id ≡ id = ap (λ (z : RowValue). z.id) (sym i) ∙ e in
    let m : Among r y.leaves = subst (λ (z : RowValue). Among r z.leaves) i l in
    let n : not (has (tree_of ds y.id) r) ≡ true = ap (λ z. not (has (tree_of ds z) r)) same ∙ not_from_false _ h in
    subst (λ (z : Id). Asks (wanted ds (y ∷ rows)) z r) same (want-here y.id _ (wanted ds rows) r (Among-filtered (λ l. not (has (tree_of ds y.id) l)) r y.leaves m n))
wanted-whole ds (y ∷ rows) id r x (inr m) e l h =
    want-others y.id _ (wanted ds rows) id r (wanted-whole ds rows id r x m e l h)

pub IsTiedAsked-revs_diff : (target : DatabaseValue) (w : WindowValue) → IsTiedAsked target w (revs_diff target w)
IsTiedAsked-revs_diff target w =
    record {
      lo = refl;
      hi = refl;
      named = λ id r a. wanted-named target.docs w.rows id r a;
      whole = λ id r n h. wanted-whole target.docs w.rows id r n.0 n.1 n.2 n.3 h;
    }

has-before : (a b : DatabaseValue) → IsLater a b → (id : Id) (r : RevId) → has (tree_of b.docs id) r ≡ false → has (tree_of a.docs id) r ≡ false
has-before a b later id r e = go (has (tree_of a.docs id) r) refl
  where
    go : (v : Bool) → has (tree_of a.docs id) r ≡ v → v ≡ false
    go true h = absurd (both_ways _ e (later.has id r h))
    go false h = refl

pub IsTiedAsked-later : (a b : DatabaseValue) (w : WindowValue) (x : AskedValue) → IsLater a b → IsTiedAsked a w x → IsTiedAsked b w x
IsTiedAsked-later a b w x later h = record { lo = h.lo; hi = h.hi; named = h.named; whole = λ id r n e. h.whole id r n (has-before a b later id r e) }

-- ---- fetching

AllThere : List DocumentValue → List WantedValue → Type 0
AllThere ds ws = (id : Id) (r : RevId) → Asks ws id r → has (tree_of ds id) r ≡ true

filter-none : {X : Type 0} (p : X → Bool) (xs : List X) → ((x : X) → Among x xs → p x ≡ false) → filter p xs ≡ []
filter-none p [] h = refl
filter-none p (x ∷ xs) h =
    cond_both (p x) (x ∷ filter p xs) (filter p xs) (λ l. l ≡ [])
    (λ yes. absurd (both_ways _ (h x (inl refl)) yes))
    (λ _. filter-none p xs (λ y m. h y (inr m)))

gone-none : (ds : List DocumentValue) (ws : List WantedValue) → AllThere ds ws → gone_of ds ws ≡ []
unfolding AllThere
gone-none ds [] h = refl
gone-none ds (w ∷ ws) h =
    let e : missing (tree_of ds w.id) w.revs ≡ [] = filter-none (λ r. not (has (tree_of ds w.id) r)) w.revs (λ r m. not_from_true _ (h w.id r (w, inl refl, refl, m))) in
    ap (λ (rs : List RevId). map (λ r. (w.id, r)) rs ++ gone_of ds ws) e ∙ gone-none ds ws (λ id r a. h id r (a.0, inr a.1, a.2, a.3))

-- the leaves of a tied window are in their trees, so nothing is gone
pub IsTiedParcel-open_revs : (source target : DatabaseValue) (c : Choice) (w : WindowValue) (a : AskedValue) → IsTiedWindow source c w → IsTiedAsked target w a → IsTiedParcel target w (open_revs source a)
unfolding AllThere
IsTiedParcel-open_revs source target c w a tied h =
    record {
      asked = h;
      gone = gone-none source.docs a.docs (λ id r k. (let n = h.named id r k in subst (λ (z : Id). has (tree_of source.docs z) r ≡ true) n.2 (tied.leaves n.0 n.1 r n.3)));
    }

-- if nothing is gone, each requested revision is in the ancestry of a fetched document of its id
pub brought : (p : ParcelValue) → IsParcel p → p.gone ≡ [] → (id : Id) (r : RevId) → Asks p.asked.docs id r → (d : Document) × Among d p.docs × (d.id ≡ id) × (is_among r d.ancestry ≡ true)
brought p parcel none id r a =
    let answered : is_answered p.docs p.gone a.0 ≡ true = all_member (is_answered p.docs p.gone) a.0 p.asked.docs parcel.answered a.1 in
    let each : list_all (λ r. list_any (brings a.0.id r) p.docs || list_any (is_rev_of a.0.id r) p.gone) a.0.revs ≡ true = answered in
    let here : (list_any (brings a.0.id r) p.docs || list_any (is_rev_of a.0.id r) p.gone) ≡ true = all_member (λ r. list_any (brings a.0.id r) p.docs || list_any (is_rev_of a.0.id r) p.gone) r a.0.revs each a.3 in
    elim (or_cases _ _ here) [
      | inl some ↦
          let d = any_member (brings a.0.id r) p.docs some in
          let both = and_parts _ _ d.2 in
          (d.0, d.1, (bytes_eq-Decides d.0.id a.0.id).0 both.0 ∙ a.2, both.1)
      | inr gone ↦ absurd (false≢true (sym (ap (list_any (is_rev_of a.0.id r)) none) ∙ gone))
    ]
