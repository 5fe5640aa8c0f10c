-- Missing leaves and covered leaves.
use Rattle.proof_prelude.proofs.{◌≡◌, ℕ, ◌+◌, not, ◌||◌, List, [], ◌∷◌, length, refl, sym, ap, ◌∙◌, subst, inl, inr, arith, list_any, or_cases, false≢true, cases_Bool, nil_from_length, sum_by-cons, sum_by}
use Rattle.rev_core.specs.{RevId}
use Rattle.rev_tree.specs.{has, leaves, missing}
use Rattle.doc_json.specs.{Choice}
use Rattle.couch_base.specs.{Among, Among-map, Among-mapped, any_member, LawfulDatabase, tree_of, RowValue, chosen_feed}
use Rattle.repl_peer.specs.{PeerValue, SessionValue, in_ledger}
use Rattle.repl_peer.proofs.{Among-filter, Among-filtered}
use Rattle.repl_target.specs.{CoversFeed}
use Rattle.repl_target.proofs.{chosen_member, tree_of-member}
use Rattle.repl_inspect.specs.{counted, ComparisonValue, compared_at, comparisons, HasNoLedger, MissingIsRefused, total_of}

-- ---- sums

zero_counted : (n : ℕ) → counted n ≡ 0 → n ≡ 0
zero_counted n h = grind (arith, h)

member_zero : {X : Type 0} (f : X → ℕ) (xs : List X) → sum_by f xs ≡ 0 → (x : X) → Among x xs → f x ≡ 0
member_zero f [] h x m = absurd m
member_zero f (y ∷ xs) h x m =
    let parts = sum_by-cons f y xs in
    let none : f y + sum_by f xs ≡ 0 = sym parts ∙ h in
    elim m [
      | inl e ↦ ap f e ∙ omega (arith, none)
      | inr n ↦ member_zero f xs (omega (arith, none)) x n
    ]

all_zero : {X : Type 0} (f : X → ℕ) (xs : List X) → ((x : X) → Among x xs → f x ≡ 0) → sum_by f xs ≡ 0
all_zero f [] h = refl
all_zero f (y ∷ xs) h =
    let here = h y (inl refl) in
    let later = all_zero f xs (λ x m. h x (inr m)) in
    sum_by-cons f y xs ∙ omega (arith, here, later)

nobody : {X : Type 0} (xs : List X) → ((x : X) → Among x xs → ⊥) → xs ≡ []
nobody [] h = refl
nobody (x ∷ xs) h = absurd (h x (inl refl))

-- ---- a source's selected feed and a target

module _ (source target : PeerValue) (chosen : Choice) (law : LawfulDatabase source.db) where
  abbrev rows : List RowValue
  rows = chosen_feed chosen source.db 0 source.db.update_seq

  -- the leaves of a row that the target's tree lacks
  abbrev lost : RowValue → List RevId
  lost row = missing (tree_of target.db.docs row.id) row.leaves

  row_leaves : (row : RowValue) → Among row rows → leaves (tree_of source.db.docs row.id) ≡ row.leaves
  row_leaves row m =
      let d = chosen_member chosen source.db 0 source.db.update_seq row m in
      ap (λ (r : RowValue). leaves (tree_of source.db.docs r.id)) d.2
      ∙ ap leaves (tree_of-member source.db.docs d.0 law.distinct d.1)
      ∙ sym (ap (λ (r : RowValue). r.leaves) d.2)

  lost_is : (row : RowValue) → Among row rows → (compared_at source.db target.db row.id).missing ≡ lost row
  lost_is row m = ap (missing (tree_of target.db.docs row.id)) (row_leaves row m)

  abbrev count : ℕ
  count = (total_of (comparisons source.db target.db rows)).missing

  none_lost : count ≡ 0 → (row : RowValue) → Among row rows → lost row ≡ []
  none_lost none row m =
      nil_from_length (lost row)
      (ap length (sym (lost_is row m))
      ∙ member_zero (λ (c : ComparisonValue). length c.missing) (comparisons source.db target.db rows) (zero_counted _ none) (compared_at source.db target.db row.id)
      (Among-mapped (λ (r : RowValue). compared_at source.db target.db r.id) row rows m))

  lost_none : ((row : RowValue) → Among row rows → lost row ≡ []) → count ≡ 0
  lost_none none =
      ap counted
      (all_zero (λ (c : ComparisonValue). length c.missing) (comparisons source.db target.db rows)
      (λ c m.
      let r = Among-map (λ (x : RowValue). compared_at source.db target.db x.id) c rows m in
      ap (λ (x : ComparisonValue). length x.missing) r.2 ∙ ap length (lost_is r.0 r.1 ∙ none r.0 r.1)))

  -- if none is missing, all are covered
  pub covered_all : count ≡ 0 → CoversFeed source target chosen source.db.update_seq
  covered_all none row m leaf among =
      elim (cases_Bool (has (tree_of target.db.docs row.id) leaf)) [
        | inl there ↦ ap (λ b. b || list_any (λ (s : SessionValue). in_ledger s.ledger row.id leaf) target.sessions) there
        | inr not_there ↦
            absurd (subst (Among leaf) (none_lost none row m) (Among-filtered (λ r. not (has (tree_of target.db.docs row.id) r)) leaf row.leaves among (ap not not_there)))
      ]

  -- if all are covered, the missing ones were refused
  pub refused_all : CoversFeed source target chosen source.db.update_seq → MissingIsRefused source target chosen
  refused_all covered row m leaf among =
      let found = Among-filter (λ r. not (has (tree_of target.db.docs row.id) r)) leaf row.leaves among in
      elim (or_cases _ _ (covered row m leaf found.0)) [
        | inl there ↦ absurd (false≢true (sym (ap not there) ∙ found.1))
        | inr refused ↦ refused
      ]

  -- if nothing was refused, none is missing
  pub none_missing : HasNoLedger target → CoversFeed source target chosen source.db.update_seq → count ≡ 0
  none_missing empty covered =
      lost_none (λ row m. nobody (lost row) (λ leaf among.
      let s = any_member (λ (x : SessionValue). in_ledger x.ledger row.id leaf) target.sessions (refused_all covered row m leaf among) in
      false≢true (ap (λ l. in_ledger l row.id leaf) (sym (empty s.0 s.1)) ∙ s.2)))
