-- Documents that are settled, and not refused, are in the database.
use Rattle.proof_prelude.proofs.{◌≡◌, ◌⊎◌, ℕ, ◌+◌, ◌<◌, ◌≤◌, Bool, true, false, not, List, [], ◌∷◌, length, drop, get_or, Option, Some, None, refl, sym, ap, ◌∙◌, subst, inl, inr, arith, cond, cond-false, cond_both, drop_more, find}
use Rattle.rev_core.specs.{RevId, is_among}
use Rattle.rev_tree.specs.Tree.{has}
use Rattle.doc_json.specs.Document.{Document}
use Rattle.couch_base.specs.{IsLater, IsLater-after_put, IsLater-later, IsLater-same, WindowValue, put_answer, after_put, tree_of}
use Rattle.repl_peer.specs.{HasDocuments, Reason, ReachedAll, Settling, fed, is_full, refusal_of, settle_as, settle_docs, settle_one, settled_before, stops_as, stops_at, with_arrival}
use Rattle.repl_peer.proofs.lemmas.peer.WritesStand.{put_holds}
use Rattle.repl_peer.proofs.lemmas.session.Changes.{none_refused}
use Rattle.repl_peer.proofs.lemmas.session.SettlingDocuments.{goes_on, grows, halts}

-- settling a document loses no revision
one_later : (refuses : Document → Bool) (w : WindowValue) (z : Settling) (d : Document) → IsLater z.db (settle_one refuses w z d).db
one_later refuses w z d = go (refusal_of refuses z.db d)
  where
    go : (o : Option Reason) → IsLater z.db (settle_as w z d o).db
    go (Some reason) = IsLater-same z.db
    go None =
        cond_both (is_full (put_answer z.db d)) z (record { db = after_put z.db d (fed w z.session.id d); session = with_arrival d z.session }) (λ (y : Settling). IsLater z.db y.db)
        (λ _. IsLater-same z.db)
        (λ _. IsLater-after_put z.db d (fed w z.session.id d))

docs_later : (refuses : Document → Bool) (w : WindowValue) (z : Settling) (ds : List Document) → IsLater z.db (settle_docs refuses w z ds).db
docs_later refuses w z [] = IsLater-same z.db
docs_later refuses w z (d ∷ ds) =
    let y = settle_one refuses w z d in
    IsLater-later z.db y.db (settle_docs refuses w y ds).db (one_later refuses w z d) (docs_later refuses w y ds)

-- a document that is not refused is stored
one_stored : (refuses : Document → Bool) (w : WindowValue) (z : Settling) (d : Document) → stops_at refuses z d ≡ false → (settle_one refuses w z d).session.counts.failures ≤ z.session.counts.failures
    → (r : RevId) → is_among r d.ancestry ≡ true → has (tree_of (settle_one refuses w z d).db.docs d.id) r ≡ true
one_stored refuses w z d goes low r given = go (refusal_of refuses z.db d) refl goes low
  where
    stored : Settling
    stored = record { db = after_put z.db d (fed w z.session.id d); session = with_arrival d z.session }

    go : (o : Option Reason) → refusal_of refuses z.db d ≡ o → stops_as z.db d o ≡ false → (settle_as w z d o).session.counts.failures ≤ z.session.counts.failures → has (tree_of (settle_as w z d o).db.docs d.id) r ≡ true
    go (Some reason) e s l = absurd (omega (arith, l))
    go None e s l =
        ap (λ (y : Settling). has (tree_of y.db.docs d.id) r) (cond-false (is_full (put_answer z.db d)) z stored s)
        ∙ put_holds z.db d (fed w z.session.id d) (none_refused refuses z.db d e) s r given

docs_stored : (refuses : Document → Bool) (w : WindowValue) (z : Settling) (ds : List Document) → settled_before refuses w z ds ≡ length ds
    → (settle_docs refuses w z ds).session.counts.failures ≤ z.session.counts.failures → HasDocuments (settle_docs refuses w z ds).db ds
docs_stored refuses w z [] all low = λ d m. absurd m
docs_stored refuses w z (d ∷ ds) all low =
    elim (stops_at refuses z d) as (λ b. stops_at refuses z d ≡ b → HasDocuments (settle_docs refuses w z (d ∷ ds)).db (d ∷ ds)) [
      | true ↦ λ stops. let none = halts refuses w z d ds stops in absurd (omega (arith, all, none))
      | false ↦ λ goes.
          let y = settle_one refuses w z d in
          let more = goes_on refuses w z d ds goes in
          let first = grows refuses w z (d ∷ []) in
          let rest = grows refuses w y ds in
          let mine = one_stored refuses w z d goes (omega (arith, low, rest.failures)) in
          let others = docs_stored refuses w y ds (omega (arith, all, more)) (omega (arith, low, first.failures)) in
          λ e m r given.
          elim m [
            | inl same ↦ (docs_later refuses w y ds).has e.id r (subst (λ (x : Document). is_among r x.ancestry ≡ true → has (tree_of y.db.docs x.id) r ≡ true) (sym same) (mine r) given)
            | inr k ↦ others e k r given
          ]
    ] refl

all_stored : (refuses : Document → Bool) (w : WindowValue) (z after : Settling) (ds : List Document) → ReachedAll refuses w z ds after
    → after.session.counts.failures ≡ z.session.counts.failures → HasDocuments after.db ds
all_stored refuses w z after ds h same =
    let count = sym same ∙ ap (λ (y : Settling). y.session.counts.failures) h.settling in
    subst (λ (y : Settling). HasDocuments y.db ds) (sym h.settling) (docs_stored refuses w z ds h.all (omega (arith, count)))

-- the documents that are passed on are stored: all, or none if one was refused
pub passed_stored : (refuses : Document → Bool) (w : WindowValue) (z after : Settling) (ds passed : List Document) (old new : ℕ) → ReachedAll refuses w z ds after
    → ((old ≡ new) × (passed ≡ ds)) ⊎ (passed ≡ []) → old ≡ z.session.counts.failures → new ≡ after.session.counts.failures → HasDocuments after.db passed
passed_stored refuses w z after ds passed old new h (inl both) was is = subst (HasDocuments after.db) (sym both.1) (all_stored refuses w z after ds h (sym is ∙ sym both.0 ∙ was))
passed_stored refuses w z after ds passed old new h (inr none) was is = subst (HasDocuments after.db) (sym none) (λ d m. absurd m)

-- the first of the remaining elements fails no test
pub find_more : {X : Type 0} (test : X → Bool) (xs : List X) (i : ℕ) (x : X) → i < length xs → x ≡ get_or xs i x → test x ≡ true
    → find (λ y. not (test y)) (drop (i + 1) xs) ≡ find (λ y. not (test y)) (drop i xs)
find_more test xs i x h is so =
    sym (ap (find (λ y. not (test y))) (drop_more xs i x h ∙ ap (λ y. y ∷ drop (i + 1) xs) (sym is)) ∙ ap (λ b. cond (not b) (Some x) (find (λ y. not (test y)) (drop (i + 1) xs))) so)
