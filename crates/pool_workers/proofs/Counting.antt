-- The number of documents that a source has for all leaves of its page.
use Rattle.proof_prelude.proofs.{◌≡◌, ℕ, zero, suc, ◌+◌, Bool, true, not, is_some, List, [], ◌∷◌, filter, length, length-append, refl, sym, ap, ◌∙◌, subst, arith, inl, inr, list_any, sum_by, FinMap, get-empty, cond-true, or_left, length-map, sum_by-cons}
use Rattle.rev_core.specs.{RevId, rev_cmp, is_among, rev_tie_self}
use Rattle.rev_tree.specs.{TreeValue, ancestors, has, leaves, leaves_above, missing, no_revisions, walk}
use Rattle.couch_base.specs.{Among, DatabaseValue, LawfulDatabase, tree_of, RowValue, WindowValue, chosen_feed, page, feed-page, Among-left, any_from, AskedValue, fetched, leaf_document, open_revs, opened, revs_diff, want_first, wanted}
use Rattle.repl_peer.specs.{leaf_count}
use Rattle.repl_target.specs.{Plan}
use Rattle.repl_target.proofs.{chosen_member, tree_of-member}
use Rattle.pool_workers.specs.{IsNext}

filter-whole : {X : Type 0} (p : X → Bool) (xs : List X) → ((x : X) → Among x xs → p x ≡ true) → filter p xs ≡ xs
filter-whole p [] h = refl
filter-whole p (x ∷ xs) h =
    cond-true (p x) (x ∷ filter p xs) (filter p xs) (h x (inl refl)) ∙ ap (λ l. x ∷ l) (filter-whole p xs (λ y m. h y (inr m)))

-- a traversal begins with its revision
walk-self : (parents : FinMap rev_cmp RevId) (n : ℕ) (r : RevId) → is_among r (walk parents n r) ≡ true
walk-self parents zero r = or_left _ _ (rev_tie_self r)
walk-self parents (suc n) r = or_left _ _ (rev_tie_self r)

-- all leaves are at or above the leaves
above-leaves : (t : TreeValue) → leaves_above t (leaves t) ≡ leaves t
above-leaves t =
    filter-whole (λ leaf. list_any (λ r. is_among r (ancestors t leaf)) (leaves t)) (leaves t)
    (λ leaf m. any_from (λ r. is_among r (ancestors t leaf)) leaf (leaves t) m (walk-self t.parents leaf.generation leaf))

-- a document that does not exist lacks all revisions
all-missing : (revs : List RevId) → missing no_revisions revs ≡ revs
all-missing revs = filter-whole (λ r. not (has no_revisions r)) revs (λ r m. ap (λ o. not (is_some o)) (get-empty rev_cmp r))

-- the rows list the leaves of their documents
abbrev IsWhole : DatabaseValue → List RowValue → Type 0
IsWhole source rows = (r : RowValue) → Among r rows → r.leaves ≡ leaves (tree_of source.docs r.id)

abbrev counted : List RowValue → ℕ
counted rows = sum_by (λ (row : RowValue). length row.leaves) rows

counted-rows : (source : DatabaseValue) (rows : List RowValue) → IsWhole source rows → length (fetched source.docs (wanted [] rows)) ≡ counted rows
counted-rows source [] h = refl
counted-rows source (r ∷ rows) h =
    ap (λ l. length (fetched source.docs (want_first r.id l (wanted [] rows)))) (all-missing r.leaves)
    ∙ first (counted-rows source rows (λ x m. h x (inr m))) r.leaves (h r (inl refl))
    ∙ sym (sum_by-cons (λ (row : RowValue). length row.leaves) r rows)
  where
    first : length (fetched source.docs (wanted [] rows)) ≡ counted rows → (ls : List RevId) → ls ≡ leaves (tree_of source.docs r.id) → length (fetched source.docs (want_first r.id ls (wanted [] rows))) ≡ length ls + counted rows
    first rest [] e = rest ∙ omega arith
    first rest (x ∷ xs) e =
        let t = tree_of source.docs r.id in
        let above : leaves_above t (x ∷ xs) ≡ x ∷ xs = ap (leaves_above t) e ∙ above-leaves t ∙ sym e in
        length-append (opened r.id t (x ∷ xs)) (fetched source.docs (wanted [] rows))
        ∙ (λ i. (length-map (leaves_above t (x ∷ xs)) (leaf_document r.id t) ∙ ap length above) i + rest i)

page-whole : (source : DatabaseValue) (plan : Plan) (w : WindowValue) → LawfulDatabase source → IsNext source plan w → IsWhole source w.rows
page-whole source plan w law next r m =
    let p = page source w.lo source.update_seq plan.batch plan.chosen in
    let there : Among r p.rows = subst (λ (v : WindowValue). Among r v.rows) next.2 m in
    let fed = subst (λ l. Among r l) (sym (feed-page source w.lo source.update_seq plan.batch plan.chosen law)) (Among-left r p.rows (chosen_feed plan.chosen source p.hi source.update_seq) there) in
    let k = chosen_member plan.chosen source w.lo source.update_seq r fed in
    subst (λ (x : RowValue). x.leaves ≡ leaves (tree_of source.docs x.id)) (sym k.2) (ap leaves (sym (tree_of-member source.docs k.0 law.distinct k.1)))

-- if all leaves of a page are requested, the source has a document for each
pub counted_page : (source db : DatabaseValue) (plan : Plan) (w : WindowValue) (a : AskedValue) → LawfulDatabase source → IsNext source plan w → db.docs ≡ [] → a ≡ revs_diff db w → length (open_revs source a).docs ≡ leaf_count w
counted_page source db plan w a law next none asked =
    ap (λ (x : AskedValue). length (fetched source.docs x.docs)) asked
    ∙ ap (λ ds. length (fetched source.docs (wanted ds w.rows))) none
    ∙ counted-rows source w.rows (page-whole source plan w law next)
