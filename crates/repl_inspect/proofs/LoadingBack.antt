-- The documents of all leaves give the same trees again.
use Rattle.proof_prelude.proofs.{◌≡◌, ◌+◌, ◌||◌, nat_lt, true, false, List, [], ◌∷◌, ◌++◌, map, Option, Some, None, Result, Ok, Err, unwrap_or, refl, sym, ap, ◌∙◌, subst, inl, inr, Bool, ℕ, zero, suc, ◌<◌, ◌≤◌, cond, length, arith, AllByRecursion, list_any, IsOk, bytes_eq, cond_both, false≢true, or_cases, bytes_eq-Decides, option_map_or, option_or, eq_by_cmp, get, flat_map, lt-ltb}
use Rattle.couch_base.specs.{none_some, some_is, Among, Among-left, Among-mapped, Id, DatabaseValue, LawfulDatabase, most, tree_in, tree_of, with_tree, RowValue, chosen_feed, leaf_document, put_answer, put_told, is_changed, after_put, content_of, IsLater-after_put, tree_in-with_tree, BaseFault}
use Rattle.rev_core.specs.{rev_tie_self, RevId, rev_cmp, is_among, edges_of}
use Rattle.rev_tree.specs.{TreeValue, has, is_leaf, is_same, leaves, ancestors, merged, no_revisions, answer_of, walk, contradiction_at, first_contradiction, is_among-leaves, ancestors_self, same_leaves, IsPart, nothing_is_part, given, part_merged, whole_part, Contradiction, Origin}
use Rattle.doc_json.specs.Document.{Document}
use Rattle.doc_json.specs.{Choice, is_chosen}
use Rattle.couch_base.specs.declared.fault.Put.{Put}
use Rattle.repl_peer.specs.{PeerValue, SessionValue, contradiction_of, in_ledger, after_load, next_local, is_full}
use Rattle.repl_peer.proofs.{among_test, put_holds}
use Rattle.repl_target.specs.{CoversFeedOf, IsEmpty, SameDocuments}
use Rattle.repl_target.proofs.{IsPartOf, leaf_covered, IsLeafOf, tree_lawful, chosen_member, tree_of-member}
use Rattle.repl_inspect.specs.{documents_at, all_documents, after_loads, AllTaken}
use Rattle.repl_inspect.specs.LoadBack.{LoadBack}

-- ---- lists

Among-right : {X : Type 0} (x : X) (xs ys : List X) → Among x ys → Among x (xs ++ ys)
Among-right x [] ys m = m
Among-right x (y ∷ xs) ys m = inr (Among-right x xs ys m)

Among-flat : {X Y : Type 0} (f : X → List Y) (x : X) (xs : List X) (y : Y) → Among x xs → Among y (f x) → Among y (flat_map f xs)
Among-flat f x [] y m n = absurd m
Among-flat f x (z ∷ xs) y (inl e) n = Among-left y (f z) (flat_map f xs) (subst (λ w. Among y (f w)) e n)
Among-flat f x (z ∷ xs) y (inr m) n = Among-right y (f z) (flat_map f xs) (Among-flat f x xs y m n)

joined : {X : Type 0} (P : X → Type 0) (xs ys : List X) → AllByRecursion P xs → AllByRecursion P ys → AllByRecursion P (xs ++ ys)
joined P [] ys h k = k
joined P (x ∷ xs) ys h k = (h.0, joined P xs ys h.1 k)

flat_all : {X Y : Type 0} (P : Y → Type 0) (f : X → List Y) → ((x : X) → AllByRecursion P (f x)) → (xs : List X) → AllByRecursion P (flat_map f xs)
flat_all P f h [] = tt
flat_all P f h (x ∷ xs) = joined P (f x) (flat_map f xs) (h x) (flat_all P f h xs)

-- ---- one load

-- an accepted document contradicts nothing, and gets a sequence
not_refused : (db : DatabaseValue) (d : Document) → IsOk (put_answer db d) → (contradiction_of db d ≡ None) × (is_full (put_answer db d) ≡ false)
not_refused db d ok = (go (contradiction_of db d) refl ok, room (put_answer db d) ok)
  where
    go : (o : Option Contradiction) → contradiction_of db d ≡ o → IsOk (put_told (answer_of o (is_same (tree_of db.docs d.id) d.ancestry)) (nat_lt db.update_seq most) (db.update_seq + 1)) → contradiction_of db d ≡ None
    go None e taken = e
    go (Some c) e taken = absurd (false≢true taken)

    room : (a : Result Put BaseFault) → IsOk a → is_full a ≡ false
    room (Ok put) taken = refl
    room (Err why) taken = absurd (false≢true taken)

-- a document that contradicts nothing is accepted, if a sequence is left
taken_ok : (db : DatabaseValue) (d : Document) → contradiction_of db d ≡ None → db.update_seq < most → IsOk (put_answer db d)
taken_ok db d none room = go (contradiction_of db d) (is_same (tree_of db.docs d.id) d.ancestry) (nat_lt db.update_seq most) none (lt-ltb db.update_seq most room)
  where
    go : (o : Option Contradiction) (same left : Bool) → o ≡ None → left ≡ true → IsOk (put_told (answer_of o same) left (db.update_seq + 1))
    go (Some c) same left e f = absurd (none_some c (sym e))
    go None true left e f = refl
    go None false true e f = refl
    go None false false e f = absurd (false≢true f)

-- ---- a part of a tree does not contradict it

module _ (s t : TreeValue) (part : IsPart s t) where
  edge_agrees : (c p : RevId) → get s.parents c ≡ Some p → contradiction_at c p (get t.parents c) ≡ None
  edge_agrees c p e = go (get t.parents c) refl
    where
      go : (o : Option RevId) → get t.parents c ≡ o → contradiction_at c p o ≡ None
      go None f = refl
      go (Some q) f =
          let same : q ≡ p = some_is q p (sym f ∙ part.parents c (part.child c q f) ∙ e) in
          let new : Contradiction = record { child = c; known = q; given = p } in
          ap (λ b. cond b None (Some new)) (subst (λ (x : RevId). eq_by_cmp rev_cmp q x ≡ true) same (rev_tie_self q))

  edges_step : (n : ℕ) (x p : RevId) → edges_of (x ∷ walk s.parents n p) ≡ (x, p) ∷ edges_of (walk s.parents n p)
  edges_step zero x p = refl
  edges_step (suc n) x p = refl

  walk_agrees : (n : ℕ) (x : RevId) → first_contradiction t.parents (edges_of (walk s.parents n x)) ≡ None
  walk_agrees zero x = refl
  walk_agrees (suc n) x = go (λ p. walk_agrees n p) (get s.parents x) refl
    where
      go : ((p : RevId) → first_contradiction t.parents (edges_of (walk s.parents n p)) ≡ None) → (o : Option RevId) → get s.parents x ≡ o → first_contradiction t.parents (edges_of (x ∷ option_map_or (walk s.parents n) o [])) ≡ None
      go rest None e = refl
      go rest (Some p) e =
          ap (first_contradiction t.parents) (edges_step n x p)
          ∙ ap (λ o. option_or o (first_contradiction t.parents (edges_of (walk s.parents n p)))) (edge_agrees x p e)
          ∙ rest p

module _ (source : DatabaseValue) (law : LawfulDatabase source) where
  -- the tree of a document with one more leaf
  abbrev grown : DatabaseValue → Id → RevId → Origin → TreeValue
  grown db id leaf o = merged (tree_of db.docs id) (ancestors (tree_of source.docs id) leaf) (given (tree_of source.docs id) leaf) o

  changed_part : (db : DatabaseValue) (at : Id) (leaf : RevId) (o : Origin) → is_leaf (tree_of source.docs at) leaf ≡ true → IsPartOf source db → IsPartOf source (with_tree db at (grown db at leaf o))
  changed_part db at leaf o top part id =
      let t = grown db at leaf o in
      subst (λ (x : Option TreeValue). IsPart (tree_of source.docs id) (unwrap_or x no_revisions)) (sym (tree_in-with_tree db at t id))
      (cond_both (bytes_eq at id) (Some t) (tree_in db.docs id) (λ (x : Option TreeValue). IsPart (tree_of source.docs id) (unwrap_or x no_revisions))
      (λ same. subst (λ (i : Id). IsPart (tree_of source.docs i) t) ((bytes_eq-Decides at id).0 same)
      (part_merged (tree_of source.docs at) (tree_of db.docs at) (tree_lawful source law at) (part at) leaf top o))
      (λ _. part id))

  -- each tree stays a part of the source's
  put_part : (db : DatabaseValue) (d : Document) (o : Origin) → IsLeafOf source d → IsPartOf source db → IsPartOf source (after_put db d o)
  put_part db d o from part =
      let handed = leaf_document from.id (tree_of source.docs from.id) from.leaf in
      subst (λ (x : Document). IsPartOf source (after_put db x o)) (sym from.is)
      (cond_both (is_changed (put_answer db handed)) (with_tree db from.id (grown db from.id from.leaf o)) db (IsPartOf source) (λ _. changed_part db from.id from.leaf o from.top part) (λ _. part))

  -- ---- all loads

  loads_part : (p : PeerValue) (ds : List Document) → AllByRecursion (IsLeafOf source) ds → IsPartOf source p.db → IsPartOf source (after_loads p ds).db
  loads_part p [] from part = part
  loads_part p (d ∷ ds) from part = loads_part (after_load p d) ds from.1 (put_part p.db d (next_local p) from.0 part)

  -- all documents are accepted
  loads_taken : (p : PeerValue) (ds : List Document) → AllByRecursion (IsLeafOf source) ds → IsPartOf source p.db → p.db.update_seq + length ds ≤ most → AllTaken p ds
  loads_taken p [] from part room = tt
  loads_taken p (d ∷ ds) from part room =
      let left : p.db.update_seq + suc (length ds) ≤ most = room in
      let leaf = from.0 in
      let free = subst (λ (x : Document). contradiction_of p.db x ≡ None) (sym leaf.is) (walk_agrees (tree_of source.docs leaf.id) (tree_of p.db.docs leaf.id) (part leaf.id) leaf.leaf.generation leaf.leaf) in (
        taken_ok p.db d free (omega (arith, left)),
        loads_taken (after_load p d) ds from.1 (put_part p.db d (next_local p) leaf part)
            (cond_both (is_changed (put_answer p.db d)) (with_tree p.db d.id (merged (tree_of p.db.docs d.id) d.ancestry (content_of d.deleted d.body) (next_local p))) p.db (λ (x : DatabaseValue). x.update_seq + length ds ≤ most)
            (λ _. omega (arith, left)) (λ _. omega (arith, left))),
      )

  loads_keep : (p : PeerValue) (ds : List Document) (id : Id) (r : RevId) → has (tree_of p.db.docs id) r ≡ true → has (tree_of (after_loads p ds).db.docs id) r ≡ true
  loads_keep p [] id r h = h
  loads_keep p (d ∷ ds) id r h = loads_keep (after_load p d) ds id r ((IsLater-after_put p.db d (next_local p)).has id r h)

  loads_hold : (p : PeerValue) (ds : List Document) → AllTaken p ds → (d : Document) → Among d ds → (r : RevId) → is_among r d.ancestry ≡ true → has (tree_of (after_loads p ds).db.docs d.id) r ≡ true
  loads_hold p [] taken d m r h = absurd m
  loads_hold p (e ∷ ds) taken d (inl same) r h =
      let free = not_refused p.db e taken.0 in
      subst (λ (x : Document). has (tree_of (after_loads (after_load p e) ds).db.docs x.id) r ≡ true) (sym same)
      (loads_keep (after_load p e) ds e.id r (put_holds p.db e (next_local p) free.0 free.1 r (subst (λ (x : Document). is_among r x.ancestry ≡ true) same h)))
  loads_hold p (e ∷ ds) taken d (inr later) r h = loads_hold (after_load p e) ds taken.1 d later r h

  loads_sessions : (p : PeerValue) (ds : List Document) → (after_loads p ds).sessions ≡ p.sessions
  loads_sessions p [] = refl
  loads_sessions p (d ∷ ds) = loads_sessions (after_load p d) ds

  -- ---- the documents of all leaves

  tops : (id : Id) (xs : List RevId) → ((x : RevId) → Among x xs → is_leaf (tree_of source.docs id) x ≡ true) → AllByRecursion (IsLeafOf source) (map (leaf_document id (tree_of source.docs id)) xs)
  tops id [] h = tt
  tops id (x ∷ xs) h = (record { id = id; leaf = x; top = h x (inl refl); is = refl }, tops id xs (λ y m. h y (inr m)))

  at_row : (r : RowValue) → AllByRecursion (IsLeafOf source) (documents_at source r.id)
  at_row r =
      let t = tree_of source.docs r.id in
      tops r.id (leaves t) (λ x m. sym (is_among-leaves t x) ∙ among_test x (leaves t) m)

  all_from : (chosen : Choice) → AllByRecursion (IsLeafOf source) (all_documents chosen source)
  all_from chosen = flat_all (IsLeafOf source) (λ r. documents_at source r.id) at_row (chosen_feed chosen source 0 source.update_seq)

  empty_part : (p : PeerValue) → IsEmpty p → IsPartOf source p.db
  empty_part p empty id = subst (λ ds. IsPart (tree_of source.docs id) (tree_of ds id)) (sym empty.0) (nothing_is_part (tree_of source.docs id))

  module _ (chosen : Choice) (p : PeerValue) (empty : IsEmpty p) (taken : AllTaken p (all_documents chosen source)) where
    abbrev now : PeerValue
    now = after_loads p (all_documents chosen source)

    feed_covered : CoversFeedOf chosen source now source.update_seq
    feed_covered row m leaf among =
        let d = chosen_member chosen source 0 source.update_seq row m in
        let t = tree_of source.docs row.id in
        let same : leaves t ≡ row.leaves =
        ap (λ (r : RowValue). leaves (tree_of source.docs r.id)) d.2 ∙ ap leaves (tree_of-member source.docs d.0 law.distinct d.1)
        ∙ sym (ap (λ (r : RowValue). r.leaves) d.2)
        in
        let there =
        loads_hold p (all_documents chosen source) taken (leaf_document row.id t leaf)
        (Among-flat (λ (r : RowValue). documents_at source r.id) row (chosen_feed chosen source 0 source.update_seq) (leaf_document row.id t leaf) m
        (Among-mapped (leaf_document row.id t) leaf (leaves t) (subst (Among leaf) (sym same) among)))
        leaf (ancestors_self t leaf)
        in
        ap (λ b. b || list_any (λ (s : SessionValue). in_ledger s.ledger row.id leaf) now.sessions) there

    leaf_back : (id : Id) → is_chosen chosen id ≡ true → (leaf : RevId) → is_leaf (tree_of source.docs id) leaf ≡ true → has (tree_of now.db.docs id) leaf ≡ true
    leaf_back id is leaf top =
        elim (or_cases _ _ (leaf_covered chosen source now law feed_covered id is leaf top)) [
          | inl there ↦ there
          | inr refused ↦
              absurd (false≢true (ap (λ ss. list_any (λ (s : SessionValue). in_ledger s.ledger id leaf) ss) (sym (loads_sessions p (all_documents chosen source) ∙ empty.1)) ∙ refused))
        ]

    part_back : IsPartOf source now.db
    part_back = loads_part p (all_documents chosen source) (all_from chosen) (empty_part p empty)

    back : SameDocuments chosen source now.db
    back id is =
        let same = whole_part (tree_of source.docs id) (tree_of now.db.docs id) (tree_lawful source law id) (part_back id) (leaf_back id is) in
        (same, same_leaves (tree_of source.docs id) (tree_of now.db.docs id) same)

pub loaded_back : (db : DatabaseValue) → LawfulDatabase db → LoadBack db
loaded_back db law chosen p empty room =
    let taken = loads_taken db law p (all_documents chosen db) (all_from db law chosen) (empty_part db law p empty) room in
    (taken, back db law chosen p empty taken)
