-- A write is in its document's tree and stays there, since edges never change.
use Rattle.proof_prelude.proofs.{◌≡◌, ℕ, ◌+◌, List, [], ◌∷◌, ◌++◌, Bool, true, false, cond, Option, Some, None, is_some, Result, Ok, Err, unwrap_or, refl, sym, ap, ◌∙◌, subst, inl, inr, arith, nat_lt, eq_by_cmp, option_or, bytes_eq, FinMap, get, false≢true, cond-true, bytes_eq-Decides}
use Rattle.std.specs.FinMap.{find}
use Rattle.rev_core.specs.{RevId, rev_cmp, rev_tie_is, rev_tie_self, FallsByOne, edges_of, is_among}
use Rattle.rev_tree.specs.{TreeValue, has, merged, has-merged_given, joined, is_same, answer_of, no_revisions, first_contradiction, contradiction_at, apart, edge_found, get-joined, get-joined_known, lower_later, merged-same, no_contradiction, Contradiction, Origin, SessionId}
use Rattle.doc_json.specs.Document.{Document}
use Rattle.couch_base.specs.{Among, none_some, Among-push, Id, DatabaseValue, tree_in, tree_of, with_tree, most, put_told, put_answer, is_changed, after_put, content_of, IsLater, IsLater-after_put, tree_in-with_tree}
use Rattle.repl_peer.specs.{PeerValue, SessionValue, WrittenValue, written_of, contradiction_of, Follows, StandsIn, next_local, after_load, new_session, begin_answer, begun, after_begin, is_full, Beginning, TargetFault}

-- ---- an edge stays

one_edge : (m : FinMap rev_cmp RevId) (c x : RevId) → is_some (first_contradiction m ((c, x) ∷ [])) ≡ is_some (contradiction_at c x (get m c))
one_edge m c x = elim (contradiction_at c x (get m c)) as (λ o. is_some (option_or o None) ≡ is_some o) [ None ↦ refl | Some y ↦ refl ]

-- the parent of a child is determined by what contradicts it
pub edge_later : (m w : FinMap rev_cmp RevId) → ((es : List (RevId × RevId)) → is_some (first_contradiction m es) ≡ true → is_some (first_contradiction w es) ≡ true) → (c p : RevId) → get m c ≡ Some p → get w c ≡ Some p
edge_later m w stays c p h = go (get w c) refl
  where
    told : (x : RevId) → eq_by_cmp rev_cmp p x ≡ false → is_some (contradiction_at c x (get w c)) ≡ true
    told x other =
        let fault : Contradiction = record { child = c; known = p; given = x } in
        sym (one_edge w c x)
        ∙ stays ((c, x) ∷ []) (one_edge m c x ∙ ap (λ o. is_some (contradiction_at c x o)) h ∙ ap (λ b. is_some (cond b None (Some fault))) other)

    go : (o : Option RevId) → get w c ≡ o → get w c ≡ Some p
    go None e =
        let x : RevId = record { generation = p.generation + 1; sig = p.sig } in
        absurd (false≢true (sym (ap (λ o. is_some (contradiction_at c x o)) e) ∙ told x (apart p x (omega arith))))
    go (Some k) e = elim (eq_by_cmp rev_cmp p k) as (λ b. eq_by_cmp rev_cmp p k ≡ b → get w c ≡ Some p) [
      | true ↦ λ tie. e ∙ ap Some (sym (rev_tie_is p k tie))
      | false ↦ λ other.
          let fault : Contradiction = record { child = c; known = k; given = k } in
          absurd (false≢true (sym (ap (λ o. is_some (contradiction_at c k o)) e ∙ ap (λ b. is_some (cond b None (Some fault))) (rev_tie_self k)) ∙ told k other))
    ] refl

-- ---- revisions of which each is the child of the next

follows_later : (m w : FinMap rev_cmp RevId) → ((c p : RevId) → get m c ≡ Some p → get w c ≡ Some p) → (revs : List RevId) → Follows m revs → Follows w revs
follows_later m w keeps [] f = tt
follows_later m w keeps (r ∷ []) f = tt
follows_later m w keeps (r ∷ (s ∷ rest)) f = (keeps r s f.0, follows_later m w keeps (s ∷ rest) f.1)

-- a write is in every later database
pub stands_later : (a b : DatabaseValue) → IsLater a b → (x : WrittenValue) → StandsIn a x → StandsIn b x
stands_later a b later x h falls =
    follows_later (tree_of a.docs x.id).parents (tree_of b.docs x.id).parents
    (edge_later (tree_of a.docs x.id).parents (tree_of b.docs x.id).parents (later.contradicts x.id)) x.ancestry (h falls)

follows_found : (w : FinMap rev_cmp RevId) (revs : List RevId) → FallsByOne revs → ((c p : RevId) → find rev_cmp c (edges_of revs) ≡ Some p → get w c ≡ Some p) → Follows w revs
follows_found w [] falls known = tt
follows_found w (r ∷ []) falls known = tt
follows_found w (r ∷ (s ∷ rest)) falls known = (
  known r s (ap (λ b. cond b (Some s) (find rev_cmp r (edges_of (s ∷ rest)))) (rev_tie_self r)),
  follows_found w (s ∷ rest) falls.1
      (λ c p e. known c p (ap (λ b. cond b (Some s) (find rev_cmp c (edges_of (s ∷ rest)))) (apart c r (lower_later r (s ∷ rest) c falls (edge_found (s ∷ rest) c p falls.1 e).child)) ∙ e)),
)

given_edge : (m : FinMap rev_cmp RevId) (es : List (RevId × RevId)) → first_contradiction m es ≡ None → (c p : RevId) → find rev_cmp c es ≡ Some p → get (joined m es) c ≡ Some p
given_edge m es none c p h = go (get m c) refl
  where
    go : (o : Option RevId) → get m c ≡ o → get (joined m es) c ≡ Some p
    go None e = get-joined m es c ∙ ap (λ o. option_or o (find rev_cmp c es)) e ∙ h
    go (Some k) e = get-joined_known m es c p (e ∙ ap Some (no_contradiction m es c p k none h e))

-- merging an ancestry that contradicts nothing
follows_merged : (m : FinMap rev_cmp RevId) (revs : List RevId) → first_contradiction m (edges_of revs) ≡ None → FallsByOne revs → Follows (joined m (edges_of revs)) revs
follows_merged m revs none falls = follows_found (joined m (edges_of revs)) revs falls (given_edge m (edges_of revs) none)

-- ---- a put

-- the changed document has the new tree
pub changed_tree : (db : DatabaseValue) (id : Id) (t : TreeValue) → tree_of (with_tree db id t).docs id ≡ t
changed_tree db id t =
    ap (λ o. unwrap_or o no_revisions) (tree_in-with_tree db id t id ∙ cond-true (bytes_eq id id) (Some t) (tree_in db.docs id) ((bytes_eq-Decides id id).1 refl))

-- a put that does not fail gives the merged tree
put_tree : (db : DatabaseValue) (d : Document) (o : Origin) → contradiction_of db d ≡ None → is_full (put_answer db d) ≡ false → merged (tree_of db.docs d.id) d.ancestry (content_of d.deleted d.body) o ≡ tree_of (after_put db d o).docs d.id
put_tree db d o none room = go (contradiction_of db d) (is_same (tree_of db.docs d.id) d.ancestry) (nat_lt db.update_seq most) none refl room
  where
    new : TreeValue
    new = merged (tree_of db.docs d.id) d.ancestry (content_of d.deleted d.body) o

    go : (c : Option Contradiction) (same left : Bool) → c ≡ None → is_same (tree_of db.docs d.id) d.ancestry ≡ same → is_full (put_told (answer_of c same) left (db.update_seq + 1)) ≡ false
        → new ≡ tree_of (cond (is_changed (put_told (answer_of c same) left (db.update_seq + 1))) (with_tree db d.id new) db).docs d.id
    go (Some c) same left e s f = absurd (none_some c (sym e))
    go None true left e s f = merged-same (tree_of db.docs d.id) d.ancestry (content_of d.deleted d.body) o s
    go None false true e s f = sym (changed_tree db d.id new)
    go None false false e s f = absurd (false≢true (sym f))

-- the merged tree has the ancestry with its edges
pub put_holds : (db : DatabaseValue) (d : Document) (o : Origin) → contradiction_of db d ≡ None → is_full (put_answer db d) ≡ false → (r : RevId) → is_among r d.ancestry ≡ true → has (tree_of (after_put db d o).docs d.id) r ≡ true
put_holds db d o none room r given = ap (λ t. has t r) (sym (put_tree db d o none room)) ∙ has-merged_given (tree_of db.docs d.id) d.ancestry (content_of d.deleted d.body) o r given

pub put_stands : (db : DatabaseValue) (d : Document) (o : Origin) → contradiction_of db d ≡ None → is_full (put_answer db d) ≡ false → StandsIn (after_put db d o) (written_of d)
put_stands db d o none room falls = subst (λ (t : TreeValue). Follows t.parents d.ancestry) (put_tree db d o none room) (follows_merged (tree_of db.docs d.id).parents d.ancestry none falls)

-- so does a put that changes the database
changed_stands : (db : DatabaseValue) (d : Document) (o : Origin) → is_changed (put_answer db d) ≡ true → StandsIn (after_put db d o) (written_of d)
changed_stands db d o change = let k = go (contradiction_of db d) (is_same (tree_of db.docs d.id) d.ancestry) (nat_lt db.update_seq most) change in put_stands db d o k.0 k.1
  where
    go : (c : Option Contradiction) (same left : Bool) → is_changed (put_told (answer_of c same) left (db.update_seq + 1)) ≡ true → (c ≡ None) × (is_full (put_told (answer_of c same) left (db.update_seq + 1)) ≡ false)
    go (Some c) same left h = absurd (false≢true h)
    go None true left h = (refl, refl)
    go None false true h = (refl, refl)
    go None false false h = absurd (false≢true h)

-- ---- the local writes of a peer

-- each local write is in its document's tree
abbrev pub LocalsStand : PeerValue → Type 0
LocalsStand p = (a : WrittenValue) → Among a p.locals → StandsIn p.db a

pub load_stands : (p : PeerValue) (d : Document) → LocalsStand p → LocalsStand (after_load p d)
load_stands p d h a m = go (is_changed (put_answer p.db d)) refl m
  where
    old : (x : WrittenValue) → Among x p.locals → StandsIn (after_load p d).db x
    old x n = stands_later p.db (after_load p d).db (IsLater-after_put p.db d (next_local p)) x (h x n)

    go : (b : Bool) → is_changed (put_answer p.db d) ≡ b → Among a (cond b (p.locals ++ written_of d ∷ []) p.locals) → StandsIn (after_load p d).db a
    go true e n = elim (Among-push a p.locals (written_of d) n) [
      | inl before ↦ old a before
      | inr is ↦ subst (StandsIn (after_load p d).db) (sym is) (changed_stands p.db d (next_local p) e)
    ]
    go false e n = old a n

begun_stands : (p : PeerValue) (s : SessionValue) (r : Result (Unit {0}) TargetFault) → LocalsStand p → LocalsStand (begun p s r)
begun_stands p s (Ok done) h = h
begun_stands p s (Err fault) h = h

pub begin_stands : (p : PeerValue) (id : SessionId) (b : Beginning) (at : ℕ) → LocalsStand p → LocalsStand (after_begin p id b at)
begin_stands p id b at h = begun_stands p (new_session id b at) (begin_answer p id b) h
