-- Trees that grow by a document, the document of an edit, and the effect of a write at one peer of a network.
use Rattle.proof_prelude.proofs.{◌≡◌, ◌⊎◌, true, List, ap, ◌∙◌, option_or, get, empty, get-empty, arith, common_steps, ℕ, ◌^◌, Bool, false, cond, [], ◌∷◌, Option, Some, None, is_some, unwrap_or, Result, Ok, Err, refl, sym, subst, inl, inr, nat_lt, is_ok, list_all, option_to_list, result_unwrap_or, eq_by_cmp, false≢true, and_parts, or_cases, or_left, same_Some, bytes_eq, cases_Bool, cond_both, bytes_eq-Decides}
use Rattle.std.specs.FinMap.{find}
use Rattle.rev_core.specs.{RevId, rev_cmp, edges_of, rev_tie_is, rev_tie_self, is_among, ◌>>=◌, refused_if, named, next_generation, edit_sig, edit_rev}
use Rattle.rev_tree.specs.{ContentValue, TreeValue, has, joined, merged, at_head, no_revisions, get-joined, get-joined_known, has-merged, has-merged_given, Agree, IsWhole, IsRoot, IsGrownBy, Origin, first_of, is_leaf, is_deleted, leaves, is_among-leaves, IsGrownBy-same}
use Rattle.rev_tree.specs.declared.origin.Origin.TheVariants.{Local}
use Rattle.couch_base.specs.{content_of, Id, DatabaseValue, tree_in, tree_of, parent_answer, edit_id, edited, edit_document, BaseFault, with_tree, tree_in-with_tree, put_answer, is_changed, after_put}
use Rattle.repl_network.specs.{tree_alone, IsRooted, IsAt, AllAgree, AllWhole, FitsIn, IsRootedAt, EditFits, KeepsAgreement, IsChangedAt}
use Rattle.doc_json.specs.Document.{Document}
use Rattle.repl_peer.specs.{PeerValue, next_local, after_load, load_edited, after_edit}
use Rattle.repl_network.proofs.Places.{becomes, was_at}
use Rattle.couch_base.specs.declared.fault.BaseFault.TheVariants as faults

-- two trees that agree, also with the tree they grow from, agree afterwards
module _ (by s t s' t' : TreeValue) (first : IsGrownBy s by s') (second : IsGrownBy t by t') where
  pub Agree-both : Agree s t → Agree s by → Agree t by → Agree s' t'
  Agree-both both left right = record {
    parents = λ c p q h k. grind (arith, common_steps, first.parents c p h, second.parents c q k, both.parents c p q, left.parents c p q, right.parents c q p);
    contents = λ r x y h k. grind (arith, common_steps, first.contents r x h, second.contents r y k, both.contents r x y, left.contents r x y, right.contents r y x);
  }

-- a tree with complete history stays so
pub IsWhole-grown : (s by s' : TreeValue) → IsGrownBy s by s' → IsWhole s → IsWhole by → IsWhole s'
IsWhole-grown s by s' grown ours theirs r h none = grind (arith, common_steps, grown.roots r (h, none), ours r, theirs r)

-- ---- a written document

-- a map that was empty before
pub alone : {X : Type 0} (es : List (RevId × X)) (q : RevId) → get (joined (empty {R = rev_cmp}) es) q ≡ find rev_cmp q es
alone es q = get-joined empty es q ∙ ap (λ o. option_or o (find rev_cmp q es)) (get-empty rev_cmp q)

-- a tree grows by a document as by a tree of its own
module _ (t : TreeValue) (revs : List RevId) (b : ContentValue) (o other : Origin) where
  abbrev new : TreeValue
  new = merged no_revisions revs b other

  pub IsGrownBy-written : IsGrownBy t new (merged t revs b o)
  IsGrownBy-written = record {
    kept = λ c p h. get-joined_known t.parents (edges_of revs) c p h;
    revs = λ r h. grind (arith, common_steps, has-merged t revs b o r, has-merged_given no_revisions revs b other r);
    parents = λ c p h. grind (arith, common_steps, get-joined t.parents (edges_of revs) c, alone (edges_of revs) c);
    contents = λ r x h. grind (arith, common_steps, get-joined t.contents (at_head revs b) r, alone (at_head revs b) r);
    roots = λ r h. grind (arith, common_steps, get-joined t.parents (edges_of revs) r, alone (edges_of revs) r, has-merged t revs b o r, has-merged_given no_revisions revs b other r);
  }

  -- the history stays complete if the document's oldest revision has generation 1 or is in the tree
  pub IsWhole-written : IsWhole t → ((r : RevId) → IsRoot new r → (r.generation ≡ 1) ⊎ (has t r ≡ true)) → IsWhole (merged t revs b o)
  IsWhole-written whole rooted r h none = grind (arith, common_steps, get-joined t.parents (edges_of revs) r, IsGrownBy-written.roots r (h, none), whole r, rooted r)

-- ---- the revisions of an edit

pub edit_makes : (db : DatabaseValue) (id : Id) (parent : Option RevId) (deleted : Bool) (body : List ℕ) (e : RevId × Option RevId) → edited db id parent deleted body ≡ Ok e → edit_rev e.1 deleted body ≡ Ok e.0
edit_makes db id parent deleted body e h = grind (arith, common_steps)

pub sig_of : (before : Option RevId) (deleted : Bool) (body : List ℕ) (rev : RevId) → edit_rev before deleted body ≡ Ok rev → edit_sig before deleted body ≡ rev.sig
sig_of before deleted body rev h = grind (arith, common_steps)

-- the parent of the edit exists
stands : (o : Option TreeValue) (parent : Option RevId) (b : RevId) → parent_answer o parent ≡ Ok (Some b) → has (unwrap_or o no_revisions) b ≡ true
stands None None b h = cc
stands None (Some parent) b h = cc
stands (Some u) (Some parent) b h = grind (arith, common_steps)
stands (Some u) None b h = grind (arith, common_steps, is_among-leaves u b, rev_tie_self b)

-- ---- its document

module _ (t : TreeValue) (id : Id) (deleted : Bool) (body : List ℕ) (rev : RevId) where
  ours : (before : Option RevId) (r : RevId) → IsRoot (tree_alone (edit_document id (rev, before) deleted body)) r → is_among r (rev ∷ option_to_list before) ≡ true
  ours before r root = grind (arith, common_steps, has-merged no_revisions (rev ∷ option_to_list before) (content_of deleted body) (Local 0) r, get-empty)

  pub rooted : (before : Option RevId) → rev.generation ≡ next_generation before → ((b : RevId) → before ≡ Some b → has t b ≡ true) → (r : RevId) → IsRoot (tree_alone (edit_document id (rev, before) deleted body)) r → (r.generation ≡ 1) ⊎ (has t r ≡ true)
  rooted None number there r root = grind (arith, common_steps, ours None r root, rev_tie_is r rev)
  rooted (Some b) number there r root = grind (arith, common_steps, ours (Some b) r root, rev_tie_is r rev, rev_tie_is r b, there b refl, alone (edges_of (rev ∷ b ∷ [])) r)

pub edit_rooted : (db : DatabaseValue) (id : Id) (parent : Option RevId) (deleted : Bool) (body : List ℕ) (e : RevId × Option RevId) → edited db id parent deleted body ≡ Ok e → IsRooted db (edit_document id e deleted body)
edit_rooted db id parent deleted body e h = rooted (tree_of db.docs id) id deleted body e.0 e.1 (grind (arith, common_steps)) (λ b at. stands (tree_in db.docs id) parent b (grind (arith, common_steps)))

-- ---- one more document

-- the effect of a put on a document's tree
abbrev WrittenTree : TreeValue → Document → TreeValue → Type 0
WrittenTree t d t' = (t' ≡ t) ⊎ ((o : Origin) × (t' ≡ merged t d.ancestry (content_of d.deleted d.body) o))

put_tree : (db : DatabaseValue) (d : Document) (o : Origin) → WrittenTree (tree_of db.docs d.id) d (tree_of (after_put db d o).docs d.id)
put_tree db d o =
    let t = merged (tree_of db.docs d.id) d.ancestry (content_of d.deleted d.body) o in
    cond_both (is_changed (put_answer db d)) (with_tree db d.id t) db (λ (x : DatabaseValue). WrittenTree (tree_of db.docs d.id) d (tree_of x.docs d.id))
    (λ _. inr (o, ap (λ (x : Option TreeValue). unwrap_or x no_revisions) (tree_in-with_tree db d.id t d.id ∙ ap (λ b. cond b (Some t) (tree_in db.docs d.id)) ((bytes_eq-Decides d.id d.id).1 refl))))
    (λ _. inl refl)

-- another document's tree
put_other : (db : DatabaseValue) (d : Document) (o : Origin) (id : Id) → bytes_eq d.id id ≡ false → tree_of (after_put db d o).docs id ≡ tree_of db.docs id
put_other db d o id apart =
    let t = merged (tree_of db.docs d.id) d.ancestry (content_of d.deleted d.body) o in
    cond_both (is_changed (put_answer db d)) (with_tree db d.id t) db (λ (x : DatabaseValue). tree_of x.docs id ≡ tree_of db.docs id)
    (λ _. ap (λ (x : Option TreeValue). unwrap_or x no_revisions) (tree_in-with_tree db d.id t id ∙ ap (λ b. cond b (Some t) (tree_in db.docs id)) apart))
    (λ _. refl)

module _ (t : TreeValue) (d : Document) (t' : TreeValue) where
  written_grown : WrittenTree t d t' → IsGrownBy t (tree_alone d) t'
  written_grown (inl same) = subst (IsGrownBy t (tree_alone d)) (sym same) (IsGrownBy-same t (tree_alone d))
  written_grown (inr w) = subst (IsGrownBy t (tree_alone d)) (sym w.1) (IsGrownBy-written t d.ancestry (content_of d.deleted d.body) w.0 (Local 0))

  written_whole : WrittenTree t d t' → IsWhole t → ((r : RevId) → IsRoot (tree_alone d) r → (r.generation ≡ 1) ⊎ (has t r ≡ true)) → IsWhole t'
  written_whole (inl same) whole rooted = subst IsWhole (sym same) whole
  written_whole (inr w) whole rooted = subst IsWhole (sym w.1) (IsWhole-written t d.ancestry (content_of d.deleted d.body) w.0 (Local 0) whole rooted)

-- ---- a write in a network

module _ (peers : List PeerValue) (place : ℕ) (d : Document) (peers' : List PeerValue) (w : IsChangedAt place (λ p. after_load p d) peers peers') where
  abbrev after : PeerValue
  after = after_load w.before d

  before_at : (P : PeerValue → PeerValue → Type 0) → P w.before after → ((p : PeerValue) → P p p) → (n : ℕ) (p : PeerValue) → IsAt peers' n p → (q : PeerValue) × IsAt peers n q × P q p
  before_at = was_at peers place w.before after peers' (becomes peers place (λ p. after_load p d) peers' w)

  tree_then : WrittenTree (tree_of w.before.db.docs d.id) d (tree_of after.db.docs d.id)
  tree_then = put_tree w.before.db d (next_local w.before)

  -- the tree of the written document at each peer
  pub tree_at : (n : ℕ) (p : PeerValue) → IsAt peers' n p → (q : PeerValue) × IsAt peers n q × IsGrownBy (tree_of q.db.docs d.id) (tree_alone d) (tree_of p.db.docs d.id)
  tree_at = before_at (λ q p. IsGrownBy (tree_of q.db.docs d.id) (tree_alone d) (tree_of p.db.docs d.id)) (written_grown (tree_of w.before.db.docs d.id) d (tree_of after.db.docs d.id) tree_then) (λ p. IsGrownBy-same (tree_of p.db.docs d.id) (tree_alone d))

  pub wrote_whole : AllWhole peers d.id → IsRootedAt peers place d → AllWhole peers' d.id
  wrote_whole whole rooted n p at =
      let stays = λ (was : IsWhole (tree_of w.before.db.docs d.id)). written_whole (tree_of w.before.db.docs d.id) d (tree_of after.db.docs d.id) tree_then was (rooted w.before w.at) in
      let x = before_at (λ q p. IsWhole (tree_of q.db.docs d.id) → IsWhole (tree_of p.db.docs d.id)) stays (λ _ was. was) n p at in
      x.2 (whole n x.0 x.1)

  written_agree : AllAgree peers d.id → FitsIn peers d → AllAgree peers' d.id
  written_agree agree fits m n p q a b =
      let x = tree_at m p a in
      let y = tree_at n q b in
      Agree-both (tree_alone d) (tree_of x.0.db.docs d.id) (tree_of y.0.db.docs d.id) (tree_of p.db.docs d.id) (tree_of q.db.docs d.id) x.2 y.2
      (agree m n x.0 y.0 x.1 y.1) (fits m x.0 x.1) (fits n y.0 y.1)

  -- the tree of another document
  pub same_at : (id : Id) → bytes_eq d.id id ≡ false → (n : ℕ) (p : PeerValue) → IsAt peers' n p → (q : PeerValue) × IsAt peers n q × (tree_of p.db.docs id ≡ tree_of q.db.docs id)
  same_at id apart = before_at (λ q p. tree_of p.db.docs id ≡ tree_of q.db.docs id) (put_other w.before.db d (next_local w.before) id apart) (λ _. refl)

  other_agree : (id : Id) → bytes_eq d.id id ≡ false → KeepsAgreement peers peers' id
  other_agree id apart agree whole = (
    λ m n p q a b.
        (let x = same_at id apart m p a in
        let y = same_at id apart n q b in
        subst (λ s. Agree s (tree_of q.db.docs id)) (sym x.2) (subst (Agree (tree_of x.0.db.docs id)) (sym y.2) (agree m n x.0 y.0 x.1 y.1))),
    λ n p at. (let x = same_at id apart n p at in subst IsWhole (sym x.2) (whole n x.0 x.1)),
  )

  pub wrote_agree : FitsIn peers d → IsRootedAt peers place d → (id : Id) → KeepsAgreement peers peers' id
  wrote_agree fits rooted id =
      elim (cases_Bool (bytes_eq d.id id)) [
        | inl same ↦ subst (KeepsAgreement peers peers') ((bytes_eq-Decides d.id id).0 same) (λ agree whole. (written_agree agree fits, wrote_whole whole rooted))
        | inr apart ↦ other_agree id apart
      ]

-- ---- an edit

-- the edit is the put of its document
module _ (peers : List PeerValue) (place : ℕ) (id : Id) (parent : Option RevId) (deleted : Bool) (body : List ℕ) (peers' : List PeerValue) (w : IsChangedAt place (λ p. after_edit p id parent deleted body) peers peers') where
  pub put_of : (e : RevId × Option RevId) → edited w.before.db id parent deleted body ≡ Ok e → IsChangedAt place (λ p. after_load p (edit_document id e deleted body)) peers peers'
  put_of e is = record {
    before = w.before;
    at = w.at;
    at_then = subst (λ r. IsAt peers' place (load_edited w.before id deleted body r)) is w.at_then;
    others = w.others;
  }

  -- the edit changes nothing
  pub none_of : (why : BaseFault) → edited w.before.db id parent deleted body ≡ Err why → (n : ℕ) (p : PeerValue) → IsAt peers' n p → IsAt peers n p
  none_of why is n p at =
      let now = subst (λ r. IsAt peers' place (load_edited w.before id deleted body r)) is w.at_then in
      let x = was_at peers place w.before w.before peers' (record { from = w.at; to = w.at; from_then = now; to_then = now; others = λ k o _. w.others k o }) (λ q p. q ≡ p) refl (λ _. refl) n p at in
      subst (IsAt peers n) x.2 x.1

  edited_agree : EditFits peers place id parent deleted body → (at : Id) → (r : Result (RevId × Option RevId) BaseFault) → edited w.before.db id parent deleted body ≡ r → KeepsAgreement peers peers' at
  edited_agree fits at (Ok e) is =
      wrote_agree peers place (edit_document id e deleted body) peers' (put_of e is) (fits w.before w.at e is)
      (λ p here. subst (λ (x : PeerValue). IsRooted x.db (edit_document id e deleted body)) (same_Some w.before p (sym w.at ∙ here)) (edit_rooted w.before.db id parent deleted body e is))
      at
  edited_agree fits at (Err why) is = λ agree whole. (λ m n p q a b. agree m n p q (none_of why is m p a) (none_of why is n q b), λ n p here. whole n p (none_of why is n p here))

  pub edit_agree : EditFits peers place id parent deleted body → (at : Id) → KeepsAgreement peers peers' at
  edit_agree fits at = edited_agree fits at (edited w.before.db id parent deleted body) refl
