-- Documents made only by edits agree, if no two different edits have the same MD5; and they stay made by the edits.
use Rattle.proof_prelude.proofs.{arith, common_steps, ◌≡◌, ℕ, Bool, true, false, List, [], ◌∷◌, ◌++◌, ◌⊎◌, length, Option, Some, None, is_some, Result, Ok, Err, refl, sym, ap, ◌∙◌, subst, inl, inr, bytes_eq, option_to_list, get, get-empty, eq_by_cmp, false≢true, cases_Bool, cases_eq, map-append, slice_get, same_Some, bytes_eq-Decides}
use Rattle.rev_core.specs.{RevId, rev_cmp, rev_tie_is, edges_of, edit_rev}
use Rattle.rev_tree.proofs.{slice_get-last}
use Rattle.rev_tree.specs.{ContentValue, TreeValue, at_head, Agree, IsGrownBy}
use Rattle.doc_json.specs.Document.{Document}
use Rattle.couch_base.specs.{Id, tree_of, content_of, edited, edit_document, BaseFault}
use Rattle.repl_peer.specs.{PeerValue, new_peer, after_edit, after_load}
use Rattle.repl_network.specs.{Hop, IsAt, peers_of, tree_alone, IsRooted, IsRootedAt, IsChangedAt, EditValue, Makes, IsMadeBy, AllMadeBy, HaveNoCollision, IsOneOf, MadeAgree, StaysMade, StaysMadeExcept}
use Rattle.repl_network.specs.Hopped.{Hopped}
use Rattle.repl_network.proofs.Writes.{IsWhole-grown, alone, edit_makes, edit_rooted, sig_of}
use Rattle.repl_network.proofs.Places.{before_last}
use Rattle.repl_network.proofs.Hops.{was}
use Rattle.repl_network.proofs.Writes as writes

-- ---- agreement

one_edit : (among : EditValue → Bool) → HaveNoCollision among → (e f : EditValue) (r : RevId) → among e ≡ true → among f ≡ true → Makes e r → Makes f r → e ≡ f
one_edit among apart e f r a b m n = apart e f a b (sig_of e.before e.deleted e.body r m ∙ sym (sig_of f.before f.deleted f.body r n))

pub made_agree : (peers : List PeerValue) → MadeAgree peers
made_agree peers among apart id made = (
  λ m n p q a b. both (tree_of p.db.docs id) (tree_of q.db.docs id) (made m p a) (made n q b),
  λ n p at. (made n p at).whole,
)
  where
    both : (s t : TreeValue) → IsMadeBy among s → IsMadeBy among t → Agree s t
    both s t x y = record {
      parents = λ c p q h k.
          (let e = x.parents c p h in
          let f = y.parents c q k in
          let same = one_edit among apart e.0 f.0 c e.1 f.1 e.2 f.2 in
          same_Some p q (sym e.3 ∙ (ap (λ (z : EditValue). z.before) same ∙ f.3)));
      contents = λ r b d h k.
          (let e = x.contents r b h in
          let f = y.contents r d k in
          let same = one_edit among apart e.0 f.0 r e.1 f.1 e.2 f.2 in
          sym e.3 ∙ (ap (λ (z : EditValue). content_of z.deleted z.body) same ∙ f.3));
    }

-- ---- they stay made by the edits

module _ (among : EditValue → Bool) where
  grown : (s by s' : TreeValue) → IsGrownBy s by s' → IsMadeBy among s → IsMadeBy among by → IsMadeBy among s'
  grown s by s' g x y = record {
    parents = λ c p h. elim (g.parents c p h) [ inl own ↦ x.parents c p own | inr new ↦ y.parents c p new ];
    contents = λ r b h. elim (g.contents r b h) [ inl own ↦ x.contents r b own | inr new ↦ y.contents r b new ];
    whole = IsWhole-grown s by s' g x.whole y.whole;
  }

  pub hop_made : (peers : List PeerValue) (hop : Hop) (peers' : List PeerValue) → Hopped peers hop peers' → (id : Id) → AllMadeBy among peers id → AllMadeBy among peers' id
  hop_made peers hop peers' h id made n p at =
      let x = was peers hop peers' h n p at in
      grown (tree_of x.0.db.docs id) (tree_of h.moved.source.db.docs id) (tree_of p.db.docs id) (x.2.grown id) (made n x.0 x.1) (made hop.from h.moved.source h.moved.from)

  other_stays : (peers : List PeerValue) (place : ℕ) (d : Document) (peers' : List PeerValue) → IsChangedAt place (λ p. after_load p d) peers peers' → (other : Id) → bytes_eq d.id other ≡ false → AllMadeBy among peers other → AllMadeBy among peers' other
  other_stays peers place d peers' w other apart made n p at =
      let x = writes.same_at peers place d peers' w other apart n p at in
      subst (IsMadeBy among) (sym x.2) (made n x.0 x.1)

  -- the only edge and the only content of an edit's document
  module _ (id : Id) (deleted : Bool) (body : List ℕ) (rev : RevId) where
    edge_of : (before : Option RevId) (c p : RevId) → get (tree_alone (edit_document id (rev, before) deleted body)).parents c ≡ Some p → (c ≡ rev) × (before ≡ Some p)
    edge_of None c p h = absurd (false≢true (ap is_some (sym (alone (edges_of (rev ∷ [])) c) ∙ h)))
    edge_of (Some b) c p h = grind (arith, common_steps, alone (edges_of (rev ∷ b ∷ [])) c, rev_tie_is c rev)

    content_at : (before : Option RevId) (r : RevId) (x : ContentValue) → get (tree_alone (edit_document id (rev, before) deleted body)).contents r ≡ Some x → (r ≡ rev) × (content_of deleted body ≡ x)
    content_at before r x h = grind (arith, common_steps, alone (at_head (rev ∷ option_to_list before) (content_of deleted body)) r, rev_tie_is r rev)

  module _ (peers : List PeerValue) (place : ℕ) (id : Id) (parent : Option RevId) (deleted : Bool) (body : List ℕ) (peers' : List PeerValue) (w : IsChangedAt place (λ p. after_edit p id parent deleted body) peers peers')
    where
      own_made : IsOneOf among peers place id parent deleted body → (e : RevId × Option RevId) → edited w.before.db id parent deleted body ≡ Ok e → AllMadeBy among peers id → AllMadeBy among peers' id
      own_made one e is made n p at =
          let d = edit_document id e deleted body in
          let put = writes.put_of peers place id parent deleted body peers' w e is in
          let x = writes.tree_at peers place d peers' put n p at in
          let was = made n x.0 x.1 in
          let makes = edit_makes w.before.db id parent deleted body e is in
          let rooted : IsRootedAt peers place d = λ q here. subst (λ (y : PeerValue). IsRooted y.db d) (same_Some w.before q (sym w.at ∙ here)) (edit_rooted w.before.db id parent deleted body e is) in
          let edit : EditValue = record { before = e.1; deleted = deleted; body = body } in
          record {
            parents = λ c q h. elim (x.2.parents c q h) [ inl own ↦ was.parents c q own | inr new ↦ (let k = edge_of id deleted body e.0 e.1 c q new in (edit, one w.before w.at e is, makes ∙ ap Ok (sym k.0), k.1)) ];
            contents = λ r b h. elim (x.2.contents r b h) [ inl own ↦ was.contents r b own | inr new ↦ (let k = content_at id deleted body e.0 e.1 r b new in (edit, one w.before w.at e is, makes ∙ ap Ok (sym k.0), k.1)) ];
            whole = writes.wrote_whole peers place d peers' put (λ m q k. (made m q k).whole) rooted n p at;
          }

      made_by : (r : Result (RevId × Option RevId) BaseFault) → edited w.before.db id parent deleted body ≡ r → (at : Id) → (at ≡ id → IsOneOf among peers place id parent deleted body) → AllMadeBy among peers at → AllMadeBy among peers' at
      made_by (Err why) is at one made = λ n p here. made n p (writes.none_of peers place id parent deleted body peers' w why is n p here)
      made_by (Ok e) is at one made =
          elim (cases_Bool (bytes_eq id at)) [
            | inl same ↦ (let equal = (bytes_eq-Decides id at).0 same in subst (AllMadeBy among peers') equal (own_made (one (sym equal)) e is (subst (AllMadeBy among peers) (sym equal) made)))
            | inr apart ↦ other_stays peers place (edit_document id e deleted body) peers' (writes.put_of peers place id parent deleted body peers' w e is) at apart made
          ]

      pub edit_made : (at : Id) → (at ≡ id → IsOneOf among peers place id parent deleted body) → AllMadeBy among peers at → AllMadeBy among peers' at
      edit_made at one made = made_by (edited w.before.db id parent deleted body) refl at one made

-- documents with another id than a loaded one
pub load_made : (peers : List PeerValue) (place : ℕ) (d : Document) (peers' : List PeerValue) → IsChangedAt place (λ p. after_load p d) peers peers' → StaysMadeExcept d.id peers peers'
load_made peers place d peers' w among other apart made =
    elim (cases_Bool (bytes_eq d.id other)) [
      | inl same ↦ absurd (apart (sym ((bytes_eq-Decides d.id other).0 same)))
      | inr differ ↦ other_stays among peers place d peers' w other differ made
    ]

-- a new peer has no documents
pub added_made : {F : Type 0} (peers : List (F × PeerValue)) (filter : F) (uuid : ℕ) → StaysMade (peers_of peers) (peers_of (peers ++ (filter, new_peer uuid) ∷ []))
added_made {F = F} peers filter uuid among id made n p at =
    let old = peers_of peers in
    let new = new_peer uuid in
    let there : IsAt (old ++ new ∷ []) n p = subst (λ ps. IsAt ps n p) (map-append (λ (x : F × PeerValue). x.1) peers ((filter, new) ∷ [])) at in
    elim (cases_eq n (length old)) [
      | inl e ↦ subst (λ (x : PeerValue). IsMadeBy among (tree_of x.db.docs id)) (same_Some new p (sym (slice_get-last old new) ∙ ap (slice_get (old ++ new ∷ [])) (sym e) ∙ there)) (record {
        parents = λ c q h. absurd (false≢true (ap is_some (sym (get-empty rev_cmp c) ∙ h)));
        contents = λ r b h. absurd (false≢true (ap is_some (sym (get-empty rev_cmp r) ∙ h)));
        whole = λ r there none. absurd (false≢true (sym (ap is_some (get-empty rev_cmp r)) ∙ there));
      })
      | inr o ↦ made n p (sym (before_last old new n o) ∙ there)
    ]
