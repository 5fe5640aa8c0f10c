-- Defines which documents were made only by edits, as specified in docs/PROFILE.md, "Nets" and "Ids of local edits".
use Rattle.std.specs.Prelude.{◌≡◌, ◌≢◌, ℕ, Bool, true, List, Option, Some, Ok}
use Rattle.std.specs.FinMap.{get}
use Rattle.rev_core.specs.Rev.{RevId}
use Rattle.rev_core.specs.NewRev.{edit_sig, edit_rev}
use Rattle.rev_tree.specs.Content.{ContentValue}
use Rattle.rev_tree.specs.Tree.{TreeValue}
use Rattle.rev_tree.specs.Agreement.{IsWhole}
use Rattle.couch_base.specs.Database.{Id, tree_of}
use Rattle.couch_base.specs.Put.{content_of}
use Rattle.couch_base.specs.Edit.{edited}
use Rattle.repl_peer.specs.peer.Peer.{PeerValue}
use Rattle.repl_network.specs.Nets.{IsAt, AllAgree, AllWhole}

-- An edit of a document: the parent revision, whether the edit deletes the document, and the body.
pub record EditValue : Type 0 where
  pub before : Option RevId
  pub deleted : Bool
  pub body : List ℕ

-- Edit e produces the revision id r.
abbrev pub Makes : EditValue → RevId → Type 0
Makes e r = edit_rev e.before e.deleted e.body ≡ Ok r

-- The tree t has complete histories. Each parent and each content in t comes from an edit of the given set.
pub record IsMadeBy (among : EditValue → Bool) (t : TreeValue) : Type 0 where
  pub parents : (c p : RevId) → get t.parents c ≡ Some p
      → (e : EditValue) × (among e ≡ true) × Makes e c × (e.before ≡ Some p)
  pub contents : (r : RevId) (b : ContentValue) → get t.contents r ≡ Some b
      → (e : EditValue) × (among e ≡ true) × Makes e r × (content_of e.deleted e.body ≡ b)
  pub whole : IsWhole t

abbrev pub AllMadeBy : (EditValue → Bool) → List PeerValue → Id → Type 0
AllMadeBy among peers id = (n : ℕ) (p : PeerValue) → IsAt peers n p → IsMadeBy among (tree_of p.db.docs id)

-- No two different edits of a set have the same MD5.
abbrev pub HaveNoCollision : (EditValue → Bool) → Type 0
HaveNoCollision among =
    (e f : EditValue) → among e ≡ true → among f ≡ true
    → edit_sig e.before e.deleted e.body ≡ edit_sig f.before f.deleted f.body → e ≡ f

-- An edit at the peer with index `place` fails, or is in the given set of edits.
abbrev pub IsOneOf : (EditValue → Bool) → List PeerValue → ℕ → Id → Option RevId → Bool → List ℕ → Type 0
IsOneOf among peers place id parent deleted body =
    (p : PeerValue) → IsAt peers place p → (e : RevId × Option RevId) → edited p.db id parent deleted body ≡ Ok e
    → among (record { before = e.1; deleted = deleted; body = body }) ≡ true

-- If only edits from a set without MD5 collisions made a document, the document's trees at all peers agree and have
-- complete histories.
abbrev pub MadeAgree : List PeerValue → Type 0
MadeAgree peers =
    (among : EditValue → Bool) → HaveNoCollision among → (id : Id) → AllMadeBy among peers id
    → AllAgree peers id × AllWhole peers id

-- Storing document `id` keeps the property `AllMadeBy` of every other document. The property says that only edits from
-- a given set made the document.
abbrev pub StaysMadeExcept : Id → List PeerValue → List PeerValue → Type 0
StaysMadeExcept id peers peers' =
    (among : EditValue → Bool) (other : Id) → other ≢ id → AllMadeBy among peers other → AllMadeBy among peers' other

-- An edit of document `id` keeps the property `AllMadeBy` of every other document. The property says that only edits
-- from a given set made the document. An edit of document `id` keeps the property `AllMadeBy` of `id` if the edit fails
-- or belongs to the set of edits (`IsOneOf`).
abbrev pub StaysMadeByEdit : ℕ → Id → Option RevId → Bool → List ℕ → List PeerValue → List PeerValue → Type 0
StaysMadeByEdit place id parent deleted body peers peers' =
    (among : EditValue → Bool) (at : Id) → (at ≡ id → IsOneOf among peers place id parent deleted body)
    → AllMadeBy among peers at → AllMadeBy among peers' at

-- The call keeps the property `AllMadeBy` of every document, for every set of edits. The property says that only edits
-- from the set made the document.
abbrev pub StaysMade : List PeerValue → List PeerValue → Type 0
StaysMade peers peers' = (among : EditValue → Bool) (id : Id) → AllMadeBy among peers id → AllMadeBy among peers' id
