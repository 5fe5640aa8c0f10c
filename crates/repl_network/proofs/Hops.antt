-- The effect of replications in a network: documents spread along chains.
use Rattle.proof_prelude.proofs.{◌≡◌, ℕ, true, List, [], ◌∷◌, length, slice_get, sym, ap, ◌∙◌, subst, inl, inr, and_parts, cases_eq, same_Some, slice_get_within}
use Rattle.rev_core.specs.{RevId}
use Rattle.rev_tree.specs.{TreeValue, has, is_leaf, IsGrownBy-same, all_known, same_by_leaves, same_leaves}
use Rattle.doc_json.specs.{is_chosen}
use Rattle.couch_base.specs.{Id, DatabaseValue, LawfulDatabase, tree_of}
use Rattle.repl_peer.specs.{PeerValue, IsLaterPeer}
use Rattle.repl_peer.proofs.{IsLaterPeer-same, logs_later}
use Rattle.repl_target.specs.{CoversFeed, IsTiedPair, HasGrownBy}
use Rattle.repl_target.proofs.{tree_lawful, leaf_covered, left_grown, covered_stands}
use Rattle.repl_network.specs.{Hop, IsAt, AreTied, AllAgree, AllWhole, IsRefusedNowhere, IsSameEverywhere, AllChoose, Leads, LeadsEverywhere, Spread, AllHopped, AllLawful, IsReplicated}
use Rattle.repl_network.specs.Hopped.{Hopped}
use Rattle.repl_network.proofs.Writes.{Agree-both, IsWhole-grown}
use Rattle.repl_network.proofs.Steps.{Moves, Two, at_source, at_target, elsewhere, moves}
use Rattle.repl_network.proofs.Places.{hop_tied}

abbrev tree : PeerValue → Id → TreeValue
tree p id = tree_of p.db.docs id

-- ---- one replication

-- the effect on any peer
pub record Changed (source : DatabaseValue) (p p' : PeerValue) : Type 0 where
  pub later : IsLaterPeer p p'
  pub law : LawfulDatabase p.db → LawfulDatabase p'.db
  pub grown : HasGrownBy p.db source p'.db

module _ (peers : List PeerValue) (hop : Hop) (peers' : List PeerValue) (h : Hopped peers hop peers') where
  abbrev move : IsReplicated (slice_get peers) hop.from hop.to hop.plan (slice_get peers')
  move = h.moved

  abbrev Became : ℕ → PeerValue → PeerValue → Type 0
  Became = Two hop.from hop.to move.source move.source_then move.target move.target_then

  all : Moves (slice_get peers) (slice_get peers') Became
  all = moves cases_eq (slice_get peers) (slice_get peers') hop.from hop.to move.source move.source_then move.target move.target_then move.changed

  target_grown : HasGrownBy move.target.db move.source.db move.target_then.db
  target_grown = left_grown move.refuses move.source move.target hop.plan move.target_then h.source_law move.leaves.left

  changed : (n : ℕ) (p q : PeerValue) → Became n p q → Changed move.source.db p q
  changed n p q at_source =
      subst (Changed move.source.db move.source) (sym move.leaves.log)
      (record { later = logs_later move.source move.source_then.outgoing; law = λ own. own; grown = λ id. IsGrownBy-same (tree move.source id) (tree move.source id) })
  changed n p q at_target = record { later = move.later; law = λ _. h.target_law; grown = target_grown }
  changed n p q (elsewhere o u) = record { later = IsLaterPeer-same p; law = λ own. own; grown = λ id. IsGrownBy-same (tree p id) (tree move.source id) }

  -- each peer was at its place before, and is still there
  pub was : (n : ℕ) (p : PeerValue) → IsAt peers' n p → (q : PeerValue) × IsAt peers n q × Changed move.source.db q p
  was n p at = (let x = all.back n p at in (x.0, x.1, changed n x.0 p x.2))

  pub still : (n : ℕ) (p : PeerValue) → IsAt peers n p → (q : PeerValue) × IsAt peers' n q × Changed move.source.db p q
  still n p at = (let x = all.forth n p at in (x.0, x.1, changed n p x.0 x.2))

  -- ---- the invariant, and refusals

  pub hop_law : AllLawful peers → AllLawful peers'
  hop_law law n p at = (let x = was n p at in x.2.law (law n x.0 x.1))

  pub none_before : (id : Id) → IsRefusedNowhere peers' id → IsRefusedNowhere peers id
  none_before id none n p at s m x k e =
      let q = still n p at in
      let t = q.2.later.sessions s m in
      none n q.0 q.1 t.0 t.1 x (t.2.ledger x k) e

  -- ---- a document

  module _ (id : Id) (agree : AllAgree peers id) (whole : AllWhole peers id) where
    pub hop_agree : AllAgree peers' id
    hop_agree m n p q a b =
        let x = was m p a in
        let y = was n q b in
        Agree-both (tree move.source id) (tree x.0 id) (tree y.0 id) (tree p id) (tree q id) (x.2.grown id) (y.2.grown id)
        (agree m n x.0 y.0 x.1 y.1) (agree m hop.from x.0 move.source x.1 move.from) (agree n hop.from y.0 move.source y.1 move.from)

    pub hop_whole : AllWhole peers' id
    hop_whole n p at =
        let x = was n p at in
        IsWhole-grown (tree x.0 id) (tree move.source id) (tree p id) (x.2.grown id) (whole n x.0 x.1) (whole hop.from move.source move.from)

    -- all revisions of the source are brought to the target
    pub hop_brings : (IsTiedPair move.source move.target hop.plan.chosen → CoversFeed move.source move.target_then hop.plan.chosen move.source.db.update_seq) → AreTied peers → is_chosen hop.plan.chosen id ≡ true → IsRefusedNowhere peers' id → (r : RevId) → has (tree move.source id) r ≡ true → has (tree move.target_then id) r ≡ true
    hop_brings covers net chosen none r there =
        let a = agree hop.from hop.to move.source move.target move.from move.to in
        let covered = covers (net.tied hop.from hop.to move.source move.target move.from move.to move.two hop.plan.chosen [] (λ _ m. absurd m)).pair in
        all_known (tree move.source id) (tree move.target_then id) (tree_lawful move.source.db h.source_law id) (tree_lawful move.target_then.db h.target_law id)
        (Agree-both (tree move.source id) (tree move.source id) (tree move.target id) (tree move.source id) (tree move.target_then id) (IsGrownBy-same (tree move.source id) (tree move.source id)) (target_grown id) a (agree hop.from hop.from move.source move.source move.from move.from) (agree hop.to hop.from move.target move.source move.to move.from))
        (IsWhole-grown (tree move.target id) (tree move.source id) (tree move.target_then id) (target_grown id) (whole hop.to move.target move.to) (whole hop.from move.source move.from))
        (λ leaf top. covered_stands move.target_then id (none hop.to move.target_then move.to_then) leaf (leaf_covered hop.plan.chosen move.source.db move.target_then h.source_law covered id chosen leaf top))
        r there

-- ---- consecutive replications

-- a property that each replication keeps
all_hops : (P : List PeerValue → Type 0) → ((peers : List PeerValue) (hop : Hop) (peers' : List PeerValue) → Hopped peers hop peers' → P peers → P peers') → (hops : List Hop) (peers peers' : List PeerValue) → AllHopped peers hops peers' → P peers → P peers'
all_hops P step [] peers peers' all own = subst P (sym all) own
all_hops P step (hop ∷ hops) peers peers' all own = all_hops P step hops all.0 peers' all.2 (step peers hop all.0 all.1.hopped own)

-- each place existed before, and each revision that is anywhere afterwards was somewhere before
came : (id : Id) (hops : List Hop) (peers peers' : List PeerValue) → AllHopped peers hops peers' → (n : ℕ) (q : PeerValue) → IsAt peers' n q
    → ((p : PeerValue) × IsAt peers n p) × ((r : RevId) → has (tree q id) r ≡ true → (m : ℕ) × (p : PeerValue) × IsAt peers m p × (has (tree p id) r ≡ true))
came id hops peers peers' all =
    all_hops (λ ps. (n : ℕ) (q : PeerValue) → IsAt ps n q → ((p : PeerValue) × IsAt peers n p) × ((r : RevId) → has (tree q id) r ≡ true → (m : ℕ) × (p : PeerValue) × IsAt peers m p × (has (tree p id) r ≡ true)))
    (λ ps hop ps' h before n q at.
    (let y = was ps hop ps' h n q at in
    let x = before n y.0 y.1 in
    (x.0, λ r there. elim ((y.2.grown id).revs r there) [ inl own ↦ x.1 r own | inr brought ↦ (before hop.from h.moved.source h.moved.from).1 r brought ])))
    hops peers peers' all (λ n q at. ((q, at), λ r there. (n, q, at, there)))

-- all revisions at the beginning of a chain are at its end
along_chain : (id : Id) (hops : List Hop) (peers peers' : List PeerValue) → AllHopped peers hops peers' → AreTied peers → AllChoose hops id → IsRefusedNowhere peers' id → AllAgree peers id → AllWhole peers id
    → (m n : ℕ) (p q : PeerValue) → IsAt peers m p → IsAt peers' n q → Leads hops m n → (r : RevId) → has (tree p id) r ≡ true → has (tree q id) r ≡ true
along_chain id [] peers peers' all net choose none agree whole m n p q a b leads r there =
    let same : p ≡ q = same_Some p q (sym a ∙ ap (slice_get peers) leads ∙ ap (λ ps. slice_get ps n) (sym all) ∙ b) in
    subst (λ (x : PeerValue). has (tree x id) r ≡ true) same there
along_chain id (hop ∷ hops) peers peers' all net choose none agree whole m n p q a b leads r there =
    let mid = all.0 in
    let step = all.1 in
    let first = all_hops (λ ps. IsRefusedNowhere ps id → IsRefusedNowhere mid id) (λ ps hop ps' h before none. before (none_before ps hop ps' h id none)) hops mid peers' all.2 (λ none. none) none in
    let further = along_chain id hops mid peers' all.2 (hop_tied peers hop mid step.hopped net) choose.1 none (hop_agree peers hop mid step.hopped id agree whole) (hop_whole peers hop mid step.hopped id agree whole) in
    elim leads [
      | inl past ↦
          let x = still peers hop mid step.hopped m p a in
          further m n x.0 q x.1 b past r (x.2.later.db.has id r there)
      | inr by ↦
          let same : p ≡ step.hopped.moved.source = same_Some p step.hopped.moved.source (sym a ∙ ap (slice_get peers) by.0 ∙ step.hopped.moved.from) in
          further hop.to n step.hopped.moved.target_then q step.hopped.moved.to_then b by.1 r
          (hop_brings peers hop mid step.hopped id agree whole step.whole net choose.0 first r (subst (λ (x : PeerValue). has (tree x id) r ≡ true) same there))
    ]

pub all_spread : (hops : List Hop) (peers peers' : List PeerValue) → AllLawful peers → AllHopped peers hops peers' → AreTied peers → Spread peers hops peers'
all_spread hops peers peers' law all net id choose none agree whole = record { along = along; same = same; came = λ n q at. (came id hops peers peers' all n q at).1; agree = ends.0; whole = ends.1 }
  where
    ends : AllAgree peers' id × AllWhole peers' id
    ends = all_hops (λ ps. AllAgree ps id × AllWhole ps id) (λ ps hop ps' h own. (hop_agree ps hop ps' h id own.0 own.1, hop_whole ps hop ps' h id own.0 own.1)) hops peers peers' all (agree, whole)

    along : (m n : ℕ) (p q : PeerValue) → IsAt peers m p → IsAt peers' n q → Leads hops m n → (r : RevId) → has (tree p id) r ≡ true → has (tree q id) r ≡ true
    along = along_chain id hops peers peers' all net choose none agree whole

    same : LeadsEverywhere hops (length peers) → IsSameEverywhere peers' id
    same leads m n p q a b =
        let law' = all_hops AllLawful hop_law hops peers peers' all law in
        let is =
        same_by_leaves (tree p id) (tree q id) (tree_lawful p.db (law' m p a) id) (tree_lawful q.db (law' n q b) id) (ends.0 m n p q a b) (ends.1 m p a) (ends.1 n q b)
        (knows m n p q a b) (knows n m q p b a) in
        (is, same_leaves (tree p id) (tree q id) is)
      where
        knows : (m n : ℕ) (p q : PeerValue) → IsAt peers' m p → IsAt peers' n q → (leaf : RevId) → is_leaf (tree p id) leaf ≡ true → has (tree q id) leaf ≡ true
        knows m n p q a b leaf top =
            let x = (came id hops peers peers' all m p a).1 leaf (and_parts _ _ top).0 in
            let y = (came id hops peers peers' all n q b).0 in
            along x.0 n x.1 q x.2 b (leads x.0 n (slice_get_within peers x.0 x.1 x.2) (slice_get_within peers n y.0 y.1)) leaf x.3
