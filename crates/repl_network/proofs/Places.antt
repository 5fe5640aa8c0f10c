-- Networks whose keys are indices: a hop, a write at one peer, one more peer, and two peers of a slice.
use Rattle.proof_prelude.proofs.{◌≡◌, ◌≢◌, ℕ, zero, suc, Bool, List, [], ◌∷◌, ◌++◌, length, slice_get, Option, Some, arith, refl, sym, ap, ◌∙◌, subst, inl, inr, same_Some, none-some, ◌+◌, ◌<◌, ◌≤◌, take, drop, drop_all, slice_set, get_or, get_or-set_other, Result, Ok, Err, OnOk, common_steps, cases_eq, slice_get-map, slice_get-get_or, map-append, set-append_right, All, All-head, All-tail}
use Rattle.std.proofs.lemmas.Option.{slice_get_past}
use Rattle.rev_core.specs.{RevId}
use Rattle.rev_tree.proofs.{slice_get-last}
use Rattle.doc_json.specs.Document.{Document}
use Rattle.couch_base.specs.{Id}
use Rattle.repl_peer.specs.{BackupValue, PeerValue, new_peer, after_load, after_edit, Report, TargetFault}
use Rattle.repl_peer.proofs.{IsLaterPeer-same, edit_by_load, edit_later, load_later}
use Rattle.repl_network.specs.{Added, AreKept, AreTied, Becomes, Hop, IsAt, IsChangedAt, IsHeld, IsNet, Replicated, Writes, Written, peers_of, AreChanged, filters_of, NetFault, IsHop, TakesHop, TakesHops, Carried, Ended, AllHopped}
use Rattle.repl_network.specs.Hopped.{Hopped}
use Rattle.repl_network.proofs.Steps.{moves, two_case, replicated_consistent, step_keeps, written_consistent}
use Rattle.std.proofs.lemmas.List.{set-append_left}
use Rattle.std.proofs.Math.Seq.{map-set_same}
use Rattle.repl_target.specs.{CoversFeed, IsTiedPair, Replicates}

-- ---- a hop

pub hop_tied : (peers : List PeerValue) (hop : Hop) (peers' : List PeerValue) → Hopped peers hop peers' → AreTied peers → AreTied peers'
hop_tied peers hop peers' h = replicated_consistent cases_eq (slice_get peers) (AreKept []) (slice_get peers') (AreKept []) (λ _ _ k. k) hop.from hop.to hop.plan h.moved

pub hop_net : (peers : List PeerValue) (hop : Hop) (peers' : List PeerValue) → Hopped peers hop peers' → (backups : List (ℕ × BackupValue)) → IsNet backups peers → IsNet backups peers'
hop_net peers hop peers' h backups net = step_keeps cases_eq (slice_get peers) (AreKept backups) (slice_get peers') (AreKept backups) net (Replicated hop.from hop.to hop.plan h.moved (λ _ _ k. k))

-- ---- a write

pub same_writes : (p : PeerValue) → Writes p p
same_writes p = record { later = IsLaterPeer-same p; logs = refl; sessions = refl }

pub load_writes : (d : Document) (p : PeerValue) → Writes p (after_load p d)
load_writes d p = record { later = load_later p d; logs = refl; sessions = refl }

pub edit_writes : (id : Id) (parent : Option RevId) (deleted : Bool) (body : List ℕ) (p : PeerValue) → Writes p (after_edit p id parent deleted body)
edit_writes id parent deleted body p =
    let same = edit_by_load (λ q. (q.outgoing ≡ p.outgoing) × (q.sessions ≡ p.sessions)) p (λ _. (refl, refl)) (refl, refl) id parent deleted body in
    record { later = edit_later p id parent deleted body; logs = same.0; sessions = same.1 }

pub becomes : (peers : List PeerValue) (place : ℕ) (change : PeerValue → PeerValue) (peers' : List PeerValue) (w : IsChangedAt place change peers peers') → Becomes (slice_get peers) place w.before (change w.before) (slice_get peers')
becomes peers place change peers' w = record { from = w.at; to = w.at; from_then = w.at_then; to_then = w.at_then; others = λ k o _. w.others k o }

module _ (peers : List PeerValue) (place : ℕ) (change : PeerValue → PeerValue) (peers' : List PeerValue) (writes : (p : PeerValue) → Writes p (change p)) (w : IsChangedAt place change peers peers') where
  pub wrote_tied : AreTied peers → AreTied peers'
  wrote_tied = written_consistent cases_eq (slice_get peers) (AreKept []) (slice_get peers') (AreKept []) (λ _ _ k. k) place w.before (change w.before) (becomes peers place change peers' w) (writes w.before)

  pub wrote_net : (backups : List (ℕ × BackupValue)) → IsNet backups peers → IsNet backups peers'
  wrote_net backups net = step_keeps cases_eq (slice_get peers) (AreKept backups) (slice_get peers') (AreKept backups) net (Written place w.before (change w.before) (becomes peers place change peers' w) (writes w.before) (λ _ _ k. k))

-- each peer was another one, to which it is related by P
pub was_at : (peers : List PeerValue) (place : ℕ) (before after : PeerValue) (peers' : List PeerValue) → Becomes (slice_get peers) place before after (slice_get peers') → (P : PeerValue → PeerValue → Type 0) → P before after → ((p : PeerValue) → P p p)
    → (n : ℕ) (p : PeerValue) → IsAt peers' n p → (q : PeerValue) × IsAt peers n q × P q p
was_at peers place before after peers' c P here past n p at =
    let x = (moves cases_eq (slice_get peers) (slice_get peers') place place before after before after c).back n p at in
    (x.0, x.1, two_case (slice_get peers) place place before after before after (λ _. P) here here (λ _ p _. past p) n x.0 p x.1 x.2)

-- ---- a new peer

pub before_last : {X : Type 0} (xs : List X) (y : X) (k : ℕ) → k ≢ length xs → slice_get (xs ++ y ∷ []) k ≡ slice_get xs k
before_last xs y k h = grind (arith, common_steps, slice_get-get_or xs k y, slice_get-get_or (xs ++ y ∷ []) k y, slice_get_past xs k, slice_get_past (xs ++ y ∷ []) k)

-- appended to the others
pub added_net : {F : Type 0} (backups : List (ℕ × BackupValue)) (peers : List (F × PeerValue)) (filter : F) (uuid : ℕ) → IsNet backups (peers_of peers) → (IsHeld (peers_of peers) uuid → ⊥) → IsNet backups (peers_of (peers ++ (filter, new_peer uuid) ∷ []))
added_net {F = F} backups peers filter uuid net fresh =
    let old = peers_of peers in
    subst (IsNet backups) (sym (map-append (λ (p : F × PeerValue). p.1) peers ((filter, new_peer uuid) ∷ [])))
    (step_keeps cases_eq (slice_get old) (AreKept backups) (slice_get (old ++ new_peer uuid ∷ [])) (AreKept backups) net (Added (length old) (new_peer uuid) (record {
      free = slice_get_past old (length old) (omega arith);
      now = slice_get-last old (new_peer uuid);
      others = before_last old (new_peer uuid);
      fresh = fresh;
      sessions = refl;
      logs = refl;
    }) (λ _ _ k. k)))

-- ---- elements of lists

set_there : {X : Type 0} (xs : List X) (k : ℕ) (a : X) → k < length xs → slice_get (slice_set xs k a) k ≡ Some a
set_there xs k a h = grind (arith, common_steps, slice_get-get_or (slice_set xs k a) k a)

set_other : {X : Type 0} (xs : List X) (k : ℕ) (a : X) (n : ℕ) → n ≢ k → slice_get (slice_set xs k a) n ≡ slice_get xs n
set_other xs k a n h = grind (arith, common_steps, slice_get-get_or xs n a, slice_get-get_or (slice_set xs k a) n a, slice_get_past xs n, slice_get_past (slice_set xs k a) n, get_or-set_other xs k n a a h)

-- ---- two peers were replaced

pub swapped : {X : Type 0} {old new : ℕ → Option X} {m n : ℕ} {a b a' b' : X} → AreChanged old m n a b a' b' new → AreChanged old n m b a b' a' new
swapped c = record { from = c.to; to = c.from; from_then = c.to_then; to_then = c.from_then; others = λ k x y. c.others k y x }

-- one on each side of a split
module _ {F : Type 0} (peers front back : List (F × PeerValue)) (k n : ℕ) (d e a' b' : F × PeerValue) (is : peers ≡ front ++ back) (len : length front ≡ n) (low : k < n) (within : n < length peers) where
  pub split_changed : AreChanged (slice_get peers) k n (get_or front k d) (get_or back 0 e) a' b' (slice_get (slice_set front k a' ++ slice_set back 0 b'))
  split_changed = record {
    from = grind (arith, common_steps, slice_get-get_or peers k d);
    to = grind (arith, common_steps, slice_get-get_or peers n e);
    from_then = grind (arith, common_steps, slice_get-get_or (slice_set front k a' ++ slice_set back 0 b') k a');
    to_then = grind (arith, common_steps, slice_get-get_or (slice_set front k a' ++ slice_set back 0 b') n b');
    others = λ m x y. grind (arith, common_steps, set-append_left front back k a', set-append_right (slice_set front k a') back n n b', set_other peers k a' m x, set_other (slice_set peers k a') n b' m y);
  }

  abbrev filter : F × PeerValue → F
  filter p = p.0

  pub two_filters : a'.0 ≡ (get_or front k d).0 → b'.0 ≡ (get_or back 0 e).0 → filters_of (slice_set front k a' ++ slice_set back 0 b') ≡ filters_of peers
  two_filters first second = grind (arith, common_steps, map-append filter front back, map-set_same filter front k a' d first, map-set_same filter back 0 b' e second, map-append filter (slice_set front k a') (slice_set back 0 b'))

pub at_of : {F : Type 0} (peers : List (F × PeerValue)) (place : ℕ) (p : F × PeerValue) → slice_get peers place ≡ Some p → IsAt (peers_of peers) place p.1
at_of peers place p is = grind (arith, common_steps, slice_get-map)

pub same_at : {F : Type 0} (peers peers' : List (F × PeerValue)) (n : ℕ) → slice_get peers' n ≡ slice_get peers n → slice_get (peers_of peers') n ≡ slice_get (peers_of peers) n
same_at peers peers' n same = grind (arith, common_steps, slice_get-map)

-- ---- the effect of a replication between them

module _ {F : Type 0} (peers peers' : List (F × PeerValue)) (hop : Hop) (s t s' t' : F × PeerValue) (two : hop.from ≢ hop.to) (c : AreChanged (slice_get peers) hop.from hop.to s t s' t' (slice_get peers')) where
  -- the replication is a hop
  pub hop_of : (may : F → Document → Bool) (r : Result Report TargetFault) → s'.0 ≡ s.0 → t'.0 ≡ t.0 → Replicates (may t.0) s.1 t.1 hop.plan r s'.1 t'.1 → IsHop may peers hop r peers'
  hop_of may r same same' replicates = record {
    source = s;
    target = t;
    source_then = s'.1;
    target_then = t'.1;
    two = two;
    changed = subst (λ (x : (F × PeerValue) × (F × PeerValue)). AreChanged (slice_get peers) hop.from hop.to s t x.0 x.1 (slice_get peers')) (λ i. ((same i, s'.1), (same' i, t'.1))) c;
    replicates = replicates;
  }

  module _ (refuses : Document → Bool) (carried : Carried refuses s.1 t.1 hop.plan s'.1 t'.1) where
    abbrev pub hopped_of : Hopped (peers_of peers) hop (peers_of peers')
    hopped_of = record {
      moved = record {
        refuses = refuses;
        source = s.1;
        target = t.1;
        source_then = s'.1;
        target_then = t'.1;
        two = two;
        changed = record {
          from = at_of peers hop.from s c.from;
          to = at_of peers hop.to t c.to;
          from_then = at_of peers' hop.from s' c.from_then;
          to_then = at_of peers' hop.to t' c.to_then;
          others = λ n x y. same_at peers peers' n (c.others n x y);
        };
        leaves = carried.leaves;
        later = carried.later;
      };
      source_law = carried.source_law;
      target_law = carried.target_law;
    }

    pub ended_of : {A E : Type 0} (r : Result A E) → OnOk r (IsTiedPair s.1 t.1 hop.plan.chosen → CoversFeed s.1 t'.1 hop.plan.chosen s.1.db.update_seq) → OnOk r (Ended (peers_of peers) hop (peers_of peers'))
    ended_of (Ok done) whole = record { hopped = hopped_of; whole = whole }
    ended_of (Err why) whole = tt

-- ---- a property of each peer

pub all_at : {F : Type 0} (P : PeerValue → Type 0) (peers : List (F × PeerValue)) → All (λ p. P p.1) peers → (n : ℕ) (p : PeerValue) → IsAt (peers_of peers) n p → P p
all_at P [] all n p at = absurd (none-some p at)
all_at P (x ∷ peers) all zero p at = subst P (same_Some x.1 p at) (All-head (λ p. P p.1) x peers all)
all_at P (x ∷ peers) all (suc n) p at = all_at P peers (All-tail (λ p. P p.1) x peers all) n p at

-- ---- hops

drop_next : (hops : List Hop) (k : ℕ) (hop : Hop) → k < length hops → hop ≡ get_or hops k hop → drop k hops ≡ hop ∷ drop (k + 1) hops
drop_next hops k hop within is = grind (arith, common_steps)

-- the next hop
pub hops_next : (old now next : List PeerValue) (hops : List Hop) (k : ℕ) (hop : Hop) → k < length hops → hop ≡ get_or hops k hop → Ended now hop next → ((end : List PeerValue) → AllHopped now (drop k hops) end → AllHopped old hops end)
    → (end : List PeerValue) → AllHopped next (drop (k + 1) hops) end → AllHopped old hops end
hops_next old now next hops k hop within is ended before end rest = before end (subst (λ hs. AllHopped now hs end) (sym (drop_next hops k hop within is)) (next, ended, rest))

-- all hops
pub hops_all : (old now : List PeerValue) (hops : List Hop) (k : ℕ) → length hops ≤ k → ((end : List PeerValue) → AllHopped now (drop k hops) end → AllHopped old hops end) → AllHopped old hops now
hops_all old now hops k over before = before now (subst (λ hs. AllHopped now hs now) (sym (drop_all k hops over)) refl)

-- the result of all hops is that of those from an index on
abbrev pub IsOnTheWay : {F : Type 0} → (F → Document → Bool) → List (F × PeerValue) → ℕ → List (F × PeerValue) → List Hop → Type 0
IsOnTheWay {F = F} refuses old k now hops =
    (result : Result (Unit {0}) NetFault) (end : List (F × PeerValue)) → TakesHops refuses k now (drop k hops) result end → TakesHops refuses 0 old hops result end

module _ {F : Type 0} (refuses : F → Document → Bool) (old now next : List (F × PeerValue)) (hops : List Hop) (k : ℕ) (hop : Hop) (within : k < length hops) (is : hop ≡ get_or hops k hop) where
  pub takes_next : (report : Report) → TakesHop refuses k now hop (Ok report) next → IsOnTheWay refuses old k now hops → IsOnTheWay refuses old (k + 1) next hops
  takes_next report step before result end rest = before result end (subst (λ hs. TakesHops refuses k now hs result end) (sym (drop_next hops k hop within is)) (inl (report, next, step, rest)))

  pub takes_refused : (why : NetFault) → TakesHop refuses k now hop (Err why) next → IsOnTheWay refuses old k now hops → TakesHops refuses 0 old hops (Err why) next
  takes_refused why step before = before (Err why) next (subst (λ hs. TakesHops refuses k now hs (Err why) next) (sym (drop_next hops k hop within is)) (inr (why, step, refl)))

pub takes_all : {F : Type 0} (refuses : F → Document → Bool) (old now : List (F × PeerValue)) (hops : List Hop) (k : ℕ) → length hops ≤ k → IsOnTheWay refuses old k now hops → TakesHops refuses 0 old hops (Ok tt) now
takes_all refuses old now hops k over before =
    before (Ok tt) now (subst (λ hs. TakesHops refuses k now hs (Ok tt) now) (sym (drop_all k hops over)) (refl, refl))

-- ---- one place

pub changed_at : {F : Type 0} (peers : List (F × PeerValue)) (place : ℕ) (d : F × PeerValue) → place < length peers → (a : F × PeerValue) (change : PeerValue → PeerValue) → a.1 ≡ change (get_or peers place d).1 → IsChangedAt place change (peers_of peers) (peers_of (slice_set peers place a))
changed_at peers place d within a change is = record {
  before = (get_or peers place d).1;
  at = at_of peers place (get_or peers place d) (slice_get-get_or peers place d within);
  at_then = at_of (slice_set peers place a) place a (set_there peers place a within) ∙ ap Some is;
  others = λ n apart. same_at peers (slice_set peers place a) n (set_other peers place a n apart);
}

pub there_at : {F : Type 0} (peers : List (F × PeerValue)) (place : ℕ) (d : F × PeerValue) → place < length peers → IsAt (peers_of peers) place (get_or peers place d).1
there_at peers place d within = at_of peers place (get_or peers place d) (slice_get-get_or peers place d within)

-- ---- all elements of a vector

-- a relation of the peers of a network, before and after a call on its slice
pub in_net : {X : Type 0} {was items self new : List X} {len : ℕ} → was ≡ items → items ≡ self → length new ≡ len → (P : List X → List X → Type 0) → P was new → P self (take len (new ++ drop (length new) items))
in_net {X} {was} {items} {self} {new} {len} is view size P h =
    let all : take len (new ++ drop (length new) items) ≡ new = grind (arith, common_steps) in
    subst (λ ps. P ps (take len (new ++ drop (length new) items))) (is ∙ view) (subst (P was) (sym all) h)
