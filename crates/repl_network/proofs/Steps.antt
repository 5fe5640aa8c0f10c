-- The steps of a network keep its invariant.
use Rattle.proof_prelude.proofs.{◌≡◌, ◌≢◌, ◌⊎◌, ℕ, List, [], ◌∷◌, Option, Some, Ok, refl, sym, ap, ◌∙◌, subst, inl, inr, same_Some, none-some}
use Rattle.doc_json.specs.{Choice}
use Rattle.couch_base.specs.{Among}
use Rattle.repl_log.specs.declared.replication.RepId.{RepId}
use Rattle.repl_log.specs.{EntryValue, log_in}
use Rattle.repl_peer.specs.{BackupValue, PeerValue, SessionValue, copy_of, rep_between, restore_answer, restored}
use Rattle.repl_target.specs.{AreTiedEntries, IsTiedWith, Plan}
use Rattle.repl_target.proofs.{left_log, turned_tied}
use Rattle.repl_network.specs.Network.{AreChanged, AreConsistent, AreCopiesAt, AreTiedAt, Becomes, ComeFromOthers, IsAdded, IsCopyAt, IsHeldBy, IsNetwork, IsOther, IsReplicated, LeadToOthers, Step, Writes}
use Rattle.repl_network.specs.Network.{Written, Replicated, BackedUp, Restored, Added}
use Rattle.repl_network.proofs.Pairs.{written_source, written_target, restores_in, restored_source, restored_target, none_tied, left_of, put_logs}

abbrev uuid_of : PeerValue → ℕ
uuid_of p = p.db.uuid

-- a peer of a network in which at most the peers s and t, with the keys m and n, became s' and t'
pub data Two {K : Type 0} (m n : K) (s s' t t' : PeerValue) : K → PeerValue → PeerValue → Type 0 where
  at_source : Two m n s s' t t' m s s'
  at_target : Two m n s s' t t' n t t'
  elsewhere : {k : K} {p : PeerValue} → k ≢ m → k ≢ n → Two m n s s' t t' k p p

-- a property of the two changed peers and of the others
pub two_case : {K : Type 0} (peers : K → Option PeerValue) (m n : K) (s s' t t' : PeerValue) (P : K → PeerValue → PeerValue → Type 0) → P m s s' → P n t t' → ((k : K) (p : PeerValue) → peers k ≡ Some p → P k p p) → (k : K) (p q : PeerValue) → peers k ≡ Some p → Two m n s s' t t' k p q → P k p q
two_case peers m n s s' t t' P source target past k p q at at_source = source
two_case peers m n s s' t t' P source target past k p q at at_target = target
two_case peers m n s s' t t' P source target past k p q at (elsewhere o u) = past k p at

-- every peer before has a peer after, and the reverse
pub record Moves {K : Type 0} (peers peers' : K → Option PeerValue) (Became : K → PeerValue → PeerValue → Type 0) : Type 0 where
  pub back : (k : K) (q : PeerValue) → peers' k ≡ Some q → (p : PeerValue) × (peers k ≡ Some p) × Became k p q
  pub forth : (k : K) (p : PeerValue) → peers k ≡ Some p → (q : PeerValue) × (peers' k ≡ Some q) × Became k p q

pub moves : {K : Type 0} (decide : (m n : K) → (m ≡ n) ⊎ (m ≢ n)) (peers peers' : K → Option PeerValue) (m n : K) (s s' t t' : PeerValue) → AreChanged peers m n s t s' t' peers' → Moves peers peers' (Two m n s s' t t')
moves {K = K} decide peers peers' m n s s' t t' c = record {
  back = λ k q at. elim (decide k m) [
    | inl e ↦ (s, ap peers e ∙ c.from, subst (λ (x : K × PeerValue). Two m n s s' t t' x.0 s x.1) (λ i. (sym e i, same_Some s' q (sym c.from_then ∙ ap peers' (sym e) ∙ at) i)) at_source)
    | inr o ↦ elim (decide k n) [
      | inl e ↦ (t, ap peers e ∙ c.to, subst (λ (x : K × PeerValue). Two m n s s' t t' x.0 t x.1) (λ i. (sym e i, same_Some t' q (sym c.to_then ∙ ap peers' (sym e) ∙ at) i)) at_target)
      | inr u ↦ (q, sym (c.others k o u) ∙ at, elsewhere o u)
    ]
  ];
  forth = λ k p at. elim (decide k m) [
    | inl e ↦ (s', ap peers' e ∙ c.from_then, subst (λ (x : K × PeerValue). Two m n s s' t t' x.0 x.1 s') (λ i. (sym e i, same_Some s p (sym c.from ∙ ap peers (sym e) ∙ at) i)) at_source)
    | inr o ↦ elim (decide k n) [
      | inl e ↦ (t', ap peers' e ∙ c.to_then, subst (λ (x : K × PeerValue). Two m n s s' t t' x.0 x.1 t') (λ i. (sym e i, same_Some t p (sym c.to ∙ ap peers (sym e) ∙ at) i)) at_target)
      | inr u ↦ (p, c.others k o u ∙ at, elsewhere o u)
    ]
  ];
}

-- the peers have the same UUIDs as before
pub same_uuids : {K : Type 0} (decide : (m n : K) → (m ≡ n) ⊎ (m ≢ n)) (peers peers' : K → Option PeerValue) (m n : K) (s s' t t' : PeerValue) → AreChanged peers m n s t s' t' peers' → uuid_of s' ≡ uuid_of s → uuid_of t' ≡ uuid_of t → (u : ℕ)
    → (IsHeldBy peers u → IsHeldBy peers' u) × (IsHeldBy peers' u → IsHeldBy peers u)
same_uuids decide peers peers' m n s s' t t' c e f u =
    let move = moves decide peers peers' m n s s' t t' c in
    let same = two_case peers m n s s' t t' (λ _ p q. uuid_of q ≡ uuid_of p) e f (λ _ _ _. refl) in (
      λ h. (let x = move.forth h.0 h.1 h.2 in (h.0, x.0, x.1, same h.0 h.1 x.0 h.2 x.2 ∙ h.3)),
      λ h. (let x = move.back h.0 h.1 h.2 in (h.0, x.0, x.1, sym (same h.0 x.0 h.1 x.1 x.2) ∙ h.3)),
    )

-- the change of at most two peers keeps all pairs consistent
pub record KeepsPairs {K : Type 0} (peers : K → Option PeerValue) (copy : K → BackupValue → Type 0) (m n : K) (s s' t t' : PeerValue) : Type 0 where
  pub source_uuid : uuid_of s' ≡ uuid_of s
  pub target_uuid : uuid_of t' ≡ uuid_of t
  pub forward : m ≢ n → (c : Choice) → AreTiedAt copy m s t c → AreTiedAt copy m s' t' c
  pub reverse : m ≢ n → (c : Choice) → AreTiedAt copy n t s c → AreTiedAt copy n t' s' c
  pub from_source : (k : K) (q : PeerValue) → k ≢ n → peers k ≡ Some q → (c : Choice) → AreTiedAt copy m s q c → AreTiedAt copy m s' q c
  pub into_source : (k : K) (p : PeerValue) (c : Choice) → AreTiedAt copy k p s c → AreTiedAt copy k p s' c
  pub from_target : (q : PeerValue) (c : Choice) → AreTiedAt copy n t q c → AreTiedAt copy n t' q c
  pub into_target : (k : K) (p : PeerValue) → k ≢ m → peers k ≡ Some p → (c : Choice) → AreTiedAt copy k p t c → AreTiedAt copy k p t' c

module _ {K : Type 0} (decide : (m n : K) → (m ≡ n) ⊎ (m ≢ n)) (peers : K → Option PeerValue) (copy : K → BackupValue → Type 0) where
  -- each peer is consistent with itself too
  pub network_tied : IsNetwork peers copy → (m n : K) (p q : PeerValue) → peers m ≡ Some p → peers n ≡ Some q → (c : Choice) → AreTiedAt copy m p q c
  network_tied h m n p q at at' c backups own =
      elim (decide m n) [
        | inl e ↦
            (let one : p ≡ q = same_Some p q (sym at ∙ ap peers e ∙ at') in
            subst (λ z. IsTiedWith backups p z c) one (none_tied p p c
            (λ s j r. (h.sessions m p at s j).1 (ap (λ (i : RepId). i.source) r))
            (λ l j r. (h.logs m p at l j).1 (ap (λ (i : RepId). i.target) r))
            backups
            (λ b i l j r.
            (let k = h.copies m b (own b i) in
            let same : k.peer ≡ p = same_Some k.peer p (sym k.there ∙ at) in
            (k.logs l j).1 (ap (λ (i : RepId). i.target) r ∙ ap uuid_of (sym same))))))
        | inr ne ↦ h.consistent.tied m n p q at at' ne c backups own
      ]

  -- ---- one more backup

  backed_network : (copy' : K → BackupValue → Type 0) (n : K) (p : PeerValue) → peers n ≡ Some p → ((k : K) (b : BackupValue) → copy' k b → copy k b ⊎ (k ≡ n) × (b ≡ copy_of p)) → IsNetwork peers copy → IsNetwork peers copy'
  backed_network copy' n p at more h = record {
    consistent = record {
      apart = h.consistent.apart;
      tied = λ k l x y at_x at_y ne c backups own.
          (let pair = (h.consistent.tied k l x y at_x at_y ne c [] (λ b j. absurd j)).pair in
          record {
            pair = pair;
            copies = λ b j. elim (more k b (own b j)) [
              | inl was ↦ (h.consistent.tied k l x y at_x at_y ne c (b ∷ []) (λ z i. elim i [ inl e ↦ subst (copy k) (sym e) was | inr none ↦ absurd none ])).copies b (inl refl)
              | inr new ↦
                  (let one : p ≡ x = same_Some p x (sym at ∙ ap peers (sym new.0) ∙ at_x) in
                  subst (λ (z : BackupValue). AreTiedEntries z.db y (rep_between x y c) (log_in z.outgoing (rep_between x y c))) (sym (new.1 ∙ ap copy_of one)) pair.log)
            ];
          });
    };
    copies = λ k b i. elim (more k b i) [
      | inl was ↦ h.copies k b was
      | inr new ↦ subst (IsCopyAt peers k) (sym new.1) (record { peer = p; there = ap peers new.0 ∙ at; uuid = refl; logs = h.logs n p at })
    ];
    logs = h.logs;
    sessions = h.sessions;
  }

  -- ---- other peers, and no more backups

  module _ (peers' : K → Option PeerValue) (copy' : K → BackupValue → Type 0) (less : (k : K) (b : BackupValue) → copy' k b → copy k b) where
    -- at most two peers change
    module _ (m n : K) (s s' t t' : PeerValue) (c : AreChanged peers m n s t s' t' peers') (f : KeepsPairs peers copy m n s s' t t') where
      move : Moves peers peers' (Two m n s s' t t')
      move = moves decide peers peers' m n s s' t t' c

      each : (P : K → PeerValue → PeerValue → Type 0) → P m s s' → P n t t' → ((k : K) (p : PeerValue) → peers k ≡ Some p → P k p p) → (k : K) (p q : PeerValue) → peers k ≡ Some p → Two m n s s' t t' k p q → P k p q
      each = two_case peers m n s s' t t'

      uuid : (k : K) (p q : PeerValue) → peers k ≡ Some p → Two m n s s' t t' k p q → uuid_of q ≡ uuid_of p
      uuid = each (λ _ p q. uuid_of q ≡ uuid_of p) f.source_uuid f.target_uuid (λ _ _ _. refl)

      pairs : (k l : K) (p q p' q' : PeerValue) → k ≢ l → peers k ≡ Some p → peers l ≡ Some q → Two m n s s' t t' k p p' → Two m n s s' t t' l q q' → (c : Choice) → AreTiedAt copy k p q c → AreTiedAt copy k p' q' c
      pairs k l p q p' q' ne at at' at_source at_source c = absurd (ne refl)
      pairs k l p q p' q' ne at at' at_source at_target c = f.forward ne c
      pairs k l p q p' q' ne at at' at_source (elsewhere o u) c = f.from_source l q u at' c
      pairs k l p q p' q' ne at at' at_target at_source c = f.reverse (λ e. ne (sym e)) c
      pairs k l p q p' q' ne at at' at_target at_target c = absurd (ne refl)
      pairs k l p q p' q' ne at at' at_target (elsewhere o u) c = f.from_target q c
      pairs k l p q p' q' ne at at' (elsewhere o u) at_source c = f.into_source k p c
      pairs k l p q p' q' ne at at' (elsewhere o u) at_target c = f.into_target k p o at c
      pairs k l p q p' q' ne at at' (elsewhere o u) (elsewhere v w) c = λ h. h

      two_consistent : AreConsistent peers copy → AreConsistent peers' copy'
      two_consistent h = record {
        apart = λ k l p q a b e. (let x = move.back k p a in let y = move.back l q b in h.apart k l x.0 y.0 x.1 y.1 (sym (uuid k x.0 p x.1 x.2) ∙ e ∙ uuid l y.0 q y.1 y.2));
        tied = λ k l p q a b ne c backups own.
            (let x = move.back k p a in
            let y = move.back l q b in
            pairs k l x.0 y.0 p q ne x.1 y.1 x.2 y.2 c (h.tied k l x.0 y.0 x.1 y.1 ne c) backups (λ z i. less k z (own z i)));
      }

      two_network : LeadToOthers peers (uuid_of s) s'.outgoing → LeadToOthers peers (uuid_of t) t'.outgoing → ComeFromOthers peers (uuid_of s) s'.sessions → ComeFromOthers peers (uuid_of t) t'.sessions → IsNetwork peers copy → IsNetwork peers' copy'
      two_network source_logs target_logs source_sessions target_sessions h = record {
        consistent = two_consistent h.consistent;
        copies = λ k b i.
            (let x = h.copies k b (less k b i) in
            let q = move.forth k x.peer x.there in
            let same = uuid k x.peer q.0 x.there q.2 in
            record { peer = q.0; there = q.1; uuid = x.uuid ∙ sym same; logs = λ l j. still (uuid_of x.peer) (uuid_of q.0) l.0.target same (x.logs l j) });
        logs = λ k q at l j. (let x = move.back k q at in still (uuid_of x.0) (uuid_of q) l.0.target (uuid k x.0 q x.1 x.2) (each (λ _ p z. LeadToOthers peers (uuid_of p) z.outgoing) source_logs target_logs h.logs k x.0 q x.1 x.2 l j));
        sessions = λ k q at z j. (let x = move.back k q at in still (uuid_of x.0) (uuid_of q) z.rep.source (uuid k x.0 q x.1 x.2) (each (λ _ p y. ComeFromOthers peers (uuid_of p) y.sessions) source_sessions target_sessions h.sessions k x.0 q x.1 x.2 z j));
      }
        where
          still : (own own' u : ℕ) → own' ≡ own → IsOther peers own u → IsOther peers' own' u
          still own own' u e o = (let q = move.forth o.0.0 o.0.1 o.0.2 in ((o.0.0, q.0, q.1, uuid o.0.0 o.0.1 q.0 o.0.2 q.2 ∙ o.0.3), λ i. o.1 (i ∙ e)))

    -- ---- one peer changes

    module _ (n : K) (old new : PeerValue) where
      one_keeps : uuid_of new ≡ uuid_of old → ((q : PeerValue) (chosen : Choice) → AreTiedAt copy n old q chosen → AreTiedAt copy n new q chosen) → ((p : PeerValue) (chosen : Choice) (backups : List BackupValue) → IsTiedWith backups p old chosen → IsTiedWith backups p new chosen)
          → KeepsPairs peers copy n n old new old new
      one_keeps same as_source as_target = record {
        source_uuid = same;
        target_uuid = same;
        forward = λ ne. absurd (ne refl);
        reverse = λ ne. absurd (ne refl);
        from_source = λ k q o at. as_source q;
        into_source = λ k p chosen t backups own. as_target p chosen backups (t backups own);
        from_target = as_source;
        into_target = λ k p o at chosen t backups own. as_target p chosen backups (t backups own);
      }

      one_network : Becomes peers n old new peers' → KeepsPairs peers copy n n old new old new → LeadToOthers peers (uuid_of old) new.outgoing → ComeFromOthers peers (uuid_of old) new.sessions → IsNetwork peers copy → IsNetwork peers' copy'
      one_network c f logs sessions = two_network n n old new old new c f logs logs sessions sessions

    -- by a local write
    module _ (n : K) (old new : PeerValue) (c : Becomes peers n old new peers') (w : Writes old new) where
      written_keeps : KeepsPairs peers copy n n old new old new
      written_keeps = one_keeps n old new w.later.db.uuid (λ q chosen t backups own. written_source old new q chosen w backups (t backups own)) (λ p chosen. written_target p old new chosen w)

      pub written_consistent : AreConsistent peers copy → AreConsistent peers' copy'
      written_consistent = two_consistent n n old new old new c written_keeps

      written_network : IsNetwork peers copy → IsNetwork peers' copy'
      written_network h = one_network n old new c written_keeps (λ l m. h.logs n old c.from l (subst (Among l) w.logs m)) (λ s m. h.sessions n old c.from s (subst (Among s) w.sessions m)) h

    -- by a restore
    restored_network : (n : K) (p : PeerValue) (b : BackupValue) → copy n b → restore_answer p b ≡ Ok tt → Becomes peers n p (restored p b) peers' → IsNetwork peers copy → IsNetwork peers' copy'
    restored_network n p b held can c h =
        let k = restores_in p b tt can in
        let own = h.copies n b held in
        let same : own.peer ≡ p = same_Some own.peer p (sym own.there ∙ c.from) in
        one_network n p (restored p b) c
        (one_keeps n p (restored p b) k.uuid (λ q chosen t backups copies. restored_source p b q chosen k ((t (b ∷ []) (λ x j. elim j [ inl e ↦ subst (copy n) (sym e) held | inr none ↦ absurd none ])).copies b (inl refl)) backups (t backups copies)) (λ q chosen. restored_target q p b chosen k))
        (subst (λ z. LeadToOthers peers (uuid_of z) b.outgoing) same own.logs) (h.sessions n p c.from) h

    -- ---- a replication

    module _ (m n : K) (plan : Plan) (r : IsReplicated peers m n plan peers') where
      replicated_keeps : AreConsistent peers copy → KeepsPairs peers copy m n r.source r.source_then r.target r.target_then
      replicated_keeps h = record {
        source_uuid = ap uuid_of r.leaves.log;
        target_uuid = r.later.db.uuid;
        forward = λ ne c t backups own. r.leaves.tied c backups (t backups own);
        reverse = λ ne c t backups own. turned_tied r.source r.target r.source_then r.target_then r.leaves.others c backups (t backups own);
        from_source = λ k q u at c t backups own. r.leaves.others.outward q c backups (λ e. u (h.apart k n q r.target at r.to e)) (t backups own);
        into_source = λ k p c t backups own. r.leaves.others.inward p c backups (t backups own);
        from_target = λ q c t backups own. r.leaves.others.onward q c backups (t backups own);
        into_target = λ k p o at c t backups own. r.leaves.others.beside p c backups (λ e. o (h.apart k m p r.source at r.from e)) (t backups own);
      }

      pub replicated_consistent : AreConsistent peers copy → AreConsistent peers' copy'
      replicated_consistent h = two_consistent m n r.source r.source_then r.target r.target_then r.changed (replicated_keeps h) h

      replicated_network : IsNetwork peers copy → IsNetwork peers' copy'
      replicated_network h =
          two_network m n r.source r.source_then r.target r.target_then r.changed (replicated_keeps h.consistent)
          (put_logs (IsOther peers (uuid_of r.source)) r.source r.target_then plan.chosen r.source_then r.leaves.put ((n, r.target, r.to, sym r.later.db.uuid), λ e. differ (sym e ∙ r.later.db.uuid)) (h.logs m r.source r.from))
          (subst (LeadToOthers peers (uuid_of r.target)) (sym (left_log r.refuses r.source r.target plan r.target_then r.leaves.left)) (h.logs n r.target r.to))
          (subst (λ (z : PeerValue). ComeFromOthers peers (uuid_of r.source) z.sessions) (sym r.leaves.log) (h.sessions m r.source r.from))
          (left_of (IsOther peers (uuid_of r.target)) r.refuses r.source r.target plan r.target_then r.leaves.left ((m, r.source, r.from, refl), differ) (h.sessions n r.target r.to)) h
        where
          differ : uuid_of r.source ≡ uuid_of r.target → ⊥
          differ e = r.two (h.consistent.apart m n r.source r.target r.from r.to e)

    -- ---- one more peer

    module _ (n : K) (x : PeerValue) (a : IsAdded peers n x peers') (h : IsNetwork peers copy) where
      abbrev Look : K → PeerValue → Type 0
      Look k p = ((k ≡ n) × (x ≡ p)) ⊎ ((k ≢ n) × (peers k ≡ Some p))

      look : (k : K) (p : PeerValue) → peers' k ≡ Some p → Look k p
      look k p at = elim (decide k n) [ inl e ↦ inl (e, same_Some x p (sym a.now ∙ ap peers' (sym e) ∙ at)) | inr o ↦ inr (o, sym (a.others k o) ∙ at) ]

      not_there : (k : K) (p : PeerValue) → peers k ≡ Some p → k ≢ n
      not_there k p at e = none-some p (sym a.free ∙ ap peers (sym e) ∙ at)

      kept : (k : K) (p : PeerValue) → peers k ≡ Some p → peers' k ≡ Some p
      kept k p at = a.others k (not_there k p at) ∙ at

      still_other : (own u : ℕ) → IsOther peers own u → IsOther peers' own u
      still_other own u o = ((o.0.0, o.0.1, kept o.0.0 o.0.1 o.0.2, o.0.3), o.1)

      more_apart : (k l : K) (p q : PeerValue) → uuid_of p ≡ uuid_of q → Look k p → Look l q → k ≡ l
      more_apart k l p q e (inl v) (inl w) = v.0 ∙ sym w.0
      more_apart k l p q e (inl v) (inr w) = absurd (a.fresh (l, q, w.1, sym e ∙ ap uuid_of (sym v.1)))
      more_apart k l p q e (inr v) (inl w) = absurd (a.fresh (k, p, v.1, e ∙ ap uuid_of (sym w.1)))
      more_apart k l p q e (inr v) (inr w) = h.consistent.apart k l p q v.1 w.1 e

      more_tied : (k l : K) (p q : PeerValue) → k ≢ l → (c : Choice) (backups : List BackupValue) → AreCopiesAt copy k backups → Look k p → Look l q → IsTiedWith backups p q c
      more_tied k l p q ne c backups own (inl v) (inl w) = absurd (ne (v.0 ∙ sym w.0))
      more_tied k l p q ne c backups own (inl v) (inr w) =
          subst (λ z. IsTiedWith backups z q c) v.1 (none_tied x q c
          (λ s j r. a.fresh (subst (IsHeldBy peers) (ap (λ (i : RepId). i.source) r) (h.sessions l q w.1 s j).0)) (λ l j _. subst (Among l) a.logs j)
          backups (λ b i l j _. (let y = h.copies k b (own b i) in not_there k y.peer y.there v.0)))
      more_tied k l p q ne c backups own (inr v) (inl w) =
          subst (λ z. IsTiedWith backups p z c) w.1 (none_tied p x c
          (λ s j r. subst (Among s) a.sessions j) (λ l j r. a.fresh (subst (IsHeldBy peers) (ap (λ (i : RepId). i.target) r) (h.logs k p v.1 l j).0))
          backups (λ b i l j r. a.fresh (subst (IsHeldBy peers) (ap (λ (i : RepId). i.target) r) ((h.copies k b (own b i)).logs l j).0)))
      more_tied k l p q ne c backups own (inr v) (inr w) = h.consistent.tied k l p q v.1 w.1 ne c backups own

      added_network : IsNetwork peers' copy'
      added_network = record {
        consistent = record {
          apart = λ k l p q at at' e. more_apart k l p q e (look k p at) (look l q at');
          tied = λ k l p q at at' ne c backups own. more_tied k l p q ne c backups (λ b i. less k b (own b i)) (look k p at) (look l q at');
        };
        copies = λ k b i. (let y = h.copies k b (less k b i) in record { peer = y.peer; there = kept k y.peer y.there; uuid = y.uuid; logs = λ l j. still_other (uuid_of y.peer) l.0.target (y.logs l j) });
        logs = λ k p at l j. elim (look k p at) [
          | inl v ↦ absurd (subst (Among l) (ap (λ (z : PeerValue). z.outgoing) (sym v.1) ∙ a.logs) j)
          | inr v ↦ still_other (uuid_of p) l.0.target (h.logs k p v.1 l j)
        ];
        sessions = λ k p at s j. elim (look k p at) [
          | inl v ↦ absurd (subst (Among s) (ap (λ (z : PeerValue). z.sessions) (sym v.1) ∙ a.sessions) j)
          | inr v ↦ still_other (uuid_of p) s.rep.source (h.sessions k p v.1 s j)
        ];
      }

  -- ---- every step

  pub step_keeps : (peers' : K → Option PeerValue) (copy' : K → BackupValue → Type 0) → IsNetwork peers copy → Step peers copy peers' copy' → IsNetwork peers' copy'
  step_keeps peers' copy' h (Written n p p' c w less) = written_network peers' copy' less n p p' c w h
  step_keeps peers' copy' h (Replicated m n plan r less) = replicated_network peers' copy' less m n plan r h
  step_keeps peers' copy' h (BackedUp n p at same more) = subst (λ x. IsNetwork x copy') (sym same) (backed_network copy' n p at more h)
  step_keeps peers' copy' h (Restored n p b held can c less) = restored_network peers' copy' less n p b held can c h
  step_keeps peers' copy' h (Added n x a less) = added_network peers' copy' less n x a h

-- ---- a network without peers

pub empty_network : {K : Type 0} (peers : K → Option PeerValue) (copy : K → BackupValue → Type 0) → ((n : K) (p : PeerValue) → peers n ≡ Some p → ⊥) → ((n : K) (b : BackupValue) → copy n b → ⊥) → IsNetwork peers copy
empty_network peers copy none no_copy = record {
  consistent = record { apart = λ m n p q at. absurd (none m p at); tied = λ m n p q at. absurd (none m p at) };
  copies = λ n b k. absurd (no_copy n b k);
  logs = λ n p at. absurd (none n p at);
  sessions = λ n p at. absurd (none n p at);
}
