-- The databases of a script as a network whose keys are names: each call is a step.
use Rattle.proof_prelude.proofs.{◌≡◌, ◌≢◌, inl, inr, ℕ, Bool, cond, List, [], Result, Ok, Err, OnErr, OnOk, refl, sym, ap, subst, ◌∙◌, Option, Some, None, and_parts, bytes_eq-Decides, option_map, find, same_Some, none-some, cond_both, MatchResult-at_ok}
use Rattle.doc_json.specs.Document.{Document}
use Rattle.doc_json.specs.{Choice}
use Rattle.couch_base.specs.{Among, Among-push, LawfulDatabase, found_member, id_is}
use Rattle.repl_peer.specs.{TargetFault, BackupValue, IsLaterPeer, Lawful, PeerValue, after_restore, backup_answer, copy_of, is_target, restore_answer, restored, restored_by}
use Rattle.repl_peer.specs.declared.fault.TargetFault.TheVariants as faults
use Rattle.repl_target.specs.{Plan, IsTiedPair, Leaves}
use Rattle.repl_network.specs.{Added, BackedUp, Becomes, IsAdded, IsReplicated, Replicated, Restored, Writes, Written}
use Rattle.repl_network.proofs.{empty_network, network_tied, same_uuids, same_writes, step_keeps}
use Rattle.script_databases.specs.{AreLawful, Beside, Entries, IsConsistent, IsCopyOf, IsIndex, NamedBackupValue, State, backup_at, deny_refuses, is_named, peer_at, state_of, with_backup, with_both, with_peer}
use Rattle.script_databases.specs.Databases.{IsTaken}
use Rattle.script_databases.proofs.BackupLemmas.{restore_keeps}
use Rattle.script_databases.proofs.Tables.{at_of, differ, got, index_same, names}

-- ---- the peer at a name after a peer was stored

pub here : (s : State) (name : List ℕ) (l : PeerValue) → peer_at (with_peer s name l) name ≡ Some l
here s name l = got s.peers name l name ∙ ap (λ b. cond b (Some l) (peer_at s name)) ((bytes_eq-Decides name name).1 refl)

pub elsewhere : (s : State) (name : List ℕ) (l : PeerValue) (q : List ℕ) → q ≢ name → peer_at (with_peer s name l) q ≡ peer_at s q
elsewhere s name l q ne = got s.peers name l q ∙ ap (λ b. cond b (Some l) (peer_at s q)) (differ name q (λ i. ne (sym i)))

-- two databases of a script
pub tied_pair : (s : State) → IsConsistent s → (a b : List ℕ) (p q : PeerValue) → peer_at s a ≡ Some p → peer_at s b ≡ Some q → (c : Choice) → IsTiedPair p q c
tied_pair s h a b p q at at' c = (network_tied names (peer_at s) (IsCopyOf s) h.0 a b p q at at' c [] (λ x j. absurd j)).pair

-- ---- one database changes

abbrev IsLawful : State → PeerValue → Type 0
IsLawful s p = Lawful (deny_refuses s.program.deny) p × LawfulDatabase p.db

lawful_with : (s : State) (a : List ℕ) (x : PeerValue) → IsLawful s x → AreLawful s → AreLawful (with_peer s a x)
lawful_with s a x own all name p at =
    elim (names name a) [
      | inl e ↦ subst (IsLawful s) (same_Some x p (sym (here s a x) ∙ ap (peer_at (with_peer s a x)) (sym e) ∙ at)) own
      | inr o ↦ all name p (sym (elsewhere s a x name o) ∙ at)
    ]

module _ (s : State) (a : List ℕ) (p new : PeerValue) (at : peer_at s a ≡ Some p) where
  becomes : Becomes (peer_at s) a p new (peer_at (with_peer s a new))
  becomes = record { from = at; to = at; from_then = here s a new; to_then = here s a new; others = λ k o _. elsewhere s a new k o }

  pub index_with : (uuids : List ℕ) → new.db.uuid ≡ p.db.uuid → IsIndex (peer_at s) uuids → IsIndex (peer_at (with_peer s a new)) uuids
  index_with uuids same = index_same (peer_at s) (peer_at (with_peer s a new)) uuids (same_uuids names (peer_at s) (peer_at (with_peer s a new)) a a p new p new becomes same same)

  pub written_step : IsConsistent s → IsLawful s new → Writes p new → IsConsistent (with_peer s a new)
  written_step h own w = (step_keeps names (peer_at s) (IsCopyOf s) (peer_at (with_peer s a new)) (IsCopyOf (with_peer s a new)) h.0 (Written a p new becomes w (λ _ _ k. k)), lawful_with s a new own h.1)

-- the stored backup of a name
kept_copy : (s : State) (a name : List ℕ) (b : BackupValue) → backup_at s a name ≡ Some b → IsCopyOf s a b
kept_copy s a name b kept = by (find (is_named a name) s.backups) refl kept
  where
    by : (o : Option NamedBackupValue) → find (is_named a name) s.backups ≡ o → option_map (λ (k : NamedBackupValue). k.backup) o ≡ Some b → IsCopyOf s a b
    by None e f = absurd (none-some b f)
    by (Some k) e f =
        let m = found_member (is_named a name) s.backups k e in
        (k, m.0, id_is k.db a (and_parts _ _ m.1).0, same_Some k.backup b f)

-- a backup has the UUID of its database
pub own_uuid : (s : State) → IsConsistent s → (a name : List ℕ) (p : PeerValue) (b : BackupValue) → peer_at s a ≡ Some p → backup_at s a name ≡ Some b → b.db.uuid ≡ p.db.uuid
own_uuid s h a name p b at kept =
    let own = h.0.copies a b (kept_copy s a name b kept) in
    own.uuid ∙ ap (λ (x : PeerValue). x.db.uuid) (same_Some own.peer p (sym own.there ∙ at))

restored_step : (s : State) → IsConsistent s → (a name : List ℕ) (p : PeerValue) (b : BackupValue) → peer_at s a ≡ Some p → backup_at s a name ≡ Some b → IsLawful s (after_restore p b) → IsConsistent (with_peer s a (after_restore p b))
restored_step s h a name p b at kept own = go (restore_answer p b) refl own
  where
    go : (r : Result (Unit {0}) TargetFault) → restore_answer p b ≡ r → IsLawful s (restored_by p b r) → IsConsistent (with_peer s a (restored_by p b r))
    go (Err fault) is own = written_step s a p p at h own (same_writes p)
    go (Ok done) is own = (
      step_keeps names (peer_at s) (IsCopyOf s) (peer_at (with_peer s a (restored p b))) (IsCopyOf (with_peer s a (restored p b))) h.0
          (Restored a p b (kept_copy s a name b kept) is (becomes s a p (restored p b) at) (λ _ _ k. k)),
      lawful_with s a (restored p b) own h.1,
    )

-- a restore, which fails or not
module _ (s : State) (a name : List ℕ) (p u : PeerValue) (b : BackupValue) (at : peer_at s a ≡ Some p) (kept : backup_at s a name ≡ Some b) where
  pub restore_uuid : {A E : Type 0} (r : Result A E) → OnOk r (u ≡ after_restore p b) → OnErr r (u ≡ p) → u.db.uuid ≡ p.db.uuid
  restore_uuid (Ok done) ok err = ap (λ (x : PeerValue). x.db.uuid) ok ∙ restore_keeps b p
  restore_uuid (Err why) ok err = ap (λ (x : PeerValue). x.db.uuid) err

  pub restore_step : {A E : Type 0} (r : Result A E) → OnOk r (u ≡ after_restore p b) → OnErr r (u ≡ p) → IsConsistent s → IsLawful s u → IsConsistent (with_peer s a u)
  restore_step (Ok done) ok err h own = subst (λ x. IsConsistent (with_peer s a x)) (sym ok) (restored_step s h a name p b at kept (subst (IsLawful s) ok own))
  restore_step (Err why) ok err h own = written_step s a p u at h own (subst (Writes p) (sym err) (same_writes p))

-- ---- one more backup, or database

pub backed_step : (s : State) → IsConsistent s → (a name : List ℕ) (p : PeerValue) → peer_at s a ≡ Some p → IsConsistent (with_backup s a name (copy_of p))
backed_step s h a name p at =
    let own : NamedBackupValue = record { db = a; name = name; backup = copy_of p } in
    let step =
    step_keeps names (peer_at s) (IsCopyOf s) (peer_at s) (IsCopyOf (with_backup s a name (copy_of p))) h.0
    (BackedUp a p at refl (λ n b k. elim (Among-push k.0 s.backups own k.1) [
      | inl was ↦ inl (k.0, was, k.2, k.3)
      | inr e ↦ inr (sym k.2 ∙ ap (λ (z : NamedBackupValue). z.db) e, sym k.3 ∙ ap (λ (z : NamedBackupValue). z.backup) e)
    ])) in
    (step, h.1)

-- the new backup
pub backed_is : (p : PeerValue) (b : BackupValue) → backup_answer p ≡ Ok b → b ≡ copy_of p
backed_is p b e =
    cond_both (is_target p.sessions) (Err faults.IsTarget) (Ok (copy_of p)) (λ (r : Result BackupValue TargetFault). r ≡ Ok b → b ≡ copy_of p) (λ _ k. cc) (λ _ k. sym (MatchResult-at_ok {r = Ok (copy_of p)} (λ z. copy_of p ≡ z) (λ _. ⊥) b k refl)) e

pub is_added : (s : State) (a : List ℕ) (x : PeerValue) → peer_at s a ≡ None → (IsTaken s x.db.uuid → ⊥) → (x.sessions ≡ []) × (x.outgoing ≡ []) → IsAdded (peer_at s) a x (peer_at (with_peer s a x))
is_added s a x free fresh unused = record { free = free; now = here s a x; others = elsewhere s a x; fresh = fresh; sessions = unused.0; logs = unused.1 }

pub added_step : (s : State) → IsConsistent s → (a : List ℕ) (x : PeerValue) → IsLawful s x → IsAdded (peer_at s) a x (peer_at (with_peer s a x)) → IsConsistent (with_peer s a x)
added_step s h a x own added = (step_keeps names (peer_at s) (IsCopyOf s) (peer_at (with_peer s a x)) (IsCopyOf (with_peer s a x)) h.0 (Added a x added (λ _ _ k. k)), lawful_with s a x own h.1)

pub no_peers : (g : Beside) (es : Entries) → es ≡ [] → (n : List ℕ) → peer_at (state_of g es) n ≡ None
no_peers g es none n = ap (λ x. peer_at (state_of g x) n) none ∙ at_of [] n None refl

pub empty_consistent : (g : Beside) (es : Entries) → es ≡ [] → g.backups ≡ [] → IsConsistent (state_of g es)
empty_consistent g es none kept = (
  empty_network (peer_at (state_of g es)) (IsCopyOf (state_of g es)) no_peer (λ n b k. no_copy g.backups kept k.0 k.1),
  λ n p at. absurd (no_peer n p at),
)
  where
    no_peer : (n : List ℕ) (p : PeerValue) → peer_at (state_of g es) n ≡ Some p → ⊥
    no_peer n p at = none-some p (sym (no_peers g es none n) ∙ at)

    no_copy : (ks : List NamedBackupValue) → ks ≡ [] → (k : NamedBackupValue) → Among k ks → ⊥
    no_copy ks e k m = subst (Among k) e m

-- ---- a replication

module _ (old : State) (a b : List ℕ) (s t s' t' : PeerValue) (two : a ≢ b) (at_s : peer_at old a ≡ Some s) (at_t : peer_at old b ≡ Some t) (refuses : Document → Bool) (plan : Plan) (leaves : Leaves refuses s t plan s' t') (later : IsLaterPeer t t') where
  abbrev replicated : IsReplicated (peer_at old) a b plan (peer_at (with_both old a b s' t'))
  replicated = record {
    refuses = refuses;
    source = s;
    target = t;
    source_then = s';
    target_then = t';
    two = two;
    changed = record {
      from = at_s;
      to = at_t;
      from_then = elsewhere (with_peer old a s') b t' a two ∙ here old a s';
      to_then = here (with_peer old a s') b t';
      others = λ k apart apart'. elsewhere (with_peer old a s') b t' k apart' ∙ elsewhere old a s' k apart;
    };
    leaves = leaves;
    later = later;
  }

  pub index_both : (uuids : List ℕ) → IsIndex (peer_at old) uuids → IsIndex (peer_at (with_both old a b s' t')) uuids
  index_both uuids =
      index_same (peer_at old) (peer_at (with_both old a b s' t')) uuids (same_uuids names (peer_at old) (peer_at (with_both old a b s' t')) a b s s' t t' replicated.changed (ap (λ (p : PeerValue). p.db.uuid) leaves.log) later.db.uuid)

  pub replicated_step : IsConsistent old → IsLawful old s' → IsLawful old t' → IsConsistent (with_both old a b s' t')
  replicated_step h own own' = (
    step_keeps names (peer_at old) (IsCopyOf old) (peer_at (with_both old a b s' t')) (IsCopyOf (with_both old a b s' t')) h.0 (Replicated a b plan replicated (λ _ _ k. k)),
    lawful_with (with_peer old a s') b t' own' (lawful_with old a s' own h.1),
  )
