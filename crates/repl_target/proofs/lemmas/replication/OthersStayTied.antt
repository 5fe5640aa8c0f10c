-- A replication leaves its two peers tied to every third one.
use Rattle.proof_prelude.proofs.{◌≡◌, ◌≢◌, ℕ, Bool, List, Result, Ok, Err, refl, sym, ap, ◌∙◌, subst, inl, inr}
use Rattle.doc_json.specs.Document.{Document}
use Rattle.doc_json.specs.{Choice}
use Rattle.couch_base.specs.{LawfulDatabase}
use Rattle.repl_log.specs.declared.replication.RepId.{RepId}
use Rattle.repl_peer.specs.{PeerValue, SessionValue, BackupValue, LawfulSessions, rep_between, put_by, put_entry_answer, new_session, begun, TargetFault}
use Rattle.repl_peer.proofs.{begin_later, logs_later}
use Rattle.repl_target.specs.{Plan, IsTiedPair, AreTiedBackups, IsTiedWith, KeepsOthersTied, StaysTied, beginning_between, begins_answer, after_begins, Begin, IsLeft, IsPut}
use Rattle.repl_target.proofs.lemmas.replication.FetchedDocuments.{run_keeps}
use Rattle.repl_target.proofs.lemmas.replication.ReplicationAsCalls.{begun_law, begun_runs, left_law}
use Rattle.repl_target.proofs.lemmas.ties.TiedPeersStay.{session-later, entry-later, backups-later, backups-source, tied_source, tied_call, tied_grown, log_with}

-- ---- the target as a source: its own log is unchanged

begun_log : (p : PeerValue) (s : SessionValue) (r : Result (Unit {0}) TargetFault) → (begun p s r).outgoing ≡ p.outgoing
begun_log p s (Ok done) = refl
begun_log p s (Err fault) = refl

pub left_log : (refuses : Document → Bool) (source target : PeerValue) (plan : Plan) (now : PeerValue) → IsLeft refuses source target plan now → now.outgoing ≡ target.outgoing
left_log refuses source target plan now (inl same) = ap (λ (p : PeerValue). p.outgoing) same
left_log refuses source target plan now (inr left) =
    run_keeps refuses source.db plan.chosen plan.session (λ (p : PeerValue). p.outgoing ≡ target.outgoing) (λ p s c m may h. h) (after_begins source target plan) now left.1
    (begun_log target (new_session plan.session (beginning_between source target plan.chosen) plan.at) (begins_answer source target plan))

-- the target stays tied to each peer of which it was a source
onward_tied : (refuses : Document → Bool) (source target : PeerValue) (plan : Plan) (target' : PeerValue) → LawfulDatabase source.db → LawfulSessions refuses target → IsLeft refuses source target plan target'
    → (other : PeerValue) (c : Choice) (backups : List BackupValue) → IsTiedWith backups target other c → IsTiedWith backups target' other c
onward_tied refuses source target plan target' law l left other c backups h =
    let later = (left_law refuses source target plan target' law l left).1 in
    record {
      pair = tied_source target target' other c later.db (left_log refuses source target plan target' left) h.pair;
      copies = backups-source backups target target' other c later.db.uuid h.copies;
    }

-- ---- the source as a target: only its log changes

pub target_tied : (source target new : PeerValue) (c : Choice) → new ≡ record target { outgoing = new.outgoing } → IsTiedPair source target c → IsTiedPair source new c
target_tied source target new c is h =
    let later = logs_later target new.outgoing in
    subst (λ (p : PeerValue). IsTiedPair source p c) (sym is) (record {
      sessions = λ s m r. session-later c source.db target (record target { outgoing = new.outgoing }) s later (h.sessions s m r);
      log = λ e m. entry-later source.db target (record target { outgoing = new.outgoing }) (rep_between source target c) e later (h.log e m);
    })

inward_tied : (source source' : PeerValue) → source' ≡ record source { outgoing = source'.outgoing }
    → (other : PeerValue) (c : Choice) (backups : List BackupValue) → IsTiedWith backups other source c → IsTiedWith backups other source' c
inward_tied source source' is other c backups h = record {
  pair = target_tied other source source' c is h.pair;
  copies =
      subst (λ (p : PeerValue). AreTiedBackups backups p (rep_between other p c)) (sym is)
      (backups-later backups other source (record source { outgoing = source'.outgoing }) c (logs_later source source'.outgoing) h.copies);
}

-- ---- the target as a target of another source

-- a run stores windows only for its own session, which is not of the other source's replication
third_begun : (refuses : Document → Bool) (third source target : PeerValue) (plan : Plan) (other : Choice) → third.db.uuid ≢ source.db.uuid → IsTiedPair third target other → IsTiedPair third (after_begins source target plan) other
third_begun refuses third source target plan other apart h =
    let b = beginning_between source target plan.chosen in
    tied_call refuses third target other (Begin plan.session b plan.at)
    (λ _ r. absurd (apart (sym (ap (λ (x : RepId). x.source) r))))
    (begin_later target plan.session b plan.at)
    h

beside_pair : (refuses : Document → Bool) (third source target : PeerValue) (plan : Plan) (now : PeerValue) (other : Choice) → third.db.uuid ≢ source.db.uuid → LawfulDatabase source.db → LawfulSessions refuses target → IsLeft refuses source target plan now
    → IsTiedPair third target other → IsTiedPair third now other
beside_pair refuses third source target plan now other apart law l (inl same) h = subst (λ (p : PeerValue). IsTiedPair third p other) (sym same) h
beside_pair refuses third source target plan now other apart law l (inr left) h =
    tied_grown refuses source.db plan.chosen plan.session third other law (λ _ _ same _. absurd (apart (sym same))) (after_begins source target plan) now (begun_law refuses source target plan l).0 (begun_runs source target plan left.0) left.1
    (third_begun refuses third source target plan other apart h)

-- ---- the source as a source of another target: its log of that replication is unchanged

outward_pair : (source target third : PeerValue) (chosen : Choice) (source' : PeerValue) (other : Choice) → third.db.uuid ≢ target.db.uuid → IsPut source target chosen source' → IsTiedPair source third other → IsTiedPair source' third other
outward_pair source target third chosen source' other apart (inl same) h = subst (λ (p : PeerValue). IsTiedPair p third other) (sym same) h
outward_pair source target third chosen source' other apart (inr put) h = subst (λ (p : PeerValue). IsTiedPair p third other) (sym put.2) (go (put_entry_answer source rep put.0))
  where
    rep : RepId
    rep = rep_between source target chosen

    go : (r : Result (Unit {0}) TargetFault) → IsTiedPair (put_by source rep put.0 r) third other
    go (Err fault) = h
    go (Ok done) = record {
      sessions = h.sessions;
      log = λ x m. elim (log_with source.outgoing rep put.0 (rep_between source third other) x m) [
        | inl i ↦ absurd (apart (ap (λ (y : RepId). y.target) i.0))
        | inr old ↦ h.log x old
      ];
    }

-- ---- every third peer

pub others_tied : (refuses : Document → Bool) (source target : PeerValue) (plan : Plan) (source' target' : PeerValue) → LawfulDatabase source.db → LawfulSessions refuses target → source' ≡ record source { outgoing = source'.outgoing } → IsPut source target' plan.chosen source' → IsLeft refuses source target plan target'
    → KeepsOthersTied source target source' target'
others_tied refuses source target plan source' target' law l log put left =
    let later = (left_law refuses source target plan target' law l left).1 in
    record {
      onward = onward_tied refuses source target plan target' law l left;
      inward = inward_tied source source' log;
      beside = λ other c backups apart h. record {
        pair = beside_pair refuses other source target plan target' c apart law l left h.pair;
        copies = backups-later backups other target target' c later h.copies;
      };
      outward = λ other c backups apart h. record {
        pair = outward_pair source target' other plan.chosen source' c (λ e. apart (e ∙ later.db.uuid)) put h.pair;
        copies = backups-source backups source source' other c (ap (λ (p : PeerValue). p.db.uuid) log) h.copies;
      };
    }

-- if nothing has changed
pub others_same : (source target : PeerValue) → KeepsOthersTied source target source target
others_same source target = record { onward = λ _ _ _ h. h; inward = λ _ _ _ h. h; beside = λ _ _ _ _ h. h; outward = λ _ _ _ _ h. h }

-- two peers stay tied in the other direction too
pub turned_tied : (source target source' target' : PeerValue) → KeepsOthersTied source target source' target' → (c : Choice) (backups : List BackupValue) → IsTiedWith backups target source c → IsTiedWith backups target' source' c
turned_tied source target source' target' others c backups h = others.inward target' c backups (others.onward source c backups h)

-- ---- one replication in each direction

pub source_stays : (source target source' target' : PeerValue) → KeepsOthersTied source target source' target' → StaysTied source source' target.db.uuid
source_stays source target source' target' others = record { as_source = others.outward; as_target = λ other c backups _ h. others.inward other c backups h }

pub target_stays : (source target source' target' : PeerValue) → KeepsOthersTied source target source' target' → StaysTied target target' source.db.uuid
target_stays source target source' target' others = record { as_source = λ other c backups _ h. others.onward other c backups h; as_target = others.beside }

stays_on : (p q r : PeerValue) (but : ℕ) → StaysTied p q but → StaysTied q r but → StaysTied p r but
stays_on p q r but first second = record {
  as_source = λ other c backups apart h. second.as_source other c backups apart (first.as_source other c backups apart h);
  as_target = λ other c backups apart h. second.as_target other c backups apart (first.as_target other c backups apart h);
}

pub both_stay : (a b a' b' a'' b'' : PeerValue) → KeepsOthersTied a b a' b' → KeepsOthersTied b' a' b'' a'' → a'.db.uuid ≡ a.db.uuid → b'.db.uuid ≡ b.db.uuid → StaysTied a a'' b.db.uuid × StaysTied b b'' a.db.uuid
both_stay a b a' b' a'' b'' first second same_a same_b = (
  stays_on a a' a'' b.db.uuid (source_stays a b a' b' first) (subst (StaysTied a' a'') same_b (target_stays b' a' b'' a'' second)),
  stays_on b b' b'' a.db.uuid (target_stays a b a' b' first) (subst (StaysTied b' b'') same_a (source_stays b' a' b'' a'' second)),
)
