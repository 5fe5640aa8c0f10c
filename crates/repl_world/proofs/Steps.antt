-- Each step keeps a world tied.
use Rattle.proof_prelude.proofs.{◌≡◌, ℕ, ◌+◌, ◌<◌, ◌≤◌, ◌==◌, nat_lt, nat_le, List, [], ◌∷◌, Bool, true, false, cond, Option, Some, None, Result, Ok, Err, slice_get, refl, sym, ap, ◌∙◌, subst, inl, inr, arith, cond_both, eqb-true}
use Rattle.rev_tree.specs.{SessionId}
use Rattle.doc_json.specs.Document.{Document}
use Rattle.couch_base.specs.{Id, LawfulDatabase, most, WindowValue, page, page_answer, AskedValue, ParcelValue, revs_diff, open_revs, IsLater, BaseFault, Among-push}
use Rattle.rev_core.specs.{RevId}
use Rattle.repl_log.specs.declared.replication.RepId.{RepId}
use Rattle.rev_tree.proofs.{slice_get-append}
use Rattle.repl_log.specs.{EntryValue, log_in}
use Rattle.repl_peer.specs.{PeerValue, SessionValue, after_record, after_conclude, conclude_answer, IsLaterPeer, rep_between, BackupValue, copy_of, is_target, backup_answer, greater_life, restore_answer, restored, restored_by, after_edit, TargetFault}
use Rattle.repl_target.specs.{IsTiedWindow, AreTiedEntries, IsTiedPair, IsSentEntry, Call, Load, Edit, after_call}
use Rattle.repl_peer.specs.declared.fault.TargetFault.TheVariants as faults
use Rattle.repl_target.specs.replication.Calls as calls
use Rattle.repl_peer.proofs.{Among-at, edit_by_load, load_later, edit_later, begin_later, put_entry_later, after_settle_ends, after_stop_ends, ends_law, append_law, record_law, conclude_law}
use Rattle.repl_target.proofs.{IsTiedWindow-page, IsTiedWindow-later, IsTiedAsked-revs_diff, IsTiedAsked-later, IsTiedParcel-open_revs, Brings, common_reached, entry-later, entry-source, entry-life, sent-later, sent_entry, backups-later, backups-source, TiedAt, tied-stays, tied-more, tied-new, tied_call, tied_source, puts_tied}
use Rattle.repl_world.specs.{with_window, told, told_where, WorldValue, rep_of, paged, appends, differs, fetches, settles, stops, entry_in, puts, crashed, log_of_source, reads_log, beginning_in, begins, backs_up, restores, happens, CutShort, IsWorld, OwnAsked, OwnParcel, Step}
use Rattle.repl_world.specs.Tied.{Tied}
use Rattle.repl_world.specs.declared.step.Step.TheVariants.{EditSource, EditTarget, LoadSource, ThirdParty, ReadLog, Begin, Page, Append, Diff, Fetch, Settle, Record, Conclude, PutEntry, Backup, Restore, Crash}

-- ---- a step at one peer

-- a step at the target that loses nothing and keeps its sessions tied
target_step : (w : WorldValue) (q : PeerValue) → Tied w → IsLaterPeer w.target q → IsTiedPair w.source q w.chosen → Tied (record w { target = q })
target_step w q h later pair =
    let same : rep_of w ≡ rep_between w.source q w.chosen = λ i. record { source = w.source.db.uuid; target = sym later.db.uuid i; chosen = w.chosen } in
    record {
      peers = record { pair = pair; copies = backups-later w.backups w.source w.target q w.chosen later h.peers.copies };
      window_lives = h.window_lives;
      log_lives = h.log_lives;
      windows = h.windows;
      asked = λ a m. (let k = h.asked a m in record { window = k.window; own = k.own; tied = λ e. IsTiedAsked-later w.target.db q.db k.window a.1 later.db (k.tied e) });
      parcels = λ p m.
          (let k = h.parcels p m in
          record { window = k.window; own = k.own; tied = λ e. (let t = k.tied e in record { asked = IsTiedAsked-later w.target.db q.db k.window p.1.asked later.db t.asked; gone = t.gone }) });
      logs = λ g m e.
          subst (λ (x : RepId). AreTiedEntries w.source.db q x g.1) same
          (λ x n. entry-later w.source.db w.target q (rep_of w) x later (h.logs g m e x n));
      entries = λ e m. sent-later w.target q e later (h.entries e m);
    }

-- a step at the source that loses nothing and keeps the two peers and the backups tied
source_step : (w : WorldValue) (p : PeerValue) → Tied w → IsLater w.source.db p.db → IsTiedPair p w.target w.chosen → Tied (record w { source = p })
source_step w p h later pair =
    let same : rep_of w ≡ rep_between p w.target w.chosen = λ i. record { source = sym later.uuid i; target = w.target.db.uuid; chosen = w.chosen } in
    record {
      peers = record { pair = pair; copies = backups-source w.backups w.source p w.target w.chosen later.uuid h.peers.copies };
      window_lives = λ x m. subst (λ n. x.life ≤ n) (sym later.life) (h.window_lives x m);
      log_lives = λ g m. subst (λ n. g.0 ≤ n) (sym later.life) (h.log_lives g m);
      windows = λ x m e. IsTiedWindow-later w.source.db p.db w.chosen x later (h.windows x m (e ∙ later.life));
      asked = λ a m. (let k = h.asked a m in record { window = k.window; own = k.own; tied = λ e. k.tied (e ∙ later.life) });
      parcels = λ q m. (let k = h.parcels q m in record { window = k.window; own = k.own; tied = λ e. k.tied (e ∙ later.life) });
      logs = λ g m e.
          subst (λ (x : RepId). AreTiedEntries p.db w.target x g.1) same
          (λ x n. entry-source w.source.db p.db w.target (rep_of w) x later (h.logs g m (e ∙ later.life) x n));
      entries = h.entries;
    }

-- a step at the source that keeps its logs
write_step : (w : WorldValue) (p : PeerValue) → Tied w → IsLater w.source.db p.db → p.outgoing ≡ w.source.outgoing → Tied (record w { source = p })
write_step w p h later logs = source_step w p h later (tied_source w.source p w.target w.chosen later logs h.peers.pair)

edit_outgoing : (p : PeerValue) (id : Id) (parent : Option RevId) (deleted : Bool) (body : List ℕ) → (after_edit p id parent deleted body).outgoing ≡ p.outgoing
edit_outgoing p = edit_by_load (λ q. q.outgoing ≡ p.outgoing) p (λ _. refl) refl

-- the condition on the sessions of the replication
abbrev TiedSessions : WorldValue → SessionValue → Type 0
TiedSessions w = TiedAt w.source.db w.target (rep_of w)

-- the sessions that a call brings satisfy the condition
abbrev BringsTied : WorldValue → Call → Type 0
BringsTied w c = Brings (TiedSessions w) (tied-stays w.source.db w.target (rep_of w)) w.target c

call_step : (refuses : Document → Bool) (w : WorldValue) (c : Call) → BringsTied w c → IsLaterPeer w.target (after_call refuses w.target c) → Tied w → Tied (record w { target = after_call refuses w.target c })
call_step refuses w c brings later h = target_step w (after_call refuses w.target c) h later (tied_call refuses w.source w.target w.chosen c brings later h.peers.pair)

-- ---- one more message

window_step : (w : WorldValue) (x : WindowValue) → Tied w → x.life ≡ w.source.db.life → IsTiedWindow w.source.db w.chosen x → Tied (record w { bag = with_window w.bag x })
window_step w x h life tied =
    record {
      peers = h.peers;
      window_lives = λ y m. elim (Among-push y w.bag.windows x m) [ inl old ↦ h.window_lives y old | inr new ↦ (let e : y.life ≡ w.source.db.life = ap (λ (z : WindowValue). z.life) new ∙ life in omega (arith, e)) ];
      log_lives = h.log_lives;
      windows = λ y m e. elim (Among-push y w.bag.windows x m) [ inl old ↦ h.windows y old e | inr new ↦ subst (IsTiedWindow w.source.db w.chosen) (sym new) tied ];
      asked = λ a m. (let k = h.asked a m in record { window = k.window; own = slice_get-append w.bag.windows (x ∷ []) a.0 k.window k.own; tied = k.tied });
      parcels = λ p m. (let k = h.parcels p m in record { window = k.window; own = slice_get-append w.bag.windows (x ∷ []) p.0 k.window k.own; tied = k.tied });
      logs = h.logs;
      entries = h.entries;
    }

diff_step : (w : WorldValue) (place : ℕ) (o : Option WindowValue) → slice_get w.bag.windows place ≡ o → Tied w → Tied (differs w place o)
diff_step w place None own h = h
diff_step w place (Some x) own h =
    let new : ℕ × AskedValue = (place, revs_diff w.target.db x) in
    let v : WorldValue = differs w place (Some x) in
    record {
      peers = h.peers;
      window_lives = h.window_lives;
      log_lives = h.log_lives;
      windows = h.windows;
      asked = λ b m. elim (Among-push b w.bag.asked new m) [
        | inl c ↦ (let k = h.asked b c in record { window = k.window; own = k.own; tied = k.tied })
        | inr i ↦ subst (λ (y : ℕ × AskedValue). OwnAsked v y.0 y.1) (sym i) (record { window = x; own = own; tied = λ _. IsTiedAsked-revs_diff w.target.db x })
      ];
      parcels = λ p m. (let k = h.parcels p m in record { window = k.window; own = k.own; tied = k.tied });
      logs = h.logs;
      entries = h.entries;
    }

fetch_step : (w : WorldValue) (place : ℕ) (o : Option (ℕ × AskedValue)) → slice_get w.bag.asked place ≡ o → Tied w → Tied (fetches w o)
fetch_step w place None is h = h
fetch_step w place (Some a) is h =
    let own = h.asked a (Among-at w.bag.asked place a is) in
    let new : ℕ × ParcelValue = (a.0, open_revs w.source.db a.1) in
    let v : WorldValue = fetches w (Some a) in
    record {
      peers = h.peers;
      window_lives = h.window_lives;
      log_lives = h.log_lives;
      windows = h.windows;
      asked = λ b m. (let k = h.asked b m in record { window = k.window; own = k.own; tied = k.tied });
      parcels = λ p m. elim (Among-push p w.bag.parcels new m) [
        | inl b ↦ (let k = h.parcels p b in record { window = k.window; own = k.own; tied = k.tied })
        | inr i ↦ subst (λ (y : ℕ × ParcelValue). OwnParcel v y.0 y.1) (sym i)
            (record { window = own.window; own = own.own; tied = λ e. IsTiedParcel-open_revs w.source.db w.target.db w.chosen own.window a.1 (h.windows own.window (Among-at w.bag.windows a.0 own.window own.own) e) (own.tied e) })
      ];
      logs = h.logs;
      entries = h.entries;
    }

-- an entry that a session of the target has just returned
told_step : (w : WorldValue) (r : Result EntryValue TargetFault) → ((e : EntryValue) → r ≡ Ok e → IsSentEntry w.target e) → Tied w → Tied (record w { bag = told w.bag r })
told_step w (Err fault) sent h = h
told_step w (Ok e) sent h =
    record {
      peers = h.peers;
      window_lives = h.window_lives;
      log_lives = h.log_lives;
      windows = h.windows;
      asked = λ b m. (let k = h.asked b m in record { window = k.window; own = k.own; tied = k.tied });
      parcels = λ p m. (let k = h.parcels p m in record { window = k.window; own = k.own; tied = k.tied });
      logs = h.logs;
      entries = λ x m. elim (Among-push x w.bag.entries e m) [ inl old ↦ h.entries x old | inr new ↦ subst (IsSentEntry w.target) (sym new) (sent e refl) ];
    }

told_where_step : {A : Type 0} (w : WorldValue) (done : Result A TargetFault) (r : Result EntryValue TargetFault) → ((e : EntryValue) → r ≡ Ok e → IsSentEntry w.target e) → Tied w → Tied (record w { bag = told_where done w.bag r })
told_where_step w (Ok done) r sent h = told_step w r sent h
told_where_step w (Err fault) r sent h = h

log_step : (w : WorldValue) → Tied w → Tied (reads_log w)
log_step w h =
    let new : ℕ × List EntryValue = log_of_source w in
    record {
      peers = h.peers;
      window_lives = h.window_lives;
      log_lives = λ g m. elim (Among-push g w.bag.logs new m) [ inl old ↦ h.log_lives g old | inr i ↦ (let e : g.0 ≡ w.source.db.life = ap (λ (z : ℕ × List EntryValue). z.0) i in omega (arith, e)) ];
      windows = h.windows;
      asked = λ b m. (let k = h.asked b m in record { window = k.window; own = k.own; tied = k.tied });
      parcels = λ p m. (let k = h.parcels p m in record { window = k.window; own = k.own; tied = k.tied });
      logs = λ g m e. elim (Among-push g w.bag.logs new m) [
        | inl old ↦ h.logs g old e
        | inr i ↦ subst (λ (z : ℕ × List EntryValue). AreTiedEntries w.source.db w.target (rep_of w) z.1) (sym i) h.peers.pair.log
      ];
      entries = h.entries;
    }

crash_step : (w : WorldValue) → Tied w → Tied (crashed w)
crash_step w h =
    record {
      peers = h.peers;
      window_lives = λ x m. absurd m;
      log_lives = λ g m. absurd m;
      windows = λ x m. absurd m;
      asked = λ a m. absurd m;
      parcels = λ p m. absurd m;
      logs = λ g m. absurd m;
      entries = λ e m. absurd m;
    }

-- ---- backups of the source

backup_step : (w : WorldValue) (r : Result BackupValue TargetFault) → backup_answer w.source ≡ r → Tied w → Tied (backs_up w r)
backup_step w (Err fault) is h = h
backup_step w (Ok b) is h =
    let copy : b ≡ copy_of w.source =
    cond_both (is_target w.source.sessions) (Err faults.IsTarget) (Ok (copy_of w.source)) (λ (x : Result BackupValue TargetFault). x ≡ Ok b → b ≡ copy_of w.source) (λ _ k. cc) (λ _ k. cc) is in
    record {
      peers = record {
        pair = h.peers.pair;
        copies = λ c m. elim (Among-push c w.backups b m) [
          | inl old ↦ h.peers.copies c old
          | inr i ↦ subst (λ (x : BackupValue). AreTiedEntries x.db w.target (rep_of w) (log_in x.outgoing (rep_of w))) (sym (i ∙ copy)) h.peers.pair.log
        ];
      };
      window_lives = h.window_lives;
      log_lives = h.log_lives;
      windows = h.windows;
      asked = λ a m. (let k = h.asked a m in record { window = k.window; own = k.own; tied = k.tied });
      parcels = λ p m. (let k = h.parcels p m in record { window = k.window; own = k.own; tied = k.tied });
      logs = h.logs;
      entries = h.entries;
    }

-- a backup is restored
restores_in : (p : PeerValue) (b : BackupValue) (done : Unit {0}) → restore_answer p b ≡ Ok done → b.db.uuid ≡ p.db.uuid
restores_in p b done is =
    cond_both (is_target p.sessions) (Err faults.IsTarget) (cond (b.db.uuid == p.db.uuid) (cond (nat_lt (greater_life p b) most) (Ok tt) (Err faults.LifeFull)) (Err faults.ForeignBackup)) (λ (x : Result (Unit {0}) TargetFault). x ≡ Ok done → b.db.uuid ≡ p.db.uuid)
    (λ _ k. cc)
    (λ _ k. cond_both (b.db.uuid == p.db.uuid) (cond (nat_lt (greater_life p b) most) (Ok tt) (Err faults.LifeFull)) (Err faults.ForeignBackup) (λ (x : Result (Unit {0}) TargetFault). x ≡ Ok done → b.db.uuid ≡ p.db.uuid) (λ e _. eqb-true _ _ e) (λ _ j. cc) k)
    is

-- nothing of the world is from the new life, which is above all others; and the log is the backup's
restore_step : (w : WorldValue) (place : ℕ) (o : Option BackupValue) → slice_get w.backups place ≡ o → Tied w → Tied (restores w o)
restore_step w place None is h = h
restore_step w place (Some b) is h = go (restore_answer w.source b) refl
  where
    rep : RepId
    rep = rep_of w

    go : (r : Result (Unit {0}) TargetFault) → restore_answer w.source b ≡ r → Tied (record w { source = restored_by w.source b r })
    go (Err fault) k = h
    go (Ok done) k =
        let uuid : b.db.uuid ≡ w.source.db.uuid = restores_in w.source b done k in
        let new : PeerValue = restored w.source b in
        let life : ℕ = greater_life w.source b + 1 in
        let above : (n : ℕ) → n ≤ w.source.db.life → n < life = λ n less. omega (arith, less) in
        let same : rep ≡ rep_between new w.target w.chosen = λ i. record { source = sym uuid i; target = w.target.db.uuid; chosen = w.chosen } in
        let copied : AreTiedEntries b.db w.target rep (log_in b.outgoing rep) = h.peers.copies b (Among-at w.backups place b is) in
        record {
          peers = record {
            pair = record {
              sessions = λ s m r.
                  (let under = (h.peers.pair.sessions s m (r ∙ sym same)).life in
                  let below = above s.life under in
                  record { life = omega (arith, below); windows = λ e. absurd (omega (arith, below, e)); start = λ e. absurd (omega (arith, below, e)) });
              log = subst (λ (x : RepId). AreTiedEntries new.db w.target x (log_in b.outgoing x)) same (λ e m. entry-life b.db life w.target rep e (copied e m));
            };
            copies = backups-source w.backups w.source new w.target w.chosen uuid h.peers.copies;
          };
          window_lives = λ x m. (let below = above x.life (h.window_lives x m) in omega (arith, below));
          log_lives = λ g m. (let below = above g.0 (h.log_lives g m) in omega (arith, below));
          windows = λ x m e. (let below = above x.life (h.window_lives x m) in absurd (omega (arith, below, e)));
          asked = λ a m.
              (let k = h.asked a m in
              let below = above k.window.life (h.window_lives k.window (Among-at w.bag.windows a.0 k.window k.own)) in
              record { window = k.window; own = k.own; tied = λ e. absurd (omega (arith, below, e)) });
          parcels = λ p m.
              (let k = h.parcels p m in
              let below = above k.window.life (h.window_lives k.window (Among-at w.bag.windows p.0 k.window k.own)) in
              record { window = k.window; own = k.own; tied = λ e. absurd (omega (arith, below, e)) });
          logs = λ g m e. (let below = above g.0 (h.log_lives g m) in absurd (omega (arith, below, e)));
          entries = h.entries;
        }

-- ---- messages of the bag

-- if reading a page succeeds, its range is valid
paged_in : (since goal seq : ℕ) (a b c : Bool) (e f g : BaseFault) (x y : WindowValue) → nat_le goal since ≡ b → nat_lt seq goal ≡ c → cond a (Err e) (cond b (Err f) (cond c (Err g) (Ok y))) ≡ Ok x → (since < goal) × (goal ≤ seq) × (x ≡ y)
paged_in since goal seq true b c e f g x y u v is = cc
paged_in since goal seq false true c e f g x y u v is = cc
paged_in since goal seq false false true e f g x y u v is = cc
paged_in since goal seq false false false e f g x y u v is = (more since goal u, within goal seq v, cc)
  where
    more : (since goal : ℕ) → nat_le goal since ≡ false → since < goal
    more since goal h = grind (arith, h)

    within : (goal seq : ℕ) → nat_lt seq goal ≡ false → goal ≤ seq
    within goal seq h = grind (arith, h)

page_step : (w : WorldValue) (since goal limit : ℕ) (r : Result WindowValue BaseFault) → page_answer w.source.db since goal limit w.chosen ≡ r → LawfulDatabase w.source.db → Tied w → Tied (paged w r)
page_step w since goal limit (Err fault) is law h = h
page_step w since goal limit (Ok x) is law h =
    let db = w.source.db in
    let k = paged_in since goal db.update_seq (limit == 0) (nat_le goal since) (nat_lt db.update_seq goal) _ _ _ x (page db since goal limit w.chosen) refl refl is in
    window_step w x h (ap (λ (y : WindowValue). y.life) k.2) (subst (IsTiedWindow db w.chosen) (sym k.2) (IsTiedWindow-page db since goal limit w.chosen law (omega (arith, k.0)) k.1))

append_step : (refuses : Document → Bool) (w : WorldValue) (session : SessionId) (place : ℕ) (o : Option WindowValue) → slice_get w.bag.windows place ≡ o → IsWorld refuses w → Tied w → Tied (appends w session o)
append_step refuses w session place None is l h = h
append_step refuses w session place (Some x) is l h =
    let m = Among-at w.bag.windows place x is in
    call_step refuses w (calls.Append session x) (λ s _ _ life t. tied-more w.source.db w.target (rep_of w) x s (λ _ e. h.windows x m (life ∙ e)) t)
    (append_law refuses w.target session l.target.sessions x (l.bag.windows_are x m) (l.bag.windows_end x m)).1 h

begin_step : (refuses : Document → Bool) (w : WorldValue) (session : SessionId) (goal at place : ℕ) (o : Option (ℕ × List EntryValue)) → slice_get w.bag.logs place ≡ o → IsWorld refuses w → Tied w → Tied (begins w session goal at o)
begin_step refuses w session goal at place None is l h = h
begin_step refuses w session goal at place (Some g) is l h =
    let rep = rep_of w in
    let m = Among-at w.bag.logs place g is in
    let b = beginning_in w goal g in
    call_step refuses w (calls.Begin session b at)
    (λ _. tied-new w.source.db w.target rep session b at (h.log_lives g m) (λ _ e. common_reached refuses w.source.db w.target rep g.1 l.target.sessions (h.logs g m e)))
    (begin_later w.target session b at) h

settle_step : (refuses : Document → Bool) (w : WorldValue) (session : SessionId) (o : Option (ℕ × ParcelValue)) → IsWorld refuses w → Tied w → Tied (settles refuses w session o)
settle_step refuses w session None l h = h
settle_step refuses w session (Some p) l h = call_step refuses w (calls.Settle session p.1) tt (ends_law refuses w.target session l.target.sessions p.1 _ (after_settle_ends refuses w.target session p.1)).1 h

stop_step : (refuses : Document → Bool) (w : WorldValue) (session : SessionId) (n : ℕ) (o : Option (ℕ × ParcelValue)) → IsWorld refuses w → Tied w → Tied (stops refuses w session n o)
stop_step refuses w session n None l h = h
stop_step refuses w session n (Some p) l h = call_step refuses w (calls.Stop session p.1 n) tt (ends_law refuses w.target session l.target.sessions p.1 _ (after_stop_ends refuses w.target session p.1 _)).1 h

puts_step : (refuses : Document → Bool) (w : WorldValue) (place : ℕ) (o : Option EntryValue) → slice_get w.bag.entries place ≡ o → IsWorld refuses w → Tied w → Tied (puts w o)
puts_step refuses w place None is l h = h
puts_step refuses w place (Some e) is l h =
    source_step w _ h (put_entry_later w.source (rep_of w) e).db (puts_tied refuses w.source w.target (rep_of w) w.chosen e l.target.sessions h.peers.pair (h.entries e (Among-at w.bag.entries place e is)))

-- ---- any step

pub happens_tied : (refuses : Document → Bool) (w : WorldValue) (step : Step) → IsWorld refuses w → Tied w → Tied (happens refuses w step)
happens_tied refuses w (EditSource id parent deleted body) l h = write_step w _ h (edit_later w.source id parent deleted body).db (edit_outgoing w.source id parent deleted body)
happens_tied refuses w (EditTarget id parent deleted body) l h = call_step refuses w (Edit id parent deleted body) tt (edit_later w.target id parent deleted body) h
happens_tied refuses w (LoadSource doc) l h = write_step w _ h (load_later w.source doc).db refl
happens_tied refuses w (ThirdParty doc) l h = call_step refuses w (Load doc) tt (load_later w.target doc) h
happens_tied refuses w ReadLog l h = log_step w h
happens_tied refuses w (Begin session log goal at) l h = begin_step refuses w session goal at log (slice_get w.bag.logs log) refl l h
happens_tied refuses w (Page since goal limit) l h = page_step w since goal limit (page_answer w.source.db since goal limit w.chosen) refl l.source h
happens_tied refuses w (Append session window) l h = append_step refuses w session window (slice_get w.bag.windows window) refl l h
happens_tied refuses w (Diff window) l h = diff_step w window (slice_get w.bag.windows window) refl h
happens_tied refuses w (Fetch asked) l h = fetch_step w asked (slice_get w.bag.asked asked) refl h
happens_tied refuses w (Settle session parcel) l h = settle_step refuses w session (slice_get w.bag.parcels parcel) l h
happens_tied refuses w (Record session at) l h =
    let now = after_record w.target session at in
    told_step (record w { target = now }) (entry_in now session) (sent_entry now session) (call_step refuses w (calls.Record session at) tt (record_law refuses w.target session l.target.sessions at).1 h)
happens_tied refuses w (Conclude session at) l h =
    let now = after_conclude w.target session at in
    told_where_step (record w { target = now }) (conclude_answer w.target session) (entry_in now session) (sent_entry now session) (call_step refuses w (calls.Conclude session at) tt (conclude_law refuses w.target session l.target.sessions at).1 h)
happens_tied refuses w (PutEntry entry) l h = puts_step refuses w entry (slice_get w.bag.entries entry) refl l h
happens_tied refuses w Backup l h = backup_step w (backup_answer w.source) refl h
happens_tied refuses w (Restore backup) l h = restore_step w backup (slice_get w.backups backup) refl h
happens_tied refuses w Crash l h = crash_step w h

-- a step that ran out of memory
pub cut_tied : (refuses : Document → Bool) (w : WorldValue) (step : Step) (now : WorldValue) → IsWorld refuses w → CutShort refuses w step now → Tied w → Tied now
cut_tied refuses w (Settle session parcel) now l is h =
    elim is [
      | inl same ↦ subst Tied (sym same) h
      | inr stopped ↦ subst Tied (sym stopped.2) (stop_step refuses w session stopped.0 (slice_get w.bag.parcels parcel) l h)
    ]
cut_tied refuses w step now l is h = subst Tied (sym is) h
