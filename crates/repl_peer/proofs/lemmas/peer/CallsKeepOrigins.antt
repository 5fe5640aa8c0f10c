-- Every revision of a peer has an origin after every call.
use Rattle.proof_prelude.proofs.{◌≡◌, ◌⊎◌, ℕ, ◌<◌, ◌^◌, List, [], ◌∷◌, ◌++◌, Bool, true, false, cond, ◌||◌, Option, Some, None, is_some, unwrap_or, Result, Ok, Err, map, length, refl, sym, ap, ◌∙◌, subst, inl, inr, arith, list_any, get, get-empty, eq_by_cmp, bytes_eq, cond_both, cond-true, false≢true, bytes_eq-Decides, slice_get}
use Rattle.std.specs.FinMap.{find}
use Rattle.rev_core.specs.{RevId, rev_cmp, is_among}
use Rattle.rev_tree.specs.{TreeValue, merged, no_revisions, find-among, get-joined, some_or, Origin, SessionId}
use Rattle.rev_tree.specs.declared.origin.Origin.TheVariants.{Local, Feed}
use Rattle.doc_json.specs.Document.{Document}
use Rattle.couch_base.specs.{Among, some_is, none_some, Id, DatabaseValue, tree_in, tree_of, with_tree, RowValue, WindowValue, IsWindow, ParcelValue, put_answer, is_changed, after_put, content_of, tree_in-with_tree, Among-last, at-end}
use Rattle.repl_peer.specs.{Settled, TargetFault, PeerValue, SessionValue, new_peer_at, written_of, next_local, after_load, begin_answer, new_session, begun, after_begin, after_append, after_record, after_conclude, seq_in, fed, with_arrival, has_row, with_settling, SettleGives, Lawful, IsStoredPeer, IsLaterPeer, ComesFrom, HasOrigins, Beginning}
use Rattle.repl_peer.proofs.lemmas.peer.LaterPeers.{with_session_holds}
use Rattle.repl_peer.proofs.lemmas.peer.CallsKeepLaw.{load_later, begin_later}
use Rattle.repl_peer.proofs.lemmas.session.Changes.{Change, Arrived, after_change, Source, May, KeptByChanges, settle_ends, ends_keep, append_keep, record_keep, conclude_keep}
use Rattle.repl_peer.proofs.lemmas.session.SettlingKeepsLaw.{any, change_law}
use Rattle.repl_peer.proofs.lemmas.peer.WritesStand.{stands_later}

-- ---- stored origins are true

-- each origin in a tree is true
abbrev pub TellsOrigins : PeerValue → Type 0
TellsOrigins p = (id : Id) (r : RevId) (o : Origin) → get (tree_of p.db.docs id).origins r ≡ Some o → ComesFrom p id r o

pub stands_from : (p : PeerValue) → HasOrigins p → TellsOrigins p
stands_from p h id r o is =
    let k = h id r (ap is_some is) in
    subst (ComesFrom p id r) (some_is k.0 o (sym k.1 ∙ is)) k.2

pub has_from : (p : PeerValue) → TellsOrigins p → HasOrigins p
has_from p h id r there = go (get (tree_of p.db.docs id).origins r) refl
  where
    go : (x : Option Origin) → get (tree_of p.db.docs id).origins r ≡ x → (o : Origin) × (get (tree_of p.db.docs id).origins r ≡ Some o) × ComesFrom p id r o
    go None is = absurd (false≢true (sym (ap is_some is) ∙ there))
    go (Some o) is = (o, is, h id r o is)

-- an origin stays true in a later peer
comes_later : (p q : PeerValue) → IsLaterPeer p q → (id : Id) (r : RevId) (o : Origin) → ComesFrom p id r o → ComesFrom q id r o
comes_later p q later id r (Local n) h = record { write = h.write; stored = later.locals n h.write h.stored; of = h.of; brings = h.brings }
comes_later p q later id r (Feed session seq) h =
    let t = later.sessions h.by h.held in
    let l = h.listed in
    let a = h.arrived in
    record {
      by = t.0;
      held = t.1;
      named = t.2.id ∙ h.named;
      listed = record { window = l.window; stored = t.2.windows l.window l.stored; row = l.row; listed = l.listed; at = l.at; of = l.of };
      arrived = record { arrival = a.arrival; stored = t.2.arrivals a.arrival a.stored; of = a.of; brings = a.brings };
    }

-- the trees stay the same
pub stands_same : (p q : PeerValue) → IsLaterPeer p q → q.db ≡ p.db → TellsOrigins p → TellsOrigins q
stands_same p q later same h id r o is = comes_later p q later id r o (h id r o (ap (λ (db : DatabaseValue). get (tree_of db.docs id).origins r) (sym same) ∙ is))

-- ---- the revisions of a put

given_origin : (o p : Origin) (revs : List RevId) (r : RevId) → find rev_cmp r (map (λ r. (r, o)) revs) ≡ Some p → o ≡ p
given_origin o p [] r h = absurd (none_some p h)
given_origin o p (x ∷ revs) r h =
    cond_both (eq_by_cmp rev_cmp r x) (Some o) (find rev_cmp r (map (λ r. (r, o)) revs)) (λ (u : Option Origin). u ≡ Some p → o ≡ p) (λ _ k. some_is o p k) (λ _ k. given_origin o p revs r k) h

-- an origin of the put itself
record IsNew (db : DatabaseValue) (d : Document) (o p : Origin) (id : Id) (r : RevId) : Type 0 where
  of : d.id ≡ id
  brings : is_among r d.ancestry ≡ true
  changed : is_changed (put_answer db d) ≡ true
  is : o ≡ p

-- an origin after a put was there before, or is that of the put
put_origin : (db : DatabaseValue) (d : Document) (o p : Origin) (id : Id) (r : RevId) → get (tree_of (after_put db d o).docs id).origins r ≡ Some p → (get (tree_of db.docs id).origins r ≡ Some p) ⊎ IsNew db d o p id r
put_origin db d o p id r h =
    cond_both (is_changed (put_answer db d)) (with_tree db d.id m) db (λ (x : DatabaseValue). get (tree_of x.docs id).origins r ≡ Some p → Answer)
    (λ changed k. cond_both (bytes_eq d.id id) (Some m) (tree_in db.docs id) (λ (u : Option TreeValue). get (unwrap_or u no_revisions).origins r ≡ Some p → Answer)
    (λ same j. in_merged changed ((bytes_eq-Decides d.id id).0 same) j)
    (λ _ j. inl j)
    (ap (λ (u : Option TreeValue). get (unwrap_or u no_revisions).origins r) (sym (tree_in-with_tree db d.id m id)) ∙ k))
    (λ _ k. inl k) h
  where
    m : TreeValue
    m = merged (tree_of db.docs d.id) d.ancestry (content_of d.deleted d.body) o

    Answer : Type 0
    Answer = (get (tree_of db.docs id).origins r ≡ Some p) ⊎ IsNew db d o p id r

    in_merged : is_changed (put_answer db d) ≡ true → d.id ≡ id → get m.origins r ≡ Some p → Answer
    in_merged changed of j =
        let entries : List (RevId × Origin) = map (λ (x : RevId). (x, o)) d.ancestry in
        elim (some_or (get (tree_of db.docs d.id).origins r) (find rev_cmp r entries) p (sym (get-joined (tree_of db.docs d.id).origins entries r) ∙ j)) [
          | inl old ↦ inl (subst (λ i. get (tree_of db.docs i).origins r ≡ Some p) of old)
          | inr new ↦ inr (record { of = of; brings = sym (find-among r o d.ancestry) ∙ ap is_some new.1; changed = changed; is = given_origin o p d.ancestry r new.1 })
        ]

-- ---- local writes

pub new_origins : (uuid seq : ℕ) → HasOrigins (new_peer_at uuid seq)
new_origins uuid seq id r there = absurd (false≢true (sym (ap is_some (get-empty {X = Origin} rev_cmp r)) ∙ there))

pub load_origins : (p : PeerValue) (d : Document) → HasOrigins p → HasOrigins (after_load p d)
load_origins p d h = has_from (after_load p d) stands
  where
    stored : is_changed (put_answer p.db d) ≡ true → slice_get (after_load p d).locals (length p.locals) ≡ Some (written_of d)
    stored changed =
        ap (λ xs. slice_get xs (length p.locals)) (cond-true (is_changed (put_answer p.db d)) (p.locals ++ written_of d ∷ []) p.locals changed) ∙ at-end p.locals (written_of d)

    stands : TellsOrigins (after_load p d)
    stands id r o is =
        elim (put_origin p.db d (next_local p) o id r is) [
          | inl old ↦ comes_later p (after_load p d) (load_later p d) id r o (stands_from p h id r o old)
          | inr new ↦ subst (ComesFrom (after_load p d) id r) new.is (record { write = written_of d; stored = stored new.changed; of = new.of; brings = new.brings })
        ]

-- ---- beginning

pub begin_origins : (p : PeerValue) (id : SessionId) (b : Beginning) (at : ℕ) → HasOrigins p → HasOrigins (after_begin p id b at)
begin_origins p id b at h =
    has_from (after_begin p id b at) (stands_same p (after_begin p id b at) (begin_later p id b at) (begun_database (begin_answer p id b)) (stands_from p h))
  where
    begun_database : (r : Result (Unit {0}) TargetFault) → (begun p (new_session id b at) r).db ≡ p.db
    begun_database (Ok done) = refl
    begun_database (Err fault) = refl

-- ---- changes of a session

-- the row of a document, at the sequence that is looked up
row_listed : (rows : List RowValue) (id : Id) → list_any (λ (row : RowValue). bytes_eq row.id id) rows ≡ true → (row : RowValue) × Among row rows × (row.seq ≡ seq_in rows id) × (row.id ≡ id)
row_listed [] id h = absurd (false≢true h)
row_listed (row ∷ rows) id h = step (λ k. row_listed rows id k) (bytes_eq row.id id) refl h
  where
    step : (list_any (λ (x : RowValue). bytes_eq x.id id) rows ≡ true → (x : RowValue) × Among x rows × (x.seq ≡ seq_in rows id) × (x.id ≡ id)) → (b : Bool) → bytes_eq row.id id ≡ b → (b || list_any (λ (x : RowValue). bytes_eq x.id id) rows) ≡ true
        → (x : RowValue) × Among x (row ∷ rows) × (x.seq ≡ cond b row.seq (seq_in rows id)) × (x.id ≡ id)
    step later true e h = (row, inl refl, refl, (bytes_eq-Decides row.id id).0 e)
    step later false e h = let k = later h in (k.0, inr k.1, k.2, k.3)

-- an arrival comes from its row, in the session's feed
arrival_stands : (p : PeerValue) (s : SessionValue) (w : WindowValue) (d : Document) → Among s p.sessions → Among w s.windows → has_row w d ≡ true
    → IsLaterPeer p (with_settling p (record { db = after_put p.db d (fed w s.id d); session = with_arrival d s })) → TellsOrigins p → TellsOrigins (with_settling p (record { db = after_put p.db d (fed w s.id d); session = with_arrival d s }))
arrival_stands p s w d m n has_one later h id r o is =
    let q : PeerValue = with_settling p (record { db = after_put p.db d (fed w s.id d); session = with_arrival d s }) in
    elim (put_origin p.db d (fed w s.id d) o id r is) [
      | inl old ↦ comes_later p q later id r o (h id r o old)
      | inr new ↦
          let row = row_listed w.rows d.id has_one in
          subst (ComesFrom q id r) new.is (record {
            by = with_arrival d s;
            held = with_session_holds p.sessions s (with_arrival d s) m refl;
            named = refl;
            listed = record { window = w; stored = n; row = row.0; listed = row.1; at = row.2; of = row.3 ∙ new.of };
            arrived = record { arrival = written_of d; stored = Among-last (written_of d) s.arrivals; of = new.of; brings = new.brings };
          })
    ]

change_stands : (refuses : Document → Bool) (Of : Source) (p : PeerValue) (s : SessionValue) (c : Change) → Among s p.sessions → May refuses Of p s c → IsLaterPeer p (after_change p s c) → TellsOrigins p → TellsOrigins (after_change p s c)
change_stands refuses Of p s (Arrived window doc) m may later h = arrival_stands p s window doc m may.stored may.row later h
change_stands refuses Of p s change m may later h = stands_same p (after_change p s change) later refl h

-- each change keeps the peer's invariant: its sessions, origins and local writes
lawful_kept : (refuses : Document → Bool) → KeptByChanges refuses any (λ p _. Lawful refuses p)
lawful_kept refuses p s c m may h =
    let k = change_law refuses any (λ _ _ w. w) p s c m may h.sessions in
    record {
      sessions = k.0;
      origins = has_from _ (change_stands refuses any p s c m may k.1 (stands_from p h.origins));
      locals = λ a n. stands_later p.db (after_change p s c).db k.1.db a (h.locals a n);
    }

-- each change keeps the invariant of a stored peer
stored_kept : (refuses : Document → Bool) → KeptByChanges refuses any (λ p _. IsStoredPeer refuses p)
stored_kept refuses p s c m may h =
    let later = (change_law refuses any (λ _ _ w. w) p s c m may h.sessions).1 in
    record { lawful = lawful_kept refuses p s c m may h.lawful; counted = omega (arith, h.counted, later.db.seq) }

pub settle_stored : (refuses : Document → Bool) (p : PeerValue) (id : SessionId) → IsStoredPeer refuses p → (parcel : ParcelValue) (result : Result Settled TargetFault) (q : PeerValue) → SettleGives refuses p id parcel result q → IsStoredPeer refuses q
settle_stored refuses p id stored parcel result q gives = ends_keep refuses any (IsStoredPeer refuses) (stored_kept refuses) p id parcel q (settle_ends refuses p id parcel result q gives) (λ _ _. tt) stored

module _ (refuses : Document → Bool) (p : PeerValue) (id : SessionId) (lawful : Lawful refuses p) where
  pub append_lawful : (w : WindowValue) → IsWindow w → w.hi < 2 ^ 64 → Lawful refuses (after_append p id w)
  append_lawful w window small = append_keep refuses any (Lawful refuses) (lawful_kept refuses) p id w (λ _ _ _. (window, small)) lawful

  pub record_lawful : (at : ℕ) → Lawful refuses (after_record p id at)
  record_lawful at = record_keep refuses any (Lawful refuses) (lawful_kept refuses) p id at lawful

  pub conclude_lawful : (at : ℕ) → Lawful refuses (after_conclude p id at)
  conclude_lawful at = conclude_keep refuses any (Lawful refuses) (lawful_kept refuses) p id at lawful
