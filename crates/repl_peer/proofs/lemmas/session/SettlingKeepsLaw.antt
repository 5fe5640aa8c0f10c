-- Settling, complete or partial, keeps the peer's invariant and everything covered.
use Rattle.proof_prelude.proofs.{◌≡◌, ℕ, ◌<◌, ◌^◌, List, [], ◌∷◌, ◌++◌, Bool, true, refl, sym, ap, ◌∙◌, subst, inl, inr, arith, list_all, map_push, length-append}
use Rattle.rev_core.specs.{is_among}
use Rattle.rev_tree.specs.{has, SessionId}
use Rattle.doc_json.specs.Document.{Document}
use Rattle.couch_base.specs.{Among, DatabaseValue, tree_of, WindowValue, IsWindow, ParcelValue, after_put, IsLater, IsLater-same, IsLater-after_put, Among-left, Among-push, each_push, all_member}
use Rattle.range_front.specs.{bounds, end_of, IsFront-appended, bounds-appended, end_of-appended, is_done-appended, low_water-appended, is_window-within, is_window-is_done, IsFront-finished, bounds-finished, end_of-finished, is_done-finished_cases, low_water-finished}
use Rattle.repl_peer.specs.{PeerValue, SessionValue, WrittenValue, RefusedValue, written_of, rightly_refused, CoversWindow, fed, settle_docs, has_row, settling_of, marked, after_append, after_record, after_conclude, StandsIn, LawfulSession, LawfulSessions, Keeps, IsLaterPeer}
use Rattle.repl_peer.proofs.lemmas.peer.WritesStand.{put_holds, put_stands}
use Rattle.repl_peer.proofs.lemmas.peer.LaterPeers.{IsLaterPeer-same, IsLaterPeer-later, covers-later, session_law}
use Rattle.repl_peer.proofs.lemmas.session.WindowsFollow.{windows-consecutive, window-above, one_window}
use Rattle.repl_peer.proofs.lemmas.session.Changes.{Change, Kept, Stored, Refused, Arrived, Marked, Recorded, changed, written, after_change, Source, May, KeptByChanges, Walked, documents, mark, LeavesAfter, ends_keep, append_keep, record_keep, conclude_keep}

-- ---- what each change of a session keeps

-- appended windows satisfy their invariant
abbrev pub AreWindows : Source → Type 0
AreWindows Of = (s : SessionValue) (w : WindowValue) → Of.window s w → IsWindow w × (w.hi < 2 ^ 64)

abbrev pub any : Source
any = record { doc = λ _. Unit {0}; window = λ _ w. IsWindow w × (w.hi < 2 ^ 64) }

change_keeps : (refuses : Document → Bool) (q : PeerValue) (s : SessionValue) (c : Change) → LawfulSession refuses q s → Keeps s (changed s c)
change_keeps refuses q s (Stored window) l = record { id = refl; scope = refl; start = refl; recorded = omega arith; windows = λ w m. Among-left w s.windows _ m; arrivals = λ a m. m; ledger = λ x m. m }
change_keeps refuses q s (Refused doc reason) l = record { id = refl; scope = refl; start = refl; recorded = omega arith; windows = λ w m. m; arrivals = λ a m. m; ledger = λ x m. Among-left x s.ledger _ m }
change_keeps refuses q s (Arrived window doc) l = record { id = refl; scope = refl; start = refl; recorded = omega arith; windows = λ w m. m; arrivals = λ a m. Among-left a s.arrivals _ m; ledger = λ x m. m }
change_keeps refuses q s (Recorded at) l = record { id = refl; scope = refl; start = refl; recorded = l.recorded; windows = λ w m. m; arrivals = λ a m. m; ledger = λ x m. m }
change_keeps refuses q s change l = record { id = refl; scope = refl; start = refl; recorded = omega arith; windows = λ w m. m; arrivals = λ a m. m; ledger = λ x m. m }

written_later : (db : DatabaseValue) (s : SessionValue) (c : Change) → IsLater db (written db s c)
written_later db s (Arrived window doc) = IsLater-after_put db doc (fed window s.id doc)
written_later db s change = IsLater-same db

-- the effect of a change on the session, in the resulting peer
change_lawful : (refuses : Document → Bool) (Of : Source) → AreWindows Of → (p : PeerValue) (s : SessionValue) (c : Change) → May refuses Of p s c → IsLaterPeer p (after_change p s c) → LawfulSession refuses (after_change p s c) s → LawfulSession refuses (after_change p s c) (changed s c)
change_lawful refuses Of are p s Kept may later l = l
change_lawful refuses Of are p s (Stored w) may later l =
    let window = are s w may.from in
    let above : end_of s.front < w.hi = omega (arith, window.0.range, may.at) in
    record {
      store = record {
        front = IsFront-appended s.front w.hi l.front above window.1;
        bounds = map_push (λ (v : WindowValue). (v.lo, v.hi)) s.windows w ∙ ap (λ bs. bs ++ (w.lo, w.hi) ∷ []) l.bounds ∙ ap (λ n. bounds s.front ++ (n, w.hi) ∷ []) may.at ∙ sym (bounds-appended s.front w.hi);
        within = omega (arith, end_of-appended s.front w.hi, may.within);
        windows = each_push IsWindow s.windows w l.windows window.0;
        start = l.start;
        recorded = omega (arith, l.recorded, low_water-appended s.front w.hi);
      };
      done = λ v m e. (let before = sym (is_done-appended s.front w.hi v.lo v.hi) ∙ e in elim (Among-push v s.windows w m) [
        | inl old ↦ l.done v old before
        | inr new ↦
            let last : v.hi ≡ w.hi = ap (λ (x : WindowValue). x.hi) new in
            let under = is_window-within s.front v.lo v.hi l.front (is_window-is_done s.front v.lo v.hi before) in
            absurd (omega (arith, under.2, last, above))
      ]);
      ledger = l.ledger;
      arrivals = l.arrivals;
      stands = l.stands;
      counts = l.counts;
    }
change_lawful refuses Of are p s (Refused doc reason) may later l =
    let new : RefusedValue = record { doc = doc; reason = reason } in
    record {
      store = l.store;
      done = l.done;
      ledger = λ x m. elim (Among-push x s.ledger new m) [ inl old ↦ l.ledger x old | inr e ↦ ap (λ (y : RefusedValue). rightly_refused refuses p.db y.doc) e ∙ may ];
      arrivals = l.arrivals;
      stands = l.stands;
      counts = record { written = l.written; failures = omega (arith, l.failures, length-append s.ledger (new ∷ [])); read = omega (arith, l.read) };
    }
change_lawful refuses Of are p s (Arrived window doc) may later l =
    let db = after_put p.db doc (fed window s.id doc) in
    record {
      store = l.store;
      done = l.done;
      ledger = l.ledger;
      arrivals = λ a m r e. elim (Among-push a s.arrivals (written_of doc) m) [
        | inl old ↦ l.arrivals a old r e
        | inr is ↦ ap (λ (y : WrittenValue). has (tree_of db.docs y.id) r) is ∙ put_holds p.db doc (fed window s.id doc) may.clear may.room r (ap (λ (y : WrittenValue). is_among r y.ancestry) (sym is) ∙ e)
      ];
      stands = λ a m. elim (Among-push a s.arrivals (written_of doc) m) [
        | inl old ↦ l.stands a old
        | inr is ↦ subst (StandsIn db) (sym is) (put_stands p.db doc (fed window s.id doc) may.clear may.room)
      ];
      counts = record { written = omega (arith, l.written, length-append s.arrivals (written_of doc ∷ [])); failures = l.failures; read = omega (arith, l.read) };
    }
change_lawful refuses Of are p s (Marked window parcel) may later l =
    let follows = windows-consecutive s.front s.windows l.bounds l.front in
    let covered : CoversWindow (after_change p s (Marked window parcel)) window = λ row i leaf j. covers-later p _ later row.id leaf (may.1 row i leaf j) in
    record {
      store = record {
        front = IsFront-finished s.front window.lo window.hi l.front;
        bounds = l.bounds ∙ sym (bounds-finished s.front window.lo window.hi);
        within = omega (arith, l.within, end_of-finished s.front window.lo window.hi);
        windows = l.windows;
        start = l.start;
        recorded = omega (arith, l.recorded, low_water-finished s.front window.lo window.hi l.front);
      };
      done = λ v n e. elim (is_done-finished_cases s.front window.lo window.hi v.lo v.hi e) [
        | inl before ↦ l.done v n before
        | inr same ↦
            let range = (window-above s.front.start s.windows v follows n).1 in
            subst (CoversWindow (after_change p s (Marked window parcel))) (one_window s.front.start s.windows window v v.hi follows may.0 n (omega (arith, range, same.0)) (omega (arith, same.1)) range (omega arith)) covered
      ];
      ledger = l.ledger;
      arrivals = l.arrivals;
      stands = l.stands;
      counts = record { written = l.written; failures = l.failures; read = l.read };
    }
change_lawful refuses Of are p s (Recorded at) may later l = record {
  store = record { front = l.front; bounds = l.bounds; within = l.within; windows = l.windows; start = omega (arith, l.start, l.recorded); recorded = omega arith };
  done = l.done;
  ledger = l.ledger;
  arrivals = l.arrivals;
  stands = l.stands;
  counts = l.counts;
}

-- ---- the calls

-- a peer is lawful and later
abbrev pub StaysLawful : (Document → Bool) → PeerValue → PeerValue → Type 0
StaysLawful refuses p q = LawfulSessions refuses q × IsLaterPeer p q

pub stays_same : (refuses : Document → Bool) (p : PeerValue) → LawfulSessions refuses p → StaysLawful refuses p p
stays_same refuses p l = (l, IsLaterPeer-same p)

pub change_law : (refuses : Document → Bool) (Of : Source) → AreWindows Of → (p : PeerValue) (s : SessionValue) (c : Change) → Among s p.sessions → May refuses Of p s c → LawfulSessions refuses p → StaysLawful refuses p (after_change p s c)
change_law refuses Of are p s c m may l =
    session_law refuses p (written p.db s c) s (changed s c) m (written_later p.db s c) (change_keeps refuses p s c (l.sessions s m)) (change_lawful refuses Of are p s c may) l

pub law_kept : (refuses : Document → Bool) (Of : Source) → AreWindows Of → (from : PeerValue) → KeptByChanges refuses Of (λ p _. StaysLawful refuses from p)
law_kept refuses Of are from p s c m may h = let k = change_law refuses Of are p s c m may h.0 in (k.0, IsLaterPeer-later from p (after_change p s c) h.1 k.1)

pub documents_law : (refuses : Document → Bool) (p : PeerValue) (s : SessionValue) (w : WindowValue) (docs : List Document) → Among s p.sessions → Among w s.windows → list_all (has_row w) docs ≡ true → LawfulSessions refuses p
    → Walked (λ q _. StaysLawful refuses p q) p s (settle_docs refuses w (settling_of p s) docs)
documents_law refuses p s w docs m n rows l = documents refuses any (λ q _. StaysLawful refuses p q) (law_kept refuses any (λ _ _ k. k) p) p s w docs m n (λ d i. (all_member (has_row w) d docs rows i, tt)) (stays_same refuses p l)

pub mark_law : (refuses : Document → Bool) (p : PeerValue) (s : SessionValue) (w : WindowValue) (parcel : ParcelValue) → Among s p.sessions → Among w s.windows → LawfulSessions refuses p → IsLaterPeer p (marked p s w parcel)
mark_law refuses p s w parcel m n l = (mark refuses any (λ q _. StaysLawful refuses p q) (law_kept refuses any (λ _ _ k. k) p) p s w parcel m n (stays_same refuses p l)).1.1

module _ (refuses : Document → Bool) (p : PeerValue) (id : SessionId) (l : LawfulSessions refuses p) where
  pub ends_law : (parcel : ParcelValue) (q : PeerValue) → LeavesAfter refuses p id parcel q → StaysLawful refuses p q
  ends_law parcel q ends = ends_keep refuses any (StaysLawful refuses p) (law_kept refuses any (λ _ _ k. k) p) p id parcel q ends (λ _ _. tt) (stays_same refuses p l)

  pub append_law : (w : WindowValue) → IsWindow w → w.hi < 2 ^ 64 → StaysLawful refuses p (after_append p id w)
  append_law w window small = append_keep refuses any (StaysLawful refuses p) (law_kept refuses any (λ _ _ k. k) p) p id w (λ _ _ _. (window, small)) (stays_same refuses p l)

  pub record_law : (at : ℕ) → StaysLawful refuses p (after_record p id at)
  record_law at = record_keep refuses any (StaysLawful refuses p) (law_kept refuses any (λ _ _ k. k) p) p id at (stays_same refuses p l)

  pub conclude_law : (at : ℕ) → StaysLawful refuses p (after_conclude p id at)
  conclude_law at = conclude_keep refuses any (StaysLawful refuses p) (law_kept refuses any (λ _ _ k. k) p) p id at (stays_same refuses p l)
