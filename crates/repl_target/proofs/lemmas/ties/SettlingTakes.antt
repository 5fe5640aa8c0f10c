-- Settling accounts for each document, also in the counts, so a parcel of a session's own window covers it.
use Rattle.proof_prelude.proofs.{◌≡◌, ◌⊎◌, ℕ, zero, suc, ◌+◌, ◌≤◌, ◌&&◌, Bool, true, false, cond, not, List, [], ◌∷◌, Option, Some, None, Result, Ok, Err, take, length, refl, sym, ap, ◌∙◌, subst, inl, inr, arith, list_all, option_map, option_or, bytes_eq, and_from, cond_both, both_ways, or_left, or_right, cases_Bool, bytes_eq-Decides, find}
use Rattle.rev_core.specs.{RevId, is_among}
use Rattle.rev_tree.specs.{has, SessionId}
use Rattle.doc_json.specs.Document.{Document}
use Rattle.couch_base.specs.{Among, none_some, Id, tree_of, RowValue, WindowValue, ParcelValue, IsParcel, put_answer, Among-left, Among-last, any_from}
use Rattle.repl_peer.specs.{Reason, Settled, TargetFault, PeerValue, SessionValue, RefusedValue, written_of, with_session, refusal_of, in_ledger, covers, unknown_in, first_unknown, Settling, settle_as, settle_one, settle_docs, stops_as, stops_at, settled_before, is_full, has_row, settle_check, settling_of, with_settling, after_documents, after_all, Settles, SettleGives, is_uncovered, LawfulSessions}
use Rattle.repl_peer.specs.declared.fault.TargetFault.TheVariants as faults
use Rattle.repl_peer.proofs.{covers-later, one_session, check_refused, Walked, settle_told, StaysLawful, documents_law, mark_law, windows-consecutive, window-above, one_window}
use Rattle.repl_target.specs.{IsTiedParcel}
use Rattle.repl_target.proofs.lemmas.ties.TiedMessages.{brought}

-- ---- each document is accounted for

-- a document has arrived, or is in the ledger
pub IsTaken : SessionValue → Document → Type 0
IsTaken s d = Among (written_of d) s.arrivals ⊎ ((reason : Reason) × Among (record { doc = d; reason = reason }) s.ledger)

taken-as : (w : WindowValue) (z : Settling) (e d : Document) (o : Option Reason) → IsTaken z.session d → IsTaken (settle_as w z e o).session d
unfolding IsTaken
taken-as w z e d (Some reason) h = elim h [ inl a ↦ inl a | inr l ↦ inr (l.0, Among-left _ z.session.ledger _ l.1) ]
taken-as w z e d None h =
    cond_both (is_full (put_answer z.db e)) z _ (λ (y : Settling). IsTaken y.session d) (λ _. h)
    (λ _. elim h [ inl a ↦ inl (Among-left _ z.session.arrivals _ a) | inr l ↦ inr l ])

taken-docs : (refuses : Document → Bool) (w : WindowValue) (z : Settling) (docs : List Document) (d : Document) → IsTaken z.session d → IsTaken (settle_docs refuses w z docs).session d
taken-docs refuses w z [] d h = h
taken-docs refuses w z (e ∷ docs) d h = taken-docs refuses w (settle_one refuses w z e) docs d (taken-as w z e d (refusal_of refuses z.db e) h)

taken-one : (w : WindowValue) (z : Settling) (d : Document) (o : Option Reason) → stops_as z.db d o ≡ false → IsTaken (settle_as w z d o).session d
unfolding IsTaken
taken-one w z d (Some reason) go = inr (reason, Among-last _ z.session.ledger)
taken-one w z d None go =
    cond_both (is_full (put_answer z.db d)) z _ (λ (y : Settling). IsTaken y.session d) (λ full. absurd (both_ways _ go full)) (λ _. inl (Among-last _ z.session.arrivals))

-- if the first document is settled, the others are settled after it
goes : (refuses : Document → Bool) (w : WindowValue) (z : Settling) (d : Document) (docs : List Document) (n : ℕ) → suc n ≤ settled_before refuses w z (d ∷ docs) → (stops_at refuses z d ≡ false) × (n ≤ settled_before refuses w (settle_one refuses w z d) docs)
goes refuses w z d docs n h =
    cond_both (stops_at refuses z d) 0 (settled_before refuses w (settle_one refuses w z d) docs + 1) (λ m. suc n ≤ m → (stops_at refuses z d ≡ false) × (n ≤ settled_before refuses w (settle_one refuses w z d) docs))
    (λ _ k. absurd (omega (arith, k)))
    (λ e k. (e, omega (arith, k)))
    h

pub all_taken : (refuses : Document → Bool) (w : WindowValue) (z : Settling) (docs : List Document) → length docs ≤ settled_before refuses w z docs → (d : Document) → Among d docs → IsTaken (settle_docs refuses w z docs).session d
all_taken refuses w z [] all d m = absurd m
all_taken refuses w z (e ∷ docs) all d m =
    let g = goes refuses w z e docs (length docs) all in
    elim m [
      | inl i ↦ taken-docs refuses w (settle_one refuses w z e) docs d (subst (IsTaken (settle_one refuses w z e).session) (sym i) (taken-one w z e (refusal_of refuses z.db e) g.0))
      | inr n ↦ all_taken refuses w (settle_one refuses w z e) docs g.1 d n
    ]

-- ---- each document counts

read-one : (w : WindowValue) (z : Settling) (d : Document) (o : Option Reason) → stops_as z.db d o ≡ false → (settle_as w z d o).session.counts.read ≡ z.session.counts.read + 1
read-one w z d (Some reason) go = refl
read-one w z d None go = cond_both (is_full (put_answer z.db d)) z _ (λ (y : Settling). y.session.counts.read ≡ z.session.counts.read + 1) (λ full. absurd (both_ways _ go full)) (λ _. refl)

-- the first n settled documents count as read
pub read-docs : (refuses : Document → Bool) (w : WindowValue) (n : ℕ) (z : Settling) (docs : List Document) → n ≤ settled_before refuses w z docs → (settle_docs refuses w z (take n docs)).session.counts.read ≡ z.session.counts.read + n
read-docs refuses w zero z docs h = omega arith
read-docs refuses w (suc n) z [] h = absurd (omega (arith, h))
read-docs refuses w (suc n) z (d ∷ docs) h =
    let g = goes refuses w z d docs n h in
    let later = read-docs refuses w n (settle_one refuses w z d) docs g.1 in
    let here = read-one w z d (refusal_of refuses z.db d) g.0 in
    omega (arith, later, here)

-- ---- a parcel of the own window covers it

none_missed : {X : Type 0} (p : X → Bool) (xs : List X) → ((x : X) → Among x xs → p x ≡ true) → find (λ x. not (p x)) xs ≡ None
none_missed p [] h = refl
none_missed p (x ∷ xs) h = ap (λ b. cond (not b) (Some x) (find (λ y. not (p y)) xs)) (h x (inl refl)) ∙ none_missed p xs (λ y m. h y (inr m))

pub all_known : (known : Id → RevId → Bool) (rows : List RowValue) → ((row : RowValue) → Among row rows → (leaf : RevId) → Among leaf row.leaves → known row.id leaf ≡ true) → first_unknown known rows ≡ None
all_known known [] h = refl
all_known known (row ∷ rows) h =
    let here : unknown_in known row ≡ None = ap (option_map (λ rev. record { seq = row.seq; id = row.id; rev = rev })) (none_missed (known row.id) row.leaves (λ l m. h row (inl refl) l m)) in
    ap (λ o. option_or o (first_unknown known rows)) here ∙ all_known known rows (λ r m. h r (inr m))

-- an error before the documents is not `Uncovered`
checked : (p : PeerValue) (id : SessionId) (parcel : ParcelValue) (fault : TargetFault) → settle_check p id parcel ≡ Err fault → is_uncovered (Err fault) ≡ false
checked p id parcel fault h = check_refused (λ why. is_uncovered (Err why) ≡ false) p id parcel fault refl refl refl refl h

-- a leaf of the own window, after all documents
leaf_covered : (refuses : Document → Bool) (p : PeerValue) (s : SessionValue) (w : WindowValue) (parcel : ParcelValue) → LawfulSessions refuses p → Among s p.sessions → Among w s.windows → list_all (has_row w) parcel.docs ≡ true → IsTiedParcel p.db w parcel → IsParcel parcel → settled_before refuses w (settling_of p s) parcel.docs ≡ length parcel.docs
    → (row : RowValue) → Among row w.rows → (leaf : RevId) → Among leaf row.leaves → covers (after_documents refuses p s w parcel.docs) row.id leaf ≡ true
unfolding IsTaken
leaf_covered refuses p s w parcel l m own rows tied law all row n leaf k =
    let z = settle_docs refuses w (settling_of p s) parcel.docs in
    let q = with_settling p z in
    let h = documents_law refuses p s w parcel.docs m own rows l in
    elim (cases_Bool (has (tree_of p.db.docs row.id) leaf)) [
      | inl there ↦ or_left _ _ (h.kept.1.db.has row.id leaf there)
      | inr lacks ↦
          let asks = tied.asked.whole row.id leaf (row, n, refl, k) lacks in
          let d = brought parcel law tied.gone row.id leaf asks in
          taken_covers z q h d.0 (all_taken refuses w (settling_of p s) parcel.docs (omega (arith, all)) d.0 d.1) d.2 d.3
    ]
  where
    taken_covers : (z : Settling) (q : PeerValue) → Walked (λ x _. StaysLawful refuses p x) p s z → (d : Document) → IsTaken z.session d → d.id ≡ row.id → is_among leaf d.ancestry ≡ true → covers (with_settling p z) row.id leaf ≡ true
    taken_covers z q h d taken same holds =
        let own = h.kept.0.sessions z.session h.held in
        elim taken [
          | inl arrived ↦ or_left _ _ (ap (λ i. has (tree_of z.db.docs i) leaf) (sym same) ∙ own.arrivals (written_of d) arrived leaf holds)
          | inr refused ↦
              let x : RefusedValue = record { doc = d; reason = refused.0 } in
              let found : in_ledger z.session.ledger row.id leaf ≡ true = any_from (λ (y : RefusedValue). bytes_eq y.doc.id row.id && is_among leaf y.doc.ancestry) x z.session.ledger refused.1 (and_from _ _ ((bytes_eq-Decides d.id row.id).1 same) holds) in
              or_right _ _ (any_from (λ (t : SessionValue). in_ledger t.ledger row.id leaf) z.session (with_session p.sessions z.session) h.held found)
        ]

-- settling a parcel of the own window never returns `Uncovered`
pub own_covered : (refuses : Document → Bool) (p : PeerValue) (s : SessionValue) (w : WindowValue) (parcel : ParcelValue) → LawfulSessions refuses p → Among s p.sessions → Among w s.windows → IsTiedParcel p.db w parcel → IsParcel parcel
    → (result : Result Settled TargetFault) (q : PeerValue) → SettleGives refuses p s.id parcel result q → is_uncovered result ≡ false
own_covered refuses p s w parcel l m n tied law (Ok settled) q gives = refl
own_covered refuses p s w parcel l m n tied law (Err (faults.Uncovered seq id rev)) q gives = go (settle_check p s.id parcel) refl gives
  where
    go : (r : Result (SessionValue × WindowValue) TargetFault) → settle_check p s.id parcel ≡ r → Settles refuses p parcel r (Err (faults.Uncovered seq id rev)) q → true ≡ false
    go (Err fault) e h = ap is_uncovered h.0 ∙ checked p s.id parcel fault e
    go (Ok at) e h =
        let told = settle_told p s.id parcel at e in
        let one : at.0 ≡ s = one_session p.sessions at.0 s l.distinct told.held m told.number in
        let own = (l.sessions at.0 told.held) in
        let follows = windows-consecutive at.0.front at.0.windows own.bounds own.front in
        let there : Among w at.0.windows = subst (λ (y : SessionValue). Among w y.windows) (sym one) n in
        let range = (window-above at.0.front.start at.0.windows at.1 follows told.stored).1 in
        let lo : w.lo ≡ at.1.lo = sym tied.asked.lo ∙ sym told.lo in
        let hi : w.hi ≡ at.1.hi = sym tied.asked.hi ∙ sym told.hi in
        let is : w ≡ at.1 = one_window at.0.front.start at.0.windows w at.1 at.1.hi follows there told.stored (omega (arith, lo, range)) (omega (arith, hi)) range (omega arith) in
        let q1 = after_documents refuses p at.0 at.1 parcel.docs in
        let z = settle_docs refuses at.1 (settling_of p at.0) parcel.docs in
        let settled = documents_law refuses p at.0 at.1 parcel.docs told.held told.stored told.rows l in
        let later = mark_law refuses q1 z.session at.1 parcel settled.held (subst (Among at.1) (sym settled.windows) told.stored) settled.kept.0 in
        let known = all_known (covers q) at.1.rows (λ row i leaf k. subst (λ (x : PeerValue). covers x row.id leaf ≡ true) (sym h.0.peer)
        (covers-later q1 (after_all refuses p at.0 at.1 parcel) later row.id leaf (leaf_covered refuses p at.0 at.1 parcel l told.held told.stored told.rows (subst (λ v. IsTiedParcel p.db v parcel) is tied) law h.0.all row i leaf k))) in
        absurd (none_some _ (sym known ∙ h.1))
own_covered refuses p s w parcel l m n tied law (Err fault) q gives = refl
