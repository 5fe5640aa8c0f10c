-- What stays true from one state of a peer to a later one.
use Rattle.proof_prelude.proofs.{◌≡◌, ℕ, List, [], ◌∷◌, Bool, true, false, cond, ◌&&◌, Some, map, refl, sym, ap, ◌∙◌, subst, inl, inr, arith, eqb, ◌==◌, IsDistinct, bytes_eq, IsDistinct-head, IsDistinct-tail, or_cases, or_left, or_right, cond_both, cond-true, both_ways, slice_get, eqb-true, eq-eqb}
use Rattle.rev_core.specs.{RevId, edges_of, is_among}
use Rattle.rev_tree.specs.{SessionId}
use Rattle.doc_json.specs.Document.{Document}
use Rattle.couch_base.specs.{Among, Id, DatabaseValue, IsLater, IsLater-same, IsLater-later, Among-map, Among-mapped, any_member, any_from, each_member, found_member}
use Rattle.repl_peer.specs.{PeerValue, Scope, SessionValue, WrittenValue, RefusedValue, is_of, session_in, with_session, in_ledger, covers, rightly_refused, LawfulSession, AllBased, LawfulSessions, session_numbers, Keeps, IsLaterPeer}
use Rattle.repl_peer.proofs.lemmas.peer.WritesStand.{stands_later}

-- ---- later sessions and later peers

pub Keeps-same : (s : SessionValue) → Keeps s s
Keeps-same s = record { id = refl; scope = refl; start = refl; recorded = omega arith; windows = λ w m. m; arrivals = λ a m. m; ledger = λ x m. m }

pub Keeps-later : (a b c : SessionValue) → Keeps a b → Keeps b c → Keeps a c
Keeps-later a b c h k = record {
  id = k.id ∙ h.id;
  scope = k.scope ∙ h.scope;
  start = k.start ∙ h.start;
  recorded = omega (arith, h.recorded, k.recorded);
  windows = λ w m. k.windows w (h.windows w m);
  arrivals = λ w m. k.arrivals w (h.arrivals w m);
  ledger = λ x m. k.ledger x (h.ledger x m);
}

pub IsLaterPeer-same : (p : PeerValue) → IsLaterPeer p p
IsLaterPeer-same p = record { db = IsLater-same p.db; locals = λ n x e. e; sessions = λ s m. (s, m, Keeps-same s) }

pub IsLaterPeer-later : (p q r : PeerValue) → IsLaterPeer p q → IsLaterPeer q r → IsLaterPeer p r
IsLaterPeer-later p q r h k = record {
  db = IsLater-later p.db q.db r.db h.db k.db;
  locals = λ n x e. k.locals n x (h.locals n x e);
  sessions = λ s m. (let t = h.sessions s m in let u = k.sessions t.0 t.1 in (u.0, u.1, Keeps-later s t.0 u.0 t.2 u.2));
}

-- what is covered stays covered
pub covers-later : (p q : PeerValue) → IsLaterPeer p q → (id : Id) (r : RevId) → covers p id r ≡ true → covers q id r ≡ true
covers-later p q h id r c =
    elim (or_cases _ _ c) [
      | inl a ↦ or_left _ _ (h.db.has id r a)
      | inr b ↦
          let s = any_member (λ (s : SessionValue). in_ledger s.ledger id r) p.sessions b in
          let t = h.sessions s.0 s.1 in
          let x = any_member (λ (x : RefusedValue). bytes_eq x.doc.id id && is_among r x.doc.ancestry) s.0.ledger s.2 in
          or_right _ _ (any_from (λ (s : SessionValue). in_ledger s.ledger id r) t.0 q.sessions t.1 (any_from (λ (x : RefusedValue). bytes_eq x.doc.id id && is_among r x.doc.ancestry) x.0 t.0.ledger (t.2.ledger x.0 x.1) x.2))
    ]

-- what was rightly refused stays rightly refused
pub refused-later : (refuses : Document → Bool) (a b : DatabaseValue) → IsLater a b → (d : Document) → rightly_refused refuses a d ≡ true → rightly_refused refuses b d ≡ true
refused-later refuses a b h d e =
    elim (or_cases _ _ e) [ inl x ↦ or_left _ _ x | inr x ↦ or_right _ _ (h.contradicts d.id (edges_of d.ancestry) x) ]

-- an unchanged session is lawful in a later peer
pub lawful-later : (refuses : Document → Bool) (p q : PeerValue) (s : SessionValue) → IsLaterPeer p q → LawfulSession refuses p s → LawfulSession refuses q s
lawful-later refuses p q s h l = record {
  store = l.store;
  done = λ w m e row n leaf k. covers-later p q h row.id leaf (l.done w m e row n leaf k);
  ledger = λ x m. refused-later refuses p.db q.db h.db x.doc (l.ledger x m);
  arrivals = λ a m r e. h.db.has a.id r (l.arrivals a m r e);
  stands = λ a m. stands_later p.db q.db h.db a (l.stands a m);
  counts = l.counts;
}

-- ---- a change of each session

AllBased-map : (f : SessionValue → SessionValue) (sessions : List SessionValue) → ((s : SessionValue) → Among s sessions → Keeps s (f s)) → AllBased sessions → AllBased (map f sessions)
AllBased-map f [] k b = tt
AllBased-map f (s ∷ sessions) k b =
    let here = k s (inl refl) in (
      elim b.0 [
        | inl none ↦ inl (ap (λ (c : Scope). c.base) here.scope ∙ none.0, here.start ∙ none.1)
        | inr base ↦
            let t = k base.0 (inr base.1) in
            inr (f base.0, Among-mapped f base.0 sessions base.1, ap (λ (c : Scope). c.base) here.scope ∙ (base.2 ∙ ap Some (sym t.id)), ap (λ (c : Scope). c.rep) here.scope ∙ (base.3 ∙ sym (ap (λ (c : Scope). c.rep) t.scope)), omega (arith, base.4, here.start, t.recorded))
      ],
      AllBased-map f sessions (λ x m. k x (inr m)) b.1,
    )

-- the numbers stay
numbers-map : (f : SessionValue → SessionValue) (sessions : List SessionValue) → ((s : SessionValue) → Among s sessions → Keeps s (f s)) → session_numbers (map f sessions) ≡ session_numbers sessions
numbers-map f [] k = refl
numbers-map f (s ∷ sessions) k =
    let here : (f s).id.0 ≡ s.id.0 = ap (λ (i : SessionId). i.0) (k s (inl refl)).id in
    ap (λ n. n ∷ session_numbers (map f sessions)) here ∙ ap (λ ns. s.id.0 ∷ ns) (numbers-map f sessions (λ x m. k x (inr m)))

-- each session changes by f, lawfully; the database and the local writes become later ones
pub mapped_law : (refuses : Document → Bool) (p q : PeerValue) (f : SessionValue → SessionValue) → q.sessions ≡ map f p.sessions → IsLater p.db q.db → ((n : ℕ) (x : WrittenValue) → slice_get p.locals n ≡ Some x → slice_get q.locals n ≡ Some x)
    → ((s : SessionValue) → Among s p.sessions → Keeps s (f s)) → (IsLaterPeer p q → (s : SessionValue) → Among s p.sessions → LawfulSession refuses q s → LawfulSession refuses q (f s)) → LawfulSessions refuses p → LawfulSessions refuses q × IsLaterPeer p q
mapped_law refuses p q f is later locals keeps lawful l =
    let after : IsLaterPeer p q = record { db = later; locals = locals; sessions = λ s m. (f s, subst (Among (f s)) (sym is) (Among-mapped f s p.sessions m), keeps s m) } in (
      record {
        sessions = λ t m. (let k = Among-map f t p.sessions (subst (Among t) is m) in subst (LawfulSession refuses q) (sym k.2) (lawful after k.0 k.1 (lawful-later refuses p q k.0 after (l.sessions k.0 k.1))));
        based = subst AllBased (sym is) (AllBased-map f p.sessions keeps l.based);
        distinct = subst (IsDistinct eqb) (sym (ap session_numbers is ∙ numbers-map f p.sessions keeps)) l.distinct;
      },
      after,
    )

-- ---- a change of one session

-- two sessions with the same number are equal
pub one_session : (sessions : List SessionValue) (s t : SessionValue) → IsDistinct eqb (session_numbers sessions) → Among s sessions → Among t sessions → s.id.0 ≡ t.id.0 → s ≡ t
one_session [] s t d m n e = absurd m
one_session (x ∷ sessions) s t d m n e =
    elim m [
      | inl i ↦ elim n [
        | inl j ↦ i ∙ sym j
        | inr k ↦ absurd (apart t k (sym e ∙ ap (λ (y : SessionValue). y.id.0) i))
      ]
      | inr o ↦ elim n [
        | inl j ↦ absurd (apart s o (e ∙ ap (λ (y : SessionValue). y.id.0) j))
        | inr k ↦ one_session sessions s t (IsDistinct-tail eqb x.id.0 (session_numbers sessions) d) o k e
      ]
    ]
  where
    apart : (y : SessionValue) → Among y sessions → y.id.0 ≡ x.id.0 → ⊥
    apart y m e =
        let other : eqb x.id.0 y.id.0 ≡ false = each_member (λ n. eqb x.id.0 n ≡ false) y.id.0 (session_numbers sessions) (IsDistinct-head eqb x.id.0 (session_numbers sessions) d) (Among-mapped (λ (s : SessionValue). s.id.0) y sessions m) in
        both_ways _ other (eq-eqb _ _ (sym e))

-- the session found by an id is in the list
pub session_found : (sessions : List SessionValue) (id : SessionId) (s : SessionValue) → session_in sessions id ≡ Some s → Among s sessions × (s.id.0 ≡ id.0)
session_found sessions id s e = let k = found_member (is_of id) sessions s e in (k.0, eqb-true _ _ k.1)

-- a changed session is in the list
pub with_session_holds : (sessions : List SessionValue) (s t : SessionValue) → Among s sessions → t.id ≡ s.id → Among t (with_session sessions t)
with_session_holds sessions s t m e =
    let same : (s.id.0 == t.id.0) ≡ true = eq-eqb _ _ (sym (ap (λ (i : SessionId). i.0) e)) in
    subst (λ x. Among x (with_session sessions t)) (cond-true (s.id.0 == t.id.0) t s same) (Among-mapped (λ (x : SessionValue). cond (is_of t.id x) t x) s sessions m)

-- one session of the peer changes, lawfully; the database becomes a later one
pub session_law : (refuses : Document → Bool) (p : PeerValue) (db : DatabaseValue) (s t : SessionValue) → Among s p.sessions → IsLater p.db db → Keeps s t
    → (IsLaterPeer p (record p { db = db; sessions = with_session p.sessions t }) → LawfulSession refuses (record p { db = db; sessions = with_session p.sessions t }) s → LawfulSession refuses (record p { db = db; sessions = with_session p.sessions t }) t)
    → LawfulSessions refuses p → LawfulSessions refuses (record p { db = db; sessions = with_session p.sessions t }) × IsLaterPeer p (record p { db = db; sessions = with_session p.sessions t })
session_law refuses p db s t m later keeps lawful l =
    let q : PeerValue = record p { db = db; sessions = with_session p.sessions t } in
    let f : SessionValue → SessionValue = λ x. cond (is_of t.id x) t x in
    let same : (x : SessionValue) → Among x p.sessions → is_of t.id x ≡ true → s ≡ x =
    λ x n e. one_session p.sessions s x l.distinct m n (ap (λ (i : SessionId). i.0) (sym keeps.id) ∙ sym (eqb-true _ _ e)) in
    mapped_law refuses p q f refl later (λ n x e. e)
    (λ x n. cond_both (is_of t.id x) t x (Keeps x) (λ e. subst (λ y. Keeps y t) (same x n e) keeps) (λ _. Keeps-same x))
    (λ after x n h. cond_both (is_of t.id x) t x (LawfulSession refuses q) (λ e. lawful after (subst (LawfulSession refuses q) (sym (same x n e)) h)) (λ _. h))
    l
