-- The index of sessions by replication.
use Rattle.proof_prelude.proofs.{◌≡◌, ℕ, ◌-◌, ◌<◌, ◌≤◌, true, false, cond, List, [], ◌∷◌, ◌++◌, map, filter, reverse, length, Option, Some, None, refl, sym, ap, ◌∙◌, subst, inl, inr, arith, get_or, AllByRecursion, IsDistinct, option_map, keys_of, lookup, set_value, cond-true, cond-false, eqb-false, reverse_onto, length-reverse, get_or-reverse, slice_get_within, get_or_from_slice_get, slice_get-map, slice_get-get_or, slice_get, eq-eqb, ne_eqb}
use Rattle.rev_tree.specs.{SessionId}
use Rattle.couch_base.specs.{Among, none_some, some_is, Among-push}
use Rattle.repl_log.specs.declared.replication.RepId.{RepId}
use Rattle.repl_log.specs.{EntryValue, at_session, IsKeyed, EachSessionOnce, same_rep}
use Rattle.repl_peer.specs.{SessionValue, is_of, entry_of, with_session, log_of, listed, sessions_of, ids_of, AreListed, IsTableOf, RepIndex, LedgerIndex}
use Rattle.repl_peer.proofs.lemmas.Members.{Among-filter, Among-at}
use Rattle.repl_peer.proofs.lemmas.session.SessionTable.{Entries, id_of, IsSame, with_session-same, sessions_of-set, Stored-same}

-- ---- the index

ids_of-cons : (s : SessionValue) (sessions : List SessionValue) (rep : RepId) → ids_of (s ∷ sessions) rep ≡ cond (same_rep s.rep rep) (s.id ∷ ids_of sessions rep) (ids_of sessions rep)
ids_of-cons s sessions rep =
    let rest = filter (λ (x : SessionValue). same_rep x.rep rep) sessions in
    elim (same_rep s.rep rep) as (λ b. map (λ (e : EntryValue). e.session) (map entry_of (cond b (s ∷ rest) rest)) ≡ cond b (s.id ∷ ids_of sessions rep) (ids_of sessions rep)) [
      | true ↦ refl
      | false ↦ refl
    ]

-- a new session is the last of its replication
ids_of-new : (s : SessionValue) (sessions : List SessionValue) (rep : RepId) → reverse (ids_of (s ∷ sessions) rep) ≡ cond (same_rep s.rep rep) (reverse (ids_of sessions rep) ++ s.id ∷ []) (reverse (ids_of sessions rep))
ids_of-new s sessions rep =
    ap reverse (ids_of-cons s sessions rep)
    ∙ elim (same_rep s.rep rep) as (λ b. reverse (cond b (s.id ∷ ids_of sessions rep) (ids_of sessions rep)) ≡ cond b (reverse (ids_of sessions rep) ++ s.id ∷ []) (reverse (ids_of sessions rep))) [
      | true ↦ reverse_onto (ids_of sessions rep) s.id []
      | false ↦ refl
    ]

pub AreListed-new : (old new : RepIndex) (s : SessionValue) (sessions : List SessionValue) → AreListed old sessions
    → ((asked : RepId) → listed new asked ≡ cond (same_rep s.rep asked) (listed old asked ++ s.id ∷ []) (listed old asked)) → AreListed new (s ∷ sessions)
AreListed-new old new s sessions law added rep =
    added rep ∙ ap (λ l. cond (same_rep s.rep rep) (l ++ s.id ∷ []) l) (law rep) ∙ sym (ids_of-new s sessions rep)

pub AreListed-same : (old new : RepIndex) (sessions : List SessionValue) → AreListed old sessions → ((asked : RepId) → listed new asked ≡ listed old asked) → AreListed new sessions
AreListed-same old new sessions law same rep = same rep ∙ law rep

-- a changed session keeps its id and its replication
same_ids : (sessions : List SessionValue) (s t : SessionValue) (rep : RepId) → t.id ≡ s.id → t.rep ≡ s.rep → ids_of (with_session sessions t) rep ≡ ids_of (with_session sessions s) rep
same_ids [] s t rep same of = refl
same_ids (x ∷ sessions) s t rep same of =
    ap (λ (j : SessionId). ids (cond (is_of j x) t x) (with_session sessions t)) same
    ∙ elim (is_of s.id x) as (λ b. ids (cond b t x) (with_session sessions t) ≡ ids (cond b s x) (with_session sessions s)) [
      | true ↦ here t s same of (same_ids sessions s t rep same of)
      | false ↦ here x x refl refl (same_ids sessions s t rep same of)
    ]
  where
    ids : SessionValue → List SessionValue → List SessionId
    ids y ys = ids_of (y ∷ ys) rep

    here : (y z : SessionValue) → y.id ≡ z.id → y.rep ≡ z.rep → ids_of (with_session sessions t) rep ≡ ids_of (with_session sessions s) rep → ids y (with_session sessions t) ≡ ids z (with_session sessions s)
    here y z e f rest =
        ids_of-cons y (with_session sessions t) rep
        ∙ (λ i. cond (same_rep (f i) rep) (e i ∷ rest i) (rest i))
        ∙ sym (ids_of-cons z (with_session sessions s) rep)

pub AreListed-set : (by_rep : RepIndex) (es : Entries) (id : SessionId) (s t : SessionValue) → AreListed by_rep (sessions_of es) → t.id ≡ s.id → t.rep ≡ s.rep
    → with_session (sessions_of es) s ≡ sessions_of es → sessions_of (set_value (at_session id) es t) ≡ with_session (sessions_of es) t → AreListed by_rep (sessions_of (set_value (at_session id) es t))
AreListed-set by_rep es id s t law same of kept set rep =
    law rep
    ∙ ap (λ ss. reverse (ids_of ss rep)) (sym kept)
    ∙ ap reverse (sym (same_ids (sessions_of es) s t rep same of))
    ∙ ap (λ ss. reverse (ids_of ss rep)) (sym set)

-- ---- the sessions of a replication, newest first

mapped : {X Y : Type 0} (f : X → Y) (o : Option X) (y : Y) → option_map f o ≡ Some y → (x : X) × (o ≡ Some x) × (f x ≡ y)
mapped f None y is = absurd (none_some y is)
mapped f (Some x) y is = (x, refl, some_is (f x) y is)

-- the key of a session is a key of the table
other_key : (k : SessionId) (es : Entries) (s : SessionValue) → IsKeyed id_of es → AllByRecursion (λ j. at_session k j ≡ false) (keys_of es) → Among s (sessions_of es) → at_session s.id k ≡ false
other_key k [] s keyed none m = absurd m
other_key k (e ∷ es) s keyed none m =
    elim (Among-push s (sessions_of es) e.1 (subst (Among s) (reverse_onto (map (λ (e : SessionId × SessionValue). e.1) es) e.1 []) m)) [
      | inl there ↦ other_key k es s keyed.1 none.1 there
      | inr here ↦
          ne_eqb s.id.0 k.0 (λ same. eqb-false k.0 e.0.0 none.0 (sym same ∙ ap (λ (x : SessionValue). x.id.0) here ∙ ap (λ (j : SessionId). j.0) keyed.0))
    ]

-- a session is found by its id
pub held-lookup : (es : Entries) (s : SessionValue) → IsKeyed id_of es → EachSessionOnce es → Among s (sessions_of es) → lookup (at_session s.id) es ≡ Some s
unfolding IsDistinct
held-lookup [] s keyed once m = absurd m
held-lookup (e ∷ es) s keyed once m =
    elim (Among-push s (sessions_of es) e.1 (subst (Among s) (reverse_onto (map (λ (e : SessionId × SessionValue). e.1) es) e.1 []) m)) [
      | inl there ↦
          cond-false (at_session s.id e.0) (Some e.1) (lookup (at_session s.id) es) (other_key e.0 es s keyed.1 once.0 there) ∙ held-lookup es s keyed.1 once.1 there
      | inr here ↦
          cond-true (at_session s.id e.0) (Some e.1) (lookup (at_session s.id) es) (eq-eqb s.id.0 e.0.0 (ap (λ (x : SessionValue). x.id.0) here ∙ ap (λ (j : SessionId). j.0) keyed.0)) ∙ ap Some (sym here)
    ]

-- the entry at an index is that of a session that is found by its id
pub record Stands (es : Entries) (x : EntryValue) : Type 0 where
  pub session : SessionValue
  pub entry : entry_of session ≡ x
  pub found : lookup (at_session x.session) es ≡ Some session

pub stands-at : (es : Entries) (rep : RepId) (k : ℕ) (x : EntryValue) → IsKeyed id_of es → EachSessionOnce es → slice_get (log_of (sessions_of es) rep) k ≡ Some x → Stands es x
stands-at es rep k x keyed once is =
    let of = filter (λ (s : SessionValue). same_rep s.rep rep) (sessions_of es) in
    let at = mapped entry_of (slice_get of k) x (sym (slice_get-map entry_of of k) ∙ is) in
    let held = (Among-filter (λ (s : SessionValue). same_rep s.rep rep) at.0 (sessions_of es) (Among-at of k at.0 at.1)).0 in
    record {
      session = at.0;
      entry = at.2;
      found = ap (λ (e : EntryValue). lookup (at_session e.session) es) (sym at.2) ∙ held-lookup es at.0 keyed once held;
    }

-- the id at an index from the end is that of the entry at the same index from the front
pub id-at : (by_rep : RepIndex) (sessions : List SessionValue) (rep : RepId) (left : ℕ) (id : SessionId) → AreListed by_rep sessions → slice_get (listed by_rep rep) left ≡ Some id
    → (x : EntryValue) × (slice_get (log_of sessions rep) (length (listed by_rep rep) - 1 - left) ≡ Some x) × (x.session ≡ id)
id-at by_rep sessions rep left id law is =
    let ids = ids_of sessions rep in
    let turned : slice_get (reverse ids) left ≡ Some id = ap (λ l. slice_get l left) (sym (law rep)) ∙ is in
    let long : length (listed by_rep rep) ≡ length ids = ap length (law rep) ∙ length-reverse ids in
    let within : left < length ids = omega (arith, slice_get_within (listed by_rep rep) left id is, long) in
    let place = length ids - 1 - left in
    let there : get_or ids place id ≡ id = sym (get_or-reverse ids left id within) ∙ get_or_from_slice_get (reverse ids) left id id turned in
    let at : slice_get ids place ≡ Some id = slice_get-get_or ids place id (omega (arith, within)) ∙ ap Some there in
    let found = mapped (λ (e : EntryValue). e.session) (slice_get (log_of sessions rep) place) id (sym (slice_get-map (λ (e : EntryValue). e.session) (log_of sessions rep) place) ∙ at) in
    (found.0, ap (λ n. slice_get (log_of sessions rep) (n - 1 - left)) long ∙ found.1, found.2)

-- the next session from the end, of those of its replication, is that of the current entry
pub next-at : (by_rep : RepIndex) (sessions : List SessionValue) (rep : RepId) (left : ℕ) (d : SessionId) → AreListed by_rep sessions → 0 < left → left ≤ length (listed by_rep rep)
    → (x : EntryValue) × (slice_get (log_of sessions rep) (length (listed by_rep rep) - left) ≡ Some x) × (x.session ≡ get_or (listed by_rep rep) (left - 1) d)
next-at by_rep sessions rep left d law some within =
    let ids = listed by_rep rep in
    let x = id-at by_rep sessions rep (left - 1) (get_or ids (left - 1) d) law (slice_get-get_or ids (left - 1) d (omega (arith, some, within))) in
    let place : length ids - 1 - (left - 1) ≡ length ids - left = omega (arith, some, within) in
    (x.0, ap (slice_get (log_of sessions rep)) (sym place) ∙ x.1, x.2)

-- ---- a write at a session

-- a session that keeps its id and its replication replaces the old one
pub listed-set : (ledgered : LedgerIndex) (by_rep : RepIndex) (es : Entries) (stored : IsTableOf ledgered es) (id : SessionId) (s t : SessionValue) → AreListed by_rep (sessions_of es)
    → lookup (at_session id) es ≡ Some s → t.id ≡ s.id → t.rep ≡ s.rep → AreListed by_rep (sessions_of (set_value (at_session id) es t))
listed-set ledgered by_rep es stored id s t law is same of =
    AreListed-set by_rep es id s t law same of (with_session-same ledgered es stored id s s is) (sessions_of-set ledgered es stored id s t is same)

-- the table stays valid, if the ledger stays too
pub table-set : (ledgered : LedgerIndex) (by_rep : RepIndex) (es new : Entries) (law : IsTableOf ledgered es × AreListed by_rep (sessions_of es)) (id : SessionId) (s t : SessionValue)
    → lookup (at_session id) es ≡ Some s → new ≡ set_value (at_session id) es t → IsSame s t → IsTableOf ledgered new × AreListed by_rep (sessions_of new)
table-set ledgered by_rep es new law id s t is set same =
    (Stored-same ledgered es law.0 id s t is new set same, subst (λ xs. AreListed by_rep (sessions_of xs)) (sym set) (listed-set ledgered by_rep es law.0 id s t law.1 is same.id same.rep))
