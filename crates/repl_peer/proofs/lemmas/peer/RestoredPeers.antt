-- A restored peer is lawful.
use Rattle.proof_prelude.proofs.{◌≡◌, ℕ, ◌≤◌, Bool, List, [], ◌∷◌, length, false, refl, sym, ap, ◌∙◌, subst, eqb, arith, IsDistinct, get, false≢true, slice_get}
use Rattle.rev_core.specs.{RevId, FallsByOne}
use Rattle.rev_tree.specs.{has, Origin}
use Rattle.rev_tree.specs.declared.origin.Origin.TheVariants.{Local, Feed}
use Rattle.doc_json.specs.Document.{Document}
use Rattle.couch_base.specs.{Among, Id, DocumentValue, tree_of}
use Rattle.repl_peer.specs.{PeerValue, SessionValue, WrittenValue, AllBased, Lawful, session_numbers, Follows, StandsIn, ComesFrom, HasOrigins, BackupValue, peer_of, IsBackup, is_target}

pub none_held : (sessions : List SessionValue) → is_target sessions ≡ false → sessions ≡ []
none_held [] h = refl
none_held (s ∷ sessions) h = absurd (false≢true (sym h))

-- origins depend only on the trees, the local writes and the sessions
comes_same : (p q : PeerValue) → q.locals ≡ p.locals → q.sessions ≡ p.sessions → (id : Id) (r : RevId) (o : Origin) → ComesFrom p id r o → ComesFrom q id r o
comes_same p q locals sessions id r (Local n) h = record { write = h.write; stored = ap (λ (l : List WrittenValue). slice_get l n) locals ∙ h.stored; of = h.of; brings = h.brings }
comes_same p q locals sessions id r (Feed session seq) h = record { by = h.by; held = subst (Among h.by) (sym sessions) h.held; named = h.named; listed = h.listed; arrived = h.arrived }

pub origins_same : (p q : PeerValue) → q.db.docs ≡ p.db.docs → q.locals ≡ p.locals → q.sessions ≡ p.sessions → HasOrigins p → HasOrigins q
origins_same p q docs locals sessions h id r there =
    let k = h id r (ap (λ (ds : List DocumentValue). has (tree_of ds id) r) (sym docs) ∙ there) in
    (k.0, ap (λ (ds : List DocumentValue). get (tree_of ds id).origins r) docs ∙ k.1, comes_same p q locals sessions id r k.0 k.2)

-- that local writes are in the trees depends only on these
pub locals_same : (old new : List DocumentValue) (before after : List WrittenValue) → new ≡ old → after ≡ before
    → ((a : WrittenValue) → Among a before → FallsByOne a.ancestry → Follows (tree_of old a.id).parents a.ancestry)
    → (a : WrittenValue) → Among a after → FallsByOne a.ancestry → Follows (tree_of new a.id).parents a.ancestry
locals_same old new before after docs locals stand a m falls =
    subst (λ (ds : List DocumentValue). Follows (tree_of ds a.id).parents a.ancestry) (sym docs) (stand a (subst (Among a) locals m) falls)

-- a copy of a lawful peer without sessions is a backup
pub IsBackup-copied : (p : PeerValue) (b : BackupValue) → p.sessions ≡ [] → b.db ≡ p.db → b.locals ≡ p.locals → HasOrigins p → ((a : WrittenValue) → Among a p.locals → StandsIn p.db a) → IsBackup b
IsBackup-copied p b none db locals h stand = record { origins = origins_same p (peer_of b) (λ i. (db i).docs) locals (sym none) h; locals = locals_same p.db.docs b.db.docs p.locals b.locals (λ i. (db i).docs) locals stand }

distinct_none : (sessions : List SessionValue) → sessions ≡ [] → IsDistinct eqb (session_numbers sessions)
unfolding IsDistinct
distinct_none [] e = tt
distinct_none (s ∷ sessions) e = cc

-- a peer restored from a backup is lawful
pub Lawful-restored : (refuses : Document → Bool) (b : BackupValue) (q : PeerValue) → q.sessions ≡ [] → q.db.docs ≡ b.db.docs → q.locals ≡ b.locals → IsBackup b → Lawful refuses q
Lawful-restored refuses b q none docs locals h =
    record {
      sessions = record {
        sessions = λ s m. absurd (subst (Among s) none m);
        based = subst AllBased (sym none) tt;
        distinct = distinct_none q.sessions none;
      };
      origins = origins_same (peer_of b) q docs locals none h.origins;
      locals = locals_same b.db.docs q.db.docs b.locals q.locals docs locals h.locals;
    }

pub no_sessions : (sessions : List SessionValue) (n : ℕ) → n ≡ length sessions → n ≤ 0 → sessions ≡ []
no_sessions [] n is none = refl
no_sessions (s ∷ sessions) n is none = absurd (omega (arith, is, none))

pub none_seen : {F : Type 0} (v w : F × PeerValue) → v ≡ w → is_target w.1.sessions ≡ false → v.1.sessions ≡ []
none_seen v w is none = none_held v.1.sessions (ap (λ x. is_target x.1.sessions) is ∙ none)
