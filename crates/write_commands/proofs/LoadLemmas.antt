-- The results of loads, by their parts.
use Rattle.proof_prelude.proofs.{◌≡◌, inl, inr, ℕ, List, Option, Some, None, Result, Ok, Err, refl, sym, subst}
use Rattle.doc_json.specs.Document.{Document}
use Rattle.couch_base.specs.declared.fault.Put.{Put}
use Rattle.repl_peer.specs.{PeerValue}
use Rattle.script_engine.specs.{Told, MayTell, in_full, gave_up, served_only}
use Rattle.script_databases.specs.{State, peer_at, IsTaken, drawn_one, load_answer, next_made, name_of, Refusal}
use Rattle.script_databases.specs.declared.refusal.Refusal.TheVariants as why
use Rattle.command_api.specs.{document_given}
use Rattle.write_commands.specs.{LoadAsk, NamedLoad, LoadsLoud, LoadsAt, LoadsNamed, LoadsNew}

-- if it is known whether the database exists, whether a UUID is given, and what the document is
pub loads : (old new : State) (ask : LoadAsk) (told : Told) (there : Option PeerValue) (uuid : Option ℕ) (doc : Result (Option Document) Refusal) → peer_at old ask.db ≡ there → ask.uuid ≡ uuid → document_given ask.doc ≡ doc →
    LoadsAt old ask.db there uuid doc told new → LoadsLoud old ask told new
loads old new ask told there uuid doc e f g h =
    subst (λ o. LoadsAt old ask.db o ask.uuid (document_given ask.doc) told new) (sym e) (subst (λ u. LoadsAt old ask.db there u (document_given ask.doc) told new) (sym f) (subst (λ d. LoadsAt old ask.db there uuid d told new) (sym g) h))

-- without a given UUID, after the document was parsed
pub loads_named : (old new : State) (ask : NamedLoad) (told : Told) (there : Option PeerValue) → peer_at old ask.db ≡ there → LoadsAt old ask.db there None (Ok ask.doc) told new → LoadsNamed old ask told new
loads_named old new ask told there e h = subst (λ o. LoadsAt old ask.db o None (Ok ask.doc) told new) (sym e) h

-- an invalid document, whether or not the database exists
pub refused_either : (old : State) (db : List ℕ) (refusal : Refusal) (there : Option PeerValue) → LoadsAt old db there None (Err refusal) (Err (name_of refusal)) old
refused_either old db refusal None = (refl, refl)
refused_either old db refusal (Some l) = (refl, refl)

-- with a generated UUID that is unused
pub loads_made : {old new : State} (ask : NamedLoad) {told : Told} → peer_at old ask.db ≡ None → (IsTaken (drawn_one old) (next_made old) → ⊥) →
    MayTell LoadsNew (drawn_one old) (record { db = ask.db; uuid = next_made old; doc = ask.doc }) told new → MayTell LoadsNamed old ask told new
loads_made {old} {new} ask {told} e free (in_full a) = in_full (loads_named old new ask told None e (inl (inr (free, a))))
loads_made {old} {new} ask {told} e free gave_up = in_full (loads_named old new ask told None e (inr (refl, refl)))
loads_made {old} {new} ask {told} e free (served_only text a) = served_only text (loads_named old new ask (Ok text) None e (inl (inr (free, a))))

-- with the drawn one
pub loads_drawn : {old drawn new : State} (ask : NamedLoad) {told : Told} (uuid : ℕ) → peer_at old ask.db ≡ None → drawn ≡ drawn_one old → uuid ≡ next_made old → (IsTaken (drawn_one old) uuid → ⊥) →
    MayTell LoadsNew drawn (record { db = ask.db; uuid = uuid; doc = ask.doc }) told new → MayTell LoadsNamed old ask told new
loads_drawn {old} {drawn} {new} ask {told} uuid e is made free h =
    loads_made {old = old} {new = new} ask {told = told} e (subst (λ (u : ℕ). IsTaken (drawn_one old) u → ⊥) made free)
    (subst (λ (u : ℕ). MayTell LoadsNew (drawn_one old) (record { db = ask.db; uuid = u; doc = ask.doc }) told new) made
    (subst (λ (s : State). MayTell LoadsNew s (record { db = ask.db; uuid = uuid; doc = ask.doc }) told new) is h))

-- with a generated UUID that is in use
pub loads_taken : {old new : State} (ask : NamedLoad) (refusal : Refusal) → peer_at old ask.db ≡ None → refusal ≡ why.UuidTaken → IsTaken (drawn_one old) (next_made old) → new ≡ drawn_one old → MayTell LoadsNamed old ask (Err (name_of refusal)) new
loads_taken {old} {new} ask refusal e is taken drawn =
    subst (λ (r : Refusal). MayTell LoadsNamed old ask (Err (name_of r)) new) (sym is)
    (in_full (loads_named old new ask (Err (name_of why.UuidTaken)) None e (inl (inl (taken, (refl, drawn))))))

-- ---- a put into the database of a name

-- a successful put has found a database
pub there_told : (o : Option PeerValue) (doc : Document) (put : Put) → load_answer o doc ≡ Ok put → (l : PeerValue) × (o ≡ Some l)
there_told None doc put e = cc e
there_told (Some l) doc put e = (l, refl)
