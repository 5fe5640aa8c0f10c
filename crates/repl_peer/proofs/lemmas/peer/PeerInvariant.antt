-- The calls keep the peer's invariant.
use Rattle.proof_prelude.proofs.{◌≡◌, ℕ, ◌==◌, ◌<◌, ◌^◌, Bool, if◌then◌else◌, List, ◌∷◌, Option, Some, None, Result, Ok, Err, refl, sym, ap, ◌∙◌, subst, OnOk, OnErr, on_ok_weaker, on_err_weaker}
use Rattle.rev_core.specs.{RevId}
use Rattle.rev_tree.specs.{SessionId}
use Rattle.doc_json.specs.Document.{Document}
use Rattle.couch_base.specs.{Id, DatabaseValue, after_put, edited, after_edited, after_edit as database_after_edit, WindowValue, IsWindow, BaseFault}
use Rattle.couch_base.specs.declared.fault.Put.{Put}
use Rattle.range_front.specs.{low_water}
use Rattle.repl_peer.specs.{PeerValue, SessionValue, WrittenValue, new_peer_at, session_in, next_local, after_load, after_edit, load_edited, GivesUnlessMemory, on_session, on_found, new_session, begin_answer, begun, after_begin, append_in, with_window, after_append, recorded_at, with_load, with_edited, with_edit, Lawful, with_changed, changed, TargetFault, Beginning}
use Rattle.repl_peer.proofs.lemmas.peer.CallsKeepLaw.{new_law, load_law, edit_by_load, begin_law}
use Rattle.repl_peer.proofs.lemmas.peer.WritesStand.{load_stands, begin_stands}
use Rattle.repl_peer.proofs.lemmas.peer.CallsKeepOrigins.{new_origins, load_origins, begin_origins, append_lawful, record_lawful, conclude_lawful}

-- changing one session changes the list
found-changed : (p : PeerValue) (change : SessionValue → SessionValue) (o : Option SessionValue) → on_found p change o ≡ record p { sessions = changed change p.sessions o }
found-changed p change None = refl
found-changed p change (Some s) = refl

pub on_session-changed : (p : PeerValue) (id : SessionId) (change : SessionValue → SessionValue) → on_session p id change ≡ record p { sessions = with_changed p.sessions id change }
on_session-changed p id change = found-changed p change (session_in p.sessions id)

-- a new peer
pub Lawful-new : (refuses : Document → Bool) (uuid seq : ℕ) (p : PeerValue) → p ≡ new_peer_at uuid seq → Lawful refuses p
Lawful-new refuses uuid seq p new = subst (Lawful refuses) (sym new) (record { sessions = new_law refuses uuid seq; origins = new_origins uuid seq; locals = λ a m. absurd m })

module _ (refuses : Document → Bool) (p : PeerValue) (lawful : Lawful refuses p) where
  -- ---- the effect of a call, by its result

  -- a call that changes nothing on error
  either_way : {T E : Type 0} (r : Result T E) (q new : PeerValue) → OnOk r (new ≡ q) → OnErr r (new ≡ p) → Lawful refuses q → Lawful refuses new
  either_way (Ok x) q new made kept there = subst (Lawful refuses) (sym made) there
  either_way (Err e) q new made kept there = subst (Lawful refuses) (sym kept) lawful

  both_ok : {T E A B C : Type 0} (r : Result T E) → (A → B → C) → OnOk r A → OnOk r B → OnOk r C
  both_ok (Ok x) f a b = f a b
  both_ok (Err e) f a b = tt

  both_err : {T E A B C : Type 0} (r : Result T E) → (A → B → C) → OnErr r A → OnErr r B → OnErr r C
  both_err (Ok x) f a b = tt
  both_err (Err e) f a b = f a b

  loaded : (d : Document) → Lawful refuses (after_load p d)
  loaded d = record { sessions = load_law refuses p d lawful.sessions; origins = load_origins p d lawful.origins; locals = load_stands p d lawful.locals }

  edit_parts : (id : Id) (deleted : Bool) (body : List ℕ) (e : Result (RevId × Option RevId) BaseFault) → load_edited p id deleted body e ≡ record p { db = after_edited p.db id deleted body (next_local p) e; locals = with_edited p.db p.locals id deleted body e }
  edit_parts id deleted body (Ok e) = refl
  edit_parts id deleted body (Err fault) = refl

  pub Lawful-loaded : (d : Document) (r : Result Put BaseFault) (db : DatabaseValue) (locals : List WrittenValue)
      → OnOk r (db ≡ after_put p.db d (next_local p)) → OnOk r (locals ≡ with_load p.db p.locals d) → OnErr r (db ≡ p.db) → OnErr r (locals ≡ p.locals) → Lawful refuses (record p { db = db; locals = locals })
  Lawful-loaded d r db locals a b c e =
      either_way r (after_load p d) (record p { db = db; locals = locals })
      (both_ok r (λ x y i. record p { db = x i; locals = y i }) a b)
      (both_err r (λ x y i. record p { db = x i; locals = y i }) c e)
      (loaded d)

  pub Lawful-edited : (id : Id) (parent : Option RevId) (deleted : Bool) (body : List ℕ) (r : Result RevId BaseFault) (db : DatabaseValue) (locals : List WrittenValue)
      → OnOk r (db ≡ database_after_edit p.db id parent deleted body (next_local p)) → OnOk r (locals ≡ with_edit p.db p.locals id parent deleted body) → OnErr r (db ≡ p.db) → OnErr r (locals ≡ p.locals)
      → Lawful refuses (record p { db = db; locals = locals })
  Lawful-edited id parent deleted body r db locals a b c e =
      let parts = edit_parts id deleted body (edited p.db id parent deleted body) in
      either_way r (after_edit p id parent deleted body) (record p { db = db; locals = locals })
      (both_ok r (λ x y. (λ i. record p { db = x i; locals = y i }) ∙ sym parts) a b)
      (both_err r (λ x y i. record p { db = x i; locals = y i }) c e)
      (edit_by_load (Lawful refuses) p loaded lawful id parent deleted body)

  begun_peer : (id : SessionId) (b : Beginning) (at : ℕ) (r : Result (Unit {0}) TargetFault) (sessions : List SessionValue)
      → GivesUnlessMemory r (begin_answer p id b) → OnOk r (sessions ≡ new_session id b at ∷ p.sessions) → OnOk r (record p { sessions = sessions } ≡ after_begin p id b at)
  begun_peer id b at (Ok done) sessions told made =
      ap (λ s. record p { sessions = s }) made ∙ ap (begun p (new_session id b at)) told
  begun_peer id b at (Err fault) sessions told made = tt

  pub Lawful-begun : (id : SessionId) (b : Beginning) (at : ℕ) → b.start < 2 ^ 64 → (r : Result (Unit {0}) TargetFault) (sessions : List SessionValue)
      → GivesUnlessMemory r (begin_answer p id b) → OnOk r (sessions ≡ new_session id b at ∷ p.sessions) → OnErr r (sessions ≡ p.sessions) → Lawful refuses (record p { sessions = sessions })
  Lawful-begun id b at fits r sessions told made kept =
      either_way r (after_begin p id b at) (record p { sessions = sessions })
      (begun_peer id b at r sessions told made)
      (on_err_weaker r (λ x. ap (λ s. record p { sessions = s }) x) kept)
      (record { sessions = begin_law refuses p id b at fits lawful.sessions; origins = begin_origins p id b at lawful.origins; locals = begin_stands p id b at lawful.locals })

  pub Lawful-appended : (id : SessionId) (w : WindowValue) → IsWindow w → w.hi < 2 ^ 64 → (r : Result (Unit {0}) TargetFault) (sessions : List SessionValue)
      → OnOk r (sessions ≡ with_changed p.sessions id (λ s. with_window w s (append_in w s))) → OnErr r (sessions ≡ p.sessions) → Lawful refuses (record p { sessions = sessions })
  Lawful-appended id w window fits r sessions made kept =
      let whole = on_session-changed p id (λ s. with_window w s (append_in w s)) in
      either_way r (after_append p id w) (record p { sessions = sessions })
      (on_ok_weaker r (λ x. ap (λ s. record p { sessions = s }) x ∙ sym whole) made)
      (on_err_weaker r (λ x. ap (λ s. record p { sessions = s }) x) kept)
      (append_lawful refuses p id lawful w window fits)

  pub Lawful-recorded : (id : SessionId) (at : ℕ) (sessions : List SessionValue) → sessions ≡ with_changed p.sessions id (recorded_at at) → Lawful refuses (record p { sessions = sessions })
  Lawful-recorded id at sessions made =
      subst (Lawful refuses) (on_session-changed p id (recorded_at at) ∙ ap (λ s. record p { sessions = s }) (sym made)) (record_lawful refuses p id lawful at)

  pub Lawful-concluded : (id : SessionId) (at : ℕ) (sessions : List SessionValue) → sessions ≡ with_changed p.sessions id (λ s. if low_water s.front == s.goal then recorded_at at s else s) → Lawful refuses (record p { sessions = sessions })
  Lawful-concluded id at sessions made =
      subst (Lawful refuses) (on_session-changed p id (λ s. if low_water s.front == s.goal then recorded_at at s else s) ∙ ap (λ s. record p { sessions = s }) (sym made)) (conclude_lawful refuses p id lawful at)
