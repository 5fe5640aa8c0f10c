-- From checks to the result of a command.
use Rattle.proof_prelude.proofs.{◌≡◌, ◌⊎◌, inl, inr, ℕ, Bool, true, false, List, [], ◌++◌, Option, Some, None, Result, Ok, Err, IsErrAnd, refl, sym, ap, subst, ◌∙◌, is_some, contains_key, true≢false}
use Rattle.rev_tree.specs.{TreeValue}
use Rattle.couch_base.specs.{DatabaseValue, tree_in}
use Rattle.repl_peer.specs.{PeerValue}
use Rattle.script_engine.specs.{Told, Answering, MayTell, in_full, gave_up, served_only}
use Rattle.script_databases.specs.{State, peer_at, with_peer, with_changed, changed_at, name_of, Refusal}
use Rattle.script_databases.specs.declared.refusal.Refusal.TheVariants as why
use Rattle.rev_core.specs.{◌>>=◌, or_refused}
use Rattle.command_api.specs.{hushed, told_hushed, told_by, told_of, Reads, Does, UnlessQuiet}

-- ---- checks

-- a check that passes, and one that fails
pub passes : {A B : Type 0} {r : Result A Refusal} {x : A} (f : A → Result B Refusal) → r ≡ Ok x → (r >>= f) ≡ f x
passes f e = ap (λ s. s >>= f) e

pub stops : {A B : Type 0} {r : Result A Refusal} {refusal : Refusal} (f : A → Result B Refusal) → r ≡ Err refusal → (r >>= f) ≡ Err refusal
stops f e = ap (λ s. s >>= f) e

-- something exists, or not
pub is_found : {A : Type 0} {o : Option A} {x : A} (refusal : Refusal) → o ≡ Some x → or_refused refusal o ≡ Ok x
is_found refusal e = ap (or_refused refusal) e

pub is_missing : {A : Type 0} {o : Option A} (refusal : Refusal) → o ≡ None → or_refused refusal o ≡ Err refusal
is_missing refusal e = ap (or_refused refusal) e

-- ---- results

pub reads : {text : Result (List ℕ) Refusal} {old : State} (r : Result (List ℕ) Refusal) → text ≡ r → Reads text old (told_of r) old
reads r e = (ap told_of (sym e), refl)

pub does : {done : Result (List ℕ × State) Refusal} {new : State} (old : State) (text : List ℕ) → done ≡ Ok (text, new) → Does done old (Ok text) new
does {done} {new} old text e = subst (λ d. Does d old (Ok text) new) (sym e) (refl, refl)

pub does_nothing : {done : Result (List ℕ × State) Refusal} {old new : State} (refusal : Refusal) → done ≡ Err refusal → new ≡ old → Does done old (Err (name_of refusal)) new
does_nothing {done} {old} {new} refusal e s = subst (λ d. Does d old (Err (name_of refusal)) new) (sym e) (refl, s)

-- the output, and the state after it
pub both : {text text' : List ℕ} {s s' : State} → text' ≡ text → s' ≡ s → ◌≡◌ {A = Result (List ℕ × State) Refusal} (Ok (text, s)) (Ok (text', s'))
both e f = λ i. Ok (sym e i, sym f i)

-- an allocation failed, and nothing changed
pub gave_up_at : {L : Type 0} {answers : Answering State L} {old new : State} {ask : L} → new ≡ old → MayTell answers old ask (Err (name_of why.Memory)) new
gave_up_at {answers = answers} {old = old} {ask = ask} s = subst (λ (x : State). MayTell answers old ask (Err (name_of why.Memory)) x) (sym s) gave_up

-- what was written into an empty buffer
pub printed : {items old text expected : List ℕ} → items ≡ old ++ text → old ≡ [] → text ≡ expected → items ≡ expected
printed {text = text} e none is = e ∙ ap (λ x. x ++ text) none ∙ is

-- the error is the expected one, or an allocation failed before a change
pub unless_memory : {L A : Type 0} {answers : Answering State L} {old new : State} {ask : L} {refusal : Refusal} (expected : Result A Refusal) → (expected ≡ Err refusal) ⊎ (refusal ≡ why.Memory) → new ≡ old →
    (expected ≡ Err refusal → answers old ask (Err (name_of refusal)) new) → MayTell answers old ask (Err (name_of refusal)) new
unless_memory expected (inl e) s f = in_full (f e)
unless_memory {answers = answers} {old = old} {new = new} {ask = ask} {refusal = refusal} expected (inr m) s f =
    subst (λ r. MayTell answers old ask (Err (name_of r)) new) (sym m) (subst (λ (x : State). MayTell answers old ask (Err (name_of why.Memory)) x) (sym s) gave_up)

-- an error that is passed on keeps its name
pub handed_on : {L A : Type 0} {answers : Answering State L} {old new : State} {ask : L} (refusal : Refusal) (r : Result A Refusal) (text : List ℕ) → IsErrAnd r (λ e. e ≡ refusal) → MayTell answers old ask (Err (name_of refusal)) new →
    MayTell answers old ask (told_by r text) new
handed_on refusal (Ok done) text h told = absurd h
handed_on {answers = answers} {old = old} {new = new} {ask = ask} refusal (Err e) text h told = subst (λ r. MayTell answers old ask (Err (name_of r)) new) (sym h) told

-- an allocation failed, which is the error
pub refused_memory : {L A : Type 0} {answers : Answering State L} {old new : State} {ask : L} (r : Result A Refusal) (text : List ℕ) → IsErrAnd r (λ refusal. refusal ≡ why.Memory) → MayTell answers old ask (Err (name_of why.Memory)) new →
    MayTell answers old ask (told_by r text) new
refused_memory r text h told = handed_on why.Memory r text h told

-- a result of a part is a result of the complete command
pub may_tell : {K L : Type 0} {part : Answering State K} {whole : Answering State L} {old new : State} {k : K} {l : L} {told : Told} → ((t : Told) → part old k t new → whole old l t new) → MayTell part old k told new → MayTell whole old l told new
may_tell f (in_full a) = in_full (f _ a)
may_tell f gave_up = gave_up
may_tell f (served_only text a) = served_only text (f _ a)

-- ---- a quiet program

-- a possible result, or an empty output instead
pub unless_quiet : {L : Type 0} {answers : Answering State L} {old new : State} {ask : L} {told : Told} (quiet : Bool) → quiet ≡ old.program.quiet → MayTell answers old ask told new → MayTell (UnlessQuiet answers) old ask (told_hushed quiet told) new
unless_quiet quiet e (in_full {told = told} a) = in_full (told, a, ap (λ q. told_hushed q told) e)
unless_quiet quiet e gave_up = gave_up
unless_quiet quiet e (served_only text a) = served_only (hushed quiet text) (Ok text, a, ap (λ q. told_hushed q (Ok text)) e)

pub hushed_by : {A : Type 0} (quiet : Bool) (r : Result A Refusal) (text : List ℕ) → told_hushed quiet (told_by r text) ≡ told_by r (hushed quiet text)
hushed_by quiet (Ok done) text = refl
hushed_by quiet (Err refusal) text = refl

-- the result of a call whose output is cleared
pub taken_back : {L A : Type 0} {answers : Answering State L} {old new : State} {ask : L} (quiet : Bool) (r : Result A Refusal) (text left : List ℕ) → quiet ≡ old.program.quiet → left ≡ hushed quiet text → MayTell answers old ask (told_by r text) new → MayTell (UnlessQuiet answers) old ask (told_by r left) new
taken_back {answers = answers} {old = old} {new = new} {ask = ask} quiet r text left q l h =
    subst (λ told. MayTell (UnlessQuiet answers) old ask told new) (hushed_by quiet r text ∙ ap (told_by r) (sym l)) (unless_quiet quiet q h)

-- ---- documents

-- the document's tree, if the database and the id are known
pub tree_is : (base : DatabaseValue) (l : PeerValue) (id : List ℕ) (o : Option TreeValue) → base ≡ l.db → o ≡ tree_in base.docs id → tree_in l.db.docs id ≡ o
tree_is base l id o e h = sym (h ∙ ap (λ (d : DatabaseValue). tree_in d.docs id) e)

-- ---- names

pub is_there : (s : State) (name : List ℕ) → contains_key s.peers name ≡ true → (l : PeerValue) × (peer_at s name ≡ Some l)
is_there s name h = by (peer_at s name) refl
  where
    by : (o : Option PeerValue) → peer_at s name ≡ o → (l : PeerValue) × (peer_at s name ≡ Some l)
    by None e = absurd (true≢false (sym h ∙ ap is_some e))
    by (Some l) e = (l, e)

pub is_absent : (s : State) (name : List ℕ) → contains_key s.peers name ≡ false → peer_at s name ≡ None
is_absent s name h = by (peer_at s name) refl
  where
    by : (o : Option PeerValue) → peer_at s name ≡ o → peer_at s name ≡ None
    by None e = e
    by (Some l) e = absurd (true≢false (sym (ap is_some e) ∙ h))

-- changing an existing one
pub changed_is : (s new : State) (name : List ℕ) (f : PeerValue → PeerValue) (l : PeerValue) → peer_at s name ≡ Some l → new ≡ changed_at s name f → new ≡ with_peer s name (f l)
changed_is s new name f l e is = is ∙ ap (with_changed s name f) e
