-- The rest of an output about existing databases.
use Rattle.proof_prelude.proofs.{◌≡◌, ◌<◌, ◌≤◌, ◌+◌, arith, length, length-append, true, List, [], ◌∷◌, ℕ, ◌++◌, Option, Some, None, Result, Ok, Err, Bool, sym, ap, subst, ◌∙◌, IsErrAnd, if◌then◌else◌, IfOk, IfErr}
use Rattle.repl_peer.specs.{PeerValue}
use Rattle.script_engine.specs.{Answering, IsSplit, MayTell, gave_up, text_with}
use Rattle.script_databases.specs.{State, peer_at, name_of, Refusal}
use Rattle.script_databases.specs.declared.refusal.Refusal.TheVariants as why
use Rattle.command_api.specs.{ended}
use Rattle.read_commands.specs.{rest_left, told_begun, told_from, left_in, holds_in}
use Rattle.read_commands.specs.declared.rest.Rest.{Rest}

pub left_found : (s : State) {name db : List ℕ} {l : PeerValue} (text : PeerValue → List ℕ) → db ≡ name → peer_at s name ≡ Some l → left_in (peer_at s db) text ≡ text l
left_found s text e f = ap (λ n. left_in (peer_at s n) text) e ∙ ap (λ o. left_in o text) f

pub left_missing : (s : State) {name db : List ℕ} (text : PeerValue → List ℕ) → db ≡ name → peer_at s name ≡ None → left_in (peer_at s db) text ≡ []
left_missing s text e f = ap (λ n. left_in (peer_at s n) text) e ∙ ap (λ o. left_in o text) f

pub holds_found : (s : State) {name db : List ℕ} {l : PeerValue} (holds : PeerValue → Type 0) → db ≡ name → peer_at s name ≡ Some l → holds l → holds_in (peer_at s db) holds
holds_found s holds e f h = subst (λ n. holds_in (peer_at s n) holds) (sym e) (subst (λ o. holds_in o holds) (sym f) h)

pub held_found : (s : State) {name db : List ℕ} {l : PeerValue} (holds : PeerValue → Type 0) → db ≡ name → peer_at s name ≡ Some l → holds_in (peer_at s db) holds → holds l
held_found s holds e f h = subst (λ o. holds_in o holds) f (subst (λ n. holds_in (peer_at s n) holds) e h)

-- the first piece of an output, or a failed allocation
pub give_told : {K : Type 0} {command : Answering State K} (s : State) {ask : K} (rest : Rest) (r : Result (Option Rest) Refusal) (text : List ℕ) → IfOk r (λ left. text_with (rest_left s) text left ≡ rest_left s rest) → IfErr r (λ refusal. refusal ≡ why.Memory) → MayTell command s ask (Ok (rest_left s rest)) s → MayTell command s ask (told_begun s r text) s
give_told {command = command} s {ask = ask} rest (Ok left) text e m h = subst (λ t. MayTell command s ask (Ok t) s) (sym e) h
give_told {command = command} s {ask = ask} rest (Err why) text e m h = subst (λ x. MayTell command s ask (Err (name_of x)) s) (sym m) gave_up

-- an error that is passed on keeps its name
pub handed_from : {K : Type 0} {command : Answering State K} (s : State) {ask : K} (refusal : Refusal) (r : Result Rest Refusal) → IsErrAnd r (λ e. e ≡ refusal) → MayTell command s ask (Err (name_of refusal)) s → MayTell command s ask (told_from s r) s
handed_from s refusal (Ok rest) h told = absurd h
handed_from {command = command} s {ask = ask} refusal (Err e) h told = subst (λ x. MayTell command s ask (Err (name_of x)) s) (sym h) told

-- an allocation failed, which is the error
pub memory_from : {K : Type 0} {command : Answering State K} (s : State) {ask : K} (r : Result Rest Refusal) → IsErrAnd r (λ e. e ≡ why.Memory) → MayTell command s ask (told_from s r) s
memory_from s r h = handed_from s why.Memory r h gave_up

-- a piece is produced in a state with this view
pub piece_given : {E : Type 0} (s view : State) (rest rest' : Rest) (old new : List ℕ) (r : Result Bool E) → s ≡ view → old ≡ [] → IfOk r (λ more. new ++ (if more then rest_left s rest' else []) ≡ old ++ rest_left s rest) → IfOk r (λ more. new ++ (if more then rest_left view rest' else []) ≡ rest_left view rest)
piece_given s view rest rest' old new (Ok m) e n h = subst (λ (x : State). new ++ (if m then rest_left x rest' else []) ≡ rest_left x rest) e (h ∙ ap (λ t. t ++ rest_left s rest) n)
piece_given s view rest rest' old new (Err x) e n h = h

-- the rest of an output is not empty, because its last line has a line end
pub left_some : (s : State) {name db : List ℕ} {l : PeerValue} (front line : PeerValue → List ℕ) → db ≡ name → peer_at s name ≡ Some l → 0 < length (left_in (peer_at s db) (λ x. front x ++ ended (line x)))
left_some s {l = l} front line e f =
    let some : 0 < length (front l ++ (line l ++ (10 ∷ []))) = omega (arith, length-append (front l) (line l ++ (10 ∷ [])), length-append (line l) (10 ∷ [])) in
    subst (λ (z : List ℕ). 0 < length z) (sym (left_found s (λ x. front x ++ ended (line x)) e f)) some

-- a smaller minimum size of the first piece
pub split_least : {R : Type 0} (least more : ℕ) (left : R → List ℕ) (accepted : Bool) (piece : List ℕ) (rest : Option R) → least ≤ more → IsSplit more left accepted piece rest → IsSplit least left accepted piece rest
split_least least more left accepted piece None e h = tt
split_least least more left accepted piece (Some rest) e (is, size, some) = (is, omega (arith, e, size), some)

-- a piece that is not the last is not empty, in a state with this view
pub piece_some : {E : Type 0} (s view : State) (rest : Rest) (new : List ℕ) (r : Result Bool E) → s ≡ view → IfOk r (λ more. more ≡ true → (65536 ≤ length new) × (0 < length (rest_left s rest))) → IfOk r (λ more. more ≡ true → (0 < length new) × (0 < length (rest_left view rest)))
piece_some s view rest new (Ok m) e h = λ is. let p = h is in (omega (arith, p.0), subst (λ (x : State). 0 < length (rest_left x rest)) e p.1)
piece_some s view rest new (Err x) e h = h
