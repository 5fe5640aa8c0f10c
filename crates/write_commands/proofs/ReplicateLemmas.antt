-- The results of replications.
use Rattle.proof_prelude.proofs.{◌≡◌, ◌≤◌, ◌<◌, inl, inr, ℕ, List, Option, Some, None, Result, Ok, Err, refl, sym, ap, subst, ◌∙◌}
use Rattle.doc_json.specs.{Choice}
use Rattle.repl_peer.specs.{PeerValue}
use Rattle.repl_target.specs.{Plan}
use Rattle.script_engine.specs.{Told}
use Rattle.script_databases.specs.{Program, State, peer_at, ReplicatesBetween, Refusal, GivesOrMemory, name_of}
use Rattle.script_databases.specs.declared.refusal.Refusal.TheVariants as why
use Rattle.command_api.specs.{choice_given, told_of}
use Rattle.write_commands.specs.{EndsBy, ReplicateAsk, ReportsReplication, ReplicatesFound, both_of, last_second, moment_of, plan_of, plan_with, replicated_text, session_of, with_drawn, with_session, Ending}
use Rattle.command_api.proofs.{passes, is_found}

-- if it is known whether both databases exist
pub replicates : (old new : State) (ask : ReplicateAsk) (told : Told) (found : Result (PeerValue × PeerValue) Refusal) → both_of old ask ≡ found → ReplicatesFound old ask found told new → ReportsReplication old ask told new
replicates old new ask told found e h = subst (λ f. ReplicatesFound old ask f told new) (sym e) h

-- both exist
pub are_both : (old : State) (ask : ReplicateAsk) (s t : PeerValue) → peer_at old ask.source ≡ Some s → peer_at old ask.target ≡ Some t → both_of old ask ≡ Ok (s, t)
are_both old ask s t e f = passes _ (is_found why.NoDatabase e) ∙ passes _ (is_found why.NoDatabase f)

-- drawing an id changes no peer
pub same_peer : (s : State) (given : Option ℕ) (name : List ℕ) → peer_at (with_drawn s given) name ≡ peer_at s name
same_peer s (Some session) name = refl
same_peer s None name = refl

-- nor the settings
same_program : (s : State) (given : Option ℕ) → (with_drawn s given).program ≡ s.program
same_program s (Some session) = refl
same_program s None = refl

-- if the selection is invalid, or finds no memory
pub unchosen : (old new : State) (ask : ReplicateAsk) (s t : PeerValue) (refusal : Refusal) → peer_at old ask.source ≡ Some s → peer_at old ask.target ≡ Some t → GivesOrMemory {A = Choice} (Err refusal) (choice_given ask.doc_ids) → new ≡ with_session old ask.options
    → ReportsReplication old ask (Err (name_of refusal)) new
unchosen old new ask s t refusal e f gives is = replicates old new ask _ (Ok (s, t)) (are_both old ask s t e f) (Err refusal, gives, (refl, is))

-- or the timestamp is too late
pub too_late : (old new : State) (ask : ReplicateAsk) (s t : PeerValue) (chosen : Choice) (program : Program) → peer_at old ask.source ≡ Some s → peer_at old ask.target ≡ Some t → choice_given ask.doc_ids ≡ Ok chosen → new ≡ with_session old ask.options → program ≡ new.program
    → last_second < moment_of program ask.options → ReportsReplication old ask (Err (name_of why.BadMoment)) new
too_late old new ask s t chosen program e f gives is of late =
    let same : program ≡ old.program = of ∙ ap (λ (x : State). x.program) is ∙ same_program old ask.options.session in
    replicates old new ask _ (Ok (s, t)) (are_both old ask s t e f) (Ok chosen, gives, inl (subst (λ (p : Program). last_second < moment_of p ask.options) same late, (refl, is)))

-- a replication that took place
pub replicated : (old mid new : State) (ask : ReplicateAsk) (session : ℕ) (chosen : Choice) (plan : Plan) (ending : Result Ending Refusal) (told : Told) → mid ≡ with_session old ask.options → session ≡ session_of old ask.options → choice_given ask.doc_ids ≡ Ok chosen
    → moment_of mid.program ask.options ≤ last_second → plan ≡ plan_with mid.program ask.options session chosen → ReplicatesBetween (EndsBy ask.options.alone ask.options.progress) mid ask.source ask.target plan ending new → told ≡ told_of (replicated_text plan.session ending) → ReportsReplication old ask told new
replicated old mid new ask session chosen plan ending told e drawn gives m p h r =
    let way = EndsBy ask.options.alone ask.options.progress in
    let program : mid.program ≡ old.program = ap (λ (x : State). x.program) e ∙ same_program old ask.options.session in
    let is : plan ≡ plan_of old ask.options chosen = p ∙ ap (λ (x : Program). plan_with x ask.options session chosen) program ∙ ap (λ (n : ℕ). plan_with old.program ask.options n chosen) drawn in
    let c = subst (λ q. ReplicatesBetween way (with_session old ask.options) ask.source ask.target q ending new) is (subst (λ m. ReplicatesBetween way m ask.source ask.target plan ending new) e h) in
    replicates old new ask told (Ok (c.0, c.1)) (are_both old ask c.0 c.1 (sym (same_peer old ask.options.session ask.source) ∙ c.2) (sym (same_peer old ask.options.session ask.target) ∙ c.3))
    (Ok chosen, gives, inr (subst (λ (x : Program). moment_of x ask.options ≤ last_second) program m, ending, c.4, r ∙ ap (λ (q : Plan). told_of (replicated_text q.session ending)) is))
