-- `audit` prints `clean` if all databases are consistent.
use Rattle.proof_prelude.proofs.{◌≡◌, ℕ, List, codes, Some, None, Result, Ok, Err, refl, sym, ap, subst, ◌∙◌, same_Some}
use Rattle.doc_json.specs.{Choice}
use Rattle.repl_peer.specs.{PeerValue}
use Rattle.repl_target.specs.{audit_answer, hole_of, IsTiedPair}
use Rattle.script_engine.specs.{Told}
use Rattle.script_databases.specs.{IsConsistent, State, peer_at, Refusal}
use Rattle.command_api.specs.{choice_given, database_of, told_of}
use Rattle.read_commands.specs.{AuditAsk, Audits, audit_told, audit_text, FindsNone, IsClean}
use Rattle.repl_target.specs.declared.auditing.found.Audit.{Audit}
use Rattle.repl_target.specs.declared.auditing.found.Audit.TheVariants.{Clean}
use Rattle.script_databases.proofs.{same_Ok, tied_pair}
use Rattle.command_api.proofs.{bound, found}

-- the result is that of an audit of the two, which finds nothing if they are consistent
pub finds_none : (old : State) (ask : AuditAsk) (s t : PeerValue) (v w : Choice) (found : Audit) → peer_at old ask.source ≡ Some s → peer_at old ask.target ≡ Some t → choice_given ask.doc_ids ≡ Ok v → w ≡ v → hole_of found ≡ audit_answer s t v → (IsTiedPair s t w → found ≡ Clean)
    → FindsNone old ask
finds_none old ask s t v w found at_s at_t gives same answer clean p q chosen at at' given tied =
    let i : p ≡ s = same_Some p s (sym at ∙ at_s) in
    let j : q ≡ t = same_Some q t (sym at' ∙ at_t) in
    let k : chosen ≡ v = same_Ok chosen v (sym given ∙ gives) in
    let own : IsTiedPair s t w = subst (IsTiedPair s t) (k ∙ sym same) (subst (λ (x : PeerValue). IsTiedPair s x chosen) j (subst (λ (x : PeerValue). IsTiedPair x q chosen) i tied)) in
    ap (λ (x : PeerValue). audit_answer x q chosen) i ∙ ap (λ (x : PeerValue). audit_answer s x chosen) j ∙ ap (audit_answer s t) k ∙ sym answer ∙ ap hole_of (clean own)

-- the output is `clean`
clean_told : (r : Result (List ℕ) Refusal) → ((text : List ℕ) → r ≡ Ok text → text ≡ codes "clean\n") → IsClean (told_of r)
clean_told (Ok text) f = f text refl
clean_told (Err refusal) f = tt

-- so it is if all databases are consistent
pub audits_clean : (old new : State) → IsConsistent old → (ask : AuditAsk) (told : Told) → Audits old ask told new → IsClean told
audits_clean old new h ask told d =
    subst IsClean (sym d.0.0)
    (clean_told (audit_told old ask) (λ text e.
    (let k1 = bound (database_of old ask.source) _ text e in
    let k2 = bound (database_of old ask.target) _ text k1.2 in
    let k3 = bound (choice_given ask.doc_ids) _ text k2.2 in
    let at = found old ask.source k1.0 k1.1 in
    let at' = found old ask.target k2.0 k2.1 in
    let none : audit_answer k1.0 k2.0 k3.0 ≡ None = d.1 k1.0 k2.0 k3.0 at at' k3.1 (tied_pair old h ask.source ask.target k1.0 k2.0 at at' k3.0) in
    sym (same_Ok _ text k3.2) ∙ ap audit_text none)))
