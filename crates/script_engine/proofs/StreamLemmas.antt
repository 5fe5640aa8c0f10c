-- What a stream's reads returned and its writer accepted.
use Rattle.std.specs.Prelude.{Result, Ok, Err, IfErr}
use Rattle.proof_prelude.proofs.{◌≡◌, Bool, ℕ, List, [], ◌++◌, refl, sym, ap, subst, ◌∙◌, append_assoc, Option, Some, unwrap_or}
use Rattle.script_engine.specs.{IsToldUntil, ScriptFault, Answering, AnswersEnded, IsAnswered, IsAnsweredSoFar}
use Rattle.script_engine.specs.Faults.{IsSent}
use Rattle.script_engine.specs.declared.fault.ScriptFault.TheVariants.{Read, Write, Memory, Cut}
use Rattle.script_engine.proofs.RunLemmas.{write_not_read, memory_not_read, cut_not_read}

known : {x y : List ℕ} → Some x ≡ Some y → x ≡ y
known e = ap (λ o. unwrap_or o []) e

-- appended to nothing
behind_none : {a b c : List ℕ} → a ≡ [] → b ≡ a ++ c → b ≡ c
behind_none {c = c} e h = h ∙ ap (λ z. z ++ c) e

-- a prefix of a prefix of the output is a prefix of the output
shorter : {S : Type 0} (f : Answering S (List ℕ)) (g : S) (x y front rest : List ℕ) → y ≡ front ++ rest → IsAnsweredSoFar f g x y → IsAnsweredSoFar f g x front
shorter f g x y front rest e (clean, more, new, h) =
    (clean, rest ++ more, new, subst (λ z. IsAnswered f g x clean z new) (ap (λ z. z ++ more) e ∙ append_assoc front rest more) h)

-- the writer accepted all bytes, or a prefix of them if a write failed
told : {S : Type 0} (f : Answering S (List ℕ)) (g : S) (fault : ScriptFault) (x y given rest : List ℕ) → y ≡ given ++ rest → IsSent (Err fault) (Some y) (Some given) → IsToldUntil fault f g x y → IsToldUntil fault f g x given
told f g Read x y given rest e s h = subst (λ z. IsToldUntil Read f g x z) (sym s) h
told f g Write x y given rest e s h = shorter f g x y given rest e h
told f g Memory x y given rest e s h = subst (λ z. IsToldUntil Memory f g x z) (sym s) h
told f g Cut x y given rest e s h = subst (λ z. IsToldUntil Cut f g x z) (sym s) h

pub until_given : {S : Type 0} (f : Answering S (List ℕ)) (g : S) (r : Result Bool ScriptFault) (b b' h h' given : List ℕ) → b ≡ [] → h ≡ [] → ((rest : List ℕ) × (h' ≡ given ++ rest)) → IsSent r (Some h') (Some given) →
    IfErr r (λ fault. (x : List ℕ) × (y : List ℕ) × (b' ≡ b ++ x) × (h' ≡ h ++ y) × IsToldUntil fault f g x y) →
    IfErr r (λ fault. (x : List ℕ) × (y : List ℕ) × (Some b' ≡ Some x) × (Some given ≡ Some y) × IsToldUntil fault f g x y)
until_given f g (Ok clean) b b' h h' given eb eh r s t = tt
until_given f g (Err fault) b b' h h' given eb eh (rest, er) s (x, y, ex, ey, t) =
    (x, given, ap Some (behind_none eb ex), refl, told f g fault x h' given rest er s (subst (λ z. IsToldUntil fault f g x z) (sym (behind_none eh ey)) t))

ended : {S : Type 0} (f : Answering S (List ℕ)) (g new : S) (fault : ScriptFault) (x y given : List ℕ) → IsSent (Err fault) (Some y) (Some given) → fault ≡ Read → AnswersEnded f g x y new → AnswersEnded f g x given new
ended f g new Read x y given s e h = subst (λ z. AnswersEnded f g x z new) (sym s) h
ended f g new Write x y given s e h = absurd (write_not_read e)
ended f g new Memory x y given s e h = absurd (memory_not_read e)
ended f g new Cut x y given s e h = absurd (cut_not_read e)

pub ended_given : {S : Type 0} (f : Answering S (List ℕ)) (g new : S) (r : Result Bool ScriptFault) (b b' h h' given : List ℕ) → b ≡ [] → h ≡ [] → IsSent r (Some h') (Some given) →
    IfErr r (λ fault. fault ≡ Read → (x : List ℕ) × (y : List ℕ) × (b' ≡ b ++ x) × (h' ≡ h ++ y) × AnswersEnded f g x y new) →
    IfErr r (λ fault. fault ≡ Read → (x : List ℕ) × (y : List ℕ) × (Some b' ≡ Some x) × (Some given ≡ Some y) × AnswersEnded f g x y new)
ended_given f g new (Ok clean) b b' h h' given eb eh s t = tt
ended_given f g new (Err fault) b b' h h' given eb eh s t = λ e.
    let p = t e in
    (p.0, given, ap Some (behind_none eb p.2), refl, ended f g new fault p.0 h' given s e (subst (λ z. AnswersEnded f g p.0 z new) (sym (behind_none eh p.3)) p.4))

-- no bytes were read before
pub none_known : {x : List ℕ} → Some x ≡ Some [] → x ≡ []
none_known e = known e

pub same_known : {x y : List ℕ} (r : Result Bool ScriptFault) (h : Option (List ℕ)) → Some x ≡ Some y → IsSent r h (Some y) → IsSent r h (Some x)
same_known r h e s = subst (λ z. IsSent r h z) (sym e) s
