-- The program on its standard streams.
use Rattle.proof_prelude.proofs.{◌≡◌, ◌⊎◌, inl, inr, ◌++◌, [], sym, ap, ◌∙◌, append-nil, unwrap_or, ℕ, List, Some, refl, subst}
use Rattle.couch_journal.specs.Runs.{RunsStandard, RunsWords}
use Rattle.couch_journal.specs.Status.{unflushed}
use Rattle.couch_journal.specs.declared.ended.Ended.{Ended}

known : {x y : List ℕ} → Some x ≡ Some y → x ≡ y
known e = ap (λ o. unwrap_or o []) e

-- The reads returned b before, and b' after; the output accepted h before, h' after the run and h'' after the flush. The
-- stream has taken `given`, of which `sent` was passed on.
pub standard : (words : List (List ℕ)) (all : Type 0) (first ended : Ended) (b b' h h' h'' given sent : List ℕ) → b ≡ [] → h ≡ [] → h'' ≡ h' → ((rest : List ℕ) × (h'' ≡ given ++ rest)) → Some given ≡ Some sent
    → ((input : List ℕ) × (text : List ℕ) × (b' ≡ b ++ input) × (h' ≡ h ++ text) × RunsWords words all input text first) → ((sent ≡ h'') × (ended ≡ first)) ⊎ (ended ≡ unflushed first) → RunsStandard words all b' given ended
standard words all first ended b b' h h' h'' given sent eb eh kept (rest, er) es (input, text, ei, et, runs) flushed =
    let same : input ≡ b' = sym (ei ∙ ap (λ z. z ++ input) eb) in
    let whole : text ≡ h' = sym (et ∙ ap (λ z. z ++ text) eh) in
    let on : (more : List ℕ) → h' ≡ given ++ more → RunsWords words all b' (given ++ more) first =
    λ more e. subst (λ z. RunsWords words all z (given ++ more) first) same (subst (λ z. RunsWords words all input z first) (whole ∙ e) runs) in
    by flushed on where
      by : ((sent ≡ h'') × (ended ≡ first)) ⊎ (ended ≡ unflushed first) → ((more : List ℕ) → h' ≡ given ++ more → RunsWords words all b' (given ++ more) first) → RunsStandard words all b' given ended
      by (inl (all_sent, is)) on = (first, [], on [] (sym kept ∙ sym all_sent ∙ sym (known es) ∙ sym (append-nil given)), inl (refl, is))
      by (inr is) on = (first, rest, on rest (sym kept ∙ er), inr is)
