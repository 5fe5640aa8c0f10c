-- A sealed block.
use Rattle.proof_prelude.proofs.{◌≡◌, ◌⊎◌, inl, inr, ℕ, List, [], ◌∷◌, ◌++◌, Bool, true, false, Option, None, Some, refl, sym, ap, subst, ◌∙◌, append-nil, Appends}
use Rattle.script_engine.specs.{Gives}
use Rattle.line_reader.specs.{HasDone, HasStopped, IsDone, IsDoneOn, IsFront, Runs, joined, none, more}
use Rattle.journal_core.specs.{EndsSeal, HasSealed, HasSealedPart, IsSealedOn, IsSealedPart, IsSealing, IsUnsealedOn, Seals, SealsBlock, SealsOn, block}
use Rattle.journal_core.specs.declared.seal.Seal.{Seal}

-- what is stored after the lines of a block
runs_seal : {chain seq : List ℕ} {start : Seal} {lines : List (List ℕ)} {text : List ℕ} {state : Seal} → Runs Seals start lines text state → IsSealing chain seq [] start → (text ≡ []) × IsSealing chain seq lines state
runs_seal none s = (refl, s)
runs_seal {chain} {seq} (more line added new runs step) s =
    let before = runs_seal {chain = chain} {seq = seq} runs s in
    (ap (λ z. z ++ added) before.0 ∙ step.0, step.1 chain seq _ before.1)

sealed_on : (chain seq : List ℕ) (start new : Seal) (given : List ℕ → Type 0) (held held' : Option (List ℕ)) → IsSealing chain seq [] start → None ≡ new.wrong → IsDoneOn Seals EndsSeal start given held new held' → IsSealedOn chain seq given held held'
sealed_on chain seq start new given held held' s e d =
    let r = runs_seal {chain = chain} {seq = seq} d.runs s in
    let w = d.ended.0 (sym e) in
    let x = w.1 chain seq d.lines r.1 in
    let input : d.input ≡ joined d.lines = d.splits.whole ∙ ap (λ z. joined d.lines ++ z) w.0 ∙ append-nil (joined d.lines) in
    record {
      lines = d.lines;
      gives = subst given input d.gives;
      body = x.0;
      written = subst (Appends held held') (ap (λ z. z ++ d.last_text) r.0 ∙ x.1) d.written;
      continues = λ before seq' c. block d.lines seq c x.0;
    }

unsealed_on : (chain seq : List ℕ) (start new : Seal) (count : ℕ) (given : List ℕ → Type 0) (held held' : Option (List ℕ)) → IsSealing chain seq [] start → Some count ≡ new.wrong → IsDoneOn Seals EndsSeal start given held new held' → IsUnsealedOn count given held held'
unsealed_on chain seq start new count given held held' s e d =
    let r = runs_seal {chain = chain} {seq = seq} d.runs s in
    let w = d.ended.1 count (sym e) in
    record {
      input = d.input;
      lines = d.lines;
      rest = d.rest;
      gives = d.gives;
      splits = d.splits;
      wrong = w.1 chain seq d.lines r.1;
      nothing = subst (Appends held held') (ap (λ z. z ++ d.last_text) r.0 ∙ w.0) d.written;
    }

seals_on : (chain seq : List ℕ) (start new : Seal) (given : List ℕ → Type 0) (held held' : Option (List ℕ)) (wrong : Option ℕ) → IsSealing chain seq [] start → wrong ≡ new.wrong → IsDoneOn Seals EndsSeal start given held new held' → SealsOn chain seq given held held' wrong
seals_on chain seq start new given held held' (Some n) s e d = unsealed_on chain seq start new n given held held' s e d
seals_on chain seq start new given held held' None s e d = sealed_on chain seq start new given held held' s e d

pub sealed : (chain seq : List ℕ) (start new : Seal) (left held held' : Option (List ℕ)) (wrong : Option ℕ) → IsSealing chain seq [] start → wrong ≡ new.wrong → IsDone Seals EndsSeal start left held new held' → SealsBlock chain seq left held held' wrong
sealed chain seq start new left held held' wrong s e d = seals_on chain seq start new (Gives left) held held' wrong s e d

pub has_sealed : (chain seq : List ℕ) (start new : Seal) (taken taken' held held' : Option (List ℕ)) (wrong : Option ℕ) → IsSealing chain seq [] start → wrong ≡ new.wrong → HasDone Seals EndsSeal start taken taken' held new held' → HasSealed chain seq taken taken' held held' wrong
has_sealed chain seq start new taken taken' held held' wrong s e d = seals_on chain seq start new (Appends taken taken') held held' wrong s e d

-- ---- after an error

front_nothing : (front back : List ℕ) → front ++ back ≡ [] → front ≡ []
front_nothing [] back e = refl
front_nothing (b ∷ front) back e = cc

by_wrong : (chain seq : List ℕ) (input : List ℕ) (lines : List (List ℕ)) (rest front back : List ℕ) (state new : Seal) (wrong : Option ℕ) → new.wrong ≡ wrong → input ≡ joined lines ++ rest → IsSealing chain seq lines state → EndsSeal state rest (front ++ back) new → (front ≡ []) ⊎ IsSealedPart chain seq input front
by_wrong chain seq input lines rest front back state new (Some n) e i s h = inl (front_nothing front back (h.1 n e).0)
by_wrong chain seq input lines rest front back state new None e i s h =
    let w = h.0 e in
    let x = w.1 chain seq lines s in
    inr (back, (lines, i ∙ ap (λ z. joined lines ++ z) w.0 ∙ append-nil (joined lines), x.0, x.1))

part_of : (chain seq : List ℕ) (all : Type 0) (at_end : Bool) (input : List ℕ) (lines : List (List ℕ)) (rest front : List ℕ) (state : Seal) → (at_end ≡ true → all) → input ≡ joined lines ++ rest → IsSealing chain seq lines state → IsFront at_end Seals EndsSeal state rest front → (front ≡ []) ⊎ (all × IsSealedPart chain seq input front)
part_of chain seq all true input lines rest front state at i s (back, new, whole, h) = by (by_wrong chain seq input lines rest front back state new new.wrong refl i s h) where
  by : (front ≡ []) ⊎ IsSealedPart chain seq input front → (front ≡ []) ⊎ (all × IsSealedPart chain seq input front)
  by (inl e) = inl e
  by (inr p) = inr (at refl, p)
part_of chain seq all false input lines rest front state at i s (inl e) = inl e
part_of chain seq all false input lines rest front state at i s (inr (line, after, back, new, r, whole, step)) = inl (front_nothing front back step.0)

pub part_sealed : (chain seq : List ℕ) (start : Seal) (all : Type 0) (taken taken' held held' : Option (List ℕ)) → IsSealing chain seq [] start → HasStopped Seals EndsSeal start all taken taken' held held' → HasSealedPart chain seq all taken taken' held held'
part_sealed chain seq start all taken taken' held held' s (at_end, at, d) =
    let r = runs_seal {chain = chain} {seq = seq} d.runs s in
    (d.input, d.front, d.gives, subst (Appends held held') (ap (λ z. z ++ d.front) r.0) d.written, part_of chain seq all at_end d.input d.lines d.rest d.front d.state at d.splits r.1 d.is_front)
