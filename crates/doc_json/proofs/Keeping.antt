-- The previous content of a buffer is kept, step by step.
use Rattle.proof_prelude.proofs.{◌≡◌, ℕ, List, [], ◌++◌, Bool, true, false, cond, sym, ap, ◌∙◌, append_assoc, append-nil}
use Rattle.doc_json.specs.{Keeps}

-- something was appended
pub kept_more : (old new more : List ℕ) → new ≡ old ++ more → Keeps old new
kept_more old new more h = record { more = more; is = h }

-- something was appended or not
pub kept_if : (old new more : List ℕ) (b : Bool) → new ≡ cond b (old ++ more) old → Keeps old new
kept_if old new more true h = record { more = more; is = h }
kept_if old new more false h = record { more = []; is = h ∙ sym (append-nil old) }

-- two steps
pub kept_then : (a b c : List ℕ) → Keeps a b → Keeps b c → Keeps a c
kept_then a b c h k = record { more = h.more ++ k.more; is = k.is ∙ ap (λ l. l ++ k.more) h.is ∙ append_assoc a h.more k.more }
