-- A run over a reader and a writer that keep a history.
use Rattle.proof_prelude.proofs.{◌≡◌, ◌+◌, ℕ, List, [], ◌∷◌, ◌++◌, length, Some, Option, Ok, Err, sym, refl, ap, ◌∙◌, unwrap_or, arith, length-append}
use Rattle.script_engine.proofs.StreamLemmas.{same_known}
use Rattle.script_databases.specs.{program_of}
use Rattle.commands.proofs.{prints}
use Rattle.couch_replicate.specs.{RunsStandard, RunsWords}
use Rattle.couch_replicate.specs.declared.run.Ended.{Ended}
use Rattle.couch_replicate.specs.declared.run.Ended.TheVariants.{NotRun, Ran}

known : {x y : List ℕ} → Some x ≡ Some y → x ≡ y
known e = ap (λ o. unwrap_or o []) e

-- the parts of an empty text are empty
front_none : (front rest : List ℕ) → front ++ rest ≡ [] → front ≡ []
front_none [] rest e = refl
front_none (x ∷ front) rest e = absurd (omega (arith, ap length e, length-append (x ∷ front) rest))

-- The histories of the reader, `b` and `b'`, and of the buffered writer, `h` and `h'`, are those before and after the run.
-- The inner writer accepted `passed`, which it returns as `given`.
pub runs_standard : (words : List (List ℕ)) (E : Type 0) (ended : Ended) (left left' : Option (List ℕ)) (b b' h h' passed given : List ℕ) → b ≡ [] → h ≡ [] → (rest : List ℕ) × (h' ≡ given ++ rest) → Some given ≡ Some passed → RunsWords words left left' (Some b) (Some b') E (Some h) (Some h') (Some passed) ended → RunsStandard words b' E given ended
runs_standard words E (NotRun why) left left' b b' h h' passed given eb eh (rest, front) same (refuses, l, t, w) =
    (refuses, known t ∙ eb, front_none given rest (sym front ∙ known w ∙ eh))
runs_standard words E (Ran (Ok clean)) left left' b b' h h' passed given eb eh front same (o, says, known_bytes, answered, at_end, sent) =
    (o, says, prints (program_of o.settings) E (Ok clean) b b' h h' given eb eh front (same_known (Ok clean) (Some h') same sent) answered at_end tt tt)
runs_standard words E (Ran (Err fault)) left left' b b' h h' passed given eb eh front same (o, says, known_bytes, answered, at_end, sent) =
    (o, says, prints (program_of o.settings) E (Err fault) b b' h h' given eb eh front (same_known (Err fault) (Some h') same sent) tt tt answered.0 answered.1)
