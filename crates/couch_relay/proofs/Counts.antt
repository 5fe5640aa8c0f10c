-- What the failure counts of a reader and a writer are after a run.
use Rattle.proof_prelude.proofs.{◌≡◌, ℕ, ◌+◌, ◌<◌, ◌≤◌, inl, List, [], ◌++◌, Option, refl, sym, string_bytes, subst, ◌∙◌, arith, length, length-append, codes, Appends, Appends-nil, Appends-trans, Result, Ok, Err}
use Rattle.std.specs.Prelude.{IsErrAnd}
use Rattle.script_engine.specs.Device.{FailsOnce}
use Rattle.script_engine.specs.declared.fault.ScriptFault.{ScriptFault}
use Rattle.script_engine.specs.declared.fault.ScriptFault.TheVariants.{Read, Write, Memory, Cut}
use Rattle.relay_core.specs.Messages.{Text, RequestView, get_log, get_changes, revs_diff, carry_docs, put_log, tell, done}
use Rattle.json.specs.Print.{print}
use Rattle.relay_requests.specs.Bodies.{diff_tokens, carry_tokens}
use Rattle.relay_requests.specs.Notices.{notice_kind, notice_text, exit_status, done_tokens}
use Rattle.relay_requests.specs.Requests.{changes_method, changes_path, request_text}
use Rattle.relay_requests.specs.declared.options.RequestOptions.{RequestOptions}
use Rattle.couch_relay.specs.Faults.{StopsReading, IsReadFault, IsWriteFault, IsRunFault, RunCounts}

-- at least n bytes were written
abbrev pub Sent : Option (List ℕ) → Option (List ℕ) → ℕ → Type 0
Sent old new n = (text : List ℕ) × Appends old new text × (n ≤ length text)

pub sent_none : (held : Option (List ℕ)) → Sent held held 0
sent_none held = ([], Appends-nil held, omega arith)

one_byte : length (codes "\n") ≡ 1
one_byte = refl

some_lines : (head body : Text) → 0 < length (head ++ codes "\n" ++ body ++ codes "\n")
some_lines head body = omega (arith, one_byte, length-append (head ++ codes "\n" ++ body) (codes "\n"))

-- a request has at least one byte
some_request : (o : RequestOptions) (q : RequestView) → 0 < length (request_text o q)
some_request o (get_log side) = some_lines _ _
some_request o (get_changes since wait) = some_lines (codes "source " ++ changes_method (string_bytes o.choice) ++ codes " " ++ changes_path o since wait) (string_bytes o.choice)
some_request o (revs_diff docs) = some_lines (codes "target POST /_revs_diff") (print (diff_tokens docs))
some_request o (carry_docs docs) = some_lines (codes "carry POST /_bulk_get?revs=true&latest=true&attachments=true") (print (carry_tokens docs))
some_request o (put_log side log checkpoint) = some_lines _ _
some_request o (tell notice) = some_lines (codes "tell " ++ notice_kind notice ++ codes " -") (notice_text notice)
some_request o (done fault counts recorded) = some_lines (codes "done " ++ exit_status fault counts ++ codes " -") (print (done_tokens (string_bytes o.session_id) fault counts recorded))

-- a request more was written
pub sent_more : (o : RequestOptions) (q : RequestView) (a b c : Option (List ℕ)) (n : ℕ) → Sent a b n → Appends b c (request_text o q) → Sent a c (n + 1)
sent_more o q a b c n (text, wrote, long) more = (
  text ++ request_text o q,
  Appends-trans a b c text (request_text o q) wrote more,
  omega (arith, long, some_request o q, length-append text (request_text o q)),
)

-- more was written
pub sent_after : (a b c : Option (List ℕ)) (n : ℕ) (more : List ℕ) → Sent a b n → Appends b c more → (text : List ℕ) × Appends a c text
sent_after a b c n more (text, wrote, long) w = (text ++ more, Appends-trans a b c text more wrote w)

-- the error of a run that stopped while it read
pub read_stopped : (fault : ScriptFault) (reads r r₁ r₂ w w' size : ℕ) → r₁ ≡ r → w' ≡ w → IsReadFault fault reads r₁ r₂ → IsRunFault fault reads r r₂ w w' size
read_stopped Read reads r r₁ r₂ w w' size e f h = (inl (subst (λ (n : ℕ). StopsReading reads n r₂) e h), f)
read_stopped Write reads r r₁ r₂ w w' size e f h = absurd h
read_stopped Memory reads r r₁ r₂ w w' size e f h = (h ∙ e, f)
read_stopped Cut reads r r₁ r₂ w w' size e f h = absurd h

-- the error of a run that stopped while it wrote
pub write_stopped : (fault : ScriptFault) (reads r r' w w₁ w₂ size : ℕ) → r' ≡ r → w₁ ≡ w → IsWriteFault fault w₁ w₂ → IsRunFault fault reads r r' w w₂ size
write_stopped Read reads r r' w w₁ w₂ size e f h = absurd h
write_stopped Write reads r r' w w₁ w₂ size e f h = (e, subst (λ (n : ℕ). FailsOnce n w₂) f h)
write_stopped Memory reads r r' w w₁ w₂ size e f h = (e, h ∙ f)
write_stopped Cut reads r r' w w₁ w₂ size e f h = absurd h

-- the error of a run that passes on a given error
pub run_failed : {T : Type 0} (result : Result T ScriptFault) (fault : ScriptFault) (reads r r' w w' size : ℕ) → IsErrAnd result (λ e. e ≡ fault) → IsRunFault fault reads r r' w w' size → RunCounts result reads r r' w w' size
run_failed (Ok x) fault reads r r' w w' size h q = absurd h
run_failed (Err e) fault reads r r' w w' size h q = subst (λ (f : ScriptFault). IsRunFault f reads r r' w w' size) (sym h) q
