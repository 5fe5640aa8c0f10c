-- The result and the effect of settling a parcel.
use Rattle.proof_prelude.proofs.{◌≡◌, ℕ, ◌-◌, Bool, List, [], length, Result, Ok, Err, sym, ap, ◌∙◌, subst, arith}
use Rattle.std.specs.Global.{Vec}
use Rattle.rev_core.specs.{RevId}
use Rattle.doc_json.specs.Document.{Document}
use Rattle.couch_base.specs.{Id, DatabaseValue, WindowValue, ParcelValue}
use Rattle.range_front.specs.{finished}
use Rattle.repl_peer.specs.{SessionValue, Settling, Halts, settle_docs, leaf_count, asked_count, with_done, with_checked, Passes, Reached, ReachedAll, Marks, PartsSettled, PartsSettle, PartsGive, Cause, Settled, TargetFault}
use Rattle.repl_peer.specs.declared.fault.Cause.TheVariants as causes
use Rattle.repl_peer.specs.declared.fault.TargetFault.TheVariants as faults
use Rattle.repl_peer.proofs.lemmas.session.SettlingDocuments.{reached_whole, halts_end, grows}

pub gives_from : (refuses : Document → Bool) (known : Id → RevId → Bool) (before after : Settling) (parcel : ParcelValue) (place leaves asked : ℕ) (result : Result Settled TargetFault)
    → (p : Passes before.session parcel place leaves asked) → PartsSettled refuses known p.window before parcel result after → PartsGive refuses known before parcel result after
gives_from refuses known before after parcel place leaves asked result p h =
    subst (λ (r : Result (SessionValue × WindowValue) TargetFault). PartsSettle refuses known before parcel r result after) (sym p.answer) h

pub stopped : (refuses : Document → Bool) (known : Id → RevId → Bool) (w : WindowValue) (before after : Settling) (parcel : ParcelValue) (docs : List Document) (n : ℕ) (rest : Vec Document) (cause : Cause)
    → docs ≡ parcel.docs → Reached refuses w before docs n rest.items after → Halts refuses w before docs n cause
    → PartsSettled refuses known w before parcel (Err (faults.Stopped n rest cause)) after
stopped refuses known w before after parcel docs n rest cause same h why =
    (subst (λ (l : List Document). Reached refuses w before l n rest.items after) same h, subst (λ (l : List Document). Halts refuses w before l n cause) same why)

pub ended_err : (refuses : Document → Bool) (known : Id → RevId → Bool) (w : WindowValue) (before : Settling) (db : DatabaseValue) (mid t : SessionValue) (parcel : ParcelValue) (n leaves asked : ℕ) (fault : TargetFault)
    → ReachedAll refuses w before parcel.docs (record { db = db; session = mid }) → n ≡ length parcel.docs → Marks known w mid leaves asked n (Err fault) t
    → PartsSettled refuses known w before parcel (Err fault) (record { db = db; session = t })
ended_err refuses known w before db mid t parcel n leaves asked (faults.Uncovered seq id rev) h count e =
    (subst (λ (s : SessionValue). ReachedAll refuses w before parcel.docs (record { db = db; session = s })) (sym e.1) h, e.0)
ended_err refuses known w before db mid t parcel n leaves asked (faults.Stopped m rest causes.Memory) h count e =
    let whole = reached_whole refuses w before (record { db = db; session = mid }) parcel.docs h in
    let here : Reached refuses w before parcel.docs m [] (record { db = db; session = mid }) = subst (λ (k : ℕ). Reached refuses w before parcel.docs k [] (record { db = db; session = mid })) (sym (e.0 ∙ count)) whole in (
      subst (λ (s : SessionValue). Reached refuses w before parcel.docs m rest.items (record { db = db; session = s })) (sym e.2)
          (subst (λ (l : List Document). Reached refuses w before parcel.docs m l (record { db = db; session = mid })) (sym e.1) here),
      halts_end refuses w before (record { db = db; session = mid }) parcel.docs m here,
    )
ended_err refuses known w before db mid t parcel n leaves asked fault h count e = absurd e

pub ended_ok : (refuses : Document → Bool) (known : Id → RevId → Bool) (w : WindowValue) (before : Settling) (db : DatabaseValue) (mid t : SessionValue) (parcel : ParcelValue) (n leaves asked : ℕ) (settled : Settled) (tell : Unit {0})
    → ReachedAll refuses w before parcel.docs (record { db = db; session = mid }) → Marks known w mid leaves asked n (Ok tell) t
    → leaves ≡ leaf_count w → asked ≡ asked_count parcel.asked → settled.written ≡ mid.counts.written - before.session.counts.written → settled.failures ≡ mid.counts.failures - before.session.counts.failures
    → PartsSettled refuses known w before parcel (Ok settled) (record { db = db; session = t })
ended_ok refuses known w before db mid t parcel n leaves asked settled tell all e leafs asks wrote failed =
    let z = settle_docs refuses w before parcel.docs in
    let here : mid ≡ z.session = ap (λ (x : Settling). x.session) all.settling in
    let grown = grows refuses w before parcel.docs in
    let written : z.session.counts.written ≡ mid.counts.written = ap (λ (s : SessionValue). s.counts.written) (sym here) in
    let failures : z.session.counts.failures ≡ mid.counts.failures = ap (λ (s : SessionValue). s.counts.failures) (sym here) in
    let done : t ≡ with_done w parcel z.session =
    e.1 ∙ (λ i. let s : SessionValue = record (here i) { front = finished (here i).front w.lo w.hi; counts = with_checked (here i).counts (leafs i) (asks i) } in s) in
    record {
      all = all.all;
      settling = λ i. record { db = ap (λ (x : Settling). x.db) all.settling i; session = done i };
      covered = e.0;
      counts = record { written = omega (arith, written, wrote, grown.written); failures = omega (arith, failures, failed, grown.failures) };
    }
