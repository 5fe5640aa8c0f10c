use Rattle.proof_prelude.proofs.{◌≡◌, Some, OnOk, IfErr, slice_get, drop, sym, ap, ◌∙◌, subst}
use Rattle.couch_base.specs.{WindowValue}
use Rattle.repl_peer.specs.{SessionValue, session_value, Halts, IndexesMore, Reached, ReachedAll, Settling, settling_at, Cause}
use Rattle.repl_peer.proofs.{halts_first, halts_none, halts_stop, IfErr_both}
use Rattle.repl_peer.proofs.session.settle.settle_in_order.Goals as goal
use Rattle.repl_peer.proofs.session.settle.settle_in_order.Goals.{in-Some, in-None}

pub settle_each-requires-clause-rows : goal.settle_each-requires-clause-rows
settle_each-requires-clause-rows g c =
    let stored = c.requires.rows in
    (stored.0, subst (λ (s : SessionValue). slice_get s.windows c.args.place ≡ Some stored.0) (sym c.session.view_is) stored.1, stored.2)

pub returns-in-Err-clause-why : goal.returns-in-Err-clause-why
returns-in-Err-clause-why g c = λ w is.
    let refuses = g.F.WriteFilter.refuses c.args.filter.now in
    let before : Settling = settling_at c.args.db.now c.args.session.now in
    let docs = c.args.docs.now in
    elim c.match-first.branch as (λ _. Halts refuses w before docs 0 c.match-first.cause) [
      | in-Some x ↦ halts_first refuses w before docs x.in-Some.doc.now c.match-first.cause (sym x.in-Some.ensures.value) (x.cause-is ∙ x.cause_of-cause.ensures)
      | in-None x ↦
          subst (λ (cause : Cause). Halts refuses w before docs 0 cause) (sym (x.cause-is ∙ x.from-cause.ensures))
          (halts_none refuses w before docs (sym x.in-None.ensures.value))
    ]

pub returns-clause-ok : goal.returns-clause-ok
returns-clause-ok g c =
    let refuses = g.F.WriteFilter.refuses c.args.filter.now in
    let after : Settling = settling_at c.settle_each.new.db c.settle_each.new.session in
    let kept : record (session_value c.session.inside) { front = c.reserve.new.self.front } ≡ c.args.session.now =
    (λ i. record (session_value c.session.inside) { front = c.reserve.ensures.kept i }) ∙ c.session.view_is in
    subst (λ (s : SessionValue). OnOk c.settle_each.result ((w : WindowValue) → slice_get s.windows c.args.place ≡ Some w → ReachedAll refuses w (settling_at c.args.db.now s) c.args.docs.now after)) kept
    c.settle_each.ensures.ok

pub returns-clause-reached : goal.returns-clause-reached
returns-clause-reached g c =
    let refuses = g.F.WriteFilter.refuses c.args.filter.now in
    let docs = c.args.docs.now in
    let after : Settling = settling_at c.settle_each.new.db c.settle_each.new.session in
    let kept : record (session_value c.session.inside) { front = c.reserve.new.self.front } ≡ c.args.session.now =
    (λ i. record (session_value c.session.inside) { front = c.reserve.ensures.kept i }) ∙ c.session.view_is in
    subst (λ (s : SessionValue). IfErr c.settle_each.result (λ stop. (w : WindowValue) → slice_get s.windows c.args.place ≡ Some w → Reached refuses w (settling_at c.args.db.now s) docs stop.settled (drop stop.settled docs) after)) kept
    c.settle_each.ensures.reached

pub returns-clause-why : goal.returns-clause-why
returns-clause-why g c =
    let refuses = g.F.WriteFilter.refuses c.args.filter.now in
    let docs = c.args.docs.now in
    let kept : record (session_value c.session.inside) { front = c.reserve.new.self.front } ≡ c.args.session.now =
    (λ i. record (session_value c.session.inside) { front = c.reserve.ensures.kept i }) ∙ c.session.view_is in
    IfErr_both c.settle_each.result
    (λ stop reached why w is.
    halts_stop refuses w _ _ _ docs stop.settled stop.cause (ap (settling_at c.args.db.now) kept) (reached w (ap (λ (s : SessionValue). slice_get s.windows c.args.place) kept ∙ is)) why)
    c.settle_each.ensures.reached c.settle_each.ensures.why

pub returns-clause-indexed : goal.returns-clause-indexed
returns-clause-indexed g c = λ base h.
    c.settle_each.ensures.indexed base (subst (λ (s : SessionValue). IndexesMore base s.ledger c.args.ledgered.now) (sym c.session.view_is) h)
