use Rattle.proof_prelude.proofs.{◌+◌, sym, ap, ◌∙◌, subst}
use Rattle.couch_base.specs.{DatabaseValue}
use Rattle.couch_base.specs.declared.fault.Put.TheVariants as puts
use Rattle.repl_peer.specs.{Steps, cause_at, settling_at, stops_in}
use Rattle.repl_peer.specs.declared.fault.Reason.TheVariants as reasons
use Rattle.repl_peer.proofs.{IfErr_both, OnOk_then, arrives_by, indexes_by}
use Rattle.repl_peer.proofs.session.settle.settle_one.Goals as goal

pub returns-then-put_prepared-clause-settled : goal.returns-then-put_prepared-clause-settled
returns-then-put_prepared-clause-settled g c =
    let accepted = sym c.is_refused.ensures ∙ c.if-is_refused.false in
    let put = c.put_prepared.ensures.put c.if-put_prepared.true in
    arrives_by (g.F.WriteFilter.refuses c.args.filter.now) c.args.origin c.args.doc.now c.args.db.now c.put_prepared.new.self c.args.session.now _ (puts.Changed (c.args.db.now.update_seq + 1)) accepted put.0 put.1 c.arrive.ensures

pub returns-clause-settled : goal.returns-clause-settled
returns-clause-settled g c =
    let refuses = g.F.WriteFilter.refuses c.args.filter.now in
    let d = c.args.doc.now in
    let accepted = sym c.is_refused.ensures ∙ c.if-is_refused.false in
    let after = settling_at c.settle_accepted.new.db c.settle_accepted.new.session in
    OnOk_then c.settle_accepted.result
    (λ steps. subst (λ (db : DatabaseValue). Steps refuses c.args.origin d (settling_at db c.args.session.now) after) (c.put_prepared.ensures.unlike c.if-put_prepared.false) (steps refuses accepted))
    c.settle_accepted.ensures.settled

pub returns-clause-why : goal.returns-clause-why
returns-clause-why g c =
    let refuses = g.F.WriteFilter.refuses c.args.filter.now in
    let accepted = sym c.is_refused.ensures ∙ c.if-is_refused.false in
    IfErr_both c.settle_accepted.result
    (λ cause why again. why refuses accepted ∙ ap (λ (db : DatabaseValue). cause_at (stops_in refuses db c.args.doc.now)) (c.put_prepared.ensures.unlike c.if-put_prepared.false))
    c.settle_accepted.ensures.why c.settle_accepted.ensures.why

pub returns-then-is_refused-clause-indexed : goal.returns-then-is_refused-clause-indexed
returns-then-is_refused-clause-indexed g c = λ base h.
    let e = c.refuse.ensures in
    indexes_by c.refuse.result c.args.doc.now reasons.Filtered base c.args.ledgered.now c.refuse.new.ledgered _ c.refuse.new.session e.refused e.noted e.session e.index h
