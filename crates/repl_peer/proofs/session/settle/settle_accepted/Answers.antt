use Rattle.proof_prelude.proofs.{sym, ◌∙◌, rules}
use Rattle.repl_peer.specs.declared.fault.Reason.TheVariants as reasons
use Rattle.repl_peer.proofs.{arrives_by, indexes_by, stops_by}
use Rattle.repl_peer.proofs.session.settle.settle_accepted.Goals as goal

pub returns-in-Contradiction-clause-indexed : goal.returns-in-Contradiction-clause-indexed
returns-in-Contradiction-clause-indexed c = λ base h.
    let e = c.refuse.ensures in
    let arm = c.in-Contradiction in
    indexes_by c.refuse.result c.args.doc.now (reasons.Contradicting arm.child arm.known arm.given) base c.args.ledgered.now c.refuse.new.ledgered _ c.refuse.new.session e.refused e.noted e.session e.index h

pub returns-in_default : goal.returns-in_default
returns-in_default c = record {
  settled = tt;
  db = c.in-Err.ensures.err;
  session = search rules;
  why = λ refuses accepted. c.from.ensures ∙ stops_by refuses c.args.db.now c.args.doc.now c.in-Err.fault accepted c.in-Err.ensures.answer c.in_default.not-Contradiction;
  read = tt;
  front = search rules;
  windows = search rules;
  indexed = λ base h. h;
}

pub returns-in-Ok-clause-settled : goal.returns-in-Ok-clause-settled
returns-in-Ok-clause-settled c = λ refuses accepted.
    arrives_by refuses c.args.origin c.args.doc.now c.args.db.now c.put.new.self c.args.session.now _ c.in-Ok.field-0 accepted (sym c.in-Ok.ensures.answer) c.in-Ok.ensures.ok c.arrive.ensures
