use Rattle.proof_prelude.proofs.{sym, subst, IsUtf8}
use Rattle.output_parser.proofs.{if_none, head_cut, head_is}
use Rattle.output_parser.proofs.logs.log_head.Goals as goal

pub returns-in_err-rest-clause-none : goal.returns-in_err-rest-clause-none
returns-in_err-rest-clause-none c =
    if_none c.from_residual.result _ (λ id text p. c.in_err-rest.ensures.none _ p.form)

pub returns-in_err-text-clause-none : goal.returns-in_err-text-clause-none
returns-in_err-text-clause-none c =
    if_none c.from_residual-in_err-text.result _
    (λ id text p.
    let cut = c.in_ok-id.ensures.some in
    let is = head_cut c.args.line.now c.in_ok-rest.rest.now c.in_ok-id.id.now c.in_ok-id.rest.now id text c.in_ok-rest.ensures.some cut.0 cut.1 p in
    c.in_err-text.ensures.none text is.1)

pub returns-in-Ok-clause-some : goal.returns-in-Ok-clause-some
returns-in-Ok-clause-some c =
    let cut = c.in_ok-id.ensures.some in
    head_is c.args.line.now c.in_ok-rest.rest.now c.in_ok-id.id.now c.in_ok-id.rest.now c.in-Ok.id.now c.in_ok-text.text.now
    c.in_ok-rest.ensures.some cut.0 cut.1 c.in_ok-text.ensures.some c.in-Ok.ensures.cases.0 c.in-Ok.ensures.cases.1

pub returns-in-Err-clause-none : goal.returns-in-Err-clause-none
returns-in-Err-clause-none c =
    λ id text p.
    let cut = c.in_ok-id.ensures.some in
    let is = head_cut c.args.line.now c.in_ok-rest.rest.now c.in_ok-id.id.now c.in_ok-id.rest.now id text c.in_ok-rest.ensures.some cut.0 cut.1 p in
    c.in-Err.ensures.cases.0 (subst IsUtf8 (sym is.0) p.utf8)
