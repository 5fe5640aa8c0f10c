use Rattle.proof_prelude.proofs.{sym, subst, IsUtf8}
use Rattle.output_parser.specs.{IsNumber}
use Rattle.output_parser.proofs.{if_none, doc_two, doc_one, doc_id}
use Rattle.output_parser.proofs.lines.read_doc.Goals as goal

pub returns-in_err-rest-3-clause-none : goal.returns-in_err-rest-3-clause-none
returns-in_err-rest-3-clause-none c =
    if_none c.from_residual-in_err-rest-3.result _
    (λ id count d.
    let cut = c.in_ok-rest-2.ensures.some in
    let two = doc_two c.args.line.now id count d c.in_ok-rest.rest.now c.in_ok-rest-2.rest.now c.in_ok-rest-2.field-0-1.now c.in_ok-rest.ensures.some cut.0 cut.1 in
    c.in_err-rest-3.ensures.none _ d.leaves d.leaves_word two)

pub returns-in_err-id-clause-none : goal.returns-in_err-id-clause-none
returns-in_err-id-clause-none c =
    if_none c.from_residual-in_err-id.result _
    (λ id count d.
    let cut = c.in_ok-rest-2.ensures.some in
    let two = doc_two c.args.line.now id count d c.in_ok-rest.rest.now c.in_ok-rest-2.rest.now c.in_ok-rest-2.field-0-1.now c.in_ok-rest.ensures.some cut.0 cut.1 in
    let leaves = c.in_ok-rest-3.ensures.some in
    let one = doc_one c.args.line.now id count d c.in_ok-rest-2.rest.now c.in_ok-rest-3.rest.now c.in_ok-rest-3.count.now two leaves.0 leaves.1 in
    c.in_err-id.ensures.none id d.winner d.winner_word one.0)

pub returns-in_err-count-clause-none : goal.returns-in_err-count-clause-none
returns-in_err-count-clause-none c =
    if_none c.from_residual-in_err-count.result _
    (λ id count d.
    let cut = c.in_ok-rest-2.ensures.some in
    let two = doc_two c.args.line.now id count d c.in_ok-rest.rest.now c.in_ok-rest-2.rest.now c.in_ok-rest-2.field-0-1.now c.in_ok-rest.ensures.some cut.0 cut.1 in
    let leaves = c.in_ok-rest-3.ensures.some in
    let one = doc_one c.args.line.now id count d c.in_ok-rest-2.rest.now c.in_ok-rest-3.rest.now c.in_ok-rest-3.count.now two leaves.0 leaves.1 in
    c.in_err-count.ensures.none count (subst (λ t. IsNumber t count) (sym one.1) d.counted))

pub returns-in-Err-clause-none : goal.returns-in-Err-clause-none
returns-in-Err-clause-none c =
    λ id count d.
    let cut = c.in_ok-rest-2.ensures.some in
    let two = doc_two c.args.line.now id count d c.in_ok-rest.rest.now c.in_ok-rest-2.rest.now c.in_ok-rest-2.field-0-1.now c.in_ok-rest.ensures.some cut.0 cut.1 in
    let leaves = c.in_ok-rest-3.ensures.some in
    let one = doc_one c.args.line.now id count d c.in_ok-rest-2.rest.now c.in_ok-rest-3.rest.now c.in_ok-rest-3.count.now two leaves.0 leaves.1 in
    let winner = c.in_ok-id.ensures.some in
    let is = doc_id c.args.line.now id count d c.in_ok-rest-3.rest.now c.in_ok-id.id.now c.in_ok-id.field-0-1.now one.0 winner.0 winner.1 in
    c.in-Err.ensures.cases.0 (subst IsUtf8 (sym is) d.utf8)
