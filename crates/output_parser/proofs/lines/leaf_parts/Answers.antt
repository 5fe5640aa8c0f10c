use Rattle.output_parser.proofs.{if_none, leaf_none}
use Rattle.output_parser.proofs.lines.leaf_parts.Goals as goal

pub returns-in_err-list-clause-none : goal.returns-in_err-list-clause-none
returns-in_err-list-clause-none c =
    if_none c.from_residual-in_err-list.result _
    (leaf_none c.args.line.now c.in_ok-rest.rest.now c.in_ok-own.own.now c.in_ok-own.rest.now c.in_ok-rest.ensures.some
    c.in_ok-own.ensures.some.0 c.in_ok-own.ensures.some.1 c.in_default.ensures.none c.in_err-list.ensures.none)
