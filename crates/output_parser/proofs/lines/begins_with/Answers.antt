use Rattle.proof_prelude.proofs.{sym, ◌∙◌, arith, rules, common_steps}
use Rattle.output_parser.proofs.{begins_bad, begins_no, begins_yes}
use Rattle.output_parser.proofs.lines.begins_with.Goals as goal

pub returns-clause-yes : goal.returns-clause-yes
returns-clause-yes c =
    λ e. begins_yes c.args.revs.now c.index-revs-0.result c.in-Some.own c.args.own.now (first_of (search rules, grind (arith, common_steps))) c.index-revs-0.is
    c.in-Some.ensures.some.0 (sym c.eq.ensures ∙ e)

pub returns-clause-no : goal.returns-clause-no
returns-clause-no c =
    λ e each h. begins_no c.args.revs.now c.index-revs-0.result c.in-Some.own c.args.own.now c.index-revs-0.is c.in-Some.ensures.some
    (sym c.eq.ensures ∙ e) each h

pub returns-in_default-clause-no : goal.returns-in_default-clause-no
returns-in_default-clause-no c = λ e each h. begins_bad c.args.revs.now c.args.own.now c.in_default.ensures.none each h
