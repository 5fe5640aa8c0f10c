use Rattle.proof_prelude.proofs.{arith}
use Rattle.output_parser.specs.{EndsIn}
use Rattle.output_parser.proofs.{column_unique, drop_all, reads_all, reads_more, reads_none}
use Rattle.output_parser.proofs.rows.read_columns.Goals as goal

pub returns-in_default-clause-none : goal.returns-in_default-clause-none
returns-in_default-clause-none c =
    reads_none EndsIn c.args.columns.now c.args.text.now c.loop-i.rest.now c.loop-i.i _ c.loop-i.numbers.items (omega arith)
    c.loop-i.invariant c.in_default.ensures.none

pub loop-i-preserved : goal.loop-i-preserved
loop-i-preserved c =
    reads_more EndsIn column_unique c.args.columns.now c.args.text.now c.loop-i.rest.now c.in-Some.front.now c.loop-i.i _
    c.loop-i.numbers.items c.push.new.self.items c.in-Some.number (omega arith) c.loop-i.invariant
    c.in-Some.ensures.some c.in_ok-push.ensures.items

pub returns-clause-some : goal.returns-clause-some
returns-clause-some c = reads_all EndsIn c.args.columns.now c.args.text.now c.loop-i.rest.now _ c.loop-i.numbers.items
    (drop_all EndsIn c.args.columns.now c.loop-i.i (omega arith)) c.loop-i.invariant
