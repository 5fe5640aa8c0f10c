use Rattle.proof_prelude.proofs.{refl, err_from_is_err_and, Appends-nil}
use Rattle.script_engine.specs.declared.fault.ScriptFault.TheVariants.{Memory}
use Rattle.response_output.proofs.{Begins-nothing, Begins-told, Breaks-rest, Feeds-rest, Feeds-told, ended_rest, found_told, part_read}
use Rattle.response_output.proofs.run.feed_part.Goals as goal

pub returns-in-Ok-clause-ok : goal.returns-in-Ok-clause-ok
returns-in-Ok-clause-ok g c = λ s part t.
    let e = c.in_ok-count.ensures in
    let p = c.first_part.ensures in
    let yes = c.ends_front.ensures in
    let x = part_read c.in_ok-count.count c.first_part.result.now c.args.bytes.now e.some e.within p.within p.front t e.state e.pieces e.first in
    Feeds-rest (ended_rest x.0 (yes.found c.if-ends_front.true) (yes.some c.if-ends_front.true) c.in-Ok.ensures.begins) c.in-Ok.ensures.ended c.in-Ok.ensures.written c.in-Ok.ensures.words

pub returns-in-Err-clause-err : goal.returns-in-Err-clause-err
returns-in-Err-clause-err g c = λ s part t.
    let e = c.in_ok-count.ensures in
    let p = c.first_part.ensures in
    let yes = c.ends_front.ensures in
    let x = part_read c.in_ok-count.count c.first_part.result.now c.args.bytes.now e.some e.within p.within p.front t e.state e.pieces e.first in
    Breaks-rest _ _ c.in-Err.fault c.in_ok-count.count c.args.bytes.now e.some x.1 x.2 t x.0 (yes.found c.if-ends_front.true) (yes.some c.if-ends_front.true) c.in-Err.ensures.err

pub returns-in-Ok-tell-clause-ok : goal.returns-in-Ok-tell-clause-ok
returns-in-Ok-tell-clause-ok g c = λ s part t.
    let e = c.in_ok-count.ensures in
    let p = c.first_part.ensures in
    let x = part_read c.in_ok-count.count c.first_part.result.now c.args.bytes.now e.some e.within p.within p.front t e.state e.pieces e.first in
    Feeds-told (found_told x.0 (c.ends_front.ensures.other c.if-ends_front.false)) c.in-Ok-tell.ensures.written c.in-Ok-tell.ensures.words

pub returns-in-Err-tell-clause-err : goal.returns-in-Err-tell-clause-err
returns-in-Err-tell-clause-err g c = λ s part t.
    let e = c.in_ok-count.ensures in
    let p = c.first_part.ensures in
    let x = part_read c.in_ok-count.count c.first_part.result.now c.args.bytes.now e.some e.within p.within p.front t e.state e.pieces e.first in
    Begins-told c.in-Err-tell.fault c.in_ok-count.count c.args.bytes.now t (found_told x.0 (c.ends_front.ensures.other c.if-ends_front.false)) c.in-Err-tell.ensures.err

pub returns-in_err-count-clause-err : goal.returns-in_err-count-clause-err
returns-in_err-count-clause-err g c = λ s part t.
    let p = err_from_is_err_and c.from_residual.result c.from_residual.ensures.1 in
    let held = g.W.ScriptWrite.held c.args.writer.now in
    rw (p.1, p.2) (Begins-nothing Memory c.args.bytes.now held held t (Appends-nil held) refl)
