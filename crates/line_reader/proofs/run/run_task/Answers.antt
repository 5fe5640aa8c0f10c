use Rattle.proof_prelude.proofs.{◌++◌, [], refl, sym, ap, ◌∙◌, subst, append-nil, true≢false, false, Appends, Appends-kept, Appends-nil, Appends-trans, Consumes-nil, Consumes-trans, Consumes-kept}
use Rattle.script_engine.specs.{counted, chunk_of, Gives}
use Rattle.script_engine.proofs.{a_chunk, no_chunk, Gives-end}
use Rattle.line_reader.proofs.{HasRun-none, HasRun-stopped, IsDone-given, IsStopped-given, on_err, on_err_map, on_ok}
use Rattle.line_reader.proofs.run.run_task.Goals as goal

pub loop-more-init : goal.loop-more-init
loop-more-init g c = record {
  taken = [];
  consumes = Consumes-nil (g.R.ScriptRead.left c.args.reader.now);
  took = Appends-nil (g.R.ScriptRead.taken c.args.reader.now);
  run = HasRun-none c.args.task.now (g.W.ScriptWrite.held c.args.writer.now) c.new-2.result.items c.new-2.ensures.items;
  chunks = c.in_ok-chunks.ensures.room;
  reads = record { made = ap (counted (g.R.ScriptRead.reads c.args.reader.now)) (sym c.in_ok-chunks.ensures.begun); unfailing = refl };
  writer = refl;
}

pub returns-then-not-more-clause-ok : goal.returns-then-not-more-clause-ok
returns-then-not-more-clause-ok g c =
    let i = c.loop-more.invariant in
    let left = g.R.ScriptRead.left c.args.reader.now in
    let at = g.R.ScriptRead.left c.loop-more.reader in
    let end = g.R.ScriptRead.left c.next.new.reader in
    let none = no_chunk at end (chunk_of c.next.new.self) c.if-not-more.true c.in-Ok.ensures.chunk in
    let gives = Gives-end left end i.taken (Consumes-kept left at end i.taken i.consumes none.0) none.1 in
    on_ok c.finish.result (λ f. IsDone-given (Gives left) gives (f c.args.task.now (g.W.ScriptWrite.held c.args.writer.now) i.taken i.run)) c.finish.ensures.ok

pub returns-then-not-more-clause-took : goal.returns-then-not-more-clause-took
returns-then-not-more-clause-took g c =
    let i = c.loop-more.invariant in
    let taken = g.R.ScriptRead.taken c.args.reader.now in
    let end = g.R.ScriptRead.taken c.next.new.reader in
    let none = no_chunk (g.R.ScriptRead.left c.loop-more.reader) (g.R.ScriptRead.left c.next.new.reader) (chunk_of c.next.new.self) c.if-not-more.true c.in-Ok.ensures.chunk in
    let took : Appends taken end i.taken = subst (Appends taken end) (append-nil i.taken) (Appends-trans _ _ _ i.taken [] i.took (subst (Appends (g.R.ScriptRead.taken c.loop-more.reader) end) none.2 c.in-Ok.ensures.took)) in
    on_ok c.finish.result (λ f. IsDone-given (Appends taken end) took (f c.args.task.now (g.W.ScriptWrite.held c.args.writer.now) i.taken i.run)) c.finish.ensures.ok

pub loop-more-preserved : goal.loop-more-preserved
loop-more-preserved g c =
    let i = c.loop-more.invariant in
    let some = a_chunk (g.R.ScriptRead.left c.loop-more.reader) (g.R.ScriptRead.left c.next.new.reader) (chunk_of c.next.new.self) c.bytes.result.now c.if-not-more.false c.bytes.ensures c.in-Ok.ensures.chunk in
    record {
      taken = i.taken ++ c.bytes.result.now;
      consumes = Consumes-trans _ _ _ i.taken c.bytes.result.now i.consumes some.0;
      took = Appends-trans _ _ _ i.taken c.bytes.result.now i.took (subst (Appends (g.R.ScriptRead.taken c.loop-more.reader) (g.R.ScriptRead.taken c.next.new.reader)) (sym c.bytes.ensures) c.in-Ok.ensures.took);
      run = c.in-Ok-feed.ensures.ok _ _ _ i.run;
      chunks = c.in-Ok.ensures.room;
      reads = c.in-Ok.ensures.reads _ _ i.reads;
      writer = c.in-Ok-feed.ensures.counted ∙ i.writer;
    }

pub returns-in_err-chunks-clause-stopped : goal.returns-in_err-chunks-clause-stopped
returns-in_err-chunks-clause-stopped g c =
    let taken = g.R.ScriptRead.taken c.args.reader.now in
    on_err c.from_residual.result
    (false, λ e. absurd (true≢false (sym e)), HasRun-stopped g.T.LineTask.ends [] (Appends taken taken) (Appends-nil taken) (HasRun-none {steps = g.T.LineTask.steps} c.args.task.now (g.W.ScriptWrite.held c.args.writer.now) [] refl))

pub returns-in-Err-clause-stopped : goal.returns-in-Err-clause-stopped
returns-in-Err-clause-stopped g c =
    let i = c.loop-more.invariant in
    let taken = g.R.ScriptRead.taken c.args.reader.now in
    let end = g.R.ScriptRead.taken c.next.new.reader in
    let took = Appends-kept taken (g.R.ScriptRead.taken c.loop-more.reader) end i.taken i.took c.in-Err.ensures.none_taken in
    (false, λ e. absurd (true≢false (sym e)), HasRun-stopped g.T.LineTask.ends [] (Appends taken end) (subst (Appends taken end) (sym (append-nil i.taken)) took) i.run)

pub returns-then-not-more-clause-stopped : goal.returns-then-not-more-clause-stopped
returns-then-not-more-clause-stopped g c =
    let i = c.loop-more.invariant in
    let taken = g.R.ScriptRead.taken c.args.reader.now in
    let end = g.R.ScriptRead.taken c.next.new.reader in
    let none = no_chunk (g.R.ScriptRead.left c.loop-more.reader) (g.R.ScriptRead.left c.next.new.reader) (chunk_of c.next.new.self) c.if-not-more.true c.in-Ok.ensures.chunk in
    let took : Appends taken end i.taken = subst (Appends taken end) (append-nil i.taken) (Appends-trans _ _ _ i.taken [] i.took (subst (Appends (g.R.ScriptRead.taken c.loop-more.reader) end) none.2 c.in-Ok.ensures.took)) in
    on_err_map c.finish.result
    (λ f.
    let s = f c.args.task.now (g.W.ScriptWrite.held c.args.writer.now) i.taken i.run in
    (s.0, λ e. c.in-Ok.ensures.ended c.if-not-more.true, IsStopped-given (Appends taken end) took s.1))
    c.finish.ensures.err

pub returns-in-Err-feed-clause-stopped : goal.returns-in-Err-feed-clause-stopped
returns-in-Err-feed-clause-stopped g c =
    let i = c.loop-more.invariant in
    let taken = g.R.ScriptRead.taken c.args.reader.now in
    let end = g.R.ScriptRead.taken c.next.new.reader in
    let took = Appends-trans _ _ _ i.taken c.bytes.result.now i.took (subst (Appends (g.R.ScriptRead.taken c.loop-more.reader) end) (sym c.bytes.ensures) c.in-Ok.ensures.took) in
    (false, λ e. absurd (true≢false (sym e)), IsStopped-given (Appends taken end) took (c.in-Err-feed.ensures.err _ _ _ i.run))
