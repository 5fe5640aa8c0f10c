use Rattle.proof_prelude.proofs.{sym}
use Rattle.repl_log.proofs.{copied_next}
use Rattle.repl_log.proofs.logs.Logs.copy.Goals as goal

pub loop-place-preserved : goal.loop-place-preserved
loop-place-preserved c =
    let l = c.loop-place in
    copied_next c.self.inside.logs.entries l.logs.entries c.insert.new.self.entries l.place c.in_ok-rep.rep c.in_ok-rep.log (c.in-Some.rep.now, c.in-Some.log.now) c.len-place-end.ensures.unique (sym c.in-Some.ensures.entry) c.in_ok-rep.ensures.copied.0 c.in_ok-rep.ensures.copied.1 l.invariant c.in_ok-insert.ensures.entries
