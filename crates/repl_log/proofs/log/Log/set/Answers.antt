use Rattle.proof_prelude.proofs.{sym, ap, ◌∙◌, subst}
use Rattle.repl_log.proofs.{logged, Lawful, entered}
use Rattle.repl_log.proofs.log.Log.set.Goals as goal

kept : (c : goal.In_ok-insert) → Lawful c.insert.new.self.entries
kept c = subst Lawful (sym c.in_ok-insert.ensures.entries) (entered c.self.inside.entries c.args.entry c.self.invariant c.len-len.ensures.unique).0

pub invariant_of-self-2 : goal.invariant_of-self-2
invariant_of-self-2 c = kept c

pub returns-clause-ok : goal.returns-clause-ok
returns-clause-ok c =
    rw (← c.self.view_is) (ap logged c.in_ok-insert.ensures.entries ∙ (entered c.self.inside.entries c.args.entry c.self.invariant c.len-len.ensures.unique).1)

pub returns-clause-log : goal.returns-clause-log
returns-clause-log c = (kept c).0
