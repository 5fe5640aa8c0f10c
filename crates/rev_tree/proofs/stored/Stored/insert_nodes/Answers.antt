use Rattle.rev_tree.proofs.stored.Stored.insert_nodes.Goals as goal
use Rattle.rev_tree.proofs.stored.Stored.insert_nodes.Goals.{in-Local, in-Feed, in-Each}

pub returns-clause-best : goal.returns-clause-best
returns-clause-best c =
    elim c.match-self.branch [
      | in-Local w ↦ rw (w.result-is, w.self-inside-is) w.insert_shared.ensures.best
      | in-Feed w ↦ rw (w.result-is, w.self-inside-is) w.insert_shared-in-Feed.ensures.best
      | in-Each w ↦ rw (w.result-is, w.self-inside-is) w.insert_shared-in-Each.ensures.best
    ]
