use Rattle.diagrams.proofs.OpenRows.{HasEdges}
use Rattle.diagrams.proofs.rows.set_edges.Given as goal

abbrev pub invariant-loop-i : goal.invariant-loop-i
invariant-loop-i l = HasEdges l.initial.rows.items l.rows.items l.i l.edges.items

abbrev pub decreases-loop-i : goal.decreases-loop-i
decreases-loop-i l = l.i
