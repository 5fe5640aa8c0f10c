-- all nodes take part
use Rattle.proof_prelude.proofs.{◌≡◌, ◌≤◌, length}
use Rattle.rev_tree.specs.{IsPlayed}
use Rattle.rev_tree.proofs.tournament.Tournament.first.Given as goal

abbrev pub invariant-loop : goal.invariant-loop
invariant-loop l = record {
  played : IsPlayed l.nodes l.self.winners.items l.self.entered 0;
  entered : l.self.entered ≡ length l.nodes;
  matches : 2 ≤ length l.self.winners.items;
}
