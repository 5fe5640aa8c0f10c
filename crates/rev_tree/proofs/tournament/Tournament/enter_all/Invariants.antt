-- the nodes so far take part
use Rattle.proof_prelude.proofs.{◌≡◌, ◌≤◌, length}
use Rattle.rev_tree.specs.{IsPlayed}
use Rattle.rev_tree.proofs.tournament.Tournament.enter_all.Given as goal

abbrev pub invariant-loop-place : goal.invariant-loop-place
invariant-loop-place l = record {
  played : IsPlayed l.nodes l.self.winners.items l.self.entered 0;
  entered : l.self.entered ≡ l.place;
  all : length l.nodes ≤ length l.self.winners.items;
  matches : 2 ≤ length l.self.winners.items;
}
