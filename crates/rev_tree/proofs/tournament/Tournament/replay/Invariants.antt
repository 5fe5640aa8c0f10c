-- all results but those of the match to be played are right
use Rattle.proof_prelude.proofs.{◌≡◌, ◌<◌, length}
use Rattle.rev_tree.specs.{IsPlayed}
use Rattle.rev_tree.proofs.tournament.Tournament.replay.Given as goal

abbrev pub invariant-loop-at : goal.invariant-loop-at
invariant-loop-at l = record {
  played : IsPlayed l.nodes l.self.winners.items l.self.entered l.at;
  entered : l.self.entered ≡ l.fn.self.entered;
  matches : length l.self.winners.items ≡ length l.fn.self.winners.items;
  low : l.at < length l.self.winners.items;
}

abbrev pub decreases-loop-at : goal.decreases-loop-at
decreases-loop-at l = l.at
