use Rattle.proof_prelude.proofs.{◌≡◌, ℕ, List, drop}
use Rattle.repl_peer.specs.{BackupValue, PeerValue}
use Rattle.repl_network.specs.{peers_of, filters_of, AreTied, IsNet, AllHopped, StaysMade}
use Rattle.repl_network.proofs.{IsOnTheWay}
use Rattle.repl_network.proofs.along.replicate_along.Given as goal

-- the remaining hops, applied to the current peers, have the effect of all hops on the original ones
abbrev pub invariant-loop-at : goal.invariant-loop-at
invariant-loop-at g l =
    (AreTied (peers_of l.initial.peers) → AreTied (peers_of l.peers))
    × ((backups : List (ℕ × BackupValue)) → IsNet backups (peers_of l.initial.peers) → IsNet backups (peers_of l.peers))
    × StaysMade (peers_of l.initial.peers) (peers_of l.peers)
    × ((end : List PeerValue) → AllHopped (peers_of l.peers) (drop l.at l.hops) end → AllHopped (peers_of l.initial.peers) l.hops end)
    × (filters_of l.peers ≡ filters_of l.initial.peers)
    × IsOnTheWay g.F.WriteFilter.refuses l.initial.peers l.at l.peers l.hops
