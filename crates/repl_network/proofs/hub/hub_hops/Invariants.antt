use Rattle.proof_prelude.proofs.{◌≡◌, ◌++◌, take}
use Rattle.repl_network.specs.{gathers, spreads}
use Rattle.repl_network.proofs.hub.hub_hops.Given as goal

-- the hops of the plans so far
abbrev pub invariant-loop-place : goal.invariant-loop-place
invariant-loop-place l = l.hops.items ≡ gathers 0 (take l.place l.there)

abbrev pub invariant-loop-place-2 : goal.invariant-loop-place-2
invariant-loop-place-2 l = l.hops.items ≡ gathers 0 l.there ++ spreads 0 (take l.place l.back)
