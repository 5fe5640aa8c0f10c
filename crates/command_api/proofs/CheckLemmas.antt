-- Checks in order.
use Rattle.proof_prelude.proofs.{◌≡◌, ℕ, List, Option, Some, None, Result, Ok, Err, refl, ap}
use Rattle.repl_peer.specs.{PeerValue}
use Rattle.script_databases.specs.{State, peer_at, Refusal}
use Rattle.rev_core.specs.{◌>>=◌, or_refused}
use Rattle.command_api.specs.{database_of}
use Rattle.script_databases.proofs.{same_Ok}
use Rattle.script_databases.specs.declared.refusal.Refusal.TheVariants as why

-- a check that passes, and the next one
pub bound : {A B : Type 0} (r : Result A Refusal) (f : A → Result B Refusal) (y : B) → (r >>= f) ≡ Ok y → (x : A) × (r ≡ Ok x) × (f x ≡ Ok y)
bound (Ok x) f y e = (x, refl, e)
bound (Err refusal) f y e = cc

-- a database that is found
pub found : (s : State) (name : List ℕ) (p : PeerValue) → database_of s name ≡ Ok p → peer_at s name ≡ Some p
found s name p e = go (peer_at s name) e
  where
    go : (o : Option PeerValue) → or_refused why.NoDatabase o ≡ Ok p → o ≡ Some p
    go None k = cc
    go (Some q) k = ap Some (same_Ok q p k)
