-- Defines replication through a hub, which is the first peer of a network.
use Rattle.std.specs.Prelude.{◌≡◌, ℕ, ◌+◌, true, List, [], ◌∷◌}
use Rattle.doc_json.specs.Chosen.{is_chosen}
use Rattle.couch_base.specs.Database.{Id}
use Rattle.repl_peer.specs.peer.Peer.{PeerValue}
use Rattle.repl_target.specs.declared.replication.Plan.{Plan}
use Rattle.repl_network.specs.declared.hop.Hop.{Hop}
use Rattle.repl_network.specs.Nets.{AllAgree, AllWhole, IsRefusedNowhere, IsSameEverywhere}

-- A hop (replication) for each plan of a list, in order. The function `hop` returns the hop for a peer's index and a
-- plan. The first plan belongs to the peer with index n + 1, and each further plan belongs to the next peer.
abbrev pub hops_of : (ℕ → Plan → Hop) → ℕ → List Plan → List Hop
hops_of hop n [] = []
hops_of hop n (plan ∷ plans) = hop (n + 1) plan ∷ hops_of hop (n + 1) plans

abbrev pub into_hub : ℕ → Plan → Hop
into_hub n plan = record { from = n; to = 0; plan = plan }

abbrev pub out_of_hub : ℕ → Plan → Hop
out_of_hub n plan = record { from = 0; to = n; plan = plan }

-- The hops (replications) into the hub from peer n + 1 and the following peers, one hop for each plan.
abbrev pub gathers : ℕ → List Plan → List Hop
gathers = hops_of into_hub

-- The hops (replications) from the hub into peer n + 1 and the following peers, one hop for each plan.
abbrev pub spreads : ℕ → List Plan → List Hop
spreads = hops_of out_of_hub

abbrev pub AllPlansChoose : List Plan → Id → Type 0
AllPlansChoose [] id = Unit {0}
AllPlansChoose (plan ∷ plans) id = (is_chosen plan.chosen id ≡ true) × AllPlansChoose plans id

-- All peers of the network have the same document `id`, and the document's trees agree and have complete histories.
pub record Shared (peers' : List PeerValue) (id : Id) : Type 0 where
  pub same : IsSameEverywhere peers' id
  pub agree : AllAgree peers' id
  pub whole : AllWhole peers' id

abbrev pub HubSpread : List PeerValue → List Plan → List Plan → List PeerValue → Type 0
HubSpread peers there back peers' =
    (id : Id) → AllPlansChoose there id → AllPlansChoose back id → IsRefusedNowhere peers' id
    → AllAgree peers id → AllWhole peers id → Shared peers' id
