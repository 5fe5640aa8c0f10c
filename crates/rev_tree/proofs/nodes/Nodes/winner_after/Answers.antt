use Rattle.rev_tree.proofs.{after_lookup}
use Rattle.rev_tree.proofs.nodes.Nodes.winner_after.Goals as goal

pub returns-in-Some-clause-winner : goal.returns-in-Some-clause-winner
returns-in-Some-clause-winner c t w h first before head adds = c.in-Some.ensures t w h first before head adds

pub returns-in-None-clause-winner : goal.returns-in-None-clause-winner
returns-in-None-clause-winner c t w h first before head adds = after_lookup c.args.self.now.items t h adds c.next_winner.result c.next_winner.ensures.first
