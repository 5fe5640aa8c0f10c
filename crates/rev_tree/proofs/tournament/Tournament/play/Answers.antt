use Rattle.rev_tree.proofs.{played_again}
use Rattle.rev_tree.proofs.tournament.Tournament.play.Goals as goal

pub returns-clause-played : goal.returns-clause-played
returns-clause-played c =
    played_again c.args.nodes.now c.args.self.now.winners.items c.args.self.now.entered c.args.at c.better.result c.player-one.result c.player-other.result
    c.requires.played c.requires.between.0 c.requires.between.1 c.player-one.ensures c.player-other.ensures c.better.ensures
