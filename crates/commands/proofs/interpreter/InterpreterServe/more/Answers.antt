use Rattle.read_commands.proofs.{piece_given, piece_some}
use Rattle.commands.proofs.interpreter.InterpreterServe.more.Goals as goal

pub returns-clause-piece : goal.returns-clause-piece
returns-clause-piece g c = piece_given _ c.args.self.now c.args.rest.now c.more.new.self c.args.piece.now.items c.more.new.piece.items c.more.result c.self.view_is c.requires.empty c.more.ensures.piece

pub returns-clause-some : goal.returns-clause-some
returns-clause-some g c = piece_some _ c.args.self.now c.more.new.self c.more.new.piece.items c.more.result c.self.view_is c.more.ensures.some
