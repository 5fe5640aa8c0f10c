use Rattle.rev_core.specs.{rev_read-text}
use Rattle.rev_core.proofs.rev.Rev.write.Goals as goal

pub returns-in_err-format-clause-parses_back : goal.returns-in_err-format-clause-parses_back
returns-in_err-format-clause-parses_back c = rev_read-text c.args.self.now c.generation-generation.ensures.is_rev

pub returns-in_err-extend_from_slice-clause-parses_back : goal.returns-in_err-extend_from_slice-clause-parses_back
returns-in_err-extend_from_slice-clause-parses_back c = rev_read-text c.args.self.now c.generation-generation.ensures.is_rev

pub returns-clause-parses_back : goal.returns-clause-parses_back
returns-clause-parses_back c = rev_read-text c.args.self.now c.generation-generation.ensures.is_rev
