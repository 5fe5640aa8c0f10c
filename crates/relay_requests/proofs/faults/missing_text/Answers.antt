use Rattle.std.proofs.Common.{rules, append_assoc}
use Rattle.relay_requests.proofs.faults.missing_text.Goals as goal

pub returns : goal.returns
returns c = simp append_assoc (search rules)
