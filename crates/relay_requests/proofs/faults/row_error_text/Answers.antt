use Rattle.std.proofs.Common.{rules, append_assoc}
use Rattle.relay_requests.proofs.faults.row_error_text.Goals as goal

pub returns-in-Some : goal.returns-in-Some
returns-in-Some c = rw (c.in-Some.is) (simp append_assoc (search rules))
