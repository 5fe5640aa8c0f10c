use Rattle.std.proofs.Common.{rules, append_assoc}
use Rattle.relay_requests.proofs.faults.fault_text.Goals as goal

pub returns-in-Status : goal.returns-in-Status
returns-in-Status c = rw (c.in-Status.is) (simp append_assoc (search rules))

pub returns-in_ok-id-in-Refused : goal.returns-in_ok-id-in-Refused
returns-in_ok-id-in-Refused c = rw (c.in-Refused.is) (simp append_assoc (search rules))
