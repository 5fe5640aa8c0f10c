use Rattle.std.proofs.Common.{append_assoc}
use Rattle.relay_requests.proofs.logs.put_position.Goals as goal

pub returns-clause-tokens : goal.returns-clause-tokens
returns-clause-tokens c = rw (c.in_ok-put_count.ensures.tokens, c.in_ok-put_member-2.ensures.tokens, c.in_ok-put_member.ensures.tokens) (simp append_assoc)
