use Rattle.std.proofs.Common.{append_assoc}
use Rattle.relay_requests.proofs.logs.put_head.Goals as goal

pub returns-clause-tokens : goal.returns-clause-tokens
returns-clause-tokens c =
    rw (c.in_ok-begin_array.ensures.ok, c.in_ok-key.ensures.ok, c.in_ok-put_position.ensures.tokens, c.in_ok-put_rev.ensures.tokens, c.in_ok-begin_object.ensures.ok)
    (simp append_assoc)
