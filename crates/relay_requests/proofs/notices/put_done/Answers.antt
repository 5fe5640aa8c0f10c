use Rattle.std.proofs.Common.{append_assoc}
use Rattle.relay_requests.proofs.notices.put_done.Goals as goal

pub returns-clause-tokens : goal.returns-clause-tokens
returns-clause-tokens c =
    rw (c.in_ok-end_object.ensures.ok, c.in_ok-put_counts.ensures.tokens, c.in_ok-put_position.ensures.tokens, c.in_ok-put_ok.ensures.tokens, c.in_ok-begin_object.ensures.ok)
    (simp append_assoc)
