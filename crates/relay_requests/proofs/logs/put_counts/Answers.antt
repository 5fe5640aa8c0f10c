use Rattle.std.proofs.Common.{append_assoc}
use Rattle.relay_requests.proofs.logs.put_counts.Goals as goal

pub returns-clause-tokens : goal.returns-clause-tokens
returns-clause-tokens c =
    rw (c.in_ok-put_count-5.ensures.tokens, c.in_ok-put_count-4.ensures.tokens, c.in_ok-put_count-3.ensures.tokens, c.in_ok-put_count-2.ensures.tokens, c.in_ok-put_count.ensures.tokens)
    (simp append_assoc)
