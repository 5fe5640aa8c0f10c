use Rattle.std.proofs.Common.{append_assoc}
use Rattle.relay_requests.proofs.logs.put_entry.Goals as goal

pub returns-clause-tokens : goal.returns-clause-tokens
returns-clause-tokens c =
    rw (
      c.in_ok-end_object.ensures.ok,
      c.in_ok-put_counts.ensures.tokens,
      c.in_ok-put_member-6.ensures.tokens,
      c.in_ok-put_member-5.ensures.tokens,
      c.in_ok-put_member-4.ensures.tokens,
      c.in_ok-put_member-3.ensures.tokens,
      c.in_ok-put_member-2.ensures.tokens,
      c.in_ok-put_member.ensures.tokens,
      c.in_ok-begin_object.ensures.ok,
    )
    (simp (append_assoc, c.as_str.ensures.value, c.as_str-2.ensures.value, c.as_str-3.ensures.value, c.as_str-4.ensures.value, c.as_str-5.ensures.value))
