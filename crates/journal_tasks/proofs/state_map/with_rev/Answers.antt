use Rattle.proof_prelude.proofs.{ap, refl, ◌∙◌, bytes_eq, list_any, string_bytes}
use Rattle.journal_tasks.proofs.{rev_added, rev_kept, rev_known}
use Rattle.journal_tasks.proofs.state_map.with_rev.Goals as goal

pub returns-then-state : goal.returns-then-state
returns-then-state c = rev_kept c.args.state c.args.rev.now c.if-state.true

pub returns-then-has_rev : goal.returns-then-has_rev
returns-then-has_rev c =
    rev_known c.args.state c.args.rev.now c.has_rev.result c.if-state.false (c.has_rev.ensures ∙ ap (list_any (λ known. bytes_eq c.args.rev.now (string_bytes known))) c.as_slice.ensures.value) c.if-has_rev.true

pub returns : goal.returns
returns c =
    rev_added c.args.state (record { seq = c.args.state.seq; revs = c.push.new.self; named = c.args.state.named }) c.in_ok-from_str.field-0 c.args.rev.now c.has_rev.result c.if-state.false
    (c.has_rev.ensures ∙ ap (list_any (λ known. bytes_eq c.args.rev.now (string_bytes known))) c.as_slice.ensures.value) c.if-has_rev.false c.in_ok-from_str.ensures.ok refl refl c.in_ok-push.ensures.items
