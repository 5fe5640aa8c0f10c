use Rattle.proof_prelude.proofs.{ℕ, ◌+◌, ◌-◌, ◌^◌, min, ap, sym, subst, string_bytes, ◌∙◌}
use Rattle.relay_core.specs.Known.{begin_of, IsReachedFrom}
use Rattle.relay_core.proofs.pages.accounted.Goals as goal

pub returns : goal.returns
returns c = λ h r.
    c.onward.ensures h
    (subst (λ (n : ℕ). IsReachedFrom h (begin_of c.args.run) (string_bytes c.args.end.last_seq) n)
    (sym (c.counted-counts.ensures ∙ ap (λ (k : ℕ). min (c.args.run.counts.doc_write_failures + k) (2 ^ 64 - 1)) (c.len.ensures ∙ c.args.refused.ok.0))) r)
