use Rattle.proof_prelude.proofs.{◌+◌, Ok, drop, sym, ap, ◌∙◌, take_rest}
use Rattle.rev_core.specs.{sig_read, cut_at, with_sig, rev_text-read}
use Rattle.rev_core.proofs.{with_read}
use Rattle.rev_core.proofs.rev.Rev.parse.Goals as goal

-- the first `-`, the generation before it and the signature after it
pub returns-in-Ok-clause-read : goal.returns-in-Ok-clause-read
returns-in-Ok-clause-read c =
    let text = c.args.text.now in
    let dash = c.in-Some.dash in
    let generation = c.in-Some-generation_of.generation in
    ap Ok c.new.ensures.parts
    ∙ sym (ap (cut_at text) (sym c.first_dash.ensures ∙ c.in-Some.is)
    ∙ ap (λ n. with_sig n (drop (dash + 1) text)) (sym c.generation_of.ensures.value ∙ c.in-Some-generation_of.is)
    ∙ with_read generation (drop (dash + 1) text) c.in-Ok.sig (ap sig_read (sym (take_rest text (dash + 1))) ∙ sym c.parse.ensures ∙ c.in-Ok.is))

pub returns-in-Ok-clause-own_text : goal.returns-in-Ok-clause-own_text
returns-in-Ok-clause-own_text c = rev_text-read c.args.text.now c.new.result (sym (returns-in-Ok-clause-read c))
