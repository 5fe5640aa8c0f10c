use Rattle.proof_prelude.proofs.{◌≤◌, length, ap, subst, ◌∙◌}
use Rattle.rev_core.proofs.{few}
use Rattle.rev_core.proofs.short_sig.ShortSig.of.Goals as goal

pub returns-clause-text : goal.returns-clause-text
returns-clause-text c =
    let size = ap length c.bytes-text.ensures.text in
    few c.args.sig.now c.new-2.result.len c.new-2.result.front c.new-2.result.back c.bytes-text.ensures.sig
    (subst (λ n. n ≤ 16) size c.if-text-gt-ROOM.false) (c.new-2.ensures.len ∙ size) (c.new-2.ensures.bytes ∙ c.front.ensures)
