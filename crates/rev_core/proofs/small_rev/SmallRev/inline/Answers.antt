use Rattle.proof_prelude.proofs.{◌≡◌, ◌≤◌, length, sym, ap, ◌∙◌, subst, arith, take, ltb-false}
use Rattle.rev_core.specs.{IsRev, padded}
use Rattle.rev_core.proofs.{small_same, small_padded}
use Rattle.rev_core.proofs.small_rev.SmallRev.inline.Goals as goal

pub returns : goal.returns
returns c =
    let r = c.args.rev.now in
    let size = c.len.ensures ∙ ap length c.signature.ensures in
    let half = c.half.ensures ∙ ap (λ t. take 32 (padded t)) c.signature-2.ensures in
    small_same r c.generation.result c.len.result c.half.result c.generation.ensures.part size (ltb-false 32 (length r.sig) c.requires) half

pub invariant_of-result : goal.invariant_of-result
invariant_of-result c =
    let r = c.args.rev.now in
    let size = c.len.ensures ∙ ap length c.signature.ensures in
    let fits : length r.sig ≤ 32 = ltb-false 32 (length r.sig) c.requires in
    let half = c.half.ensures ∙ ap (λ t. take 32 (padded t)) c.signature-2.ensures in
    let same = small_same r c.generation.result c.len.result c.half.result c.generation.ensures.part size fits half in (
      subst IsRev (sym same) c.generation.ensures.is_rev,
      (omega (arith, size, fits), small_padded r c.generation.result c.len.result c.half.result c.generation.ensures.part size fits half),
    )
