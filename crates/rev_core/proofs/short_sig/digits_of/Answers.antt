use Rattle.proof_prelude.proofs.{◌≡◌, ◌++◌, ◌∷◌, [], get_or, sym, ◌∙◌, arith, take_more, take_more_set, length-set, take_all}
use Rattle.rev_core.specs.{digits_of}
use Rattle.rev_core.proofs.{high_at, low_at, length-digits_of}
use Rattle.rev_core.proofs.short_sig.digits_of.Goals.{then-i-lt-ROOM, else-i-lt-ROOM}
use Rattle.rev_core.proofs.short_sig.digits_of.Goals as goal

-- one more digit
pub loop-i-preserved : goal.loop-i-preserved
loop-i-preserved c =
    let bytes = c.args.bytes.now in
    let i = c.loop-i.i in
    let size = length-digits_of bytes c.told-bytes in
    let digit : c.if-i-lt-ROOM.text ≡ get_or (digits_of bytes) i 0 = elim c.if-i-lt-ROOM.branch [
      | then-i-lt-ROOM w ↦ w.text-is ∙ w.digit_of.ensures ∙ sym (high_at bytes i c.told-bytes (omega arith))
      | else-i-lt-ROOM w ↦ w.text-is ∙ w.digit_of-else-i-lt-ROOM.ensures ∙ sym (low_at bytes i c.told-bytes (omega arith) (omega arith))
    ] in (
      length-set c.loop-i.text i c.if-i-lt-ROOM.text ∙ c.loop-i.invariant.0,
      take_more_set c.loop-i.text i c.if-i-lt-ROOM.text (omega (arith, c.loop-i.invariant.0))
          ∙ (λ j. c.loop-i.invariant.1 j ++ digit j ∷ [])
          ∙ sym (take_more (digits_of bytes) i 0 (omega (arith, size))),
    )

pub returns : goal.returns
returns c =
    let size = length-digits_of c.args.bytes.now c.told-bytes in
    sym (take_all c.loop-i.i c.loop-i.text (omega (arith, c.loop-i.invariant.0)))
    ∙ c.loop-i.invariant.1
    ∙ take_all c.loop-i.i (digits_of c.args.bytes.now) (omega (arith, size))
