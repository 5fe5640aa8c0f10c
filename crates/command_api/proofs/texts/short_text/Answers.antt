use Rattle.proof_prelude.proofs.{sym, ap, ◌∙◌, ◌∷◌, ◌++◌, ◌+◌, append-nil, arith, decimal_digit, length-take-le, take_all}
use Rattle.command_api.proofs.texts.short_text.Goals as goal

pub slice_bounds-bytes-end : goal.slice_bounds-bytes-end
slice_bounds-bytes-end c = sym (length-take-le 32 c.args.sig.now (omega (arith, c.requires.sig)))

pub copy_from_slice-requires : goal.copy_from_slice-requires
copy_from_slice-requires c = sym (length-take-le 32 c.args.sig.now (omega (arith, c.requires.sig)))

pub returns : goal.returns
returns c =
    ap (λ t. (48 + c.args.generation) ∷ 45 ∷ t) (append-nil _ ∙ c.copy_from_slice.ensures.after ∙ take_all 32 c.args.sig.now (omega (arith, c.requires.sig)))
    ∙ ap (λ t. t ++ 45 ∷ c.args.sig.now) (sym (decimal_digit _ c.requires.generation))
