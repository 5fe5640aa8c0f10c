use Rattle.proof_prelude.proofs.{cond, leb, sym, ◌∙◌, arith, zip2_splat_left, eqb-true}
use Rattle.json_values.proofs.{at_least, is_high, masked, none_high}
use Rattle.json_values.proofs.utf8.is_ascii_16.Goals as goal

pub returns : goal.returns
returns c none =
    let v = c.args.v in
    let seen = masked (λ x. cond (leb 128 x) 255 0) is_high v _ (omega arith) c.fits-v.1 (zip2_splat_left at_least 128 16 v c.fits-v.0) tt in
    none_high v (sym seen ∙ eqb-true _ _ none)
