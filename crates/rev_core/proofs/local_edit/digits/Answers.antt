use Rattle.proof_prelude.proofs.{◌≡◌, true, sym, ap, ◌∙◌, refl, subst, IsOk, cond-true}
use Rattle.hex.specs.Hex.{encode_lower}
use Rattle.rev_core.specs.{is_sig}
use Rattle.rev_core.proofs.{is_sig-encode_lower}
use Rattle.rev_core.proofs.local_edit.digits.Goals as goal

-- the digits are a signature
pub unwrap-requires-2 : goal.unwrap-requires-2
unwrap-requires-2 c =
    let written = rw c.unwrap.ensures at c.encode_to_slice.ensures.written in
    let text : c.encode_to_slice.new.output ≡ encode_lower c.args.digest.now = written ∙ ap encode_lower c.as_slice.ensures in
    let sig : is_sig c.encode_to_slice.new.output ≡ true = ap is_sig text ∙ is_sig-encode_lower c.args.digest.now c.told-digest c.fits-digest in
    subst IsOk (sym (c.parse.ensures ∙ cond-true _ _ _ sig)) refl
