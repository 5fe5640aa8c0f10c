use Rattle.proof_prelude.proofs.{◌≡◌, ◌++◌, [], ◌∷◌, sym, ap, subst, ◌∙◌, if◌then◌else◌, arith, common_steps, string_bytes, encode_utf8_all, OnOk}
use Rattle.visible_text.specs.{escape_of}
use Rattle.visible_text.proofs.visible.push_visible_char.Goals as goal

pub returns : goal.returns
returns c =
    subst (λ t. OnOk c.push.result (string_bytes c.push.new.self ≡ string_bytes c.args.out.now ++ encode_utf8_all t))
    (sym (ap (λ b. if b then escape_of c.args.c else c.args.c ∷ []) (sym c.is_hidden.ensures ∙ c.if-is_hidden.false))) (grind (arith, common_steps))
