use Rattle.proof_prelude.proofs.{◌++◌, ◌∷◌, [], ap, sym, ◌∙◌, ℕ, Vec, Global, is_utf8, IsUtf8-from_is_utf8, is_utf8-from_IsUtf8, false_from_ne_true}
use Rattle.json.specs.Token.{string}
use Rattle.json.specs.Print.{print}
use Rattle.doc_envelope.proofs.{quoted_behind}
use Rattle.doc_envelope.proofs.values.quote.Goals as goal

pub returns-in_default-clause-is : goal.returns-in_default-clause-is
returns-in_default-clause-is c = sym (false_from_ne_true (is_utf8 c.args.text.now) (λ e. c.in_default.ensures (IsUtf8-from_is_utf8 c.args.text.now e)))

pub returns-clause-is : goal.returns-clause-is
returns-clause-is c = sym (is_utf8-from_IsUtf8 c.args.text.now c.in-Ok.ensures.1)

pub returns-clause-made : goal.returns-clause-made
returns-clause-made c = λ _.
    let w = c.string.new.self in
    let before = c.string.ensures.room.0 ∙ c.new-writer.ensures.before ∙ ap (λ (v : Vec ℕ Global). v.items) c.replace.ensures.value in
    let tokens = c.in_ok-string.ensures.ok ∙ ap (λ ts. ts ++ string c.in-Ok.said.now ∷ []) c.new-writer.ensures.tokens in
    quoted_behind c.args.made.now.items c.args.text.now c.in-Ok.said.now c.into_inner.result.items w.tokens (c.into_inner.ensures.items ∙ ap (λ b. b ++ print w.tokens) before) tokens c.in-Ok.ensures.0
