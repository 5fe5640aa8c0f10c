use Rattle.proof_prelude.proofs.{◌≡◌, ◌∷◌, sym, ap, ◌∙◌, arith}
use Rattle.json.specs.Json.{value}
use Rattle.json.specs.Reads.{token_of}
use Rattle.json_values.specs.{tokens_at}
use Rattle.json_values.proofs.{not_a_value, begun}
use Rattle.json_values.proofs.tokens.Tokens.take_text.Goals as goal

pub returns-clause-text : goal.returns-clause-text
returns-clause-text c depth =
    let a = c.self.inside in
    let r = c.string-place in
    let t = token_of r.result.0 in
    let more = tokens_at r.result.1 r.new.lexer.text in
    let first : c.args.self.now.tokens ≡ t ∷ more = sym (ap (λ l. l.tokens) c.self.view_is) ∙ begun a.place a.lexer.text (t ∷ more) (grind arith) r.ensures.value in
    ap (value depth) first ∙ not_a_value r.result.0 more r.ensures.kind c.in_default.not-String depth
