use Rattle.proof_prelude.proofs.{◌≡◌, ◌∷◌, false, refl, sym, ap, ◌∙◌, ⊎_elim, arith, cases_eq}
use Rattle.json.specs.Word.{head}
use Rattle.json.specs.Lex.{class}
use Rattle.json.specs.Align.{is_blank}
use Rattle.json_values.specs.{tokens_at, begins_key}
use Rattle.json.specs.Json.{read_key}
use Rattle.json.specs.Reads.{token_of}
use Rattle.json_values.proofs.{keyless, not_a_key, begun, no_key, no_key_yet}
use Rattle.json_values.proofs.tokens.Tokens.take_key.Goals as goal

pub returns-then-peek-may_begin-clause-name : goal.returns-then-peek-may_begin-clause-name
returns-then-peek-may_begin-clause-name c =
    let a = c.self.inside in
    let seen = c.peek.ensures.value in
    let none : begins_key (tokens_at a.place a.lexer.text) ≡ false = ⊎_elim
    (λ e. no_key_yet a.place a.lexer.text (grind arith) e)
    (no_key a.place a.lexer.text (λ b. c.peek.ensures.end (ap (λ x. is_blank (class x)) seen ∙ b)) c.self.invariant) (cases_eq (head a.lexer.text) 34) in
    (ap begins_key (sym (ap (λ l. l.tokens) c.self.view_is)) ∙ none, refl)

pub returns-clause-name : goal.returns-clause-name
returns-clause-name c =
    let a = c.self.inside in
    let r = c.string-place in
    let t = token_of r.result.0 in
    let more = tokens_at r.result.1 r.new.lexer.text in
    let first : c.args.self.now.tokens ≡ t ∷ more = sym (ap (λ l. l.tokens) c.self.view_is) ∙ begun a.place a.lexer.text (t ∷ more) (grind arith) r.ensures.value in
    let other = not_a_key r.result.0 more c.in_default.not-Key in
    (ap begins_key first ∙ other, sym (ap read_key first ∙ keyless t more r.ensures.kind other))
