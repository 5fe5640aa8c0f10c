use Rattle.proof_prelude.proofs.{◌≡◌, ◌+◌, None, drop, get_or, prefix_len, sym, ap, ◌∙◌, refl, subst, arith, IsCharBoundary-after_ascii, get_or-drop}
use Rattle.json.specs.Word.{head}
use Rattle.json.specs.Lex.{between, in_string, lex}
use Rattle.json.specs.Run.{is_plain}
use Rattle.json.specs.Text.{content, plain}
use Rattle.json_values.proofs.{backslash_at, lex-quote, no_content, quote_at}
use Rattle.json_values.proofs.lexer.Lexer.escaped_string.Goals as goal

pub unescape-requires-clause-boundary : goal.unescape-requires-clause-boundary
unescape-requires-clause-boundary c =
    let a = c.self.inside in
    let d = a.text.now in
    let e : head (drop a.at d) ≡ 34 = ap head (ap (λ l. l.text) c.self.view_is) ∙ c.requires.quote in
    let q = quote_at d a.at e in
    IsCharBoundary-after_ascii d a.at c.self.invariant.utf8 q.within (omega (arith, q.byte))

pub returns-clause-after : goal.returns-clause-after
returns-clause-after c =
    let a = c.self.inside in
    let d = a.text.now in
    let p = a.at in
    let e : head (drop p d) ≡ 34 = ap head (ap (λ l. l.text) c.self.view_is) ∙ c.requires.quote in
    let q = quote_at d p e in
    let lexed : lex between (drop c.after_blanks-self-inside.result d) ≡ lex between (drop c.in-Some.end d) = subst (λ t. lex between (drop c.after_blanks-self-inside.result t) ≡ lex between (drop c.in-Some.end t)) c.as_bytes.ensures.value c.after_blanks-self-inside.ensures.lexed in
    lexed ∙ sym c.in-Some.ensures.after ∙ ap (lex in_string) (sym q.rest) ∙ sym (lex-quote (drop p d) e) ∙ ap (λ t. drop 1 (lex between t)) (ap (λ l. l.text) c.self.view_is)

pub returns-then-after-ne92-clause-value : goal.returns-then-after-ne92-clause-value
returns-then-after-ne92-clause-value c =
    let t = c.args.self.now.text in
    let stop = 1 + prefix_len is_plain (drop 1 t) in
    let byte : get_or t stop 32 ≡ c.args.after = sym (get_or-drop 1 t (prefix_len is_plain (drop 1 t)) 32) ∙ sym c.requires.after in
    no_content t 1 stop refl (λ h. c.requires.other (sym byte ∙ h)) (λ h. grind (arith, sym byte ∙ h))

pub unescape-requires-clause-room : goal.unescape-requires-clause-room
unescape-requires-clause-room c =
    let a = c.self.inside in
    let d = a.text.now in
    let i = a.at + 1 in
    let stop = i + prefix_len is_plain (drop i d) in
    let view = ap (λ l. drop 1 l.text) (sym c.self.view_is) in
    let e : head (drop a.at d) ≡ 34 = ap head (ap (λ l. l.text) c.self.view_is) ∙ c.requires.quote in
    let q = quote_at d a.at e in
    let byte : get_or d stop 32 ≡ c.args.after = sym (get_or-drop i d (prefix_len is_plain (drop i d)) 32) ∙ ap (λ t. get_or t (prefix_len is_plain t) 32) (sym q.rest ∙ sym view) ∙ sym c.requires.after in
    let there : get_or d stop 32 ≡ 92 = grind (arith, byte) in
    let room = c.self.invariant.room (backslash_at d stop there) in
    grind (arith, room)
