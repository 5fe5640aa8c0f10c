use Rattle.proof_prelude.proofs.{◌+◌, ◌==◌, ◌||◌, ℕ, ◌≡◌, sym, subst, ◌∙◌, false, true, ne_eqb}
use Rattle.response_parser.specs.Runs.{Continues}
use Rattle.response_parser.proofs.{continues_other, continues_quote}
use Rattle.response_parser.proofs.copies.Spot.past_sign.Goals as goal

pub returns-then-byte-eq34-clause-continues : goal.returns-then-byte-eq34-clause-continues
returns-then-byte-eq34-clause-continues c =
    let s = c.args.self in
    let b = c.args.bytes.now in
    subst (λ q. Continues b s.count q s.nesting (s.count + 1) true s.nesting) (sym c.requires.outside) (continues_quote b s.count s.nesting c.requires.within (sym c.requires.byte ∙ c.if-byte-eq34.true))

pub returns-else-is_line_space-clause-continues : goal.returns-else-is_line_space-clause-continues
returns-else-is_line_space-clause-continues c =
    let s = c.args.self in
    let b = c.args.bytes.now in
    let at = c.requires.byte in
    let line = subst (λ (x : ℕ). (x == 9 || x == 10 || x == 13) ≡ false) at (sym c.is_line_space.ensures ∙ c.if-is_line_space.false) in
    let quote = subst (λ (x : ℕ). (x == 34) ≡ false) at (ne_eqb _ _ c.if-byte-eq34.false) in
    let opens = subst (λ (x : ℕ). (x == 123 || x == 91) ≡ false) at (sym c.is_opening.ensures ∙ c.if-is_opening.false) in
    let closes = subst (λ (x : ℕ). (x == 125 || x == 93) ≡ false) at (sym c.is_closing.ensures ∙ c.if-is_closing.false) in
    subst (λ q. Continues b s.count q s.nesting (s.count + 1) q s.nesting) (sym c.requires.outside) (continues_other b s.count s.nesting c.requires.within c.requires.begun line quote opens closes)
