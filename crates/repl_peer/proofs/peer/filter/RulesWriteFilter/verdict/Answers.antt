use Rattle.proof_prelude.proofs.{◌≡◌, true, false, refl, ◌∙◌, starts_text}
use Rattle.repl_peer.specs.{rules_refuse}
use Rattle.repl_peer.proofs.{refuses-tested}
use Rattle.repl_peer.proofs.peer.filter.RulesWriteFilter.verdict.Goals as goal

-- src/filter.rt:37:5
pub returns-then-starts_with : goal.returns-then-starts_with
returns-then-starts_with c =
    let test = starts_text _ _ _ c.starts_with.ensures.cases in
    let refused : rules_refuse c.args.self.now c.args.doc.now ≡ true =
    refuses-tested c.args.self.now c.args.doc.now _ _ _ _ _ c.in-Some.is (c.text.ensures.text ∙ c.id.ensures.part) c.as_str.ensures.value test c.if-starts_with.true in
    rw refused refl

-- src/filter.rt:37:5
pub returns-else-starts_with : goal.returns-else-starts_with
returns-else-starts_with c =
    let test = starts_text _ _ _ c.starts_with.ensures.cases in
    let refused : rules_refuse c.args.self.now c.args.doc.now ≡ false =
    refuses-tested c.args.self.now c.args.doc.now _ _ _ _ _ c.in-Some.is (c.text.ensures.text ∙ c.id.ensures.part) c.as_str.ensures.value test c.if-starts_with.false in
    rw refused refl
