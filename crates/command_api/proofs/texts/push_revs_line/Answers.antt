use Rattle.proof_prelude.proofs.{◌≡◌, ◌++◌, ◌==◌, [], length, if◌then◌else◌, true, false, sym, ap, subst, ◌∙◌, append-nil, OnOk}
use Rattle.command_api.specs.{line_of_revs}
use Rattle.command_api.proofs.texts.push_revs_line.Goals as goal

pub returns-then-is_empty : goal.returns-then-is_empty
returns-then-is_empty c =
    let text = c.args.text.now.items in
    let line = line_of_revs c.args.word.now c.args.id.now c.args.revs.now in
    let none : (length c.args.revs.now == 0) ≡ true = sym c.is_empty.ensures ∙ c.if-is_empty.true in
    sym (append-nil text) ∙ ap (λ b. text ++ (if b then [] else line)) (sym none)

pub returns : goal.returns
returns c =
    let line = line_of_revs c.args.word.now c.args.id.now c.args.revs.now in
    let some : (length c.args.revs.now == 0) ≡ false = sym c.is_empty.ensures ∙ c.if-is_empty.false in
    subst (λ b. OnOk c.push_line_of_revs.result (c.push_line_of_revs.new.text.items ≡ c.args.text.now.items ++ (if b then [] else line))) (sym some) c.push_line_of_revs.ensures
