use Rattle.proof_prelude.proofs.{◌≡◌, ℕ, List, Bor, ◌+◌, [], ◌∷◌, drop, sym, ap, ◌∙◌, arith, refl, drop_more, drop_all}
use Rattle.serde_json.specs.Find.{get_member}
use Rattle.json_values.specs.{LineValue, line_view, line_members}
use Rattle.json_values.proofs.{get_member-here, get_member-past}
use Rattle.json_values.proofs.line.find.Goals as goal

pub loop-member-init : goal.loop-member-init
loop-member-init c = refl

pub returns-then-is_same_text : goal.returns-then-is_same_text
returns-then-is_same_text c =
    let l = c.loop-member in
    let xs = c.args.members.now in
    let x = c.member-item.result in
    let k = c.args.name.now in
    let here : drop l.member-index xs ≡ x ∷ drop (l.member-index + 1) xs = drop_more xs l.member-index x (omega arith) ∙ ap (λ y. y ∷ drop (l.member-index + 1) xs) (sym c.member-item.is) in
    let found = λ (ys : List (Bor (List ℕ) × LineValue)). get_member k (line_members ys) in
    sym (get_member-here k x.0.now (line_view x.1) (line_members (drop (l.member-index + 1) xs)) (grind arith)) ∙ ap found (sym here) ∙ l.invariant

pub loop-member-preserved : goal.loop-member-preserved
loop-member-preserved c =
    let l = c.loop-member in
    let xs = c.args.members.now in
    let x = c.member-item.result in
    let k = c.args.name.now in
    let here : drop l.member-index xs ≡ x ∷ drop (l.member-index + 1) xs = drop_more xs l.member-index x (omega arith) ∙ ap (λ y. y ∷ drop (l.member-index + 1) xs) (sym c.member-item.is) in
    let found = λ (ys : List (Bor (List ℕ) × LineValue)). get_member k (line_members ys) in
    sym (get_member-past k x.0.now (line_view x.1) (line_members (drop (l.member-index + 1) xs)) (grind arith)) ∙ ap found (sym here) ∙ l.invariant

pub returns : goal.returns
returns c =
    let l = c.loop-member in
    let xs = c.args.members.now in
    let k = c.args.name.now in
    let found = λ (ys : List (Bor (List ℕ) × LineValue)). get_member k (line_members ys) in
    let done : drop l.member-index xs ≡ [] = drop_all l.member-index xs (omega arith) in
    ap found (sym done) ∙ l.invariant
