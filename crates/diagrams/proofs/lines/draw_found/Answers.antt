use Rattle.proof_prelude.proofs.{List, ℕ, [], ◌∷◌, map, subst, string_bytes}
use Rattle.rev_core.specs.{RevId}
use Rattle.diagrams.specs.{Draws, Sign, found, listed}
use Rattle.diagrams.proofs.{drawn_then, plain_by}
use Rattle.diagrams.proofs.lines.draw_found.Goals as goal

pub returns : goal.returns
returns c =
    let f = c.args.what.now in
    let name : Sign = found c.args.form f.finding (string_bytes f.id) in
    let revs : List Sign = map listed f.revs.items in
    let named = subst (λ (t : List ℕ). Draws c.begin.new.out.items c.put_found.new.out.items (found c.args.form f.finding t ∷ [])) c.as_str.ensures.value c.in_ok-put_found.ensures in
    let all = subst (λ (rs : List RevId). Draws c.put_found.new.out.items c.draw_listed.new.out.items (map listed rs)) c.as_slice.ensures.value c.in_ok-draw_listed.ensures in
    plain_by c.end_line.result _ _ _ (name ∷ revs)
    (drawn_then _ _ _ (name ∷ []) revs (drawn_then _ _ _ [] (name ∷ []) c.in_ok-begin.ensures named) all) c.end_line.ensures
