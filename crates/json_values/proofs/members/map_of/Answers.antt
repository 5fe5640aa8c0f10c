use Rattle.proof_prelude.proofs.{◌≡◌, ◌∷◌, ◌++◌, [], List, sym, ap, subst, ◌∙◌, append_assoc, into_iter_items}
use Rattle.json_values.specs.{Entry, IsRising}
use Rattle.json_values.proofs.{put_behind}
use Rattle.json_values.proofs.members.map_of.Goals as goal

pub loop-name-preserved : goal.loop-name-preserved
loop-name-preserved g c =
    let es = c.loop-name.map.entries in
    let more = into_iter_items c.next.new.self in
    let name = c.in-Some.name in
    let value = c.in-Some.value in
    let all : es ++ (name, value) ∷ more ≡ c.args.entries.items = ap (λ (ys : List (Entry g.row.T.Denot)). es ++ ys) (sym c.in-Some.ensures.steps.0) ∙ c.loop-name.invariant in
    let rising = subst (λ (ys : List (Entry g.row.T.Denot)). IsRising ys) (sym all) c.requires in
    ap (λ (ys : List (Entry g.row.T.Denot)). ys ++ more) (c.in_ok-put_mapped.ensures ∙ put_behind name value es more rising) ∙ append_assoc es ((name, value) ∷ []) more ∙ all
