use Rattle.proof_prelude.proofs.{◌≡◌, ◌+◌, ◌-◌, ◌<◌, List, [], ◌∷◌, ◌++◌, length, take, drop, Greater, nat_cmp, sym, ap, subst, ◌∙◌, arith, slice_cmp, drop_more, drop_all, take-append-drop}
use Rattle.json_values.specs.{Entry, IsRising, put_entry}
use Rattle.json_values.proofs.{put_last}
use Rattle.json_values.proofs.members.comes_last.Goals as goal

pub returns-in-Greater : goal.returns-in-Greater
returns-in-Greater g c _ name same v =
    let es = c.args.entries.now in
    let i = length es - 1 in
    let last = c.index-entries-entries.result in
    let some : 0 < length es = grind arith in
    let rest : drop (i + 1) es ≡ [] = drop_all (i + 1) es (omega (arith, some)) in
    let here : drop i es ≡ last ∷ [] = drop_more es i last (omega (arith, some)) ∙ ap (λ y. y ∷ drop (i + 1) es) (sym c.index-entries-entries.is) ∙ ap (λ ys. last ∷ ys) rest in
    let split : es ≡ take i es ++ last ∷ [] = sym (take-append-drop i es) ∙ ap (λ ys. take i es ++ ys) here in
    let later : slice_cmp nat_cmp name.now last.0.now ≡ Greater = ap (λ k. slice_cmp nat_cmp k last.0.now) same ∙ ap (λ y. slice_cmp nat_cmp c.args.name.now y.0.now) c.index-entries-entries.is ∙ sym c.order_of.ensures ∙ c.in-Greater.is in
    ap (put_entry name v) split ∙ put_last name v (take i es) last (subst (λ (ys : List (Entry g.row.T.Denot)). IsRising ys) split c.requires) later ∙ ap (λ ys. ys ++ (name, v) ∷ []) (sym split)
