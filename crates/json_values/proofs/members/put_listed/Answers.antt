use Rattle.proof_prelude.proofs.{◌≡◌, ◌<◌, ◌≤◌, List, Some, length, refl, sym, ◌∙◌, subst, slice_get_read, slice_get}
use Rattle.json_values.specs.{Entry, IsGapFor, IsPlaceOf}
use Rattle.json_values.proofs.members.put_listed.Goals as goal

pub returns-in-Ok : goal.returns-in-Ok
returns-in-Ok g c =
    let es = c.args.entries.now.items in
    let i = c.in-Ok.place in
    let e = c.index_mut.result.now in
    let there = subst (λ (ys : List (Entry g.row.T.Denot)). (i < length ys) × IsPlaceOf c.args.name.now ys i) c.deref.ensures.value c.in-Ok.ensures.there in
    let at : slice_get es i ≡ Some e = slice_get_read es (length es) i e refl there.0 c.index_mut.ensures.value in
    sym (there.1 c.args.name refl c.args.value e at)

pub returns-in_ok-push-in-Err : goal.returns-in_ok-push-in-Err
returns-in_ok-push-in-Err g c =
    let es = c.args.entries.now.items in
    let i = c.in-Err.place in
    let gap = subst (λ (ys : List (Entry g.row.T.Denot)). (i ≤ length ys) × IsGapFor c.args.name.now ys i) c.deref.ensures.value c.in-Err.ensures.absent in
    c.move_last.ensures es (c.args.name, c.args.value) c.in_ok-push-in-Err.ensures.items ∙ sym (gap.1 c.args.name refl c.args.value)
