use Rattle.proof_prelude.proofs.{◌++◌, ◌∷◌, [], true, take, sym, ap, ◌∙◌, subst, take_more, length-set}
use Rattle.doc_json.specs.{AreMarks}
use Rattle.doc_json.proofs.{marked_more}
use Rattle.doc_json.proofs.marks.mark.Goals as goal

pub loop-id-preserved : goal.loop-id-preserved
loop-id-preserved c =
    let ids = c.args.ids.now in
    let i = c.loop-id.id-index in
    let marked = subst (AreMarks _) (sym (take_more ids i c.id-item.result c.loop-id-test.true ∙ ap (λ x. take i ids ++ x ∷ []) (sym c.id-item.is)))
    (marked_more c.places_for-places.result c.loop-id.marks.items (take i ids) c.id-item.result c.place_of-place.result c.loop-id.invariant.size c.place_of-place.ensures.place c.place_of-place.ensures.within c.loop-id.invariant.marks) in
    record { size = length-set c.loop-id.marks.items c.place_of-place.result true ∙ c.loop-id.invariant.size; marks = marked }
