use Rattle.proof_prelude.proofs.{sym, ◌∙◌, subst, rules, arc_slice_items, IsBinarySearchResult, nat_cmp, slice_cmp}
use Rattle.doc_json.specs.{AreMarks}
use Rattle.doc_json.proofs.{found_by, not_among}
use Rattle.doc_json.proofs.chosen.Chosen.has.Goals as goal

pub returns-then-is_marked : goal.returns-then-is_marked
returns-then-is_marked c =
    c.is_ok.ensures.value
    ∙ found_by c.args.self.now c.args.id.now c.binary_search.result c.ids.ensures.choice.rising
    (subst (λ l. IsBinarySearchResult (λ y. slice_cmp nat_cmp y c.args.id.now) l c.binary_search.result) c.ids.ensures.ids c.binary_search.ensures.position)
    (λ k e. search rules)

pub returns-else-is_marked : goal.returns-else-is_marked
returns-else-is_marked c =
    let marks = subst (AreMarks (arc_slice_items c.self.inside.marks)) c.self.view_is c.self.invariant.1 in
    let here = subst (λ x. AreMarks x c.args.self.now) (sym c.as_slice.ensures.value) marks in
    c.if-is_marked.false ∙ sym (not_among c.as_slice.result.now c.args.self.now c.args.id.now here (sym c.is_marked.ensures ∙ c.if-is_marked.false))
