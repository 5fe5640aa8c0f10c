use Rattle.proof_prelude.proofs.{◌≡◌, ℕ, List, ◌+◌, ◌-◌, ◌<◌, ◌++◌, ◌∷◌, [], ◌∙◌, Some, length, slice_get, take, refl, sym, ap, subst, arith, take-append_seam, nat_list_eq_equiv, lookup_from_place, same_Some, length-append}
use Rattle.indexmap.specs.IndexMap.{set_value_at}
use Rattle.indexmap.proofs.CallerLemmas.{keys-with_value_at, updates-with_value_at}
use Rattle.rev_tree.specs.{TreeValue, IsTree, merged, merge_answer}
use Rattle.couch_base.specs.{Id, IsDocumentTree, tree_of, most, merged_document, TableValue, documents_of, IsKept, IsPlace, IsWritten, Kept}
use Rattle.couch_base.proofs.{set_same, standing, tree_at_place, changed}
use Rattle.couch_base.proofs.table.Table.change.Goals as goal

pub merge_change-requires : goal.merge_change-requires
merge_change-requires c =
    let t : TableValue = record { entries = c.self.inside.docs.entries; rows = c.self.inside.index.items; last = c.self.inside.last } in
    let id = c.pair_mut-kept.result.0.now in
    let at = c.pair_mut-kept.ensures in
    ap (λ x. merge_answer x c.args.ancestry.now) (sym (tree_at_place t c.self.invariant c.args.place id c.pair_mut-kept.result.1.now at.unique at.value))
    ∙ ap (λ (v : TableValue). merge_answer (tree_of (documents_of v) id) c.args.ancestry.now) c.self.view_is
    ∙ c.requires.change id (subst (λ (v : TableValue). IsPlace v.entries id (Some c.args.place)) c.self.view_is (standing t.entries c.args.place id c.pair_mut-kept.result.1.now at.unique at.value))

-- the table afterwards
made : (c : goal.After-sweep) → IsWritten c.args.self.now (record { entries = set_value_at c.self.inside.docs.entries c.args.place (record { seq = c.self.inside.last + 1; tree = c.merge_change.new.self }); rows = c.sweep.new.index.items; last = c.self.inside.last + 1 })
    c.pair_mut-kept.result.0.now (merged (tree_of (documents_of c.args.self.now) c.pair_mut-kept.result.0.now) c.args.ancestry.now c.args.content c.args.origin)
made c =
    let place = c.args.place in
    let docs = c.self.inside.docs in
    let t : TableValue = record { entries = docs.entries; rows = c.self.inside.index.items; last = c.self.inside.last } in
    let id = c.pair_mut-kept.result.0.now in
    let was = c.pair_mut-kept.result.1.now in
    let at = c.pair_mut-kept.ensures in
    let tree = c.merge_change.new.self in
    let k : Kept = record { seq = t.last + 1; tree = tree } in
    let new : TableValue = record { entries = set_value_at t.entries place k; rows = c.sweep.new.index.items; last = t.last + 1 } in
    let merge : TreeValue → TreeValue = λ x. merged x c.args.ancestry.now c.args.content c.args.origin in
    let room : t.last < most = subst (λ (v : TableValue). v.last < most) (sym c.self.view_is) c.requires.room in
    let before = c.self.invariant.table.trees id was (lookup_from_place nat_list_eq_equiv t.entries place id was at.unique at.value) in
    let lawful = merged_document was.tree c.args.ancestry.now c.args.content c.args.origin c.revs-revs.ensures.ancestry c.requires.body before.bodies (subst IsTree c.in-Ok.ensures.ok c.in-Ok.ensures.tree) in
    let whole = changed t c.self.invariant place id was tree new.entries c.note.new.index.items new.rows room (subst IsDocumentTree (sym c.in-Ok.ensures.ok) lawful) at.unique at.value
    (updates-with_value_at docs place k nat_list_eq_equiv at.unique id was at.value).0 refl (keys-with_value_at docs place k) c.in_ok-note.ensures.ok c.sweep.ensures in
    subst (λ (v : TableValue). IsWritten v new id (merge (tree_of (documents_of v) id))) c.self.view_is
    (subst (IsWritten t new id) (c.in-Ok.ensures.ok ∙ ap merge (sym (tree_at_place t c.self.invariant place id was at.unique at.value))) whole)

pub invariant_of-self-in-Ok : goal.invariant_of-self-in-Ok
invariant_of-self-in-Ok c = (made c).kept

pub returns-in-Ok-clause-ok : goal.returns-in-Ok-clause-ok
returns-in-Ok-clause-ok c = λ id at.
    let now = c.args.self.now in
    let first = ap (λ (v : TableValue). slice_get v.entries c.args.place) c.self.view_is in
    let same : c.pair_mut-kept.result.0.now ≡ id = ap (λ (e : Id × Kept). e.0) (same_Some (c.pair_mut-kept.result.0.now, c.pair_mut-kept.result.1.now) (id, at.there.0) (sym c.pair_mut-kept.ensures.value ∙ first ∙ at.there.1)) in
    let new : TableValue = record { entries = set_value_at c.self.inside.docs.entries c.args.place (record { seq = c.self.inside.last + 1; tree = c.merge_change.new.self }); rows = c.sweep.new.index.items; last = c.self.inside.last + 1 } in
    subst (λ (q : Id). IsWritten now new q (merged (tree_of (documents_of now) q) c.args.ancestry.now c.args.content c.args.origin)) same (made c)

-- ---- an error

pub returns-in-Err-clause-err : goal.returns-in-Err-clause-err
returns-in-Err-clause-err c =
    let kept = c.pair_mut-kept.result.1.now in
    let entries = c.self.inside.docs.entries in
    let rows : List (ℕ × ℕ) = c.self.inside.index.items in
    let row : List (ℕ × ℕ) = (c.self.inside.last + 1, c.args.place) ∷ [] in
    let more : c.note.new.index.items ≡ rows ++ row = c.in_ok-note.ensures.ok in
    let long : c.note.new.index.len ≡ length c.note.new.index.items = c.note.new.index.ok.0 in
    let size : length c.note.new.index.items ≡ length rows + 1 = ap length more ∙ length-append rows row in
    let fewer : c.note.new.index.len - 1 ≡ length rows = omega (arith, long, size) in
    let docs =
    ap (λ (t : TreeValue). set_value_at entries c.args.place (record { seq = kept.seq; tree = t })) c.in-Err.ensures.err
    ∙ set_same entries c.args.place c.pair_mut-kept.result.0.now kept c.pair_mut-kept.ensures.value in
    let index = c.pop-row.ensures.rest ∙ (λ j. take (fewer j) (more j)) ∙ take-append_seam rows row in
    (λ j. let v : TableValue = record { entries = docs j; rows = index j; last = c.self.inside.last } in v) ∙ c.self.view_is

pub invariant_of-self-in-Err : goal.invariant_of-self-in-Err
invariant_of-self-in-Err c = subst IsKept (sym (returns-in-Err-clause-err c)) (subst IsKept c.self.view_is c.self.invariant)
