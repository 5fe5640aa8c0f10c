use Rattle.proof_prelude.proofs.{◌≡◌, ◌+◌, ◌<◌, ◌++◌, ◌∷◌, [], None, length, ◌∙◌, sym, subst}
use Rattle.couch_base.specs.{most, Kept, TableValue, found, IsWritten, Sets}
use Rattle.couch_base.proofs.{added, found_last}
use Rattle.couch_base.proofs.table.Table.add_prepared.Goals as goal

-- the table afterwards
made : (c : goal.After-self-1) → (found c.args.self.now.entries c.args.key ≡ None)
    × IsWritten c.args.self.now (record { entries = c.append.new.docs.entries; rows = c.push_reserved.new.self.items; last = c.self.inside.last + 1 }) c.args.key c.args.tree
made c =
    let id = c.args.key in
    let t : TableValue = record { entries = c.self.inside.docs.entries; rows = c.self.inside.index.items; last = c.self.inside.last } in
    let new : TableValue = record { entries = c.append.new.docs.entries; rows = c.push_reserved.new.self.items; last = c.self.inside.last + 1 } in
    let kept : Kept = record { seq = t.last + 1; tree = c.args.tree } in
    let room : t.last < most = subst (λ (v : TableValue). v.last < most) (sym c.self.view_is) c.requires.room in
    let put = c.append.ensures.put c.if-not-append.false in
    let absent : found t.entries id ≡ None = put.0 in
    let grown : new.entries ≡ t.entries ++ (id, kept) ∷ [] = put.1 in
    let sets : Sets (found t.entries) (found new.entries) id kept = subst (λ es. Sets (found t.entries) (found es) id kept) (sym grown) (found_last t.entries id kept absent) in
    let longer : new.rows ≡ t.rows ++ (t.last + 1, length t.entries) ∷ [] =
    c.push_reserved.ensures.items ∙ (λ i. c.reserve.ensures.items i ++ (t.last + 1, c.len-place.ensures.len i) ∷ []) in
    let whole = added t c.self.invariant id c.args.tree new.entries new.rows room c.requires.document absent sets grown longer in
    subst (λ (v : TableValue). (found v.entries id ≡ None) × IsWritten v new id c.args.tree) c.self.view_is (absent, whole)

pub invariant_of-self-2 : goal.invariant_of-self-2
invariant_of-self-2 c = (made c).1.kept

pub returns-clause-put : goal.returns-clause-put
returns-clause-put c = λ _. made c
