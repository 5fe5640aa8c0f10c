use Rattle.proof_prelude.proofs.{List, [], Some, None, sym, subst, string_bytes}
use Rattle.rev_core.specs.{RevId}
use Rattle.output_parser.specs.declared.told.Told.TheVariants as lines
use Rattle.diagrams.specs.Drawing.{Holds, IsNext, conflict, found, log, loose, opened, other, row, unknown, with_all}
use Rattle.diagrams.specs.declared.reading.Whole.TheVariants as wholes
use Rattle.diagrams.proofs.reading.next.Goals as goal

pub returns-in-Document : goal.returns-in-Document
returns-in-Document c =
    subst (λ t. IsNext c.args.begun t (Some c.new.result) None) (sym c.in-Document.is) (opened c.new.ensures.holds c.new.ensures.count)

pub returns-in-None : goal.returns-in-None
returns-in-None c =
    subst (λ t. IsNext c.args.begun t None None) (sym c.in-Leaf.is)
    (subst (λ b. IsNext b (lines.Leaf c.in-Leaf.live c.in-Leaf.revs) None None) (sym c.in-None.is) loose)

pub returns-in_ok-conflict_of-in-Conflict : goal.returns-in_ok-conflict_of-in-Conflict
returns-in_ok-conflict_of-in-Conflict c =
    let d = c.in_ok-conflict_of-in-Conflict.field-0 in
    subst (λ t. IsNext c.args.begun t None (Some (wholes.Tree d))) (sym c.in-Conflict.is)
    (conflict (subst (λ (rs : List RevId). Holds d (string_bytes c.in-Conflict.id) (with_all [] rs)) c.as_slice.ensures.value c.in_ok-conflict_of-in-Conflict.ensures))

pub returns-in-Other : goal.returns-in-Other
returns-in-Other c = subst (λ t. IsNext c.args.begun t None None) (sym c.in-Other.is) other

pub returns-in-Unknown : goal.returns-in-Unknown
returns-in-Unknown c = subst (λ t. IsNext c.args.begun t None None) (sym c.in-Unknown.is) unknown

pub returns-in-Found : goal.returns-in-Found
returns-in-Found c = subst (λ t. IsNext c.args.begun t None (Some (wholes.Found c.in-Found.found))) (sym c.in-Found.is) found

pub returns-in-Row : goal.returns-in-Row
returns-in-Row c = subst (λ t. IsNext c.args.begun t None (Some (wholes.Row c.in-Row.row))) (sym c.in-Row.is) row

pub returns-in-Log : goal.returns-in-Log
returns-in-Log c = subst (λ t. IsNext c.args.begun t None (Some (wholes.Log c.in-Log.log))) (sym c.in-Log.is) log
