use Rattle.proof_prelude.proofs.{refl}
use Rattle.journal_core.specs.Places.{place_after}
use Rattle.journal_tasks.proofs.{confirm_line, kept_at, kept_is, with_text}
use Rattle.journal_tasks.proofs.confirm.ConfirmLineTask.line.Goals as goal

pub returns : goal.returns
returns c = λ at lines text k.
    let line = c.args.line.now in
    let old = c.args.self.now in
    let p = place_after lines in
    let kept = kept_is line old c.look.new.self c.keep.new.self c.in_ok-docs.docs c.leaf_of.result c.in_ok-docs.ensures c.leaf_of.ensures c.look.ensures c.in_ok-keep.ensures in
    let t = c.in_ok-took.ensures p (kept_at line old c.keep.new.self p kept k.place) in
    with_text at _ text _ _ c.requires.empty (confirm_line at lines text line old c.keep.new.self _ c.end_line.new.self c.in_ok-took.took k kept refl t.0 t.1 c.in_ok-end_line.ensures)
