use Rattle.proof_prelude.proofs.{Some, OnOk, sym, subst, option_map, string_bytes}
use Rattle.diagrams.specs.Drawing.{IsDrawn}
use Rattle.diagrams.specs.{signs_of_found, signs_of_log, signs_of_row}
use Rattle.diagrams.proofs.{draws_new}
use Rattle.diagrams.proofs.drawer.Drawer.draw_whole.Goals as goal

pub returns-in-Tree-clause-draws : goal.returns-in-Tree-clause-draws
returns-in-Tree-clause-draws c =
    let self = c.args.self.now in
    subst (λ w. OnOk c.draw.result (IsDrawn self.form (option_map (λ s. s.now) self.db) (Some w) c.draw.new.answer.items)) (sym c.in-Tree.is)
    c.draw.ensures.draws

pub returns-in-Found-clause-draws : goal.returns-in-Found-clause-draws
returns-in-Found-clause-draws c =
    let self = c.args.self.now in
    let f = c.in-Found.found in
    subst (λ w. OnOk c.draw_found.result (IsDrawn self.form (option_map (λ s. s.now) self.db) (Some w) c.draw_found.new.answer.items)) (sym c.in-Found.is)
    (draws_new c.draw_found.result (signs_of_found self.form f.finding (string_bytes f.id) f.revs.items) c.args.answer.now.items
    c.draw_found.new.answer.items c.requires c.draw_found.ensures.draws)

pub returns-in-Row-clause-draws : goal.returns-in-Row-clause-draws
returns-in-Row-clause-draws c =
    let self = c.args.self.now in
    let r = c.in-Row.row in
    subst (λ w. OnOk c.draw_row.result (IsDrawn self.form (option_map (λ s. s.now) self.db) (Some w) c.draw_row.new.answer.items)) (sym c.in-Row.is)
    (draws_new c.draw_row.result (signs_of_row self.form r.table (string_bytes r.name) r.numbers.items) c.args.answer.now.items
    c.draw_row.new.answer.items c.requires c.draw_row.ensures.draws)

pub returns-in-Log-clause-draws : goal.returns-in-Log-clause-draws
returns-in-Log-clause-draws c =
    let self = c.args.self.now in
    let l = c.in-Log.log in
    subst (λ w. OnOk c.draw_log.result (IsDrawn self.form (option_map (λ s. s.now) self.db) (Some w) c.draw_log.new.answer.items)) (sym c.in-Log.is)
    (draws_new c.draw_log.result (signs_of_log self.form (string_bytes l.id) l.entries.items) c.args.answer.now.items
    c.draw_log.new.answer.items c.requires c.draw_log.ensures.draws)
