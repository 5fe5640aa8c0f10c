use Rattle.proof_prelude.proofs.{ℕ, List, [], Some, refl, sym, subst, option_map, err_from_is_err_and, Appends-nil}
use Rattle.diagrams.specs.Drawing.{IsPicturedUntil, Pictures, sketch_of}
use Rattle.diagrams.specs.{Draws}
use Rattle.diagrams.proofs.{picture_whole, seen_as, until_as, until_end, until_head, until_lines, until_tail}
use Rattle.diagrams.proofs.drawer.draw_answers.Goals as goal

pub returns-in-Err-clause-pictured : goal.returns-in-Err-clause-pictured
returns-in-Err-clause-pictured g c =
    let left = g.R.ScriptRead.left c.args.reader.now in
    let held = g.W.ScriptWrite.held c.args.writer.now in
    let held' = g.W.ScriptWrite.held c.write_all.new.writer in
    let db = option_map (λ s. s.now) c.args.db in
    let head = subst (λ (t : List ℕ). Draws [] t []) (sym c.as_bytes.ensures.value) c.head_of.ensures in
    let e = c.in-Err.ensures.err in
    subst (λ f. IsPicturedUntil f c.args.form db left held held') (sym c.in-Err.ensures.fault)
    (until_head c.args.form db left held e.0 e.1 c.as_bytes.result.now held' head e.2 e.3)

pub returns-in-Err-run_lines-clause-pictured : goal.returns-in-Err-run_lines-clause-pictured
returns-in-Err-run_lines-clause-pictured g c =
    let left = g.R.ScriptRead.left c.args.reader.now in
    let held = g.W.ScriptWrite.held c.args.writer.now in
    let head = subst (λ (t : List ℕ). Draws [] t []) (sym c.as_bytes.ensures.value) c.head_of.ensures in
    let f = c.in-Err-run_lines.ensures.fault in
    let told = until_as _ Pictures (λ d. sketch_of d.form d.db d.begun d.tally) (λ old line told new h. h) c.in-Err-run_lines.stopped _ f.0 f.1 f.4 in
    until_lines c.args.form (option_map (λ s. s.now) c.args.db) left held c.in-Err-run_lines.stopped f.0 c.as_bytes.result.now f.1 _ _ f.2 head told c.in-Ok.ensures.ok.0 f.3

pub returns-in_err-tail-clause-pictured : goal.returns-in_err-tail-clause-pictured
returns-in_err-tail-clause-pictured g c =
    let left = g.R.ScriptRead.left c.args.reader.now in
    let held = g.W.ScriptWrite.held c.args.writer.now in
    let held' = g.W.ScriptWrite.held c.run_lines.new.writer in
    let db = option_map (λ s. s.now) c.args.db in
    let p = err_from_is_err_and c.from_residual.result c.from_residual.ensures.1 in
    let head = subst (λ (t : List ℕ). Draws [] t []) (sym c.as_bytes.ensures.value) c.head_of.ensures in
    let a = c.in-Ok-run_lines.ensures.answers in
    let answered = seen_as _ Pictures (λ d. sketch_of d.form d.db d.begun d.tally) (λ old line told new h. h) _ _ a.0 _ a.1 a.4 in
    rw p.1 (subst (λ f. IsPicturedUntil f c.args.form db left held held') (sym p.2)
    (until_tail c.args.form db left held a.0 c.in-Ok-run_lines.clean c.as_bytes.result.now a.1 _ _ held' a.2 head answered c.in-Ok.ensures.ok.0 a.3))

pub returns-in-Ok-end-clause-pictured : goal.returns-in-Ok-end-clause-pictured
returns-in-Ok-end-clause-pictured g c =
    let left = g.R.ScriptRead.left c.args.reader.now in
    let held = g.W.ScriptWrite.held c.args.writer.now in
    let head = subst (λ (t : List ℕ). Draws [] t []) (sym c.as_bytes.ensures.value) c.head_of.ensures in
    let tail = subst (λ (t : List ℕ). Draws [] t []) (sym c.as_slice.ensures.value) c.in_ok-tail.ensures in
    let a = c.in-Ok-run_lines.ensures.answers in
    let answered = seen_as _ Pictures (λ d. sketch_of d.form d.db d.begun d.tally) (λ old line told new h. h) _ _ a.0 _ a.1 a.4 in
    picture_whole c.args.form (option_map (λ s. s.now) c.args.db) left held a.0 c.in-Ok-run_lines.clean c.as_bytes.result.now a.1 c.as_slice.result.now _ _ _ _ a.2 head answered tail c.in-Ok.ensures.ok.0 a.3 c.in-Ok-end.ensures.ok.0

pub returns-clause-pictured : goal.returns-clause-pictured
returns-clause-pictured g c =
    let left = g.R.ScriptRead.left c.args.reader.now in
    let held = g.W.ScriptWrite.held c.args.writer.now in
    let held' = g.W.ScriptWrite.held c.end.new.writer in
    let db = option_map (λ s. s.now) c.args.db in
    let head = subst (λ (t : List ℕ). Draws [] t []) (sym c.as_bytes.ensures.value) c.head_of.ensures in
    let tail = subst (λ (t : List ℕ). Draws [] t []) (sym c.as_slice.ensures.value) c.in_ok-tail.ensures in
    let a = c.in-Ok-run_lines.ensures.answers in
    let answered = seen_as _ Pictures (λ d. sketch_of d.form d.db d.begun d.tally) (λ old line told new h. h) _ _ a.0 _ a.1 a.4 in
    let e = c.in-Err-end.ensures.err in
    subst (λ f. IsPicturedUntil f c.args.form db left held held') (sym c.in-Err-end.ensures.fault)
    (until_end c.args.form db left held a.0 c.in-Ok-run_lines.clean c.as_bytes.result.now a.1 c.as_slice.result.now e.0 e.1 _ _ _ held' a.2 head answered tail c.in-Ok.ensures.ok.0 a.3 e.2 e.3)

-- ---- for the bytes that the reads returned

pub returns-in-Err-clause-took : goal.returns-in-Err-clause-took
returns-in-Err-clause-took g c =
    let held = g.W.ScriptWrite.held c.args.writer.now in
    let held' = g.W.ScriptWrite.held c.write_all.new.writer in
    let db = option_map (λ s. s.now) c.args.db in
    let head = subst (λ (t : List ℕ). Draws [] t []) (sym c.as_bytes.ensures.value) c.head_of.ensures in
    let e = c.in-Err.ensures.err in (
      [],
      Appends-nil (g.R.ScriptRead.taken c.args.reader.now),
      subst (λ f. IsPicturedUntil f c.args.form db (Some []) held held') (sym c.in-Err.ensures.fault)
          (until_head c.args.form db (Some []) held e.0 e.1 c.as_bytes.result.now held' head e.2 e.3),
    )

pub returns-in-Err-run_lines-clause-took : goal.returns-in-Err-run_lines-clause-took
returns-in-Err-run_lines-clause-took g c =
    let held = g.W.ScriptWrite.held c.args.writer.now in
    let head = subst (λ (t : List ℕ). Draws [] t []) (sym c.as_bytes.ensures.value) c.head_of.ensures in
    let f = c.in-Err-run_lines.ensures.took_until in
    let told = until_as _ Pictures (λ d. sketch_of d.form d.db d.begun d.tally) (λ old line told new h. h) c.in-Err-run_lines.stopped _ f.0 f.1 f.4 in (
      f.0,
      f.2,
      until_lines c.args.form (option_map (λ s. s.now) c.args.db) (Some f.0) held c.in-Err-run_lines.stopped f.0 c.as_bytes.result.now f.1 _ _ refl head told c.in-Ok.ensures.ok.0 f.3,
    )

pub returns-in_err-tail-clause-took : goal.returns-in_err-tail-clause-took
returns-in_err-tail-clause-took g c =
    let held = g.W.ScriptWrite.held c.args.writer.now in
    let held' = g.W.ScriptWrite.held c.run_lines.new.writer in
    let db = option_map (λ s. s.now) c.args.db in
    let p = err_from_is_err_and c.from_residual.result c.from_residual.ensures.1 in
    let head = subst (λ (t : List ℕ). Draws [] t []) (sym c.as_bytes.ensures.value) c.head_of.ensures in
    let a = c.in-Ok-run_lines.ensures.took in
    let answered = seen_as _ Pictures (λ d. sketch_of d.form d.db d.begun d.tally) (λ old line told new h. h) _ _ a.0 _ a.1 a.4 in
    rw p.1 (
      a.0,
      a.2,
      subst (λ f. IsPicturedUntil f c.args.form db (Some a.0) held held') (sym p.2)
          (until_tail c.args.form db (Some a.0) held a.0 c.in-Ok-run_lines.clean c.as_bytes.result.now a.1 _ _ held' refl head answered c.in-Ok.ensures.ok.0 a.3),
    )

pub returns-in-Ok-end-clause-took : goal.returns-in-Ok-end-clause-took
returns-in-Ok-end-clause-took g c =
    let held = g.W.ScriptWrite.held c.args.writer.now in
    let head = subst (λ (t : List ℕ). Draws [] t []) (sym c.as_bytes.ensures.value) c.head_of.ensures in
    let tail = subst (λ (t : List ℕ). Draws [] t []) (sym c.as_slice.ensures.value) c.in_ok-tail.ensures in
    let a = c.in-Ok-run_lines.ensures.took in
    let answered = seen_as _ Pictures (λ d. sketch_of d.form d.db d.begun d.tally) (λ old line told new h. h) _ _ a.0 _ a.1 a.4 in (
      a.0,
      a.2,
      picture_whole c.args.form (option_map (λ s. s.now) c.args.db) (Some a.0) held a.0 c.in-Ok-run_lines.clean c.as_bytes.result.now a.1 c.as_slice.result.now _ _ _ _ refl head answered tail c.in-Ok.ensures.ok.0 a.3 c.in-Ok-end.ensures.ok.0,
    )

pub returns-clause-took : goal.returns-clause-took
returns-clause-took g c =
    let held = g.W.ScriptWrite.held c.args.writer.now in
    let held' = g.W.ScriptWrite.held c.end.new.writer in
    let db = option_map (λ s. s.now) c.args.db in
    let head = subst (λ (t : List ℕ). Draws [] t []) (sym c.as_bytes.ensures.value) c.head_of.ensures in
    let tail = subst (λ (t : List ℕ). Draws [] t []) (sym c.as_slice.ensures.value) c.in_ok-tail.ensures in
    let a = c.in-Ok-run_lines.ensures.took in
    let answered = seen_as _ Pictures (λ d. sketch_of d.form d.db d.begun d.tally) (λ old line told new h. h) _ _ a.0 _ a.1 a.4 in
    let e = c.in-Err-end.ensures.err in (
      a.0,
      a.2,
      subst (λ f. IsPicturedUntil f c.args.form db (Some a.0) held held') (sym c.in-Err-end.ensures.fault)
          (until_end c.args.form db (Some a.0) held a.0 c.in-Ok-run_lines.clean c.as_bytes.result.now a.1 c.as_slice.result.now e.0 e.1 _ _ _ held' refl head answered tail c.in-Ok.ensures.ok.0 a.3 e.2 e.3),
    )
