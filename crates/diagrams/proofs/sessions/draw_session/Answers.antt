use Rattle.proof_prelude.proofs.{List, ℕ, [], ◌∷◌, subst, string_bytes}
use Rattle.output_parser.specs.declared.told.Column.TheVariants as columns
use Rattle.output_parser.specs.declared.told.Table.TheVariants as tables
use Rattle.diagrams.specs.{Draws, Sign, chart, count, heading, moment}
use Rattle.diagrams.proofs.{drawn_plain, drawn_then, plain_by}
use Rattle.diagrams.proofs.sessions.draw_session.Goals as goal

pub returns : goal.returns
returns c =
    let e = c.args.entry.now in
    let form = c.args.form in
    let begun : Sign = moment form (string_bytes e.begun) in
    let bar : Sign = chart form e.written e.read c.args.most in
    let read : Sign = count columns.Read e.read in
    let written : Sign = count columns.Written e.written in
    let failed : Sign = count columns.Failed e.failed in
    let name : Sign = heading form tables.Session (string_bytes e.session) in
    let told = subst (λ (t : List ℕ). Draws c.begin_session.new.out.items c.put_moment.new.out.items (moment form t ∷ [])) c.as_str.ensures.value c.in_ok-put_moment.ensures in
    let named = subst (λ (t : List ℕ). Draws c.mark.new.out.items c.put_heading.new.out.items (heading form tables.Session t ∷ [])) c.as_str-2.ensures.value c.in_ok-put_heading.ensures in
    let one = drawn_then _ _ _ [] (begun ∷ []) c.in_ok-begin_session.ensures told in
    let two = drawn_then _ _ _ (begun ∷ []) (bar ∷ []) one c.in_ok-put_chart.ensures in
    let three = drawn_then _ _ _ (begun ∷ bar ∷ []) (read ∷ []) two c.in_ok-put_count.ensures in
    let four = drawn_then _ _ _ (begun ∷ bar ∷ read ∷ []) (written ∷ []) three c.in_ok-put_count-2.ensures in
    let five = drawn_then _ _ _ (begun ∷ bar ∷ read ∷ written ∷ []) (failed ∷ []) four c.in_ok-put_count-3.ensures in
    let spaced = drawn_plain _ _ _ (begun ∷ bar ∷ read ∷ written ∷ failed ∷ []) five c.in_ok-mark.ensures.draws in
    plain_by c.end_line.result _ _ _ (begun ∷ bar ∷ read ∷ written ∷ failed ∷ name ∷ [])
    (drawn_then _ _ _ (begun ∷ bar ∷ read ∷ written ∷ failed ∷ []) (name ∷ []) spaced named) c.end_line.ensures
