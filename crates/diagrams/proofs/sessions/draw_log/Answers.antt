use Rattle.proof_prelude.proofs.{List, ℕ, [], ◌∷◌, subst, string_bytes, flat_map}
use Rattle.output_parser.specs.{Entry}
use Rattle.diagrams.specs.{Draws, Sign, log, most_from, signs_of_session}
use Rattle.diagrams.proofs.{drawn_plain, drawn_then, plain_by}
use Rattle.diagrams.proofs.sessions.draw_log.Goals as goal

pub returns : goal.returns
returns c =
    let l = c.args.log.now in
    let form = c.args.form in
    let name : Sign = log form (string_bytes l.id) in
    let rows : List Sign = flat_map (signs_of_session form (most_from 1 l.entries.items)) l.entries.items in
    let named = subst (λ (t : List ℕ). Draws c.begin.new.out.items c.put_log.new.out.items (log form t ∷ [])) c.as_str.ensures.value c.in_ok-put_log.ensures in
    let all = subst (λ (es : List Entry). Draws c.end_line.new.out.items c.draw_sessions.new.out.items (flat_map (signs_of_session form (most_from 1 es)) es))
    c.as_slice.ensures.value c.in_ok-draw_sessions.ensures in
    let head = drawn_plain _ _ _ (name ∷ []) (drawn_then _ _ _ [] (name ∷ []) c.in_ok-begin.ensures named) c.in_ok-end_line.ensures in
    plain_by c.end_log.result _ _ _ (name ∷ rows) (drawn_then _ _ _ (name ∷ []) rows head all) c.end_log.ensures
