use Rattle.proof_prelude.proofs.{List, ℕ, [], ◌∷◌, ◌++◌, OnOk, subst, string_bytes}
use Rattle.output_parser.specs.{columns_of, Column}
use Rattle.diagrams.specs.{Draws, Sign, bars_of, counts_of, heading, signs_of_row}
use Rattle.diagrams.proofs.{drawn_plain, drawn_then, plain_by}
use Rattle.diagrams.proofs.lines.draw_numbers.Goals as goal

pub returns : goal.returns
returns c =
    let r = c.args.row.now in
    let form = c.args.form in
    let ns = c.as_slice-numbers.result.now in
    let name : Sign = heading form r.table (string_bytes r.name) in
    let counts : List Sign = counts_of (columns_of r.table) ns in
    let bars : List Sign = bars_of form r.table ns in
    let named = subst (λ (t : List ℕ). Draws c.begin.new.out.items c.put_heading.new.out.items (heading form r.table t ∷ [])) c.as_str.ensures.value c.in_ok-put_heading.ensures in
    let head = drawn_plain _ _ _ (name ∷ []) (drawn_then _ _ _ [] (name ∷ []) c.in_ok-begin.ensures named) c.in_ok-between.ensures in
    let all = subst (λ (cs : List Column). Draws c.between.new.out.items c.draw_counts.new.out.items (counts_of cs ns)) c.columns.ensures c.in_ok-draw_counts.ensures in
    let both = drawn_plain _ _ _ (name ∷ counts) (drawn_then _ _ _ (name ∷ []) counts head all) c.in_ok-behind_numbers.ensures in
    let barred = drawn_then _ _ _ (name ∷ counts) bars both c.in_ok-draw_bar.ensures in
    subst (λ (xs : List ℕ). OnOk c.end.result (Draws c.args.out.now.items c.end.new.out.items (signs_of_row form r.table (string_bytes r.name) xs)))
    c.as_slice-numbers.ensures.value (plain_by c.end.result _ _ _ (name ∷ (counts ++ bars)) barred c.end.ensures)
