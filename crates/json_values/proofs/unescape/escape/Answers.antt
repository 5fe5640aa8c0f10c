use Rattle.proof_prelude.proofs.{◌≡◌, ◌+◌, drop, Some, ap, ◌∙◌, arith, common_steps, drop_all}
use Rattle.json_values.proofs.{content-after_backslash, content-nil, in_escape-any, escape_from}
use Rattle.std.specs.Char.{encode_utf8}
use Rattle.json.specs.Text.{content, after_backslash, after_u}
use Rattle.json.specs.Run.{Escape}
use Rattle.json_values.proofs.unescape.escape.Goals as goal

pub returns-then-i-text : goal.returns-then-i-text
returns-then-i-text c = ap (content after_backslash) (drop_all c.args.i c.args.text.now (omega arith)) ∙ content-nil after_backslash

pub returns-then-text-i-eq117 : goal.returns-then-text-i-eq117
returns-then-text-i-eq117 c =
    let d = c.args.text.now in
    let i = c.args.i in
    let same : content after_backslash (drop i d) ≡ content after_u (drop (i + 1) d) = grind (arith, content-after_backslash d i (omega arith)) in
    escape_from d i (i + 1) after_backslash after_u c.unicode.result same (in_escape-any d i (omega arith)) (omega arith) c.unicode.ensures

pub returns-in_err-c : goal.returns-in_err-c
returns-in_err-c c = grind (arith, common_steps, content-after_backslash c.args.text.now c.args.i (omega arith))

pub returns : goal.returns
returns c = unfold encode_utf8 in
    let d = c.args.text.now in
    let i = c.args.i in
    let e : Escape d after_backslash i (Some (c.in_ok-c.c, i + 1)) = grind (arith, common_steps, content-after_backslash d i (omega arith)) in
    (e.0, e.1, e.2, e.3, e.4, in_escape-any d i (omega arith))
