use Rattle.proof_prelude.proofs.{◌≡◌, map, false, ap, ◌∙◌, IfOk-weaker}
use Rattle.serde_json.specs.Data.{string, array}
use Rattle.serde_json.specs.View.{view, items_of}
use Rattle.serde_json.specs.Written.{compact_text, has_float}
use Rattle.repl_log.proofs.{items_have_float-texts}
use Rattle.repl_log.proofs.text.list_text.Goals as goal

pub returns : goal.returns
returns c =
    let items : map view c.in_ok-items.items.items ≡ map string c.args.chosen.now = c.in_ok-items.ensures ∙ ap (map string) c.ids.ensures.ids in
    let built : view c.from.result ≡ array (items_of (map string c.args.chosen.now)) = c.from.ensures ∙ ap (λ l. array (items_of l)) items in
    let whole : has_float (view c.from.result) ≡ false = ap has_float built ∙ items_have_float-texts c.args.chosen.now in
    IfOk-weaker c.to_string.result _ _ (λ s text. text whole ∙ ap compact_text built) c.to_string.ensures.text
