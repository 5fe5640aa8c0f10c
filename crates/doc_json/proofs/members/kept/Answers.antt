use Rattle.proof_prelude.proofs.{◌≡◌, true, false, is_some, option_map, sym, ◌∙◌}
use Rattle.serde_json.specs.Data.{no_members}
use Rattle.doc_json.proofs.{is_some-option_map, none_yet, looked_at}
use Rattle.doc_json.proofs.members.kept.Goals as goal

pub returns-then-is_same_text : goal.returns-then-is_same_text
returns-then-is_same_text g c =
    let empty : false ≡ is_some (option_map (λ v. g.V.JsonValue.seen v.now) c.args.found) = sym (is_some-option_map _ c.args.found ∙ sym c.is_some.ensures ∙ c.if-is_some.false) in
    sym (none_yet _ _ empty ∙ looked_at c.args.wanted.now c.args.name.now (g.V.JsonValue.seen c.args.member.now) no_members true (sym c.if-is_same_text.true ∙ c.is_same_text.ensures))

pub returns-else-is_same_text : goal.returns-else-is_same_text
returns-else-is_same_text g c =
    let empty : false ≡ is_some (option_map (λ v. g.V.JsonValue.seen v.now) c.args.found) = sym (is_some-option_map _ c.args.found ∙ sym c.is_some.ensures ∙ c.if-is_some.false) in
    sym (none_yet _ _ empty ∙ looked_at c.args.wanted.now c.args.name.now (g.V.JsonValue.seen c.args.member.now) no_members false (sym c.if-is_same_text.false ∙ c.is_same_text.ensures))
