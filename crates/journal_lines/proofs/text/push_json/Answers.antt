use Rattle.proof_prelude.proofs.{◌++◌, ap, ◌∙◌}
use Rattle.journal_lines.proofs.{text_is}
use Rattle.journal_lines.proofs.text.push_json.Goals as goal

pub returns : goal.returns
returns c = c.in_ok-extend_from_slice.ensures.items ∙ ap (λ z. c.args.out.now.items ++ z) (c.as_slice.ensures.value ∙ text_is c.new-writer.result.before c.string.new.self.before c.new.result.items c.into_inner-json.result.items c.args.text.now c.new-writer.result.tokens c.string.new.self.tokens
    c.new.ensures.items c.new-writer.ensures.before c.new-writer.ensures.tokens c.string.ensures.room.0 c.in_ok-string.ensures.ok c.into_inner-json.ensures.items)
