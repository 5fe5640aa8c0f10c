use Rattle.proof_prelude.proofs.{◌++◌, ap, sym, ◌∙◌, string_bytes, encode_utf8_all, YieldsList-from_chars, YieldsList-end, map-id}
use Rattle.visible_text.specs.{quoted_chars, quoted_char}
use Rattle.visible_text.proofs.{more_chars}
use Rattle.visible_text.proofs.visible.push_quoted_chars.Goals as goal

pub loop-c-preserved : goal.loop-c-preserved
loop-c-preserved c =
    more_chars quoted_char (string_bytes c.args.out.now) (string_bytes c.loop-c.out) (string_bytes c.push_quoted_char.new.out)
    c.loop-c.yielded c.in-Some.c c.loop-c.invariant c.in_ok-push_quoted_char.ensures

pub returns : goal.returns
returns c =
    let t = YieldsList-end (YieldsList-from_chars c.args.text.now c.utf8.text cc) c.loop-c.yielded _ c.loop-c.yielded_by _ _ c.in-None.is c.next.ensures.steps in
    c.loop-c.invariant ∙ ap (λ cs. string_bytes c.args.out.now ++ encode_utf8_all (quoted_chars cs)) (sym (map-id c.loop-c.yielded) ∙ t.0)
