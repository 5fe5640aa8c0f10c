use Rattle.std.proofs.Common.{option_map, sym, ap, ◌∙◌}
use Rattle.relay_core.specs.Views.{doc_view, docs_view}
use Rattle.relay_responses.proofs.Maps.{each_missing-next, each_missing-stops}
use Rattle.relay_responses.proofs.diffs.each_missing.Goals as goal

pub returns-in-None : goal.returns-in-None
returns-in-None c =
    each_missing-stops c.args.members.now.entries c.loop-i.i c.in-Some.id.now c.in-Some.value.now (docs_view c.loop-i.docs.items) _
    c.in-Some.ensures.entry (sym (ap (option_map doc_view) c.in-None.is) ∙ c.in_ok-doc.ensures) c.loop-i.invariant

pub loop-i-preserved : goal.loop-i-preserved
loop-i-preserved c =
    each_missing-next c.args.members.now.entries c.loop-i.i c.in-Some.id.now c.in-Some.value.now c.in-Some-2.doc c.loop-i.docs.items c.push.new.self.items _
    c.in-Some.ensures.entry (sym (ap (option_map doc_view) c.in-Some-2.is) ∙ c.in_ok-doc.ensures) c.in_ok-push-in-Some-2.ensures.items c.loop-i.invariant
