use Rattle.std.proofs.Common.{◌≡◌, ◌+◌, ◌∷◌, ◌++◌, ◌∙◌, List, drop, subst}
use Rattle.relay_core.specs.declared.messages.LogEntry.{LogEntry}
use Rattle.relay_core.specs.Views.{entries_view}
use Rattle.relay_requests.specs.Logs.{older_text, thinned}
use Rattle.relay_requests.specs.Kept.{kept_view}
use Rattle.relay_requests.proofs.Lists.{drop-item}
use Rattle.relay_requests.proofs.logs.put_older.Goals as goal

pub loop-entry-preserved : goal.loop-entry-preserved
loop-entry-preserved c =
    let entries = c.args.history.now in
    let i = c.loop-entry.entry-index in
    let step = drop-item entries i c.entry-item.result c.entry-item.is c.loop-entry-test.true in
    let P : List LogEntry → Type 0 = λ xs. c.loop-entry.out.items ++ older_text (thinned (kept_view c.loop-entry.kept.items) (entries_view xs)) ≡ c.args.out.now.items ++ older_text (thinned (kept_view c.push.new.self.items) (entries_view entries)) in
    c.in_ok-put_if_kept.ensures (entries_view (drop (i + 1) entries)) ∙ subst P step c.loop-entry.invariant
