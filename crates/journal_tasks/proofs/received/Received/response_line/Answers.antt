use Rattle.proof_prelude.proofs.{[], ◌++◌, ◌&&◌, codes, if◌then◌else◌, not, refl, ap, ◌∙◌}
use Rattle.journal_lines.specs.Entries.{entry_view}
use Rattle.journal_tasks.proofs.{response_step}
use Rattle.journal_tasks.proofs.received.Received.response_line.Goals as goal

pub returns : goal.returns
returns c = λ only lines text k.
    response_step only lines text c.args.line.now _ c.args.self.now _ c.add.new.self c.in_ok-known.known (entry_view c.in_ok-entry.entry) k c.requires.part c.in_ok-entry.ensures c.in_ok-add.ensures c.in_ok-known.ensures.known c.check.ensures refl refl refl c.in_ok-known.ensures.docs
    (c.in_ok-pass_on.ensures ∙ ap (λ z. z ++ (if c.in_ok-known.known && not c.args.self.now.only_lacks then c.args.line.now ++ codes "\n" else [])) c.requires.empty)
