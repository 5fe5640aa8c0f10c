use Rattle.std.proofs.Common.{List, ap, ◌∙◌}
use Rattle.std.specs.Prelude.{String}
use Rattle.std.specs.Global.{Global}
use Rattle.relay_core.specs.Views.{texts_of}
use Rattle.relay_responses.specs.Maps.{texts_in}
use Rattle.relay_responses.specs.Pages.{add_revs}
use Rattle.relay_responses.proofs.Maps.{row_added}
use Rattle.relay_responses.proofs.pages.add_row.Goals as goal

pub returns : goal.returns
returns c =
    row_added _ c.insert.new.self.entries c.insert-2.new.self.entries c.as_str.result c.as_str-2.result _ _ _ c.add_revs.new.known c.in_ok-known.known _
    c.as_str.ensures.value c.as_str-2.ensures.value c.in_ok-known.ensures.old c.known_or_empty-revs.ensures (c.in_ok-add_revs.ensures ∙ ap (λ (ss : List (String Global)). add_revs (texts_in c.known_or_empty-revs.result.keys) (texts_of ss)) c.as_slice.ensures.value) c.in_ok-known.ensures.entries c.in_ok-insert.ensures.entries
