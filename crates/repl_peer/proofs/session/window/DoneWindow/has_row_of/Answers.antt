use Rattle.proof_prelude.proofs.{ap, ◌∙◌, list_any, bytes_eq}
use Rattle.couch_base.specs.{Id, RowValue, WindowValue}
use Rattle.repl_peer.proofs.{rows_have}
use Rattle.repl_peer.proofs.session.window.DoneWindow.has_row_of.Goals as goal

pub returns : goal.returns
returns c =
    let id = c.args.id.now in
    c.has.ensures ∙ ap (list_any (λ (own : Id). bytes_eq own id)) c.self.invariant ∙ rows_have id c.self.inside.rows.rows
    ∙ ap (λ (w : WindowValue). list_any (λ (row : RowValue). bytes_eq row.id id) w.rows) c.self.view_is
