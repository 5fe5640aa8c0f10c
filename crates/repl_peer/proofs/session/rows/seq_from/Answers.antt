use Rattle.proof_prelude.proofs.{ap, ◌∙◌, MatchOption-at_some, get_or_from_slice_get}
use Rattle.couch_base.specs.{RowValue}
use Rattle.repl_peer.proofs.{seq_is}
use Rattle.repl_peer.specs.{IsRowOf}
use Rattle.repl_peer.proofs.session.rows.seq_from.Goals as goal

pub returns-clause-seq : goal.returns-clause-seq
returns-clause-seq c =
    let rows = c.args.rows.now in
    let id = c.args.id.now in
    let place = c.unwrap-place.result in
    let here : IsRowOf rows id place = MatchOption-at_some _ (IsRowOf rows id) place c.unwrap-place.ensures c.row_from.ensures.some in
    c.seq.ensures
    ∙ ap (λ (r : RowValue). r.seq) (c.index-rows-place.is ∙ get_or_from_slice_get rows place here.0 c.index-rows-place.result here.1)
    ∙ seq_is rows place here.0 id c.requires.distinct here.1 here.2
