use Rattle.proof_prelude.proofs.{false, sym, ap, ◌∙◌, option_copied, option_map_or}
use Rattle.std.specs.Arc.{arc_value}
use Rattle.rev_core.specs.{is_among}
use Rattle.doc_json.specs.Document.{Document}
use Rattle.repl_peer.proofs.session.ledger_index.LedgerIndex.is_in_first.Goals as goal

pub returns-in-Some : goal.returns-in-Some
returns-in-Some c =
    let is = sym c.get.ensures.value ∙ ap option_copied c.in-Some.is in
    c.contains.ensures ∙ ap (is_among c.args.rev) (c.ancestry.ensures.part ∙ ap (λ (d : Document). d.ancestry) c.deref.ensures)
    ∙ ap (λ o. option_map_or (λ doc. is_among c.args.rev (arc_value {X = Document} doc).ancestry) o false) (sym is)

pub returns-in-None : goal.returns-in-None
returns-in-None c =
    let is = sym c.get.ensures.value ∙ ap option_copied c.in-None.is in
    ap (λ o. option_map_or (λ doc. is_among c.args.rev (arc_value {X = Document} doc).ancestry) o false) (sym is)
