use Rattle.proof_prelude.proofs.{false, ◌||◌, ap₂, lookup, option_map_or, bytes_eq}
use Rattle.std.specs.Arc.{arc_value}
use Rattle.rev_core.specs.{is_among}
use Rattle.doc_json.specs.Document.{Document}
use Rattle.repl_peer.proofs.session.ledger_index.LedgerIndex.new.Goals as goal

pub returns : goal.returns
returns c id r =
    ap₂ (λ x y. option_map_or (λ doc. is_among r (arc_value {X = Document} doc).ancestry) (lookup (bytes_eq id) x) false || option_map_or (λ revs. is_among r revs.keys) (lookup (bytes_eq id) y) false)
    c.new.ensures.empty c.new-2.ensures.empty
