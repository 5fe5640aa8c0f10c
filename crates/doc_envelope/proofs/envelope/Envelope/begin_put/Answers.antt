use Rattle.proof_prelude.proofs.{◌<◌, drop, length, subst}
use Rattle.doc_envelope.specs.{first_length, held_of, made_of}
use Rattle.doc_envelope.proofs.{put_started}
use Rattle.doc_envelope.proofs.envelope.Envelope.begin_put.Goals as goal

pub returns : goal.returns
returns c =
    let folded = c.fold.new.self in
    let two = subst (λ t. first_length (drop 1 t) < length (drop 1 t)) c.text.ensures (c.ends_first.ensures c.if-not-ends_first.false) in
    put_started c.args.beginning.now (made_of c.begin_held.new.self) (made_of folded) (held_of folded) c.begin_held.result (c.may_stream.ensures c.if-not-may_stream.false)
    (c.in_attachments.ensures c.if-not-in_attachments.false) c.in_ok-fold.ensures.made c.in_ok-fold.ensures.held two c.begin_held.ensures.made
