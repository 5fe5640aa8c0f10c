use Rattle.std.proofs.Math.Seq.{map-set_same}
use Rattle.proof_prelude.proofs.{◌≡◌, slice_set, Ok, Err, refl, sym, subst, inr}
use Rattle.repl_peer.specs.{after_edit}
use Rattle.repl_network.specs.{peers_of, AreTied, IsNet, KeepsAgreement, AllMadeBy}
use Rattle.repl_network.proofs.{changed_at, there_at, edit_writes, wrote_tied, wrote_net, edit_agree, edit_made}
use Rattle.repl_network.proofs.along.edit_at.Goals as goal

pub returns-in-Ok : goal.returns-in-Ok
returns-in-Ok g c =
    let changed = changed_at c.args.peers.now c.args.place c.index-peers-place.result c.if-place-peers.false c.edit.new.self (λ p. after_edit p c.args.id.now c.args.parent c.args.deleted c.args.body.now) c.in-Ok.ensures.ok in
    let writes = edit_writes c.args.id.now c.args.parent c.args.deleted c.args.body.now in
    record {
      answer = inr (_, there_at c.args.peers.now c.args.place c.index-peers-place.result c.if-place-peers.false, Ok c.in-Ok.rev, c.in-Ok.ensures.answer, refl);
      filters = map-set_same _ c.args.peers.now c.args.place c.edit.new.self c.index-peers-place.result c.edit.ensures.filter;
      tied = wrote_tied (peers_of c.args.peers.now) c.args.place _ _ writes changed;
      net = wrote_net (peers_of c.args.peers.now) c.args.place _ _ writes changed;
      ok = changed;
      err = tt;
      made = λ among at one. edit_made among (peers_of c.args.peers.now) c.args.place c.args.id.now c.args.parent c.args.deleted c.args.body.now _ changed at one;
      agree = edit_agree (peers_of c.args.peers.now) c.args.place c.args.id.now c.args.parent c.args.deleted c.args.body.now _ changed;
    }

pub returns-in-Err : goal.returns-in-Err
returns-in-Err g c =
    let kept : peers_of (slice_set c.args.peers.now c.args.place c.edit.new.self) ≡ peers_of c.args.peers.now = map-set_same _ c.args.peers.now c.args.place c.edit.new.self c.index-peers-place.result c.in-Err.ensures.err in
    record {
      answer = inr (_, there_at c.args.peers.now c.args.place c.index-peers-place.result c.if-place-peers.false, Err c.in-Err.fault, c.in-Err.ensures.answer, refl);
      filters = map-set_same _ c.args.peers.now c.args.place c.edit.new.self c.index-peers-place.result c.edit.ensures.filter;
      tied = λ net. subst AreTied (sym kept) net;
      net = λ backups net. subst (IsNet backups) (sym kept) net;
      ok = tt;
      err = kept;
      made = λ among at _ made. subst (λ ps. AllMadeBy among ps at) (sym kept) made;
      agree = λ _ id. subst (λ ps. KeepsAgreement (peers_of c.args.peers.now) ps id) (sym kept) (λ agree whole. (agree, whole));
    }
