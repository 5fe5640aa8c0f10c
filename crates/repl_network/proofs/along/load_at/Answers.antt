use Rattle.std.proofs.Math.Seq.{map-set_same}
use Rattle.proof_prelude.proofs.{◌≡◌, slice_set, Ok, Err, refl, sym, subst, inr}
use Rattle.repl_peer.specs.{after_load}
use Rattle.repl_network.specs.{peers_of, AreTied, IsNet, KeepsAgreement, AllMadeBy}
use Rattle.repl_network.proofs.{changed_at, there_at, load_writes, wrote_tied, wrote_net, wrote_agree, load_made}
use Rattle.repl_network.proofs.along.load_at.Goals as goal

pub returns-in-Ok : goal.returns-in-Ok
returns-in-Ok g c =
    let changed = changed_at c.args.peers.now c.args.place c.index-peers-place.result c.if-place-peers.false c.load.new.self (λ p. after_load p c.args.doc.now) c.in-Ok.ensures.ok in
    record {
      answer = inr (_, there_at c.args.peers.now c.args.place c.index-peers-place.result c.if-place-peers.false, Ok c.in-Ok.put, c.in-Ok.ensures.answer, refl);
      filters = map-set_same _ c.args.peers.now c.args.place c.load.new.self c.index-peers-place.result c.load.ensures.filter;
      tied = wrote_tied (peers_of c.args.peers.now) c.args.place _ _ (load_writes c.args.doc.now) changed;
      net = wrote_net (peers_of c.args.peers.now) c.args.place _ _ (load_writes c.args.doc.now) changed;
      ok = changed;
      err = tt;
      made = load_made (peers_of c.args.peers.now) c.args.place c.args.doc.now _ changed;
      agree = wrote_agree (peers_of c.args.peers.now) c.args.place c.args.doc.now _ changed;
    }

pub returns-in-Err : goal.returns-in-Err
returns-in-Err g c =
    let kept : peers_of (slice_set c.args.peers.now c.args.place c.load.new.self) ≡ peers_of c.args.peers.now = map-set_same _ c.args.peers.now c.args.place c.load.new.self c.index-peers-place.result c.in-Err.ensures.err in
    record {
      answer = inr (_, there_at c.args.peers.now c.args.place c.index-peers-place.result c.if-place-peers.false, Err c.in-Err.fault, c.in-Err.ensures.answer, refl);
      filters = map-set_same _ c.args.peers.now c.args.place c.load.new.self c.index-peers-place.result c.load.ensures.filter;
      tied = λ net. subst AreTied (sym kept) net;
      net = λ backups net. subst (IsNet backups) (sym kept) net;
      ok = tt;
      err = kept;
      made = λ among other _ made. subst (λ ps. AllMadeBy among ps other) (sym kept) made;
      agree = λ _ _ id. subst (λ ps. KeepsAgreement (peers_of c.args.peers.now) ps id) (sym kept) (λ agree whole. (agree, whole));
    }
