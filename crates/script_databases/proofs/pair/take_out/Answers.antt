use Rattle.proof_prelude.proofs.{Some, sym, ap, ◌∙◌, rules, is_some, cond, true≢false}
use Rattle.repl_peer.specs.{PeerValue, Rules}
use Rattle.script_databases.specs.{entry_at}
use Rattle.script_databases.proofs.{differ, has_at, one_updated, still_both, still_there, two_updated}
use Rattle.script_databases.proofs.pair.take_out.Goals as goal

pub unreachable-requires : goal.unreachable-requires
unreachable-requires c = true≢false (sym c.requires.source ∙ has_at c.args.names.now.entries c.args.source.now ∙ ap is_some (sym c.in_default.ensures.value))

pub unreachable-requires-in_default-get_mut : goal.unreachable-requires-in_default-get_mut
unreachable-requires-in_default-get_mut c =
    let es = c.args.names.now in
    let dest = c.replace-sender.new.dest in
    let mid = c.get_mut.follows.lender dest in
    let one = one_updated es mid c.args.source.now dest ((c.get_mut.follows.holds dest).3 (search rules)) in
    true≢false (sym (still_there es.entries mid.entries c.args.source.now c.args.target.now dest one (sym (has_at es.entries c.args.target.now) ∙ c.requires.target)) ∙ ap is_some (sym c.in_default-get_mut.ensures.value))

pub returns : goal.returns
returns c =
    let es = c.args.names.now in
    let a = c.args.source.now in
    let b = c.args.target.now in
    let d = c.replace-sender.new.dest in
    let e = c.replace-receiver.new.dest in
    let mid = c.get_mut.follows.lender d in
    let new = c.get_mut-2.follows.lender e in
    let one = one_updated es mid a d ((c.get_mut.follows.holds d).3 (search rules)) in
    let both = two_updated es mid new a b d e ((c.get_mut.follows.holds d).3 (search rules)) ((c.get_mut-2.follows.holds e).3 (search rules)) in
    let still = still_both es.entries new.entries a b d e both in
    record {
      source = sym c.in-Some.ensures.value ∙ ap (λ (p : Rules × PeerValue). Some p) (sym c.replace-sender.ensures.value);
      target = sym (one b ∙ ap (λ i. cond i (Some d) (entry_at es.entries b)) (differ a b c.requires.two)) ∙ sym c.in-Some-get_mut.ensures.value ∙ ap (λ (p : Rules × PeerValue). Some p) (sym c.replace-receiver.ensures.value);
      left = (d, e, both);
      source_left = still a c.requires.source;
      target_left = still b c.requires.target;
    }
