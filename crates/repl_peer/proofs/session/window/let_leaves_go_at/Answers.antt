use Rattle.repl_peer.proofs.{at_place, windows_kept, is_thinner}
use Rattle.repl_peer.proofs.session.window.let_leaves_go_at.Goals as goal

pub returns : goal.returns
returns c =
    let vs = c.args.windows.now.items in
    let v = c.index_mut.result.now in
    record {
      windows = windows_kept vs c.args.place v c.let_leaves_go.new.self (at_place vs c.args.place v c.requires.within c.index_mut.ensures.value) c.let_leaves_go.ensures;
      thinner = is_thinner vs c.args.place v c.let_leaves_go.new.self (at_place vs c.args.place v c.requires.within c.index_mut.ensures.value) c.let_leaves_go.ensures;
    }
