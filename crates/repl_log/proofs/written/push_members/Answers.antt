use Rattle.proof_prelude.proofs.{ℕ, List, ◌∷◌, ◌++◌, [], codes, decimal, ap, sym, ◌∙◌}
use Rattle.json.specs.Print.{quoted}
use Rattle.repl_log.specs.{EntryValue, value_of}
use Rattle.repl_log.proofs.{moved, entry_pieces}
use Rattle.repl_log.proofs.written.push_members.Goals as goal

pub returns : goal.returns
returns c =
    let e : EntryValue = value_of c.args.entry in
    let out : List ℕ = c.args.out.now.items in
    let left-11 : List ℕ = 125 ∷ [] in
    let left-10 : List ℕ = (codes ",\"start_time\":" ++ quoted c.args.start.now) ++ left-11 in
    let left-9 : List ℕ = (codes ",\"start_last_seq\":" ++ decimal e.start) ++ left-10 in
    let left-8 : List ℕ = (codes ",\"session_id\":" ++ quoted c.args.session.now) ++ left-9 in
    let left-7 : List ℕ = (codes ",\"recorded_seq\":" ++ decimal e.recorded) ++ left-8 in
    let left-6 : List ℕ = (codes ",\"missing_found\":" ++ decimal e.counts.found) ++ left-7 in
    let left-5 : List ℕ = (codes ",\"missing_checked\":" ++ decimal e.counts.checked) ++ left-6 in
    let left-4 : List ℕ = (codes ",\"end_time\":" ++ quoted c.args.end.now) ++ left-5 in
    let left-3 : List ℕ = (codes ",\"end_last_seq\":" ++ decimal e.recorded) ++ left-4 in
    let left-2 : List ℕ = (codes ",\"docs_written\":" ++ decimal e.counts.written) ++ left-3 in
    let left-1 : List ℕ = (codes ",\"docs_read\":" ++ decimal e.counts.read) ++ left-2 in
    let whole = ap (λ l. out ++ l) (sym (entry_pieces e c.args.session.now c.args.start.now c.args.end.now)) in
    let at-1 = moved out (codes "{\"doc_write_failures\":" ++ decimal e.counts.failures) left-1 c.push_whole.new.out.items whole c.in_ok-push_whole.ensures in
    let at-2 = moved c.push_whole.new.out.items (codes ",\"docs_read\":" ++ decimal e.counts.read) left-2 c.push_whole-2.new.out.items at-1 c.in_ok-push_whole-2.ensures in
    let at-3 = moved c.push_whole-2.new.out.items (codes ",\"docs_written\":" ++ decimal e.counts.written) left-3 c.push_whole-3.new.out.items at-2 c.in_ok-push_whole-3.ensures in
    let at-4 = moved c.push_whole-3.new.out.items (codes ",\"end_last_seq\":" ++ decimal e.recorded) left-4 c.push_whole-4.new.out.items at-3 c.in_ok-push_whole-4.ensures in
    let at-5 = moved c.push_whole-4.new.out.items (codes ",\"end_time\":" ++ quoted c.args.end.now) left-5 c.push_quoted.new.out.items at-4 c.in_ok-push_quoted.ensures in
    let at-6 = moved c.push_quoted.new.out.items (codes ",\"missing_checked\":" ++ decimal e.counts.checked) left-6 c.push_whole-5.new.out.items at-5 c.in_ok-push_whole-5.ensures in
    let at-7 = moved c.push_whole-5.new.out.items (codes ",\"missing_found\":" ++ decimal e.counts.found) left-7 c.push_whole-6.new.out.items at-6 c.in_ok-push_whole-6.ensures in
    let at-8 = moved c.push_whole-6.new.out.items (codes ",\"recorded_seq\":" ++ decimal e.recorded) left-8 c.push_whole-7.new.out.items at-7 c.in_ok-push_whole-7.ensures in
    let at-9 = moved c.push_whole-7.new.out.items (codes ",\"session_id\":" ++ quoted c.args.session.now) left-9 c.push_quoted-2.new.out.items at-8 c.in_ok-push_quoted-2.ensures in
    let at-10 = moved c.push_quoted-2.new.out.items (codes ",\"start_last_seq\":" ++ decimal e.start) left-10 c.push_whole-8.new.out.items at-9 c.in_ok-push_whole-8.ensures in
    let at-11 = moved c.push_whole-8.new.out.items (codes ",\"start_time\":" ++ quoted c.args.start.now) left-11 c.push_quoted-3.new.out.items at-10 c.in_ok-push_quoted-3.ensures in
    c.in_ok-push.ensures.items ∙ at-11
