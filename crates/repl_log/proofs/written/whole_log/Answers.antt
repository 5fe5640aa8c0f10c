use Rattle.proof_prelude.proofs.{◌≡◌, ℕ, List, ◌∷◌, ◌++◌, [], false, map, codes, decimal, ap, sym, ◌∙◌, append_assoc}
use Rattle.json.specs.Print.{quoted}
use Rattle.serde_json.specs.Data.{Items}
use Rattle.serde_json.specs.View.{items_of}
use Rattle.repl_log.specs.{EntryValue, id_digits, rep_text, entry_json, listed}
use Rattle.repl_log.proofs.{items_text-listed, moved, log_pieces}
use Rattle.repl_log.proofs.written.whole_log.Goals as goal

pub returns : goal.returns
returns c =
    let log : List EntryValue = c.args.log.now in
    let history : Items = items_of (map entry_json log) in
    let name : List ℕ = codes "_local/" ++ rep_text c.args.id.now in
    let session : List ℕ = id_digits c.args.newest.session.0 in
    let is-name : c.as_str.result.now ≡ name = c.as_str.ensures.value ∙ c.in_ok-name.ensures in
    let is-session : c.as_str-2.result.now ≡ session = c.as_str-2.ensures.value ∙ c.in_ok-session.ensures in
    let left-7 : List ℕ = 125 ∷ [] in
    let left-6 : List ℕ = (codes ",\"source_last_seq\":" ++ decimal c.args.newest.recorded) ++ left-7 in
    let left-5 : List ℕ = (codes ",\"session_id\":" ++ quoted session) ++ left-6 in
    let left-4 : List ℕ = (codes ",\"replication_id_version\":" ++ decimal 3) ++ left-5 in
    let left-3 : List ℕ = 93 ∷ left-4 in
    let left-2 : List ℕ = listed false log ++ left-3 in
    let left-1 : List ℕ = codes ",\"history\":[" ++ left-2 in
    let whole = sym (log_pieces (rep_text c.args.id.now) history session c.args.newest.recorded
    ∙ ap (λ l. (codes "{\"_id\":" ++ quoted name) ++ (codes ",\"history\":[" ++ (l ++ left-4))) (items_text-listed false log)
    ∙ ap (λ l. (codes "{\"_id\":" ++ quoted name) ++ (codes ",\"history\":[" ++ l)) (append_assoc (listed false log) (93 ∷ []) left-4)) in
    let at-1 = moved [] (codes "{\"_id\":" ++ quoted name) left-1 c.push_quoted.new.out.items whole (c.in_ok-push_quoted.ensures ∙ (λ i. c.new-out.ensures.items i ++ (codes "{\"_id\":" ++ quoted (is-name i)))) in
    let at-2 = moved c.push_quoted.new.out.items (codes ",\"history\":[") left-2 c.extend_from_slice.new.self.items at-1 c.in_ok-extend_from_slice.ensures.items in
    let at-3 = moved c.extend_from_slice.new.self.items (listed false log) left-3 c.push_entries.new.out.items at-2 c.in_ok-push_entries.ensures in
    let at-4 = moved c.push_entries.new.out.items (93 ∷ []) left-4 c.push.new.self.items at-3 c.in_ok-push.ensures.items in
    let at-5 = moved c.push.new.self.items (codes ",\"replication_id_version\":" ++ decimal 3) left-5 c.push_whole.new.out.items at-4 c.in_ok-push_whole.ensures in
    let at-6 = moved c.push_whole.new.out.items (codes ",\"session_id\":" ++ quoted session) left-6 c.push_quoted-2.new.out.items at-5 (c.in_ok-push_quoted-2.ensures ∙ (λ i. c.push_whole.new.out.items ++ (codes ",\"session_id\":" ++ quoted (is-session i)))) in
    let at-7 = moved c.push_quoted-2.new.out.items (codes ",\"source_last_seq\":" ++ decimal c.args.newest.recorded) left-7 c.push_whole-2.new.out.items at-6 c.in_ok-push_whole-2.ensures in
    c.in_ok-push-2.ensures.items ∙ at-7
