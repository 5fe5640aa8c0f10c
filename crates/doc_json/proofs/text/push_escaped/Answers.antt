use Rattle.proof_prelude.proofs.{◌≡◌, ◌+◌, ◌-◌, ◌<◌, ◌≤◌, ◌++◌, [], ◌∷◌, length, take, drop, get_or, sym, ap, ◌∙◌, arith, append_assoc, prefix_len}
use Rattle.json.specs.Print.{escape, escape_byte}
use Rattle.json.specs.Run.{is_plain}
use Rattle.json.proofs.Printed.Strings.{escape_to_stop, escape_at, escape_end}
use Rattle.doc_json.proofs.{kept_if, kept_more, kept_then, moved}
use Rattle.doc_json.proofs.text.push_escaped.Goals as goal

pub loop-out-init : goal.loop-out-init
loop-out-init c = let rest = escape c.args.text.now ++ 34 ∷ [] in (omega arith, ap (λ l. l ++ rest) c.in_ok-push.ensures.items ∙ append_assoc c.args.out.now.items (34 ∷ []) rest, kept_more _ _ _ c.in_ok-push.ensures.items)

pub returns-then-stop-bytes-clause-text : goal.returns-then-stop-bytes-clause-text
returns-then-stop-bytes-clause-text c =
    let d = c.args.text.now in
    let l = c.loop-out in
    let stop = c.plain_end-stop.result in
    let same = c.as_bytes-bytes.ensures.value in
    let is : stop ≡ l.at + prefix_len is_plain (drop l.at d) = rw (← same) c.plain_end-stop.ensures.value in
    let pushed : c.extend_from_slice.new.self.items ≡ l.out.items ++ take (stop - l.at) (drop l.at d) = rw (← same) c.in_ok-extend_from_slice.ensures.items in
    let mid = moved _ _ _ _ _ _ pushed (escape_to_stop d l.at stop (34 ∷ []) is) l.invariant.1 in
    let ended : length d ≤ stop = omega arith in
    c.in_ok-push-2.ensures.items ∙ ap (λ s. c.extend_from_slice.new.self.items ++ s) (sym (escape_end d stop (34 ∷ []) ended)) ∙ mid

pub loop-out-preserved : goal.loop-out-preserved
loop-out-preserved c =
    let d = c.args.text.now in
    let l = c.loop-out in
    let stop = c.plain_end-stop.result in
    let same = c.as_bytes-bytes.ensures.value in
    let is : stop ≡ l.at + prefix_len is_plain (drop l.at d) = rw (← same) c.plain_end-stop.ensures.value in
    let pushed : c.extend_from_slice.new.self.items ≡ l.out.items ++ take (stop - l.at) (drop l.at d) = rw (← same) c.in_ok-extend_from_slice.ensures.items in
    let mid = moved _ _ _ _ _ _ pushed (escape_to_stop d l.at stop (34 ∷ []) is) l.invariant.1 in
    let within : stop < length d = omega arith in
    let escaped : c.push_escape.new.out.items ≡ c.extend_from_slice.new.self.items ++ escape_byte (get_or d stop 0) = rw (← same) c.in_ok-push_escape.ensures.text in
    (omega arith, moved _ _ _ _ _ _ escaped (escape_at d stop (34 ∷ []) within) mid, kept_then _ _ _ (kept_then _ _ _ l.invariant.2 (kept_more _ _ _ pushed)) c.push_escape.ensures.kept)

pub returns-in_err-extend_from_slice-clause-kept : goal.returns-in_err-extend_from_slice-clause-kept
returns-in_err-extend_from_slice-clause-kept c = kept_then _ _ _ c.loop-out.invariant.2 (kept_if _ _ _ _ c.extend_from_slice.ensures.items)

pub returns-in_err-push-2-clause-kept : goal.returns-in_err-push-2-clause-kept
returns-in_err-push-2-clause-kept c =
    kept_then _ _ _ (kept_then _ _ _ c.loop-out.invariant.2 (kept_if _ _ _ _ c.extend_from_slice.ensures.items)) (kept_if _ _ _ _ c.push-then-stop-bytes.ensures.items)

pub returns-then-stop-bytes-clause-kept : goal.returns-then-stop-bytes-clause-kept
returns-then-stop-bytes-clause-kept c =
    kept_then _ _ _ (kept_then _ _ _ c.loop-out.invariant.2 (kept_if _ _ _ _ c.extend_from_slice.ensures.items)) (kept_if _ _ _ _ c.push-then-stop-bytes.ensures.items)

pub returns-in_err-push_escape-clause-kept : goal.returns-in_err-push_escape-clause-kept
returns-in_err-push_escape-clause-kept c =
    kept_then _ _ _ (kept_then _ _ _ c.loop-out.invariant.2 (kept_if _ _ _ _ c.extend_from_slice.ensures.items)) c.push_escape.ensures.kept
