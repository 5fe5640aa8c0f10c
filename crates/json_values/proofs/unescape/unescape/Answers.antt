use Rattle.proof_prelude.proofs.{◌≡◌, ◌+◌, ◌-◌, ◌<◌, ◌++◌, length, take, drop, Some, None, sym, ap, ◌∙◌, subst, arith, IsUtf8-append, IsUtf8-between, IsCharBoundary-before_ascii, IsCharBoundary-after_ascii, common_steps, prefix_len, IsUtf8, IsCharBoundary, length-take-le, length-drop, append-nil}
use Rattle.json.specs.Text.{content, plain, after_backslash, prepend}
use Rattle.json.specs.Run.{is_plain}
use Rattle.json_values.proofs.{prepend-prepend, content-to_stop, at_quote, at_backslash, at_control, at_end, stop_is_backslash, in_string-to_stop, in_string-quote, in_string-backslash}
use Rattle.json_values.proofs.unescape.unescape.Goals as goal

pub returns-then-stop-bytes-clause-value : goal.returns-then-stop-bytes-clause-value
returns-then-stop-bytes-clause-value c =
    let d = c.args.text.now in
    let l = c.loop-bytes in
    let stop = c.plain_end-stop.result in
    let same = c.as_bytes-bytes.ensures.value in
    let is : stop ≡ l.i + prefix_len is_plain (drop l.i d) = rw (← same) c.plain_end-stop.ensures.value in
    let so_far = l.invariant.0 ∙ ap (prepend (take l.n l.out)) (content-to_stop d l.i stop is) ∙ prepend-prepend (take l.n l.out) _ _ in
    let none : content plain (drop stop d) ≡ None = grind (arith, at_end d stop, at_control d stop, same) in
    so_far ∙ ap (prepend _) none

pub returns-then-bytes-stop-eq34 : goal.returns-then-bytes-stop-eq34
returns-then-bytes-stop-eq34 c =
    let d = c.args.text.now in
    let l = c.loop-bytes in
    let stop = c.plain_end-stop.result in
    let same = c.as_bytes-bytes.ensures.value in
    let is : stop ≡ l.i + prefix_len is_plain (drop l.i d) = rw (← same) c.plain_end-stop.ensures.value in
    let so_far = l.invariant.0 ∙ ap (prepend (take l.n l.out)) (content-to_stop d l.i stop is) ∙ prepend-prepend (take l.n l.out) _ _ in
    let run = take (stop - l.i) (drop l.i d) in
    let within : stop < length d = omega arith in
    let long : length run ≡ stop - l.i = length-take-le (stop - l.i) (drop l.i d) (omega (arith, length-drop l.i d)) in
    let written : take (l.n + (stop - l.i)) c.append_run.new.out ≡ take l.n l.out ++ run = rw (← same) c.append_run.ensures.written in
    let ends = IsCharBoundary-before_ascii d stop within (grind (arith, same)) in
    record {
      value = so_far ∙ ap (prepend _) (at_quote d stop within (grind (arith, same))) ∙ ap Some (append-nil _ ∙ sym written);
      text = (omega arith, subst IsUtf8 (sym written) (IsUtf8-append _ run l.invariant.1 (IsUtf8-between d l.i stop c.utf8.text (omega arith) l.invariant.2 ends)));
      after = l.invariant.5 ∙ in_string-to_stop d l.i stop is ∙ in_string-quote d stop within (grind (arith, same));
      bounds = grind (arith, common_steps);
      len = grind (arith, common_steps);
    }

pub returns-in_err-c-clause-value : goal.returns-in_err-c-clause-value
returns-in_err-c-clause-value c =
    let d = c.args.text.now in
    let l = c.loop-bytes in
    let stop = c.plain_end-stop.result in
    let same = c.as_bytes-bytes.ensures.value in
    let is : stop ≡ l.i + prefix_len is_plain (drop l.i d) = rw (← same) c.plain_end-stop.ensures.value in
    let so_far = l.invariant.0 ∙ ap (prepend (take l.n l.out)) (content-to_stop d l.i stop is) ∙ prepend-prepend (take l.n l.out) _ _ in
    let within : stop < length d = omega arith in
    let slash = at_backslash d stop within (stop_is_backslash d l.i stop is within (grind (arith, same)) (grind (arith, same))) in
    let none : content after_backslash (drop (stop + 1) d) ≡ None = rw (← same) c.in_err-c.ensures in
    let all = so_far ∙ ap (prepend _) (slash ∙ none) in
    grind (arith, all)

pub loop-bytes-preserved : goal.loop-bytes-preserved
loop-bytes-preserved c =
    let d = c.args.text.now in
    let l = c.loop-bytes in
    let stop = c.plain_end-stop.result in
    let same = c.as_bytes-bytes.ensures.value in
    let is : stop ≡ l.i + prefix_len is_plain (drop l.i d) = rw (← same) c.plain_end-stop.ensures.value in
    let so_far = l.invariant.0 ∙ ap (prepend (take l.n l.out)) (content-to_stop d l.i stop is) ∙ prepend-prepend (take l.n l.out) _ _ in
    let run = take (stop - l.i) (drop l.i d) in
    let within : stop < length d = omega arith in
    let long : length run ≡ stop - l.i = length-take-le (stop - l.i) (drop l.i d) (omega (arith, length-drop l.i d)) in
    let written : take (l.n + (stop - l.i)) c.append_run.new.out ≡ take l.n l.out ++ run = rw (← same) c.append_run.ensures.written in
    let slash = stop_is_backslash d l.i stop is within (grind (arith, same)) (grind (arith, same)) in
    let next = c.in_ok-c.next in
    let e = c.in_ok-c.ensures in
    let encoded = c.encode_utf8-encoded in
    let step : content after_backslash (drop (stop + 1) d) ≡ prepend encoded.result.now (content plain (drop next d)) = rw (encoded.ensures.value, ← same) e.0 in
    let both : take (l.n + (stop - l.i) + length encoded.result.now) c.append.new.out ≡ (take l.n l.out ++ run) ++ encoded.result.now = rw (← written, ← c.as_bytes.ensures.value) c.append.ensures.written in
    let ends = IsCharBoundary-before_ascii d stop within (omega arith) in
    let back : next - 1 + 1 ≡ next = omega (arith, e.1) in (
      so_far ∙ ap (prepend _) (at_backslash d stop within slash ∙ step) ∙ prepend-prepend _ _ _ ∙ ap (λ s. prepend s (content plain (drop next d))) (sym both),
      subst IsUtf8 (sym both) (IsUtf8-append _ _ (IsUtf8-append _ run l.invariant.1 (IsUtf8-between d l.i stop c.utf8.text (omega arith) l.invariant.2 ends)) encoded.utf8),
      subst (IsCharBoundary d) back (IsCharBoundary-after_ascii d (next - 1) c.utf8.text (omega (arith, e.1, e.2)) (rw (← same) e.4)),
      omega (arith, e.3),
      omega arith,
      l.invariant.5 ∙ in_string-to_stop d l.i stop is ∙ in_string-backslash d stop within slash ∙ rw (← same) e.5,
    )
