use Rattle.proof_prelude.proofs.{◌≡◌, ◌+◌, ◌-◌, ◌≤◌, length, take, drop, IsUtf8, IsCharBoundary}
use Rattle.json.specs.Text.{content, plain, prepend}
use Rattle.json.specs.Lex.{in_string, lex}
use Rattle.json_values.proofs.unescape.unescape.Given as goal

abbrev pub invariant-loop-bytes : goal.invariant-loop-bytes
invariant-loop-bytes l =
    (content plain (drop l.start l.text) ≡ prepend (take l.n l.out) (content plain (drop l.i l.text))) × IsUtf8 (take l.n l.out) × IsCharBoundary l.text l.i
    × (l.n + l.start ≤ l.i) × (length l.out ≡ length l.initial.out) × (lex in_string (drop l.start l.text) ≡ lex in_string (drop l.i l.text))

abbrev pub decreases-loop-bytes : goal.decreases-loop-bytes
decreases-loop-bytes l = length l.text - l.i
