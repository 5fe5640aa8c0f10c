-- All leaves so far outrank the leaf.
use Rattle.proof_prelude.proofs.{◌≡◌, ◌+◌, drop, prefix_len}
use Rattle.journal_lines.specs.Leafs.{head_view}
use Rattle.journal_tasks.specs.{outranks}
use Rattle.journal_tasks.proofs.ranks.place_of.Given as goal

abbrev pub invariant-loop-known : goal.invariant-loop-known
invariant-loop-known l = record {
  place : l.place ≡ l.known-index;
  outranked : l.place + prefix_len (λ known. outranks (head_view known.now) (head_view l.leaf)) (drop l.known-index l.ranked) ≡ prefix_len (λ known. outranks (head_view known.now) (head_view l.leaf)) l.ranked;
}
