use Rattle.proof_prelude.proofs.{◌≡◌, ◌++◌, ◌==◌, length, map, AllByRecursion, slice_split}
use Rattle.rev_core.specs.{IsRev, rev_text}
use Rattle.output_parser.proofs.revs.read_revs.Given as goal

abbrev pub invariant-loop-word : goal.invariant-loop-word
invariant-loop-word l =
    (slice_split (λ b. b == 44) l.text ≡ map rev_text l.revs.items ++ slice_split (λ b. b == 44) l.rest)
    × AllByRecursion IsRev l.revs.items

abbrev pub decreases-loop-word : goal.decreases-loop-word
decreases-loop-word l = length l.rest
