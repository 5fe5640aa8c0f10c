use Rattle.proof_prelude.proofs.{◌≡◌, drop, list_all, list_any, bytes_eq}
use Rattle.command_api.proofs.members.are_all_among.Given as goal

-- each name so far is allowed
abbrev pub invariant-loop-member : goal.invariant-loop-member
invariant-loop-member l =
    list_all (λ m. list_any (λ k. bytes_eq m.0.now k.now) l.allowed) (drop l.member-index l.members) ≡ list_all (λ m. list_any (λ k. bytes_eq m.0.now k.now) l.allowed) l.members
