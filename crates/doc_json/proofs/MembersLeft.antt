-- The remaining members of an iteration.
use Rattle.proof_prelude.proofs.{ℕ, suc}
use Rattle.serde_json.specs.Data.{Members, no_members, member}

abbrev pub count : Members → ℕ
count no_members = 0
count (member k d ms) = suc (count ms)
