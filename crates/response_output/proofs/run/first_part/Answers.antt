use Rattle.proof_prelude.proofs.{◌≡◌, ◌≤◌, take, length, length-take, arith}
use Rattle.std.proofs.lemmas.List.{take-take}
use Rattle.response_output.proofs.run.first_part.Goals as goal

pub returns-else-bytes-lt-PART-clause-front : goal.returns-else-bytes-lt-PART-clause-front
returns-else-bytes-lt-PART-clause-front c = λ n h. take-take n 4096 c.args.bytes.now (omega (arith, h, length-take 4096 c.args.bytes.now))
