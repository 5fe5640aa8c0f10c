-- Lemmas: generated ids are taken in order from one random stream.
use Rattle.std.proofs.Common.{◌≡◌, ℕ, ◌+◌, ◌*◌, ◌%◌, ◌^◌, ap, arith}
use Rattle.rand_core.specs.Steps.{stream_of, word_bytes}
use Rattle.rand_core.specs.Stream.{fill_bytes}
use Rattle.script_databases.specs.MadeIds.{of_number, at_id, stream, next_id, next_place}

-- Each generated id takes four 32-bit words of the random stream.
place : (n : ℕ) → ((((((4 * (n % 2 ^ 66)) % 2 ^ 68 + 1) % 2 ^ 68 + 1) % 2 ^ 68 + 1) % 2 ^ 68) + 1) % 2 ^ 68 ≡ (4 * (((n % 2 ^ 66 + 1) % 2 ^ 66) % 2 ^ 66)) % 2 ^ 68
place n = omega arith

-- After the script generates id number n, its random stream is at the position of the next id.
pub follows : (seed n : ℕ) → (next_id (stream (at_id seed n))).1 ≡ stream (at_id seed (next_place n))
unfolding fill_bytes stream_of word_bytes
follows seed n = ap (λ p. stream (record (of_number seed) { word_pos = p })) (place n)
