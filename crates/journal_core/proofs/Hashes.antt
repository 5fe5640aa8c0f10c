-- The hash of a block.
use Rattle.proof_prelude.proofs.{◌≡◌, ℕ, List, [], ◌∷◌, ◌++◌, String, string_bytes, codes, Result, Ok, Err, IfOk, Global, refl, sym, ap, ◌∙◌, append_assoc, AllocError}
use Rattle.sha2.specs.Hashers.{Holds256}
use Rattle.sha2.specs.Sha256.{sha256}
use Rattle.sha2.specs.declared.Sha256.{Sha256}
use Rattle.hex.specs.Hex.{encode_lower}
use Rattle.line_reader.specs.{joined}
use Rattle.line_reader.proofs.{joined-append}
use Rattle.journal_core.specs.{block_hash}

-- the message that a block's hash is of
pub hash_message : (chain seq body : List ℕ) → block_hash chain seq body ≡ encode_lower (sha256 ((chain ++ codes " " ++ seq ++ codes "\n") ++ body))
unfolding block_hash
hash_message chain seq body = refl

pub hash_is : (chain seq body : List ℕ) (r : Result (String Global) AllocError) (hasher : Sha256) → IfOk r (λ text. (m : List ℕ) → Holds256 hasher m → string_bytes text ≡ encode_lower (sha256 m)) → Holds256 hasher ((chain ++ codes " " ++ seq ++ codes "\n") ++ body) → IfOk r (λ hash. string_bytes hash ≡ block_hash chain seq body)
hash_is chain seq body (Ok text) hasher h holds = h _ holds ∙ sym (hash_message chain seq body)
hash_is chain seq body (Err e) hasher h holds = tt

-- a line more in the message
pub seal_message : (front : List ℕ) (lines : List (List ℕ)) (line : List ℕ) → ((front ++ joined lines) ++ line) ++ codes "\n" ≡ front ++ joined (lines ++ line ∷ [])
seal_message front lines line = append_assoc (front ++ joined lines) line (codes "\n") ∙ append_assoc front (joined lines) (line ++ codes "\n") ∙ ap (λ z. front ++ z) (sym (joined-append lines line))
